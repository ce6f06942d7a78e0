use Rattle.std.proofs.Common.{◌≡◌, ◌-◌, ◌<◌, ◌∙◌, length, false, sym, ap, inr, arith}
use Rattle.std.specs.Prelude.{filter}
use Rattle.std.specs.List.{flat_map, range_with_len}
use Rattle.std.proofs.lemmas.List.{get_or_default}
use Rattle.jvm_model.specs.{Builtin.builtin_count, Classes.member}
use Rattle.class_link.specs.Assembly.{mentioned_by}
use Rattle.class_link.proofs.MentionLaws.{given_next, not_given, ends_at}
use Rattle.class_link.proofs.mentions.mentions.Goals as goal
use Rattle.class_link.proofs.mentions.mentions.Goals.{then-index+in_ok-push, else-index}

pub loop-class-preserved : goal.loop-class-preserved
loop-class-preserved c =
    let named = flat_map (mentioned_by c.args.names.now c.args.slots.now) c.args.slots.now in
    let table = c.in_ok-table.table.items in
    let class = c.loop-class.class in
    let low = c.loop-class.auto.class in
    let there : class < length c.args.names.now = omega (arith, c.loop-class-test.true, c.len-class-end.ensures) in
    let within : class < length table = omega (arith, there, c.in_ok-table.ensures.size) in
    let listed : member class named ≡ c.index.result.now =
    sym (c.in_ok-table.ensures.each class there) ∙ get_or_default table class false c.index.result.now within ∙ sym c.index.ensures in
    elim c.if-index.branch [
      | then-index+in_ok-push w ↦ rw w.mentions-is (w.in_ok-push.ensures.pushed ∙ given_next (λ d. member d named) class c.loop-class.mentions low (listed ∙ w.if-index.true) c.loop-class.invariant.0, inr (omega (arith, c.loop-class-test.true)))
      | else-index w ↦ rw w.mentions-is (not_given (λ d. member d named) class c.loop-class.mentions low (listed ∙ w.if-index.false) c.loop-class.invariant.0, inr (omega (arith, c.loop-class-test.true)))
    ]

pub returns : goal.returns
returns c =
    let named = flat_map (mentioned_by c.args.names.now c.args.slots.now) c.args.slots.now in
    let far = c.loop-class-test.false in
    let end = c.len-class-end.ensures in
    c.loop-class.invariant.0
    ∙ ap (λ n. filter (λ d. member d named) (range_with_len builtin_count n)) (ends_at c.loop-class.class c.len-class-end.result c.loop-class.invariant.1 far ∙ ap (λ n. n - builtin_count) end)
