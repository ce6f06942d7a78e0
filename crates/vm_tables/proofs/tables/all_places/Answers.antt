use Rattle.std.proofs.Common.{◌≡◌, ◌∙◌, subst}
use Rattle.std.proofs.lemmas.List.{get_or_default}
use Rattle.jvm_model.specs.{declared.program.MethodRec.MethodRec, Classes.method_at, Classes.no_method}
use Rattle.vm_tables.specs.Numbers.{ArePlaces, AreNexts}
use Rattle.vm_tables.proofs.Places.{length_more, tables_more}
use Rattle.vm_tables.proofs.tables.all_places.Goals as goal

pub loop-method-preserved : goal.loop-method-preserved
loop-method-preserved c =
    let p = c.args.p.now in
    let i = c.loop-method.method-index in
    let here : c.method-item.result ≡ method_at p i = rw c.as_slice-method-items.ensures at c.method-item.is ∙ get_or_default p.methods i c.method-item.result no_method (rw c.as_slice-method-items.ensures at c.loop-method-test.true) in
    record {
      many = length_more c.loop-method.numbers c.push.new.self c.in_ok-own_numbers.own_numbers i c.in_ok-push.ensures.pushed c.loop-method.invariant.many;
      as_many = length_more c.loop-method.nexts c.push-in-loop-method.new.self c.in_ok-own_numbers.own_nexts i c.in_ok-push-2.ensures.pushed c.loop-method.invariant.as_many;
      placed = tables_more (λ m xs. ArePlaces (method_at p m).body xs) c.loop-method.numbers c.push.new.self c.in_ok-own_numbers.own_numbers i c.in_ok-push.ensures.pushed c.loop-method.invariant.many c.loop-method.invariant.placed
          (subst (λ (r : MethodRec). ArePlaces r.body c.in_ok-own_numbers.own_numbers) here c.in_ok-own_numbers.ensures.numbers);
      after = tables_more (λ m xs. AreNexts (method_at p m).body xs) c.loop-method.nexts c.push-in-loop-method.new.self c.in_ok-own_numbers.own_nexts i c.in_ok-push-2.ensures.pushed c.loop-method.invariant.as_many c.loop-method.invariant.after
          (subst (λ (r : MethodRec). AreNexts r.body c.in_ok-own_numbers.own_nexts) here c.in_ok-own_numbers.ensures.nexts);
    }
