use Rattle.std.proofs.Common.{◌≡◌, ◌<◌, ◌∙◌, List, false, get_or, length, ap, arith, sym, subst}
use Rattle.access_tags.specs.declared.conflict.Touched.{Touched}
use Rattle.access_tags.specs.declared.interval.Interval.{Interval}
use Rattle.access_tags.specs.{Numbering.are_alone, Numbering.is_alone, Shelf.tag_in, Intervals.parts_of, AccessLogs.touched_in, Within.AreWithin}
use Rattle.access_tags.proofs.{OutReads.reads_alone, Unread.unread_alone}
use Rattle.access_tags.proofs.Spanned.{all_fails, parts_all, within_interval}
use Rattle.access_tags.proofs.tags.Tags.reads_static_alone.Goals as goal

pub returns-then-not-self : goal.returns-then-not-self
returns-then-not-self c n T t ts s =
    let o = c.args.self.now in
    let xs = touched_in o.touched in
    sym (unread_alone (tag_in o.cells) (tag_in o.named) c.args.field xs (o.unread c.if-not-self.true))
    ∙ reads_alone n T t ts (tag_in o.cells) (tag_in o.named) xs s c.args.field

pub reads_alone-requires-clause-within : goal.reads_alone-requires-clause-within
reads_alone-requires-clause-within c =
    let o = c.args.self.now in
    let ss = o.touched.intervals in
    let h : c.loop-i.i < length ss = omega (arith, c.loop-i-test.true, c.len-i-end.ensures) in
    subst (λ (s : Interval). AreWithin o.cells o.named (parts_of s)) (sym c.get.ensures.is) (within_interval o.cells o.named ss c.loop-i.i c.get.result o.within h)

pub returns-then-not-reads_alone : goal.returns-then-not-reads_alone
returns-then-not-reads_alone c n T t ts s =
    let o = c.args.self.now in
    let ss = o.touched.intervals in
    let h : c.loop-i.i < length ss = omega (arith, c.loop-i-test.true, c.len-i-end.ensures) in
    let f = λ (x : Touched). is_alone (tag_in o.cells) (tag_in o.named) c.args.field x in
    let g = λ (s : Interval). are_alone (tag_in o.cells) (tag_in o.named) c.args.field (parts_of s) in
    let e : g (get_or ss c.loop-i.i c.get.result) ≡ false = ap g (sym c.get.ensures.is) ∙ (sym c.reads_alone.ensures ∙ c.if-not-reads_alone.true) in
    sym (all_fails f ss c.loop-i.i c.get.result h e) ∙ reads_alone n T t ts (tag_in o.cells) (tag_in o.named) (touched_in o.touched) s c.args.field

pub returns : goal.returns
returns c n T t ts s =
    let o = c.args.self.now in
    let e : c.loop-i.i ≡ length o.touched.intervals = omega (arith, c.loop-i-test.false, c.loop-i.auto.i-end, c.len-i-end.ensures) in
    sym c.loop-i.invariant ∙ (ap (λ (ys : List Touched). are_alone (tag_in o.cells) (tag_in o.named) c.args.field ys) (parts_all o.touched.intervals c.loop-i.i e)
    ∙ reads_alone n T t ts (tag_in o.cells) (tag_in o.named) (touched_in o.touched) s c.args.field)
