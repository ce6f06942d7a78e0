use Rattle.std.proofs.Common.{◌≡◌, ℕ, ◌+◌, ◌<◌, ◌++◌, List, true, ap, sym, subst, arith}
use Rattle.jvm_model.specs.Access.{elems_made}
use Rattle.access_tags.specs.declared.{conflict.Touched.Touched, interval.Interval.Interval}
use Rattle.access_tags.specs.{AccessLogs.touched_in, Intervals.parts_of, Shelf.tag_in, Stands.StandFor, Tag.is_new, Tag.noted, Tag.with_changed, Unread.AreUnread, Within.AreWithin, Written.elems_from}
use Rattle.access_tags.proofs.Written.{unread_written, within_left, within_written, written_stands}
use Rattle.access_tags.proofs.{More.within_more, Unread.pushed, Unread.unread_left}
use Rattle.access_tags.proofs.tags.Tags.note_elems.Goals as goal

pub invariant_of-self : goal.invariant_of-self
invariant_of-self c =
    let o = c.args.self.now in
    let f : c.in-Some.interval.at ≡ c.args.at = ap (λ (s : Interval). s.at) c.in-Some.ensures in
    let xs = touched_in o.touched in
    let cs = tag_in o.cells in
    let ds = tag_in o.named in
    let es = tag_in c.write_all.new.self in
    let w : (l : ℕ) → es l ≡ with_changed (noted true) cs c.args.at (c.args.at + c.args.many) l =
    subst (λ (a : ℕ). (l : ℕ) → es l ≡ with_changed (noted true) cs a (a + c.args.many) l) f c.write_all.ensures.tags in
    let new : (i : ℕ) → i < c.args.many → is_new (cs (c.args.at + i)).mark ≡ true =
    λ i h. c.are_new.ensures c.if-not-are_new.false (c.args.at + i) (omega (arith, f)) (omega (arith, f)) in
    let within = subst (λ (s : Interval). AreWithin c.write_all.new.self o.named (xs ++ parts_of s)) (sym c.in-Some.ensures)
    (within_more (xs ++ parts_of (elems_from c.args.object c.args.at c.args.many)) o.cells c.write_all.new.self o.named o.named (omega (arith, c.write_all.ensures.count)) (omega arith)
    (within_written o.cells o.named xs c.args.object c.args.at c.args.many (omega (arith, f, c.if-end-len.false, c.len.ensures)) o.within)) in
    record {
      within = pushed (λ (zs : List Touched). AreWithin c.write_all.new.self o.named zs) c.push_interval.result xs (touched_in c.push_interval.new.self) (parts_of c.in-Some.interval)
          c.push_interval.ensures.pushed c.push_interval.ensures.kept within (within_left c.write_all.new.self o.named xs (parts_of c.in-Some.interval) within);
      unread = λ q.
          let unread = subst (λ (s : Interval). AreUnread es ds (xs ++ parts_of s)) (sym c.in-Some.ensures)
          (unread_written cs ds c.args.object c.args.at c.args.many new xs es w (o.unread q)) in
          pushed (λ (zs : List Touched). AreUnread es ds zs) c.push_interval.result xs (touched_in c.push_interval.new.self) (parts_of c.in-Some.interval)
          c.push_interval.ensures.pushed c.push_interval.ensures.kept unread (unread_left es ds xs (parts_of c.in-Some.interval) unread);
      counted = o.counted;
    }

pub returns-clause-stands : goal.returns-clause-stands
returns-clause-stands c q n T t ts vs many p s =
    let o = c.args.self.now in
    let f : c.in-Some.interval.at ≡ c.args.at = ap (λ (s : Interval). s.at) c.in-Some.ensures in
    let xs = touched_in o.touched in
    let cs = tag_in o.cells in
    let ds = tag_in o.named in
    let es = tag_in c.write_all.new.self in
    let us = ts ++ elems_made c.args.object 0 vs in
    let w : (l : ℕ) → es l ≡ with_changed (noted true) cs c.args.at (c.args.at + c.args.many) l =
    subst (λ (a : ℕ). (l : ℕ) → es l ≡ with_changed (noted true) cs a (a + c.args.many) l) f c.write_all.ensures.tags in
    let new : (i : ℕ) → i < c.args.many → is_new (cs (c.args.at + i)).mark ≡ true =
    λ i h. c.are_new.ensures c.if-not-are_new.false (c.args.at + i) (omega (arith, f)) (omega (arith, f)) in
    subst (λ (zs : List Touched). StandFor n T t us es ds zs) (sym c.in_ok-push_interval.ensures.pushed)
    (subst (λ (s : Interval). StandFor n T t us es ds (xs ++ parts_of s)) (sym c.in-Some.ensures)
    (written_stands cs ds c.args.object c.args.at c.args.many new n T t ts vs many p xs es w s))
