use Rattle.std.proofs.Common.{◌∙◌, List, [], ◌∷◌, ◌++◌, true, false, sym, subst}
use Rattle.std.proofs.lemmas.List.{append-nil}
use Rattle.access_tags.specs.declared.conflict.Touched.{Touched}
use Rattle.access_tags.specs.{Shelf.tag_in, Stands.StandFor, AccessLogs.touched_in, Unread.AreUnread}
use Rattle.access_tags.proofs.Stood.{noted_stands}
use Rattle.access_tags.proofs.Unread.{first_unread, pushed, reads_nothing, written_unread}
use Rattle.access_tags.proofs.tags.Tags.note_first.Goals as goal

pub invariant_of-self-clause-unread : goal.invariant_of-self-clause-unread
invariant_of-self-clause-unread c q =
    let o = c.args.self.now in
    let n = c.note-is_first in
    let r = reads_nothing o.reads c.args.write (sym c.reads_after-self.ensures ∙ q) in
    let xs = touched_in o.touched in
    let cs = tag_in o.cells in
    let ds = tag_in o.named in
    let es = tag_in n.new.cells in
    let fs = tag_in n.new.named in
    pushed (λ (zs : List Touched). AreUnread es fs zs) c.push.result xs (touched_in c.push.new.self) _ c.push.ensures.pushed c.push.ensures.kept
    (first_unread cs ds es fs c.args.spot c.args.at c.args.write n.ensures.cells n.ensures.named xs r.1 (sym n.ensures.first ∙ c.if-is_first.true) (o.unread r.0))
    (written_unread cs ds es fs c.args.spot c.args.at c.args.write n.ensures.cells n.ensures.named xs r.1 (o.unread r.0))

pub invariant_of-self-else-is_first-clause-unread : goal.invariant_of-self-else-is_first-clause-unread
invariant_of-self-else-is_first-clause-unread c q =
    let o = c.args.self.now in
    let n = c.note-is_first in
    let r = reads_nothing o.reads c.args.write (sym c.reads_after-self.ensures ∙ q) in
    written_unread (tag_in o.cells) (tag_in o.named) (tag_in n.new.cells) (tag_in n.new.named) c.args.spot c.args.at c.args.write n.ensures.cells n.ensures.named (touched_in o.touched) r.1 (o.unread r.0)

pub returns-in_ok-push-clause-stands : goal.returns-in_ok-push-clause-stands
returns-in_ok-push-clause-stands c n T t ts x p w l s =
    let o = c.args.self.now in
    let cs = tag_in c.note-is_first.new.cells in
    let ds = tag_in c.note-is_first.new.named in
    subst (λ (xs : List Touched). StandFor n T t (ts ++ x ∷ []) cs ds xs) (sym c.in_ok-push.ensures.pushed)
    (noted_stands n T t ts (tag_in o.cells) (tag_in o.named) (touched_in o.touched) s _ x c.args.write cs ds true w p l (sym c.if-is_first.true ∙ c.note-is_first.ensures.first) c.note-is_first.ensures.cells c.note-is_first.ensures.named)

pub returns-else-is_first-clause-stands : goal.returns-else-is_first-clause-stands
returns-else-is_first-clause-stands c n T t ts x p w l s =
    let o = c.args.self.now in
    let cs = tag_in c.note-is_first.new.cells in
    let ds = tag_in c.note-is_first.new.named in
    subst (λ (xs : List Touched). StandFor n T t (ts ++ x ∷ []) cs ds xs) (append-nil (touched_in o.touched))
    (noted_stands n T t ts (tag_in o.cells) (tag_in o.named) (touched_in o.touched) s _ x c.args.write cs ds false w p l (sym c.if-is_first.false ∙ c.note-is_first.ensures.first) c.note-is_first.ensures.cells c.note-is_first.ensures.named)
