use Rattle.std.proofs.Common.{◌∙◌, ◌||◌, ◌&&◌, [], ◌∷◌, ◌++◌, ℕ, Option, nat_eq, sym, ap, subst}
use Rattle.access_tags.specs.HeadMarks.{is_class, is_marked, AreMarked}
use Rattle.access_tags.proofs.HeadNotes.{heads_noted, marked_again}
use Rattle.access_tags.proofs.heads.Heads.note.Goals as goal

pub returns-then-is_marked-clause-stands : goal.returns-then-is_marked-clause-stands
returns-then-is_marked-clause-stands c kinds T ts x o l k m =
    let h = c.args.self.now in
    heads_noted kinds T c.args.test ts h.classes x o c.args.kind h.marks h.marks l k
    (λ u d e. marked_again h.classes h.marks c.args.test c.in-Some.class (sym c.is_marked.ensures ∙ c.if-is_marked.true) u d
    ∙ ap (λ (y : Option ℕ). is_marked h.classes h.marks u d || (nat_eq u c.args.test && is_class y d)) c.in-Some.ensures) m

pub returns-clause-stands : goal.returns-clause-stands
returns-clause-stands c kinds T ts x o l k m =
    let h = c.args.self.now in
    subst (λ (n : ℕ). AreMarked kinds T c.args.test (ts ++ x ∷ []) n c.mark.new.self.marks) (sym c.mark.ensures.classes)
    (heads_noted kinds T c.args.test ts h.classes x o c.args.kind h.marks c.mark.new.self.marks l k
    (λ u d e. c.in_ok-mark.ensures.marked u d e
    ∙ ap (λ (y : Option ℕ). is_marked h.classes h.marks u d || (nat_eq u c.args.test && is_class y d)) c.in-Some.ensures) m)
