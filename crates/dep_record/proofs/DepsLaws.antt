-- Conflicts and what is shown of them, one by one.
use Rattle.std.proofs.Common.{◌≡◌, ℕ, ◌+◌, ◌<◌, List, ◌∷◌, ◌++◌, length, drop, get_or, sym, ap, ◌∙◌}
use Rattle.std.specs.Prelude.{codes}
use Rattle.std.proofs.lemmas.List.{at_drop_more, append_assoc}
use Rattle.jvm_model.specs.declared.program.Names.{Names}
use Rattle.order_law.specs.declared.edges.Edge.{Edge}
use Rattle.order_law.specs.declared.records.Shown.{Shown}
use Rattle.dep_record.specs.RecordText.{text_of}
use Rattle.dep_record.specs.DepsText.{more_reads, conflict_lines, all_conflicts}

conflicts_more : (names : Names) (es : List Edge) (ss : List Shown) (i : ℕ) (e : Edge) (s : Shown) → i < length es → i < length ss
    → all_conflicts names (drop i es) (drop i ss) ≡ text_of (conflict_lines names (get_or es i e) (get_or ss i s)) ++ all_conflicts names (drop (i + 1) es) (drop (i + 1) ss)
conflicts_more names es ss i e s few fewer =
    at_drop_more (λ xs. all_conflicts names xs (drop i ss)) es i e few ∙ at_drop_more (λ ys. all_conflicts names (get_or es i e ∷ drop (i + 1) es) ys) ss i s fewer

-- a conflict more was written
pub conflicts_on : (names : Names) (es : List Edge) (ss : List Shown) (i : ℕ) (e : Edge) (s : Shown) (o p all : List ℕ) → i < length es → i < length ss → e ≡ get_or es i e → s ≡ get_or ss i s
    → p ≡ o ++ text_of (conflict_lines names e s) → o ++ all_conflicts names (drop i es) (drop i ss) ≡ all → p ++ all_conflicts names (drop (i + 1) es) (drop (i + 1) ss) ≡ all
conflicts_on names es ss i e s o p all few fewer this that x h =
    let rest = all_conflicts names (drop (i + 1) es) (drop (i + 1) ss) in
    ap (λ t. t ++ rest) x ∙ append_assoc o (text_of (conflict_lines names e s)) rest
    ∙ ap (λ (t : Edge). o ++ (text_of (conflict_lines names t s) ++ rest)) this ∙ ap (λ (t : Shown). o ++ (text_of (conflict_lines names (get_or es i e) t) ++ rest)) that
    ∙ ap (λ t. o ++ t) (sym (conflicts_more names es ss i e s few fewer)) ∙ h

-- a read more was written
pub reads_on : (rs : List (List ℕ)) (i : ℕ) (r : List ℕ) (o p q all : List ℕ) → i < length rs → p ≡ o ++ codes " > " → q ≡ p ++ get_or rs i r → o ++ more_reads (drop i rs) ≡ all → q ++ more_reads (drop (i + 1) rs) ≡ all
reads_on rs i r o p q all few x y h =
    let read = get_or rs i r in
    let rest = more_reads (drop (i + 1) rs) in
    ap (λ t. t ++ rest) (y ∙ ap (λ t. t ++ read) x) ∙ append_assoc (o ++ codes " > ") read rest ∙ append_assoc o (codes " > ") (read ++ rest)
    ∙ ap (λ t. o ++ t) (sym (append_assoc (codes " > ") read rest)) ∙ ap (λ t. o ++ t) (sym (at_drop_more more_reads rs i r few)) ∙ h
