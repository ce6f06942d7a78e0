-- How many conflicts a record may have: each comes after the one before it, and so their ranks grow.
use Rattle.std.proofs.Common.{◌≡◌, ℕ, ◌+◌, ◌*◌, ◌<◌, ◌≤◌, Bool, true, false, cond, List, [], ◌∷◌, ◌++◌, length, Option, Some, None, Ok, sym, ap, subst, inl, inr, arith}
use Rattle.std.specs.Prelude.{codes}
use Rattle.std.specs.{Option.ok_or, Str.bytes_eq}
use Rattle.std.proofs.lemmas.Bool.{and_parts, or_cases, leb-true, ltb-true, eqb-true}
use Rattle.std.proofs.lemmas.{List.length_push, Option.same_Some}
use Rattle.order_law.specs.declared.edges.{Edge.Edge, EdgeKind.EdgeKind, EdgeKind.TheVariants.Raw, EdgeKind.TheVariants.Waw, EdgeKind.TheVariants.War}
use Rattle.order_law.specs.RecordForm.{is_edge, edge_before, kind_number}
use Rattle.et_base.specs.Answers.{tested}
use Rattle.dep_record.specs.Fields.{follows, next_edge}
use Rattle.dep_record.specs.RecordReading.{◌>>=◌, next_line, is_over, last_of, next_step}
use Rattle.dep_record.proofs.{EdgeLaws.last_pushed, FieldLaws.next_edge_said, SaidLaws.same_Ok, SaidLaws.went_on, SaidLaws.was_some}

-- the place of a conflict among all that 1,024 tests may have
abbrev pub rank : Edge → ℕ
rank e = (e.later * 1025 + e.earlier) * 3 + kind_number e.kind

-- as many conflicts as the rank of the last one at most, which is one of so many tests
abbrev pub IsCountedBy : ℕ → ℕ → Option Edge → Type 0
IsCountedBy tests n None = n ≡ 0
IsCountedBy tests n (Some e) = (is_edge tests e ≡ true) × (n ≤ rank e)

abbrev pub IsCounted : ℕ → List Edge → Type 0
IsCounted tests es = IsCountedBy tests (length es) (last_of es)

bounds : (tests : ℕ) (e : Edge) → is_edge tests e ≡ true → (1 ≤ e.earlier) × (e.earlier < e.later) × (e.later ≤ tests)
bounds tests e h =
    let a = and_parts _ _ h in
    let b = and_parts _ _ a.1 in
    let c = and_parts _ _ b.1 in
    (leb-true 1 e.earlier a.0, ltb-true e.earlier e.later b.0, leb-true e.later tests c.0)

kind_small : (k : EdgeKind) → kind_number k ≤ 2
kind_small Raw = omega arith
kind_small Waw = omega arith
kind_small War = omega arith

rank_less : (a b : Edge) → a.earlier ≤ 1024 → edge_before a b ≡ true → rank a < rank b
rank_less a b small h =
    let k = kind_small a.kind in
    elim (or_cases _ _ h) [
      | inl e ↦ let l = ltb-true a.later b.later e in omega arith
      | inr e ↦
          let p = and_parts _ _ e in
          let same = eqb-true a.later b.later p.0 in
          elim (or_cases _ _ p.1) [
            | inl f ↦ let l = ltb-true a.earlier b.earlier f in omega arith
            | inr f ↦
                let q = and_parts _ _ f in
                let s = eqb-true a.earlier b.earlier q.0 in
                let l = ltb-true (kind_number a.kind) (kind_number b.kind) q.1 in
                omega arith
          ]
    ]

grown : (tests n : ℕ) (before : Option Edge) (e : Edge) → tests ≤ 1024 → is_edge tests e ≡ true → follows before e ≡ true → IsCountedBy tests n before → IsCountedBy tests (n + 1) (Some e)
grown tests n None e few good after counted = let b = bounds tests e good in let low : 1 ≤ e.earlier = b.0 in (good, omega arith)
grown tests n (Some a) e few good after counted =
    let b = bounds tests a counted.0 in
    let below : a.earlier < a.later = b.1 in
    let within : a.later ≤ tests = b.2 in
    let less = rank_less a e (omega arith) after in
    let most : n ≤ rank a = counted.1 in
    (good, omega arith)

-- a conflict more was found
pub counted_more : (tests : ℕ) (es : List Edge) (e : Edge) → tests ≤ 1024 → is_edge tests e ≡ true → follows (last_of es) e ≡ true → IsCounted tests es → IsCounted tests (es ++ e ∷ [])
counted_more tests es e few good after counted =
    subst (λ (o : Option Edge). IsCountedBy tests (length (es ++ e ∷ [])) o) (sym (last_pushed es e))
    (subst (λ (n : ℕ). IsCountedBy tests n (Some e)) (sym (length_push es e)) (grown tests (length es) (last_of es) e few good after counted))

-- so a record has few conflicts
pub few_counted : (tests : ℕ) (es : List Edge) → tests ≤ 1024 → IsCounted tests es → length es ≤ 4000000
few_counted tests es few counted = by (length es) (last_of es) counted
  where
    by : (n : ℕ) (o : Option Edge) → IsCountedBy tests n o → n ≤ 4000000
    by n None c = omega arith
    by n (Some e) c =
        let b = bounds tests e c.0 in
        let below : e.earlier < e.later = b.1 in
        let within : e.later ≤ tests = b.2 in
        let most : n ≤ rank e = c.1 in
        let k = kind_small e.kind in
        omega arith

-- the next conflict of a text
pub edge_found : (tests : ℕ) (before : Option Edge) (n : ℕ) (left rest : List (List ℕ)) (e : Edge) → next_step tests before n left ≡ Ok (Some (e, rest)) → (is_edge tests e ≡ true) × (follows before e ≡ true)
unfolding next_step
edge_found tests before n left rest e h =
    let a = went_on (next_line n left) _ (Some (e, rest)) h in
    by a.0.0 a.0.1 (bytes_eq a.0.0 (codes "end")) a.2
  where
    by : (line : List ℕ) (more : List (List ℕ)) (ends : Bool)
        → cond ends (tested (is_over more) (n + 1) >>= λ _. Ok None) (◌>>=◌ {B = Option (Edge × List (List ℕ))} (ok_or (next_edge tests before line) n) (λ d. Ok (Some (d, more)))) ≡ Ok (Some (e, rest)) → (is_edge tests e ≡ true) × (follows before e ≡ true)
    by line more true h = let a = went_on (tested (is_over more) (n + 1)) _ (Some (e, rest)) h in let none = a.2 in absurd cc
    by line more false h =
        let a = went_on (ok_or (next_edge tests before line) n) _ (Some (e, rest)) h in
        let said = next_edge_said tests before line a.0 (was_some _ n a.0 a.1) in
        let same : a.0 ≡ e = ap (λ (x : Edge × List (List ℕ)). x.0) (same_Some _ _ (same_Ok _ _ a.2)) in
        subst (λ (z : Edge). (is_edge tests z ≡ true) × (follows before z ≡ true)) same (said.1, said.2)
