-- Marks of the places where instructions start.
use Rattle.std.proofs.{Math.Bool.or-true, Math.Bool.or-false, Math.ListN.length-set, lemmas.Bool.Decides.nat_tests}
use Rattle.std.proofs.Common.{◌≡◌, ◌≢◌, ℕ, ◌<◌, ◌≤◌, Bool, true, false, cond, eqb, eq-eqb, ltb, ◌&&◌, ◌||◌, List, [], ◌∷◌, ◌++◌, length, get_or, set, refl, sym, ap, ◌∙◌, arith, inl, inr, get_or-set_other, get_or-set_same}
use Rattle.std.proofs.lemmas.Bool.{cases_lt, le-ltb, lt-ltb, eqb-true}
use Rattle.code_decode.specs.declared.instructions.RawOp.{RawOp}
use Rattle.std.specs.Prelude.{ℤ, pos, negsuc}
use Rattle.code_decode.specs.Targets.{Marks, has_start, is_start, is_marked, targets_fit}

has_start-push : (ops : List RawOp) (o : RawOp) (i : ℕ) → has_start (ops ++ o ∷ []) i ≡ (has_start ops i || eqb o.pc i)
has_start-push [] o i = elim (eqb o.pc i) as (λ b. (b || false) ≡ (false || b)) [ true ↦ refl | false ↦ refl ]
has_start-push (a ∷ ops) o i = ap (λ b. eqb a.pc i || b) (has_start-push ops o i) ∙ elim (eqb a.pc i) as (λ b. (b || (has_start ops i || eqb o.pc i)) ≡ ((b || has_start ops i) || eqb o.pc i)) [ true ↦ refl | false ↦ refl ]

pub marks_more : (marks : List Bool) (ops : List RawOp) (o : RawOp) (total : ℕ) → o.pc < length marks → Marks marks ops total → Marks (set marks o.pc true) (ops ++ o ∷ []) total
marks_more marks ops o total lt m = record {
  len = length-set marks o.pc true ∙ m.len;
  at = λ i. rw has_start-push (elim (eqb o.pc i) as (λ b. eqb o.pc i ≡ b → get_or (set marks o.pc true) i false ≡ ((has_start ops i || b) && ltb i total)) [
    | true ↦ λ e.
        let q : i ≡ o.pc = sym (eqb-true _ _ e) in
        let here : get_or (set marks o.pc true) o.pc false ≡ true = rw get_or-set_same refl in
        let inside : ltb i total ≡ true = lt-ltb _ _ (omega (arith, m.len)) in
        ap (λ k. get_or (set marks o.pc true) k false) q ∙ here ∙ sym (rw (or-true (has_start ops i), inside) refl)
    | false ↦ λ e. let ne : i ≢ o.pc = λ q. (let r : eqb o.pc i ≡ true = eq-eqb _ _ (sym q) in absurd cc) in rw get_or-set_other (m.at i ∙ ap (λ b. b && ltb i total) (sym (or-false (has_start ops i))))
  ] refl);
}

marks_past : (marks : List Bool) (ops : List RawOp) (o : RawOp) (total : ℕ) → length marks ≤ o.pc → Marks marks ops total → Marks marks (ops ++ o ∷ []) total
marks_past marks ops o total le m = record {
  len = m.len;
  at = λ i. rw has_start-push (elim (eqb o.pc i) as (λ b. eqb o.pc i ≡ b → get_or marks i false ≡ ((has_start ops i || b) && ltb i total)) [
    | true ↦ λ e. grind (arith, nat_tests, m.len, m.at i)
    | false ↦ λ e. m.at i ∙ ap (λ b. b && ltb i total) (sym (or-false (has_start ops i)))
  ] refl);
}

pub marks_step : (marks : List Bool) (ops : List RawOp) (o : RawOp) (total : ℕ) → Marks marks ops total → Marks (cond (ltb o.pc (length marks)) (set marks o.pc true) marks) (ops ++ o ∷ []) total
marks_step marks ops o total m = elim (cases_lt o.pc (length marks)) [
  | inl lt ↦ let k : ltb o.pc (length marks) ≡ true = lt-ltb _ _ lt in rw k (marks_more marks ops o total lt m)
  | inr le ↦ let k : ltb o.pc (length marks) ≡ false = le-ltb _ _ le in rw k (marks_past marks ops o total le m)
]

-- What the marks say of a place is what the instructions do.
pub marked_is_start : (marks : List Bool) (ops : List RawOp) (total : ℕ) → Marks marks ops total → (z : ℤ) → is_marked marks z ≡ is_start ops total z
marked_is_start marks ops total m (pos n) = m.at n
marked_is_start marks ops total m (negsuc n) = refl

pub marked_fit : (method : ℕ) (marks : List Bool) (ops : List RawOp) (total : ℕ) → Marks marks ops total → targets_fit method (is_marked marks) ops ≡ targets_fit method (is_start ops total) ops
marked_fit method marks ops total m = ap (λ (test : ℤ → Bool). targets_fit method test ops) (λ i z. marked_is_start marks ops total m z i)
