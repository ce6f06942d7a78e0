-- Chains of readers.
use Rattle.std.proofs.Common.{◌≡◌, ℕ, zero, suc, ◌+◌, ◌-◌, ◌<◌, ◌≤◌, List, [], ◌∷◌, length, get_or, reverse, refl, sym, ◌∙◌, ap, subst, arith, nat_eq, inl, inr}
use Rattle.std.proofs.lemmas.Bool.{cases_Bool, eqb-true, eq-eqb}
use Rattle.std.proofs.lemmas.List.{get_or-reverse, get_or_default, length-reverse}
use Rattle.access_tags.specs.declared.mark.Reader.{Reader}
use Rattle.access_tags.specs.Cells.{chain, no_reader, AreDown}

pub chain_lower : (r : Reader) (rs : List Reader) (at : ℕ) → at ≤ length rs → chain (r ∷ rs) at ≡ chain rs at
chain_lower r rs at h = elim (cases_Bool (nat_eq at (suc (length rs)))) [
  | inl e ↦ absurd (let q = eqb-true at (suc (length rs)) e in omega arith)
  | inr e ↦ rw e
]

pub chain_top : (r : Reader) (rs : List Reader) → chain (r ∷ rs) (suc (length rs)) ≡ r.test ∷ chain rs r.next
chain_top r rs = let e = eq-eqb (suc (length rs)) (suc (length rs)) refl in rw e

-- with the latest reader first, each leads past those before it
abbrev Leads : List Reader → Type 0
Leads rs = (k : ℕ) → k < length rs → (get_or rs k no_reader).next + suc k ≤ length rs

chain_at : (rs : List Reader) (k n : ℕ) → Leads rs → k < length rs → n + k ≡ length rs → ((get_or rs k no_reader).next < n) × (chain rs n ≡ (get_or rs k no_reader).test ∷ chain rs (get_or rs k no_reader).next)
chain_at [] k n w h e = absurd (omega arith)
chain_at (r ∷ rs) zero n w h e = let q : n ≡ suc (length rs) = omega arith in let f = w 0 h in
    (omega arith, subst (λ (m : ℕ). chain (r ∷ rs) m ≡ r.test ∷ chain (r ∷ rs) r.next) (sym q) (chain_top r rs ∙ ap (λ (xs : List ℕ). r.test ∷ xs) (sym (chain_lower r rs r.next (omega arith)))))
chain_at (r ∷ rs) (suc k) n w h e = let g = chain_at rs k n (λ i l. let f = w (suc i) (omega arith) in omega arith) (omega arith) (omega arith) in
    let f = g.0 in
    (f, chain_lower r rs n (omega arith) ∙ (g.1 ∙ ap (λ (xs : List ℕ). (get_or rs k no_reader).test ∷ xs) (sym (chain_lower r rs (get_or rs k no_reader).next (omega arith)))))

turned : (rs : List Reader) (k : ℕ) → k < length rs → get_or (reverse rs) k no_reader ≡ get_or rs (length rs - suc k) no_reader
turned rs k h = get_or-reverse rs k no_reader h ∙ ap (λ (i : ℕ). get_or rs i no_reader) (omega arith)

chain_from : (rs : List Reader) (at : ℕ) → AreDown rs → 0 < at → at ≤ length rs → ((get_or rs (at - 1) no_reader).next < at) × (chain (reverse rs) at ≡ (get_or rs (at - 1) no_reader).test ∷ chain (reverse rs) (get_or rs (at - 1) no_reader).next)
chain_from rs at w o h = let k = length rs - at in
    let z = length-reverse rs in
    let e : get_or (reverse rs) k no_reader ≡ get_or rs (at - 1) no_reader = turned rs k (omega arith) ∙ ap (λ (i : ℕ). get_or rs i no_reader) (omega arith) in
    subst (λ (r : Reader). (r.next < at) × (chain (reverse rs) at ≡ r.test ∷ chain (reverse rs) r.next)) e
    (chain_at (reverse rs) k at (λ i l. let g = ap (λ (r : Reader). r.next) (turned rs i (omega arith)) in let f = w (length rs - suc i) in omega arith) (omega arith) (omega arith))

-- the latest test of a chain, and the chain of the reader to which it leads
pub chain_step : (rs : List Reader) (at : ℕ) (r : Reader) → AreDown rs → 0 < at → at ≤ length rs → r ≡ get_or rs (at - 1) r → (r.next < at) × (chain (reverse rs) at ≡ r.test ∷ chain (reverse rs) r.next)
chain_step rs at r w o h e = subst (λ (x : Reader). (x.next < at) × (chain (reverse rs) at ≡ x.test ∷ chain (reverse rs) x.next)) (sym (e ∙ get_or_default rs (at - 1) r no_reader (omega arith))) (chain_from rs at w o h)

-- no chain begins at 0
pub chain_end : (rs : List Reader) → chain rs 0 ≡ []
chain_end [] = refl
chain_end (r ∷ rs) = chain_lower r rs 0 (omega arith) ∙ chain_end rs
