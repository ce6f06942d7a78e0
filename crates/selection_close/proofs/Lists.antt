-- Lists of tests, a place further.
use Rattle.std.proofs.Common.{◌≡◌, ◌⊎◌, ◌↔◌, IsTrue, ℕ, zero, suc, ◌+◌, ◌<◌, ◌≤◌, true, false, List, [], ◌∷◌, ◌++◌, length, get_or, take, refl, sym, ◌∙◌, ap, subst, inl, inr, arith, Some}
use Rattle.std.proofs.lemmas.{Bool.false≢true, Bool.cases_lt, List.take_more, List.take_all, Option.slice_get-get_or}
use Rattle.order_law.specs.{Conflicts.Member, Conflicts.Distinct, OrderFault.IsTwice, Plan.Ascending}
use Rattle.order_law.proofs.Members.{member_either}

pub member_at : (l : List ℕ) (q i t : ℕ) → q < i → i ≤ length l → get_or l q 0 ≡ t → Member t (take i l)
member_at l q zero t a b e = absurd (omega arith)
member_at [] q (suc i) t a b e = absurd (omega arith)
member_at (y ∷ l) zero (suc i) t a b e = inl (sym e)
member_at (y ∷ l) (suc q) (suc i) t a b e = inr (member_at l q i t (omega arith) (omega arith) e)

pub member_place : (l : List ℕ) (i t : ℕ) → Member t (take i l) → (q : ℕ) × (q < i) × (q < length l) × (get_or l q 0 ≡ t)
member_place l zero t m = absurd m
member_place [] (suc i) t m = absurd m
member_place (y ∷ l) (suc i) t m = elim m [
  | inl e ↦ (0, omega arith, omega arith, sym e)
  | inr j ↦ let p = member_place l i t j in let a = p.1 in let b = p.2 in (suc p.0, omega arith, omega arith, p.3)
]

pub member_next : (l : List ℕ) (q t : ℕ) → q < length l → Member t (take (q + 1) l) → Member t (take q l) ⊎ (t ≡ get_or l q 0)
member_next l q t h m = elim (member_either (take q l) (get_or l q 0 ∷ []) t (subst (λ (x : List ℕ). Member t x) (take_more l q 0 h) m)) [
  | inl a ↦ inl a
  | inr b ↦ elim b [ inl e ↦ inr e | inr z ↦ absurd z ]
]

pub still_none : (l : List ℕ) (q t : ℕ) → q < length l → (Member t (take q l) → ⊥) → (get_or l q 0 ≡ t → ⊥) → Member t (take (q + 1) l) → ⊥
still_none l q t h f g m = elim (member_next l q t h m) [ inl a ↦ f a | inr e ↦ g (sym e) ]

pub found : (l : List ℕ) (q i t : ℕ) → q < i → i ≤ length l → get_or l q 0 ≡ t → IsTrue true ↔ Member t (take i l)
found l q i t a b e = (λ h. member_at l q i t a b e, λ m. refl)

pub not_found : (l : List ℕ) (q i t : ℕ) → q ≤ i → i ≤ q → (Member t (take q l) → ⊥) → IsTrue false ↔ Member t (take i l)
not_found l q i t a b f =
    let e : q ≡ i = omega arith in
    (λ h. absurd (false≢true h), λ m. absurd (f (subst (λ (x : ℕ). Member t (take x l)) (sym e) m)))

distinct_more : (l : List ℕ) (t : ℕ) → Distinct l → (Member t l → ⊥) → Distinct (l ++ (t ∷ []))
distinct_more [] t d f = (λ m. m, tt)
distinct_more (y ∷ l) t d f = (
  λ m. elim (member_either l (t ∷ []) y m) [ inl a ↦ d.0 a | inr b ↦ elim b [ inl e ↦ f (inl (sym e)) | inr z ↦ absurd z ] ],
  distinct_more l t d.1 (λ m. f (inr m)),
)

pub distinct_next : (l : List ℕ) (i t : ℕ) → i < length l → t ≡ get_or l i 0 → Distinct (take i l) → (Member t (take i l) → ⊥) → Distinct (take (i + 1) l)
distinct_next l i t h e d f = subst (λ (x : List ℕ). Distinct x) (sym (take_more l i 0 h)) (subst (λ (z : ℕ). Distinct (take i l ++ (z ∷ []))) e (distinct_more (take i l) t d f))

pub distinct_all : (l : List ℕ) (i : ℕ) → length l ≤ i → Distinct (take i l) → Distinct l
distinct_all l i h d = subst (λ (x : List ℕ). Distinct x) (take_all i l h) d

pub twice_at : (l : List ℕ) (i t : ℕ) → i < length l → t ≡ get_or l i 0 → Distinct (take i l) → Member t (take i l) → IsTwice l t
twice_at l i t h e d m = record { place = i; listed = slice_get-get_or l i 0 h ∙ ap (λ (x : ℕ). Some x) (sym e); before = m; least = d }

pub member_more : (l : List ℕ) (i t : ℕ) → Member t (take i l) → Member t (take (i + 1) l)
member_more l i t m = let p = member_place l i t m in let a : p.0 < i = p.1 in let b : p.0 < length l = p.2 in elim (cases_lt i (length l)) [
  | inl lt ↦ member_at l p.0 (i + 1) t (omega arith) (omega arith) p.3
  | inr ge ↦ subst (λ (x : List ℕ). Member t x) (take_all i l ge ∙ sym (take_all (i + 1) l (omega arith))) m
]

pub member_less : (l : List ℕ) (n t : ℕ) → ((i : ℕ) → get_or l i 0 < n) → Member t l → t < n
member_less [] n t f m = absurd m
member_less (y ∷ l) n t f m = elim m [ inl e ↦ let h : y < n = f 0 in omega arith | inr j ↦ member_less l n t (λ i. f (suc i)) j ]

-- ---- a list whose steps rise
above_first : (y : ℕ) (l : List ℕ) → (0 < length l → y < get_or l 0 0) → Ascending l → (u : ℕ) → Member u l → y < u
above_first y [] h a u m = absurd m
above_first y (z ∷ l) h a u m = let x : y < z = h (omega arith) in elim m [ inl e ↦ omega arith | inr j ↦ let w = a.0 u j in omega arith ]

pub ascending_by_steps : (l : List ℕ) → ((k : ℕ) → suc k < length l → get_or l k 0 < get_or l (suc k) 0) → Ascending l
ascending_by_steps [] s = tt
ascending_by_steps (y ∷ l) s = let rest = ascending_by_steps l (λ k h. s (suc k) (omega arith)) in (above_first y l (λ h. s 0 (omega arith)) rest, rest)

pub steps_rise : (l : List ℕ) → Ascending l → (k : ℕ) → suc k < length l → get_or l k 0 < get_or l (suc k) 0
steps_rise [] a k h = absurd (omega (arith, h))
steps_rise (y ∷ []) a k h = absurd (omega (arith, h))
steps_rise (y ∷ (z ∷ l)) a zero h = a.0 z (inl refl)
steps_rise (y ∷ (z ∷ l)) a (suc k) h = steps_rise (z ∷ l) a.1 k (omega arith)
