-- Labels, as they are written over.
use Rattle.std.proofs.Common.{◌≡◌, ℕ, ◌+◌, ◌-◌, ◌<◌, ◌≤◌, cond, nat_eq, List, [], ◌∷◌, ◌++◌, length, get_or, refl, sym, ◌∙◌, ap, subst, inl, inr, arith}
use Rattle.std.proofs.lemmas.{Bool.cases_eq, Bool.eq-eqb, Bool.ne_eqb, List.get_or_append_left, List.get_or-append_right}
use Rattle.order_law.specs.declared.edges.Edge.{Edge}
use Rattle.order_law.specs.Conflicts.{Member, Before, Joined, itself, forth}
use Rattle.schedule_plan.specs.Grouping.{at, AreLabels, Keeps, IsJoinedTo, AreJoined}
use Rattle.schedule_plan.proofs.{Places.member_get, Joinings.joined_on, Joinings.joined_back}

-- each place has its own label
pub own_labels : (R : List Edge) (tests labels : List ℕ) → length labels ≡ length tests → ((k : ℕ) → k < length tests → at labels k ≡ k) → AreLabels R tests labels
own_labels R tests labels e f = record {
  many = e;
  low = λ i h. let x = f i h in omega arith;
  rooted = λ i h. ap (λ (z : ℕ). at labels z) (f i h);
  sound = λ i j h k g. subst (λ (z : ℕ). Joined R (λ t. Member t tests) (at tests i) (at tests z)) (sym (f i h) ∙ g ∙ f j k) (itself (member_get tests i h));
}

-- One label is written over another, where the tests of two of their places are joined.
module _ (R : List Edge) (tests old new : List ℕ) (is : AreLabels R tests old) (p q : ℕ) (pl : p < length tests) (ql : q < length tests) (less : at old q ≤ at old p) (j : Joined R (λ t. Member t tests) (at tests p) (at tests q))
    (many : length new ≡ length old) (each : (k : ℕ) → k < length old → at new k ≡ cond (nat_eq (at old k) (at old p)) (at old q) (at old k)) where
  abbrev written : ℕ → ℕ
  written v = cond (nat_eq v (at old p)) (at old q) v

  hit : (v : ℕ) → v ≡ at old p → written v ≡ at old q
  hit v e = rw (eq-eqb v (at old p) e) refl

  missed : (v : ℕ) → (v ≡ at old p → ⊥) → written v ≡ v
  missed v f = rw (ne_eqb v (at old p) f) refl

  written_low : written (at old q) ≡ at old q
  written_low = elim (cases_eq (at old q) (at old p)) [ inl e ↦ hit (at old q) e | inr f ↦ missed (at old q) f ]

  written_le : (v : ℕ) → written v ≤ v
  written_le v = elim (cases_eq v (at old p)) [ inl e ↦ let x = hit v e in omega arith | inr f ↦ let x = missed v f in omega arith ]

  at_new : (k : ℕ) → k < length tests → at new k ≡ written (at old k)
  at_new k h = each k (let m = is.many in omega arith)

  new_rooted : (k : ℕ) → k < length tests → at new (at new k) ≡ at new k
  new_rooted k h = elim (cases_eq (at old k) (at old p)) [
    | inl e ↦
        let a : at new k ≡ at old q = at_new k h ∙ hit (at old k) e in
        let b = is.low q ql in
        ap (λ (z : ℕ). at new z) a ∙ at_new (at old q) (omega arith) ∙ ap written (is.rooted q ql) ∙ written_low ∙ sym a
    | inr f ↦
        let a : at new k ≡ at old k = at_new k h ∙ missed (at old k) f in
        let b = is.low k h in
        ap (λ (z : ℕ). at new z) a ∙ at_new (at old k) (omega arith) ∙ ap written (is.rooted k h) ∙ missed (at old k) f ∙ sym a
  ]

  new_sound : (a b : ℕ) → a < length tests → b < length tests → at new a ≡ at new b → Joined R (λ t. Member t tests) (at tests a) (at tests b)
  new_sound a b h k e =
      let w : written (at old a) ≡ written (at old b) = sym (at_new a h) ∙ e ∙ at_new b k in
      elim (cases_eq (at old a) (at old p)) [
        | inl x ↦ elim (cases_eq (at old b) (at old p)) [
          | inl y ↦ is.sound a b h k (x ∙ sym y)
          | inr y ↦ joined_on (is.sound a p h pl x) (joined_on j (is.sound q b ql k (sym (hit (at old a) x) ∙ w ∙ missed (at old b) y)))
        ]
        | inr x ↦ elim (cases_eq (at old b) (at old p)) [
          | inl y ↦ joined_on (is.sound a q h ql (sym (missed (at old a) x) ∙ w ∙ hit (at old b) y)) (joined_on (joined_back j) (is.sound p b pl k (sym y)))
          | inr y ↦ is.sound a b h k (sym (missed (at old a) x) ∙ w ∙ missed (at old b) y)
        ]
      ]

  pub new_labels : AreLabels R tests new
  new_labels = record {
    many = many ∙ is.many;
    low = λ k h. let a = at_new k h in let b = written_le (at old k) in let d = is.low k h in omega arith;
    rooted = new_rooted;
    sound = new_sound;
  }

-- two tests of which one is before the other
pub joined_forth : (R : List Edge) (tests : List ℕ) (a b : ℕ) → a < length tests → b < length tests → Before R (at tests a) (at tests b) → Joined R (λ t. Member t tests) (at tests a) (at tests b)
joined_forth R tests a b h k x = forth (itself (member_get tests a h)) (member_get tests b k) x

-- ---- places, one after the other
pub own_next : (l m : List ℕ) (i : ℕ) → length l ≡ i → ((k : ℕ) → k < i → at l k ≡ k) → m ≡ l ++ (i ∷ []) → (k : ℕ) → k < i + 1 → at m k ≡ k
own_next l m i e f g k h = let gap : k - k ≡ 0 = omega arith in ap (λ (z : List ℕ). at z k) g ∙ elim (cases_eq k i) [
  | inl s ↦ get_or-append_right l (i ∷ []) k k 0 (omega arith) (omega arith) ∙ ap (λ (z : ℕ). get_or (i ∷ []) z 0) gap ∙ sym s
  | inr n ↦ get_or_append_left l (i ∷ []) 0 k (omega arith) ∙ f k (omega arith)
]

pub kept_same : (old : List ℕ) → Keeps old old
kept_same old a b h k e = e

pub kept_on : (R : List Edge) (tests x y z : List ℕ) → AreLabels R tests x → AreLabels R tests y → Keeps x y → Keeps y z → Keeps x z
kept_on R tests x y z l m f g a b h k e = let p = l.many in let q = m.many in g a b (omega arith) (omega arith) (f a b h k e)

pub joined_none : (R : List Edge) (tests labels : List ℕ) (place : ℕ) → IsJoinedTo R tests labels place 0
joined_none R tests labels place k h b = absurd (omega arith)

pub joined_next : (R : List Edge) (tests x y : List ℕ) (place n : ℕ) → AreLabels R tests x → n < place → place < length tests → Keeps x y → IsJoinedTo R tests x place n →
    (Before R (at tests n) (at tests place) → at y n ≡ at y place) → IsJoinedTo R tests y place (n + 1)
joined_next R tests x y place n l lt h f g j k less b = elim (cases_eq k n) [
  | inl e ↦ subst (λ (z : ℕ). at y z ≡ at y place) (sym e) (j (subst (λ (z : ℕ). Before R (at tests z) (at tests place)) e b))
  | inr other ↦ let m = l.many in f k place (omega arith) (omega arith) (g k (omega arith) b)
]

pub all_joined_next : (R : List Edge) (tests x y : List ℕ) (n : ℕ) → AreLabels R tests x → n < length tests → Keeps x y → AreJoined R tests x n → IsJoinedTo R tests y n n → AreJoined R tests y (n + 1)
all_joined_next R tests x y n l h f g j i less k lt b = elim (cases_eq i n) [
  | inl e ↦ subst (λ (z : ℕ). at y k ≡ at y z) (sym e) (j k (omega arith) (subst (λ (z : ℕ). Before R (at tests k) (at tests z)) e b))
  | inr other ↦ let m = l.many in f k i (omega arith) (omega arith) (g i (omega arith) k lt b)
]
