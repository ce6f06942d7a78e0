-- The first fault of a list, computed: there is one exactly where the list isn't lawful, and no other.
use Rattle.std.proofs.Common.{◌≡◌, ◌⊎◌, ℕ, zero, suc, ◌+◌, ◌<◌, Bool, true, false, not, ◌&&◌, ◌||◌, cond, nat_eq, List, [], ◌∷◌, length, get_or, slice_get, take, refl, sym, ◌∙◌, ap, subst, inl, inr, arith, Option, Some, None, is_some}
use Rattle.std.proofs.lemmas.Bool.{cases_Bool, cases_eq, cases_order, eq-eqb, eqb-true, and_parts, and_from, or_cases, or_left, or_right, not-true, not_from_false, true≢false}
use Rattle.std.proofs.lemmas.Option.{slice_get-get_or, same_Some, slice_get_within, get_or_from_slice_get}
use Rattle.jvm_model.specs.Classes.{member}
use Rattle.order_law.specs.declared.edges.{Edge.Edge, EdgeKind.EdgeKind, EdgeKind.TheVariants.Raw, EdgeKind.TheVariants.Waw, EdgeKind.TheVariants.War}
use Rattle.order_law.specs.Conflicts.{Member, HasEdge, Before, edge, chain, Distinct, InOrder, Lawful}
use Rattle.order_law.specs.OrderFault.{OrderFault, twice, missing_writer, inverted, IsTwice, HasWriters, IsMissing, IsInPlace, IsInverted, IsOrderFault, is_twice, is_missing, is_inverted, LawOfFaults}
use Rattle.order_law.proofs.Members.{member_true, true_member}

-- `Before`, computed edge by edge: a path takes the first edge, or it doesn't
abbrev pub is_before : List Edge → ℕ → ℕ → Bool
is_before [] u t = false
is_before (e ∷ R) u t = is_before R u t || ((nat_eq u e.earlier || is_before R u e.earlier) && (nat_eq e.later t || is_before R e.later t))

more_edges : (e : Edge) (R : List Edge) {u t : ℕ} → Before R u t → Before (e ∷ R) u t
more_edges e R (edge k h) = edge k (inr h)
more_edges e R (chain a b) = chain (more_edges e R a) (more_edges e R b)

pub before-true : (R : List Edge) (u t : ℕ) → is_before R u t ≡ true → Before R u t
before-true [] u t e = absurd (cc)
before-true (x ∷ R) u t e = elim (or_cases (is_before R u t) _ e) [
  | inl h ↦ more_edges x R (before-true R u t h)
  | inr h ↦
      let q = and_parts (nat_eq u x.earlier || is_before R u x.earlier) (nat_eq x.later t || is_before R x.later t) h in
      let last : (v : ℕ) → Before (x ∷ R) v x.later → Before (x ∷ R) v t =
      (λ v b. elim (or_cases (nat_eq x.later t) (is_before R x.later t) q.1) [ inl e ↦ subst (λ (z : ℕ). Before (x ∷ R) v z) (eqb-true x.later t e) b | inr e ↦ chain b (more_edges x R (before-true R x.later t e)) ]) in
      let here : Before (x ∷ R) x.earlier x.later = edge x.kind (inl (refl, refl, refl)) in
      last u (elim (or_cases (nat_eq u x.earlier) (is_before R u x.earlier) q.0) [ inl e ↦ subst (λ (z : ℕ). Before (x ∷ R) z x.later) (sym (eqb-true u x.earlier e)) here | inr e ↦ chain (more_edges x R (before-true R u x.earlier e)) here ])
]

module _ (R : List Edge) (trans : (u v t : ℕ) → is_before R u v ≡ true → is_before R v t ≡ true → is_before R u t ≡ true) where
  to_either : (u v t : ℕ) → is_before R u v ≡ true → (nat_eq v t || is_before R v t) ≡ true → (nat_eq u t || is_before R u t) ≡ true
  to_either u v t e h = or_right (nat_eq u t) (is_before R u t) (elim (or_cases (nat_eq v t) (is_before R v t) h) [ inl g ↦ subst (λ (z : ℕ). is_before R u z ≡ true) (eqb-true v t g) e | inr g ↦ trans u v t e g ])

  from_either : (u v t : ℕ) → (nat_eq u v || is_before R u v) ≡ true → is_before R v t ≡ true → (nat_eq u t || is_before R u t) ≡ true
  from_either u v t h e = or_right (nat_eq u t) (is_before R u t) (elim (or_cases (nat_eq u v) (is_before R u v) h) [ inl g ↦ subst (λ (z : ℕ). is_before R z t ≡ true) (sym (eqb-true u v g)) e | inr g ↦ trans u v t g e ])

before_trans : (R : List Edge) (u v t : ℕ) → is_before R u v ≡ true → is_before R v t ≡ true → is_before R u t ≡ true
before_trans [] u v t a b = absurd (cc)
before_trans (x ∷ R) u v t a b =
    let split = (λ (i j : ℕ) (e : is_before (x ∷ R) i j ≡ true). or_cases (is_before R i j) ((nat_eq i x.earlier || is_before R i x.earlier) && (nat_eq x.later j || is_before R x.later j)) e) in
    let parts = (λ (i j : ℕ) (e : ((nat_eq i x.earlier || is_before R i x.earlier) && (nat_eq x.later j || is_before R x.later j)) ≡ true). and_parts (nat_eq i x.earlier || is_before R i x.earlier) (nat_eq x.later j || is_before R x.later j) e) in
    let here = (λ (e : (nat_eq u x.earlier || is_before R u x.earlier) ≡ true) (f : (nat_eq x.later t || is_before R x.later t) ≡ true). or_right (is_before R u t) ((nat_eq u x.earlier || is_before R u x.earlier) && (nat_eq x.later t || is_before R x.later t)) (and_from (nat_eq u x.earlier || is_before R u x.earlier) (nat_eq x.later t || is_before R x.later t) e f)) in
    elim (split u v a) [
      | inl c ↦ elim (split v t b) [
        | inl d ↦ or_left (is_before R u t) _ (before_trans R u v t c d)
        | inr d ↦ let q = parts v t d in here (to_either R (before_trans R) u v x.earlier c q.0) q.1
      ]
      | inr c ↦ let p = parts u v c in elim (split v t b) [
        | inl d ↦ here p.0 (from_either R (before_trans R) x.later v t p.1 d)
        | inr d ↦ here p.0 (parts v t d).1
      ]
    ]

edge_before : (R : List Edge) (k : EdgeKind) (u t : ℕ) → HasEdge R k u t → is_before R u t ≡ true
edge_before [] k u t h = absurd h
edge_before (x ∷ R) k u t h = elim h [
  | inl e ↦ or_right (is_before R u t) _ (and_from (nat_eq u x.earlier || is_before R u x.earlier) (nat_eq x.later t || is_before R x.later t)
      (or_left (nat_eq u x.earlier) (is_before R u x.earlier) (eq-eqb u x.earlier (sym e.1))) (or_left (nat_eq x.later t) (is_before R x.later t) (eq-eqb x.later t e.2)))
  | inr j ↦ or_left (is_before R u t) _ (edge_before R k u t j)
]

pub before-from : (R : List Edge) {u t : ℕ} → Before R u t → is_before R u t ≡ true
before-from R (edge k {u} {t} h) = edge_before R k u t h
before-from R (chain {u} {v} {t} a b) = before_trans R u v t (before-from R a) (before-from R b)

not_before : (R : List Edge) (u t : ℕ) → is_before R u t ≡ false → Before R u t → ⊥
not_before R u t e b = true≢false (sym (before-from R b) ∙ e)

-- the least number below n that passes a test
abbrev pub least : (ℕ → Bool) → ℕ → Option ℕ
least f zero = None
least f (suc n) = elim (least f n) [ Some i ↦ Some i | None ↦ cond (f n) (Some n) None ]

data IsLeast (f : ℕ → Bool) (n : ℕ) : Option ℕ → Type 0 where
  at_least : {i : ℕ} → i < n → f i ≡ true → ((j : ℕ) → j < i → f j ≡ false) → IsLeast f n (Some i)
  nowhere : ((j : ℕ) → j < n → f j ≡ false) → IsLeast f n None

least_next : (f : ℕ → Bool) (n : ℕ) {o : Option ℕ} → IsLeast f n o → (b : Bool) → f n ≡ b → IsLeast f (suc n) (elim o [ Some i ↦ Some i | None ↦ cond b (Some n) None ])
least_next f n (at_least lt e g) b h = at_least (omega arith) e g
least_next f n (nowhere g) true h = at_least (omega arith) h g
least_next f n (nowhere g) false h = nowhere (λ j lt. elim (cases_eq j n) [ inl e ↦ ap f e ∙ h | inr ne ↦ g j (omega arith) ])

least_is : (f : ℕ → Bool) (n : ℕ) → IsLeast f n (least f n)
least_is f zero = nowhere (λ j lt. absurd (omega arith))
least_is f (suc n) = least_next f n (least_is f n) (f n) refl

-- the raw writers of a test
abbrev is_raw : EdgeKind → Bool
is_raw Raw = true
is_raw _ = false

abbrev pub writers : List Edge → ℕ → List ℕ
writers [] t = []
writers (e ∷ R) t = cond (is_raw e.kind && nat_eq e.later t) (e.earlier ∷ writers R t) (writers R t)

raw_is : (k : EdgeKind) → is_raw k ≡ true → k ≡ Raw
raw_is Raw e = refl
raw_is _ e = absurd (cc)

pub writers_in : (R : List Edge) (u t : ℕ) → HasEdge R Raw u t → Member u (writers R t)
writers_in [] u t h = absurd h
writers_in (e ∷ R) u t h = elim (cases_Bool (is_raw e.kind && nat_eq e.later t)) [
  | inl b ↦ rw b (elim h [ inl x ↦ inl (sym x.1) | inr j ↦ inr (writers_in R u t j) ])
  | inr b ↦ rw b (elim h [ inl x ↦ absurd (true≢false (sym (and_from (is_raw e.kind) (nat_eq e.later t) (ap is_raw x.0) (eq-eqb e.later t x.2)) ∙ b)) | inr j ↦ writers_in R u t j ])
]

writer_here : (e : Edge) (R : List Edge) (u t : ℕ) (b : Bool) → (is_raw e.kind && nat_eq e.later t) ≡ b → Member u (cond b (e.earlier ∷ writers R t) (writers R t)) → (Member u (writers R t) → HasEdge R Raw u t) → HasEdge (e ∷ R) Raw u t
writer_here e R u t true q i k = elim i [
  | inl g ↦ let p = and_parts (is_raw e.kind) (nat_eq e.later t) q in inl (raw_is e.kind p.0, sym g, eqb-true e.later t p.1)
  | inr j ↦ inr (k j)
]
writer_here e R u t false q i k = inr (k i)

pub writers_true : (R : List Edge) (u t : ℕ) → Member u (writers R t) → HasEdge R Raw u t
writers_true [] u t i = absurd i
writers_true (e ∷ R) u t i = writer_here e R u t (is_raw e.kind && nat_eq e.later t) refl i (writers_true R u t)

-- a number above each of a list
abbrev above : List ℕ → ℕ
above [] = 0
above (x ∷ xs) = suc x + above xs

is_above : (xs : List ℕ) (x : ℕ) → Member x xs → x < above xs
is_above [] x i = absurd i
is_above (y ∷ xs) x i = elim i [ inl e ↦ omega arith | inr j ↦ let h = is_above xs x j in omega arith ]

not_member : (x : ℕ) (l : List ℕ) → member x l ≡ false → Member x l → ⊥
not_member x l e i = true≢false (sym (member_true x l i) ∙ e)

-- the least raw writer of a test outside the list
abbrev is_outside : List Edge → List ℕ → ℕ → ℕ → Bool
is_outside R l t u = member u (writers R t) && not (member u l)

abbrev outside : List Edge → List ℕ → ℕ → Option ℕ
outside R l t = least (is_outside R l t) (above (writers R t))

-- the places of the three faults
abbrev stands_before : List ℕ → ℕ → Bool
stands_before l i = member (get_or l i 0) (take i l)

abbrev lacks_writer : List Edge → List ℕ → ℕ → Bool
lacks_writer R l i = is_some (outside R l (get_or l i 0))

abbrev is_behind : List Edge → List ℕ → ℕ → ℕ → Bool
is_behind R l i j = is_before R (get_or l i 0) (get_or l j 0)

abbrev behind : List Edge → List ℕ → ℕ → Option ℕ
behind R l i = least (is_behind R l i) i

abbrev stands_behind : List Edge → List ℕ → ℕ → Bool
stands_behind R l i = is_some (behind R l i)

-- the first fault
abbrev pub order_fault : List Edge → List ℕ → Option OrderFault
order_fault R l = elim (least (stands_before l) (length l)) [
  | Some i ↦ Some (twice (get_or l i 0))
  | None ↦ elim (least (lacks_writer R l) (length l)) [
    | Some i ↦ elim (outside R l (get_or l i 0)) [ Some u ↦ Some (missing_writer (get_or l i 0) u) | None ↦ None ]
    | None ↦ elim (least (stands_behind R l) (length l)) [
      | Some i ↦ elim (behind R l i) [ Some j ↦ Some (inverted (get_or l i 0) (get_or l j 0)) | None ↦ None ]
      | None ↦ None
    ]
  ]
]

-- places and members
pub member_get : (l : List ℕ) (i x : ℕ) → slice_get l i ≡ Some x → Member x l
member_get [] i x e = absurd (cc)
member_get (y ∷ l) zero x e = inl (cc)
member_get (y ∷ l) (suc i) x e = inr (member_get l i x e)

pub member_place : (l : List ℕ) (x : ℕ) → Member x l → (i : ℕ) × (i < length l) × (slice_get l i ≡ Some x)
member_place [] x h = absurd h
member_place (y ∷ l) x h = elim h [ inl e ↦ (0, omega arith, ap (λ (z : ℕ). Some z) (sym e)) | inr j ↦ let q = member_place l x j in let lt = q.1 in (suc q.0, omega arith, q.2) ]

in_take : (l : List ℕ) (i x : ℕ) → Member x (take i l) → (j : ℕ) × (j < i) × (slice_get l j ≡ Some x)
in_take (y ∷ l) (suc i) x h = elim h [ inl e ↦ (0, omega arith, ap (λ (z : ℕ). Some z) (sym e)) | inr k ↦ let q = in_take l i x k in let lt = q.1 in (suc q.0, omega arith, q.2) ]
in_take l zero x h = absurd h
in_take [] (suc i) x h = absurd h

take_in : (l : List ℕ) (i j x : ℕ) → j < i → slice_get l j ≡ Some x → Member x (take i l)
take_in l zero j x h e = absurd (omega arith)
take_in [] (suc i) j x h e = absurd (cc)
take_in (y ∷ l) (suc i) zero x h e = inl (cc)
take_in (y ∷ l) (suc i) (suc j) x h e = inr (take_in l i j x (omega arith) e)

-- a list whose test at each place doesn't stand before
distinct_from : (l : List ℕ) → ((i j x : ℕ) → j < i → slice_get l i ≡ Some x → slice_get l j ≡ Some x → ⊥) → Distinct l
distinct_from [] f = tt
distinct_from (y ∷ l) f = (
  λ m. let q = member_place l y m in f (suc q.0) 0 y (omega arith) q.2 refl,
  distinct_from l (λ i j x h a b. f (suc i) (suc j) x (omega arith) a b),
)

distinct_places : (l : List ℕ) → Distinct l → (i j x : ℕ) → j < i → slice_get l i ≡ Some x → slice_get l j ≡ Some x → ⊥
distinct_places [] d i j x h a b = absurd (cc)
distinct_places (y ∷ l) d zero j x h a b = absurd (omega arith)
distinct_places (y ∷ l) d (suc i) zero x h a b = d.0 (member_get l i y (a ∙ sym b))
distinct_places (y ∷ l) d (suc i) (suc j) x h a b = distinct_places l d.1 i j x (omega arith) a b

take_get : (l : List ℕ) (n i x : ℕ) → slice_get (take n l) i ≡ Some x → (i < n) × (slice_get l i ≡ Some x)
take_get (y ∷ l) (suc n) zero x e = (omega arith, e)
take_get (y ∷ l) (suc n) (suc i) x e = let q = take_get l n i x e in let lt = q.0 in (omega arith, q.1)
take_get l zero i x e = absurd (cc)
take_get [] (suc n) i x e = absurd (cc)

order_places : (R : List Edge) (l : List ℕ) → InOrder R l → (i : ℕ) → IsInPlace R l i
order_places R [] o i j a b h e g r = absurd (cc)
order_places R (y ∷ l) o zero j a b h e g r = absurd (omega arith)
order_places R (y ∷ l) o (suc i) zero a b h e g r = o.0 a (member_get l i a e) (subst (λ (z : ℕ). Before R a z) (sym (same_Some _ _ g)) r)
order_places R (y ∷ l) o (suc i) (suc j) a b h e g r = order_places R l o.1 i j a b (omega arith) e g r

order_from : (R : List Edge) (l : List ℕ) → ((i : ℕ) → IsInPlace R l i) → InOrder R l
order_from R [] f = tt
order_from R (y ∷ l) f = (
  λ u m r. let q = member_place l u m in f (suc q.0) 0 u y (omega arith) q.2 refl r,
  order_from R l (λ i j a b h e g r. f (suc i) (suc j) a b (omega arith) e g r),
)

module _ (R : List Edge) (l : List ℕ) where
  data FaultIs : Option OrderFault → Type 0 where
    fault_is : {x : OrderFault} → IsOrderFault R l x → FaultIs (Some x)
    none_is : Lawful R l → FaultIs None

  here : (i : ℕ) → i < length l → slice_get l i ≡ Some (get_or l i 0)
  here i h = slice_get-get_or l i 0 h

  read : (i x : ℕ) → slice_get l i ≡ Some x → get_or l i 0 ≡ x
  read i x e = get_or_from_slice_get l i x 0 e

  -- where no place below n stands before
  single : (n : ℕ) → ((i : ℕ) → i < n → stands_before l i ≡ false) → (i j x : ℕ) → i < n → j < i → slice_get l i ≡ Some x → slice_get l j ≡ Some x → ⊥
  single n f i j x lt h a b = not_member x (take i l) (subst (λ (z : ℕ). member z (take i l) ≡ false) (read i x a) (f i lt)) (take_in l i j x h b)

  distinct_below : (n : ℕ) → ((i : ℕ) → i < n → stands_before l i ≡ false) → Distinct (take n l)
  distinct_below n f = distinct_from (take n l) (λ i j x h a b. let p = take_get l n i x a in let q = take_get l n j x b in single n f i j x p.0 h p.1 q.1)

  distinct_all : ((i : ℕ) → i < length l → stands_before l i ≡ false) → Distinct l
  distinct_all f = distinct_from l (λ i j x h a b. single (length l) f i j x (slice_get_within l i x a) h a b)

  -- all writers of a test are listed where the least one outside is none
  has_writers : (t : ℕ) {o : Option ℕ} → IsLeast (is_outside R l t) (above (writers R t)) o → is_some o ≡ false → HasWriters R l t
  has_writers t (at_least lt e g) n u h = absurd (true≢false n)
  has_writers t (nowhere g) n u h = let m = writers_in R u t h in
      elim (cases_Bool (member u l)) [
        | inl b ↦ true_member u l b
        | inr b ↦ absurd (true≢false (sym (and_from (member u (writers R t)) (not (member u l)) (member_true u (writers R t) m) (not_from_false (member u l) b)) ∙ g u (is_above (writers R t) u m)))
      ]

  missing_is : (i : ℕ) (t : ℕ) {o : Option ℕ} → Distinct l → slice_get l i ≡ Some t → ((j x : ℕ) → j < i → slice_get l j ≡ Some x → HasWriters R l x) → IsLeast (is_outside R l t) (above (writers R t)) o → is_some o ≡ true →
      FaultIs (elim o [ Some u ↦ Some (missing_writer t u) | None ↦ None ])
  missing_is i t d e f (nowhere g) n = absurd (true≢false (sym n))
  missing_is i t d e f (at_least {i = u} lt h g) n =
      let q = and_parts (member u (writers R t)) (not (member u l)) h in
      fault_is (is_missing d (record {
        place = i;
        listed = e;
        edge = writers_true R u t (true_member u (writers R t) q.0);
        outside = not_member u l (not-true (member u l) q.1);
        first = λ x m. let k = in_take l i x m in f k.0 x k.1 k.2;
        least = λ v lv hv. elim (cases_Bool (member v l)) [
          | inl b ↦ true_member v l b
          | inr b ↦ absurd (true≢false (sym (and_from (member v (writers R t)) (not (member v l)) (member_true v (writers R t) (writers_in R v t hv)) (not_from_false (member v l) b)) ∙ g v lv))
        ];
      }))

  in_place : (i : ℕ) {o : Option ℕ} → IsLeast (is_behind R l i) i o → is_some o ≡ false → IsInPlace R l i
  in_place i (at_least lt e g) n j a b h x k r = absurd (true≢false n)
  in_place i (nowhere g) n j a b h e k r = not_before R a b (subst (λ (z : ℕ). is_before R z b ≡ false) (read i a e) (subst (λ (z : ℕ). is_before R (get_or l i 0) z ≡ false) (read j b k) (g j h))) r

  inverted_is : (i : ℕ) {o : Option ℕ} → Distinct l → ((t : ℕ) → Member t l → HasWriters R l t) → i < length l → ((k : ℕ) → k < i → IsInPlace R l k) → IsLeast (is_behind R l i) i o → is_some o ≡ true →
      FaultIs (elim o [ Some j ↦ Some (inverted (get_or l i 0) (get_or l j 0)) | None ↦ None ])
  inverted_is i d w lt f (nowhere g) n = absurd (true≢false (sym n))
  inverted_is i d w lt f (at_least {i = j} lj e g) n = fault_is (is_inverted d w (record {
    place = i;
    earlier = j;
    listed = here i lt;
    earlier_listed = here j (omega arith);
    lower = lj;
    before = before-true R (get_or l i 0) (get_or l j 0) e;
    least = f;
    earliest = λ k c h s r. not_before R (get_or l i 0) c (subst (λ (z : ℕ). is_before R (get_or l i 0) z ≡ false) (read k c s) (g k h)) r;
  }))

  inverted_at : {o : Option ℕ} → Distinct l → ((t : ℕ) → Member t l → HasWriters R l t) → IsLeast (stands_behind R l) (length l) o →
      FaultIs (elim o [ Some i ↦ elim (behind R l i) [ Some j ↦ Some (inverted (get_or l i 0) (get_or l j 0)) | None ↦ None ] | None ↦ None ])
  inverted_at d w (at_least {i} lt e g) = inverted_is i d w lt (λ k h. in_place k (least_is (is_behind R l k) k) (g k h)) (least_is (is_behind R l i) i) e
  inverted_at d w (nowhere g) = none_is (record {
    distinct = d;
    closed = λ u t m h. w t m u h;
    in_order = order_from R l (λ i j a b h e k r. in_place i (least_is (is_behind R l i) i) (g i (slice_get_within l i a e)) j a b h e k r);
  })

  writers_at : (i x : ℕ) → slice_get l i ≡ Some x → lacks_writer R l i ≡ false → HasWriters R l x
  writers_at i x e n = subst (λ (z : ℕ). HasWriters R l z) (read i x e) (has_writers (get_or l i 0) (least_is (is_outside R l (get_or l i 0)) (above (writers R (get_or l i 0)))) n)

  missing_at : {o : Option ℕ} → Distinct l → IsLeast (lacks_writer R l) (length l) o →
      FaultIs (elim o [
        | Some i ↦ elim (outside R l (get_or l i 0)) [ Some u ↦ Some (missing_writer (get_or l i 0) u) | None ↦ None ]
        | None ↦ elim (least (stands_behind R l) (length l)) [
          | Some i ↦ elim (behind R l i) [ Some j ↦ Some (inverted (get_or l i 0) (get_or l j 0)) | None ↦ None ]
          | None ↦ None
        ]
      ])
  missing_at d (at_least {i} lt e g) = missing_is i (get_or l i 0) d (here i lt) (λ j x h k. writers_at j x k (g j h)) (least_is (is_outside R l (get_or l i 0)) (above (writers R (get_or l i 0)))) e
  missing_at d (nowhere g) = inverted_at d (λ t m. let q = member_place l t m in writers_at q.0 t q.2 (g q.0 q.1)) (least_is (stands_behind R l) (length l))

  twice_at : {o : Option ℕ} → IsLeast (stands_before l) (length l) o →
      FaultIs (elim o [
        | Some i ↦ Some (twice (get_or l i 0))
        | None ↦ elim (least (lacks_writer R l) (length l)) [
          | Some i ↦ elim (outside R l (get_or l i 0)) [ Some u ↦ Some (missing_writer (get_or l i 0) u) | None ↦ None ]
          | None ↦ elim (least (stands_behind R l) (length l)) [
            | Some i ↦ elim (behind R l i) [ Some j ↦ Some (inverted (get_or l i 0) (get_or l j 0)) | None ↦ None ]
            | None ↦ None
          ]
        ]
      ])
  twice_at (at_least {i} lt e g) = fault_is (is_twice (record { place = i; listed = here i lt; before = true_member (get_or l i 0) (take i l) e; least = distinct_below i g }))
  twice_at (nowhere g) = missing_at (distinct_all g) (least_is (lacks_writer R l) (length l))

  order_fault_is : FaultIs (order_fault R l)
  order_fault_is = twice_at (least_is (stands_before l) (length l))

  -- a lawful list has no fault
  repeated : (i x : ℕ) → slice_get l i ≡ Some x → Member x (take i l) → Distinct l → ⊥
  repeated i x e m d = let q = in_take l i x m in distinct_places l d i q.0 x q.1 e q.2

  no_fault : (x : OrderFault) → IsOrderFault R l x → Lawful R l → ⊥
  no_fault _ (is_twice {t} f) w = repeated f.place t f.listed f.before w.distinct
  no_fault _ (is_missing {t} {u} d f) w = f.outside (w.closed u t (member_get l f.place t f.listed) f.edge)
  no_fault _ (is_inverted {a} {b} d h f) w = order_places R l w.in_order f.place f.earlier a b f.lower f.listed f.earlier_listed f.before

  -- two faults are one
  earlier_twice : {t u : ℕ} (x : IsTwice l t) (y : IsTwice l u) → x.place < y.place → ⊥
  earlier_twice {t} x y h =
      let q = in_take l x.place t x.before in
      let lt = q.1 in
      distinct_places (take y.place l) y.least x.place q.0 t q.1 (taken y.place x.place t h x.listed) (taken y.place q.0 t (omega arith) q.2)
    where
      get_take : (l : List ℕ) (n i x : ℕ) → i < n → slice_get l i ≡ Some x → slice_get (take n l) i ≡ Some x
      get_take l zero i x h e = absurd (omega arith)
      get_take [] (suc n) i x h e = absurd (cc)
      get_take (y ∷ l) (suc n) zero x h e = e
      get_take (y ∷ l) (suc n) (suc i) x h e = get_take l n i x (omega arith) e

      taken : (n i x : ℕ) → i < n → slice_get l i ≡ Some x → slice_get (take n l) i ≡ Some x
      taken n i x h e = get_take l n i x h e

  same_at : (i j t u : ℕ) → slice_get l i ≡ Some t → slice_get l j ≡ Some u → i ≡ j → t ≡ u
  same_at i j t u a b e = same_Some _ _ (sym a ∙ ap (λ (z : ℕ). slice_get l z) e ∙ b)

  earlier_missing : {t u s v : ℕ} (x : IsMissing R l t u) (y : IsMissing R l s v) → x.place < y.place → ⊥
  earlier_missing {t} {u} x y h = x.outside (y.first t (take_in l y.place x.place t h x.listed) u x.edge)

  least_missing : {t u s v : ℕ} (x : IsMissing R l t u) (y : IsMissing R l s v) → t ≡ s → u < v → ⊥
  least_missing {t} {u} x y e h = x.outside (y.least u h (subst (λ (z : ℕ). HasEdge R Raw u z) e x.edge))

  earlier_inverted : {a b c d : ℕ} (x : IsInverted R l a b) (y : IsInverted R l c d) → x.place < y.place → ⊥
  earlier_inverted {a} {b} x y h = y.least x.place h x.earlier a b x.lower x.listed x.earlier_listed x.before

  least_inverted : {a b c d : ℕ} (x : IsInverted R l a b) (y : IsInverted R l c d) → a ≡ c → x.earlier < y.earlier → ⊥
  least_inverted {a} {b} x y e h = y.earliest x.earlier b h x.earlier_listed (subst (λ (z : ℕ). Before R z b) e x.before)

  one_number : (i j : ℕ) → (i < j → ⊥) → (j < i → ⊥) → i ≡ j
  one_number i j f g = elim (cases_order i j) [ inl e ↦ e | inr o ↦ elim o [ inl h ↦ absurd (f h) | inr h ↦ absurd (g h) ] ]

  one_fault : (x y : OrderFault) → IsOrderFault R l x → IsOrderFault R l y → x ≡ y
  one_fault _ _ (is_twice {t} f) (is_twice {t = u} g) = ap twice (same_at f.place g.place t u f.listed g.listed (one_number f.place g.place (earlier_twice f g) (earlier_twice g f)))
  one_fault _ _ (is_twice {t} f) (is_missing d g) = absurd (repeated f.place t f.listed f.before d)
  one_fault _ _ (is_twice {t} f) (is_inverted d w g) = absurd (repeated f.place t f.listed f.before d)
  one_fault _ _ (is_missing d f) (is_twice {t} g) = absurd (repeated g.place t g.listed g.before d)
  one_fault _ _ (is_missing {t} {u} d f) (is_missing {t = s} {u = v} k g) =
      let e = same_at f.place g.place t s f.listed g.listed (one_number f.place g.place (earlier_missing f g) (earlier_missing g f)) in
      ap (λ (z : ℕ). missing_writer z u) e ∙ ap (λ (z : ℕ). missing_writer s z) (one_number u v (least_missing f g e) (least_missing g f (sym e)))
  one_fault _ _ (is_missing {t} {u} d f) (is_inverted k w g) = absurd (f.outside (w t (member_get l f.place t f.listed) u f.edge))
  one_fault _ _ (is_inverted d w f) (is_twice {t} g) = absurd (repeated g.place t g.listed g.before d)
  one_fault _ _ (is_inverted d w f) (is_missing {t} {u} k g) = absurd (g.outside (w t (member_get l g.place t g.listed) u g.edge))
  one_fault _ _ (is_inverted {a} {b} d w f) (is_inverted {a = c} {b = e} k v g) =
      let h = same_at f.place g.place a c f.listed g.listed (one_number f.place g.place (earlier_inverted f g) (earlier_inverted g f)) in
      let i = one_number f.earlier g.earlier (least_inverted f g h) (least_inverted g f (sym h)) in
      ap (λ (z : ℕ). inverted z b) h ∙ ap (λ (z : ℕ). inverted c z) (same_at f.earlier g.earlier b e f.earlier_listed g.earlier_listed i)

  either : {o : Option OrderFault} → FaultIs o → Lawful R l ⊎ ((x : OrderFault) × IsOrderFault R l x)
  either (fault_is {x} f) = inr (x, f)
  either (none_is w) = inl w

  the_lawful : {o : Option OrderFault} → FaultIs o → o ≡ None → Lawful R l
  the_lawful (fault_is f) e = absurd (cc)
  the_lawful (none_is w) e = w

pub lawful_list : (R : List Edge) (l : List ℕ) → order_fault R l ≡ None → Lawful R l
lawful_list R l e = the_lawful R l (order_fault_is R l) e

pub law_of_faults : LawOfFaults
law_of_faults R l = record { either = either R l (order_fault_is R l); unlawful = no_fault R l; one = one_fault R l }
