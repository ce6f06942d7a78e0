-- The marks of heads after one more touch, after touches of no head, and when the next test begins.
use Rattle.std.proofs.Common.{◌≡◌, ◌⊎◌, ◌+◌, ◌*◌, ◌<◌, ℕ, suc, Bool, true, false, ◌||◌, ◌&&◌, cond, List, [], ◌∷◌, ◌++◌, length, map, get_or, set, refl, sym, ◌∙◌, ap, subst, arith, nat_eq, nat_lt, inl, inr, Option, Some, None}
use Rattle.std.proofs.lemmas.Bool.{cases_Bool, cases_eq, cases_order, eqb-true, eq-eqb, ne_eqb, lt-ltb, le-ltb}
use Rattle.std.proofs.lemmas.{List.append_assoc, List.get_or-set_other, Grind.get_or-set_at, Nat.mul-add-lt}
use Rattle.std.proofs.{lemmas.List.Folds.list_any-append, Math.Bool.or-false, Math.Bool.or-true, Math.Nat.mul_comm}
use Rattle.std.specs.List.{list_any}
use Rattle.jvm_model.specs.declared.values.{Kind.Kind, Location.Location, Value.Value, Touch.Touch}
use Rattle.jvm_model.specs.declared.values.Location.TheVariants as place
use Rattle.jvm_model.specs.World.{Object, same}
use Rattle.jvm_model.proofs.Locations.{same_true}
use Rattle.jvm_model.specs.Access.{write_of, made, fields_made, elems_made, text_made}
use Rattle.order_law.specs.{Histories.Touches, Reach.inner_class}
use Rattle.access_tags.specs.HeadMarks.{is_class, is_head_of, touches_class, touches_so_far, is_marked, AreMarked}

so_far_next : (T : Touches) (t : ℕ) (ts : List Touch) (u : ℕ) → T t ≡ ts → touches_so_far T (suc t) [] u ≡ touches_so_far T t ts u
so_far_next T t ts u e = elim (cases_order u t) [
  | inl q ↦ rw (ne_eqb u (suc t) (λ k. omega arith)) (rw (lt-ltb u (suc t) (omega arith)) (rw (eq-eqb u t q) (ap (λ (i : ℕ). T i) q ∙ e)))
  | inr (inl h) ↦ rw (ne_eqb u (suc t) (λ k. omega arith)) (rw (lt-ltb u (suc t) (omega arith)) (rw (ne_eqb u t (λ k. omega arith)) (rw (lt-ltb u t h) refl)))
  | inr (inr h) ↦ rw (ne_eqb u t (λ k. omega arith)) (rw (le-ltb u t (omega arith)) (rest u (cases_eq u (suc t)) h))
]
  where
    rest : (u : ℕ) → (u ≡ suc t) ⊎ (u ≡ suc t → ⊥) → t < u → cond (nat_eq u (suc t)) [] (cond (nat_lt u (suc t)) (T u) []) ≡ []
    rest u (inl q) h = rw (eq-eqb u (suc t) q) refl
    rest u (inr q) h = rw (ne_eqb u (suc t) q) (rw (le-ltb u (suc t) (omega arith)) refl)

-- what holds already is left by one more that asks for it
again : (m a b : Bool) → ((a ≡ true) → (b ≡ true) → m ≡ true) → m ≡ (m || (a && b))
again m true true f = rw (f refl refl) refl
again m _ _ f = sym (or-false m)

-- a head that was touched
touched_before : (k : ℕ → Kind) (c : ℕ) (L : Location) (ts : List Touch) → list_any (same L) (map (λ (x : Touch). x.location) ts) ≡ true → is_head_of k c L ≡ true → touches_class k c ts ≡ true
touched_before k c L [] a e = absurd (cc)
touched_before k c L (y ∷ ts) a e = elim (cases_Bool (same L y.location)) [
  | inl q ↦ ap (λ (M : Location). is_head_of k c M || touches_class k c ts) (sym (same_true L y.location q)) ∙ rw e refl
  | inr q ↦ rw (touched_before k c L ts (sym (ap (λ (b : Bool). b || list_any (same L) (map (λ (x : Touch). x.location) ts)) q) ∙ a) e) (or-true (is_head_of k c y.location))
]

module _ (kinds : ℕ → ℕ → Kind) (T : Touches) (t : ℕ) (ts : List Touch) (n : ℕ) where
  pub heads_next : (ms : List Bool) → T t ≡ ts → AreMarked kinds T t ts n ms → AreMarked kinds T (suc t) [] n ms
  heads_next ms e m u c h = m u c h ∙ ap (λ (us : List Touch). touches_class (kinds u) c us) (sym (so_far_next T t ts u e))

  -- one class of one test more
  more_touches : (us : List Touch) (u c : ℕ) → touches_class (kinds u) c (touches_so_far T t (ts ++ us) u) ≡ (touches_class (kinds u) c (touches_so_far T t ts u) || (nat_eq u t && touches_class (kinds u) c us))
  more_touches us u c = elim (cases_Bool (nat_eq u t)) [
    | inl e ↦ rw e (list_any-append (λ (x : Touch). is_head_of (kinds u) c x.location) ts us)
    | inr e ↦ rw e (sym (or-false (touches_class (kinds u) c (cond (nat_lt u t) (T u) []))))
  ]

  pub heads_quiet : (us : List Touch) (ms : List Bool) → ((k : ℕ → Kind) (c : ℕ) → touches_class k c us ≡ false) → AreMarked kinds T t ts n ms → AreMarked kinds T t (ts ++ us) n ms
  heads_quiet us ms q m u c h = m u c h ∙ sym (more_touches us u c ∙ rw (q (kinds u) c) (base (touches_class (kinds u) c (touches_so_far T t ts u)) (nat_eq u t)))
    where
      base : (a b : Bool) → (a || (b && false)) ≡ a
      base true true = refl
      base true false = refl
      base false true = refl
      base false false = refl

  pub heads_noted : (x : Touch) (o : ℕ) (kind : Kind) (ms ns : List Bool) → x.location ≡ place.Head o → kinds t o ≡ kind →
      ((u c : ℕ) → c < n → is_marked n ns u c ≡ (is_marked n ms u c || (nat_eq u t && is_class (inner_class kind) c))) → AreMarked kinds T t ts n ms → AreMarked kinds T t (ts ++ x ∷ []) n ns
  heads_noted x o kind ms ns l k f m u c h = f u c h ∙ (rw (m u c h) (sym (more_touches (x ∷ []) u c ∙ ap (λ (b : Bool). touches_class (kinds u) c (touches_so_far T t ts u) || b) (here u (cases_Bool (nat_eq u t))))))
    where
      here : (u : ℕ) → (nat_eq u t ≡ true) ⊎ (nat_eq u t ≡ false) → (nat_eq u t && (is_head_of (kinds u) c x.location || false)) ≡ (nat_eq u t && is_class (inner_class kind) c)
      here u (inl e) = rw e (or-false (is_head_of (kinds u) c x.location) ∙ (rw l (ap (λ (i : ℕ). is_class (inner_class (kinds i o)) c) (eqb-true u t e) ∙ ap (λ (z : Kind). is_class (inner_class z) c) k)))
      here u (inr e) = rw e refl

  -- one more touch of a location that was touched
  pub heads_again : (x : Touch) (ms : List Bool) → list_any (same x.location) (map (λ (x : Touch). x.location) ts) ≡ true → AreMarked kinds T t ts n ms → AreMarked kinds T t (ts ++ x ∷ []) n ms
  heads_again x ms a m u c h =
      let b = is_head_of (kinds u) c x.location in
      m u c h ∙ (again (touches_class (kinds u) c (touches_so_far T t ts u)) (nat_eq u t) b (λ e k. rw e (touched_before (kinds u) c x.location ts a k))
      ∙ sym (more_touches (x ∷ []) u c ∙ ap (λ (b : Bool). touches_class (kinds u) c (touches_so_far T t ts u) || (nat_eq u t && b)) (or-false b)))

-- the places of two classes among the marks differ
apart : (n u c t d : ℕ) → c < n → d < n → u * n + c ≡ t * n + d → (u ≡ t) × (c ≡ d)
apart n u c t d h k e = elim (cases_order u t) [
  | inl q ↦ (q, let z = ap (λ (i : ℕ). i * n) q in omega arith)
  | inr (inl l) ↦ absurd (let a = mul-add-lt u n c t l h in let b = mul_comm n t in omega arith)
  | inr (inr l) ↦ absurd (let a = mul-add-lt t n d u l k in let b = mul_comm n u in omega arith)
]

both_false : (a b : Bool) → ((a ≡ true) → (b ≡ true) → ⊥) → (a && b) ≡ false
both_false true true f = absurd (f refl refl)
both_false _ _ f = refl

pub one_marked : (n : ℕ) (ms ns : List Bool) (t d at : ℕ) → at ≡ t * n + d → d < n → ((i : ℕ) → get_or ns i false ≡ get_or ms i false) → at < length ns →
    (u c : ℕ) → c < n → is_marked n (set ns at true) u c ≡ (is_marked n ms u c || (nat_eq u t && nat_eq d c))
one_marked n ms ns t d at p k same there u c h = elim (cases_eq (u * n + c) at) [
  | inl e ↦ let q = apart n u c t d h k (e ∙ p) in
      rw (lt-ltb c n h) (rw (eq-eqb u t q.0) (rw (eq-eqb d c (sym q.1)) (get_or-set_at ns at (u * n + c) true false e there ∙ sym (or-true (get_or ms (u * n + c) false)))))
  | inr e ↦
      let f : (nat_eq u t && nat_eq d c) ≡ false = both_false (nat_eq u t) (nat_eq d c) (λ a b. e (ap (λ (i : ℕ). i * n + c) (eqb-true u t a) ∙ (ap (λ (i : ℕ). t * n + i) (sym (eqb-true d c b)) ∙ sym p))) in
      rw (lt-ltb c n h) (rw f (get_or-set_other ns at (u * n + c) true false e ∙ (same (u * n + c) ∙ sym (or-false (get_or ms (u * n + c) false)))))
]

-- a class that is marked already
pub marked_again : (n : ℕ) (ms : List Bool) (t d : ℕ) → is_marked n ms t d ≡ true → (u c : ℕ) → is_marked n ms u c ≡ (is_marked n ms u c || (nat_eq u t && nat_eq d c))
marked_again n ms t d e u c = again (is_marked n ms u c) (nat_eq u t) (nat_eq d c) (λ a b. ap (λ (i : ℕ). is_marked n ms i c) (eqb-true u t a) ∙ (ap (λ (i : ℕ). is_marked n ms t i) (sym (eqb-true d c b)) ∙ e))

-- classes that are looked at one after another
pub class_more : (c d : ℕ) (m g a b e : Bool) → b ≡ (a || ((nat_lt c d && m) && g)) → (c ≡ d → m ≡ true) → e ≡ (b || (nat_eq c d && g)) → e ≡ (a || ((nat_lt c (d + 1) && m) && g))
class_more c d m g a b e p f r = r ∙ (rw p (elim (cases_order c d) [
  | inl q ↦ rw (le-ltb c d (omega arith)) (rw (lt-ltb c (d + 1) (omega arith)) (rw (eq-eqb c d q) (rw (f q) (ap (λ (x : Bool). x || g) (or-false a)))))
  | inr (inl l) ↦ rw (lt-ltb c d l) (rw (lt-ltb c (d + 1) (omega arith)) (rw (ne_eqb c d (λ q. omega arith)) (or-false (a || (m && g)))))
  | inr (inr l) ↦ rw (le-ltb c d (omega arith)) (rw (le-ltb c (d + 1) (omega arith)) (rw (ne_eqb c d (λ q. omega arith)) (or-false (a || false))))
]))

pub class_same : (c d : ℕ) (m g a b : Bool) → b ≡ (a || ((nat_lt c d && m) && g)) → (c ≡ d → m ≡ false) → b ≡ (a || ((nat_lt c (d + 1) && m) && g))
class_same c d m g a b p f = p ∙ elim (cases_order c d) [
  | inl q ↦ rw (le-ltb c d (omega arith)) (rw (lt-ltb c (d + 1) (omega arith)) (rw (f q) refl))
  | inr (inl l) ↦ rw (lt-ltb c d l) (rw (lt-ltb c (d + 1) (omega arith)) refl)
  | inr (inr l) ↦ rw (le-ltb c d (omega arith)) (rw (le-ltb c (d + 1) (omega arith)) refl)
]

-- making an object touches its head alone
quiet_both : (k : ℕ → Kind) (c : ℕ) (us vs : List Touch) → touches_class k c us ≡ false → touches_class k c vs ≡ false → touches_class k c (us ++ vs) ≡ false
quiet_both k c us vs e f = list_any-append (λ (x : Touch). is_head_of k c x.location) us vs ∙ rw e f

quiet_fields : (k : ℕ → Kind) (c a : ℕ) (xs : List (ℕ × Value)) → touches_class k c (fields_made a xs) ≡ false
quiet_fields k c a [] = refl
quiet_fields k c a (x ∷ xs) = quiet_fields k c a xs

quiet_elems : (k : ℕ → Kind) (c a i : ℕ) (xs : List Value) → touches_class k c (elems_made a i xs) ≡ false
quiet_elems k c a i [] = refl
quiet_elems k c a i (x ∷ xs) = quiet_elems k c a (suc i) xs

quiet_text : (k : ℕ → Kind) (c a : ℕ) (t : Option (List ℕ)) → touches_class k c (text_made a t) ≡ false
quiet_text k c a None = refl
quiet_text k c a (Some t) = refl

pub heads_made : (kinds : ℕ → ℕ → Kind) (T : Touches) (t : ℕ) (ts : List Touch) (n : ℕ) (ms : List Bool) (a : ℕ) (x : Object) → AreMarked kinds T t (ts ++ write_of (place.Head a) ∷ []) n ms → AreMarked kinds T t (ts ++ made a x) n ms
heads_made kinds T t ts n ms a x m = let rest = fields_made a x.fields ++ (elems_made a 0 x.elems ++ text_made a x.text) in
    subst (λ (us : List Touch). AreMarked kinds T t us n ms) (append_assoc ts (write_of (place.Head a) ∷ []) rest)
    (heads_quiet kinds T t (ts ++ write_of (place.Head a) ∷ []) n rest ms (λ k c. quiet_both k c (fields_made a x.fields) _ (quiet_fields k c a x.fields) (quiet_both k c (elems_made a 0 x.elems) (text_made a x.text) (quiet_elems k c a 0 x.elems) (quiet_text k c a x.text))) m)
