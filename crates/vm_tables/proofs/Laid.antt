-- The layout of a class begins with that of each class above it, so a field has one place.
use Rattle.std.proofs.Common.{◌≡◌, ℕ, zero, suc, ◌+◌, ◌<◌, ◌≤◌, List, [], ◌∷◌, ◌++◌, length, get_or, filter, take, All, Bool, true, false, not, cond, nat_eq, refl, sym, ◌∙◌, ap, subst, inl, inr, arith, Option, Some, None}
use Rattle.std.proofs.lemmas.Bool.{cases_Bool, cases_lt, or_cases, or_left, or_right}
use Rattle.std.proofs.{lemmas.List.get_or_past, lemmas.List.Elements.All-from_get_or, Math.Seq.take-append_seam}
use Rattle.jvm_model.specs.{declared.program.Program.Program, Linked.IsClass, Linked.IsField, Linked.Linked}
use Rattle.jvm_model.specs.Classes.{class_at, field_at, no_class, class_bound, is_static, member, upwards_in, plain_fields, layout_in, layout}
use Rattle.jvm_model.proofs.{Upwards.superclass_is, Upwards.upwards_step, Upwards.upwards_root, Walks.all_member}
use Rattle.member_lookup.proofs.Ancestry.{any_append, member_get}
use Rattle.vm_tables.specs.FieldPlaces.{place, AreFieldPlaces, IsHeld, HaveEntries}

-- ---- one more place is noted

-- what a write to a whole vector leaves
pub written : (n : ℕ) (new rest : List ℕ) → length new ≡ n → take n (new ++ rest) ≡ new
written n new rest e = subst (λ k. take k (new ++ rest) ≡ new) e (take-append_seam new rest)

-- ---- a field's place

place_front : (f : ℕ) (xs ys : List ℕ) → member f xs ≡ true → place f (xs ++ ys) ≡ place f xs
place_front f [] ys m = absurd (cc)
place_front f (x ∷ xs) ys m = elim (cases_Bool (nat_eq f x)) [ inl e ↦ rw e refl | inr e ↦ let r = rw e at m in rw (e, place_front f xs ys r) refl ]

member_cond : (b : Bool) (n x : ℕ) (ys zs : List ℕ) → (member n ys ≡ true → member n zs ≡ true) → member n (cond b (x ∷ ys) ys) ≡ true → member n (x ∷ zs) ≡ true
member_cond true n x ys zs f m = elim (or_cases (nat_eq n x) (member n ys) m) [ inl e ↦ or_left (nat_eq n x) (member n zs) e | inr r ↦ or_right (nat_eq n x) (member n zs) (f r) ]
member_cond false n x ys zs f m = or_right (nat_eq n x) (member n zs) (f m)

member_filter : (q : ℕ → Bool) (n : ℕ) (xs : List ℕ) → member n (filter q xs) ≡ true → member n xs ≡ true
member_filter q n [] m = m
member_filter q n (x ∷ xs) m = member_cond (q x) n x (filter q xs) xs (λ r. member_filter q n xs r) m

-- A field of a class's objects stands where it stands in the objects of its own class.
pub record Stands (p : Program) (c f : ℕ) : Type 0 where
  pub there : member f (layout p c) ≡ true
  pub same : place f (layout p c) ≡ place f (layout p (field_at p f).class)
  pub field : IsField p f

-- the layout above a class
abbrev above : Program → ℕ → Option ℕ → List ℕ
above p k None = []
above p k (Some d) = layout_in p (upwards_in p k d)

abbrev layout_above : Program → Option ℕ → List ℕ
layout_above p None = []
layout_above p (Some d) = layout p d

module _ (p : Program) (l : Linked p) where
  layout_step : (c : ℕ) (o : Option ℕ) → IsClass p c → (class_at p c).superclass ≡ o → layout p c ≡ layout_above p o ++ plain_fields p c
  unfolding layout
  layout_step c None g s = ap (layout_in p) (upwards_root p l c s)
  layout_step c (Some d) g s = ap (layout_in p) (upwards_step p l c d g s)

  -- a field that a class declares itself
  own : (c f : ℕ) → IsClass p c → member f (plain_fields p c) ≡ true → Stands p c f
  own c f g m =
      let listed : member f (class_at p c).fields ≡ true = member_filter (λ n. not (is_static (field_at p n).flags)) f (class_at p c).fields m in
      let home : (field_at p f).class ≡ c = all_member (λ n. (field_at p n).class ≡ c) (class_at p c).fields (l.listed.own_fields c g) f listed in
      let up = layout_above p (class_at p c).superclass in
      let all : layout p c ≡ up ++ plain_fields p c = layout_step c (class_at p c).superclass g refl in
      record {
        there = ap (λ xs. member f xs) all ∙ (any_append f up (plain_fields p c) ∙ or_right (member f up) (member f (plain_fields p c)) m);
        same = ap (λ n. place f (layout p n)) (sym home);
        field = all_member (λ n. IsField p n) (class_at p c).fields (l.numbers.classes c g).fields f listed;
      }

  -- a field of the class above
  below : (c d f : ℕ) → IsClass p c → (class_at p c).superclass ≡ Some d → Stands p d f → Stands p c f
  below c d f g s h =
      let all : layout p c ≡ layout p d ++ plain_fields p c = layout_step c (Some d) g s in
      record {
        there = ap (λ xs. member f xs) all ∙ (any_append f (layout p d) (plain_fields p c) ∙ or_left (member f (layout p d)) (member f (plain_fields p c)) h.there);
        same = ap (λ xs. place f xs) all ∙ (place_front f (layout p d) (plain_fields p c) h.there ∙ h.same);
        field = h.field;
      }

  from_above : (k c f : ℕ) (o : Option ℕ) → IsClass p c → (class_at p c).superclass ≡ o → ((d : ℕ) → IsClass p d → member f (layout_in p (upwards_in p k d)) ≡ true → Stands p d f) → member f (above p k o) ≡ true → Stands p c f
  from_above k c f None g s h m = absurd (cc)
  from_above k c f (Some d) g s h m = below c d f g s (h d (superclass_is p l c d g s) m)

  above_is : (k : ℕ) (o : Option ℕ) → layout_in p (elim o as (λ _. List ℕ) [ None ↦ [] | Some d ↦ upwards_in p k d ]) ≡ above p k o
  above_is k None = refl
  above_is k (Some d) = refl

  stands_in : (k c f : ℕ) → IsClass p c → member f (layout_in p (upwards_in p k c)) ≡ true → Stands p c f
  stands_in zero c f g m = absurd (cc)
  stands_in (suc k) c f g m =
      let o = (class_at p c).superclass in
      let parts : member f (above p k o ++ plain_fields p c) ≡ true = ap (λ xs. member f (xs ++ plain_fields p c)) (sym (above_is k o)) ∙ m in
      elim (or_cases (member f (above p k o)) (member f (plain_fields p c)) (sym (any_append f (above p k o) (plain_fields p c)) ∙ parts)) [
        | inl q ↦ from_above k c f o g refl (λ d r n. stands_in k d f r n) q
        | inr q ↦ own c f g q
      ]

  pub stands : (c f : ℕ) → IsClass p c → member f (layout p c) ≡ true → Stands p c f
  unfolding layout
  stands c f g m = stands_in class_bound c f g m

  pub fields_within : (c : ℕ) → IsClass p c → All (λ f. f < length p.fields) (layout p c)
  fields_within c g = All-from_get_or (λ f. f < length p.fields) (layout p c) 0 (λ i h. (stands c (get_or (layout p c) i 0) g (member_get (layout p c) i h)).field)

  noted : (b : Bool) (c d f n o : ℕ) → IsClass p d → member f (layout p d) ≡ b → Stands p c f → n ≡ cond b (place f (layout p d)) o → (b ≡ false → o ≡ place f (layout p c)) → n ≡ place f (layout p c)
  noted true c d f n o g m s e k = e ∙ ((stands d f g m).same ∙ sym s.same)
  noted false c d f n o g m s e k = e ∙ k refl

  -- the fields of one more class are noted
  pub noted_more : (d : ℕ) (old new : List ℕ) → IsClass p d → ((f : ℕ) → get_or new f 0 ≡ cond (member f (layout p d)) (place f (layout p d)) (get_or old f 0))
      → ((c : ℕ) → c < d → (f : ℕ) → member f (layout p c) ≡ true → get_or old f 0 ≡ place f (layout p c))
      → (c : ℕ) → c < d + 1 → (f : ℕ) → member f (layout p c) ≡ true → get_or new f 0 ≡ place f (layout p c)
  noted_more d old new g e h c m f t =
      let there : c < length p.classes = omega arith in
      noted (member f (layout p d)) c d f (get_or new f 0) (get_or old f 0) g refl (stands c f there t) (e f) (λ q. elim (cases_lt c d) [
        | inl r ↦ h c r f t
        | inr r ↦ let same : c ≡ d = omega arith in let none = subst (λ (n : ℕ). member f (layout p n) ≡ true) same t in absurd (cc)
      ])

pub past_classes : (p : Program) (c : ℕ) → length p.classes ≤ c → layout p c ≡ []
unfolding layout class_bound
past_classes p c h =
    let e : class_at p c ≡ no_class = get_or_past p.classes c no_class h in
    rw e (refl {a = []})

pub noted_all : (p q : Program) (n : ℕ) (places : List ℕ) → q ≡ p → length p.classes ≤ n → ((c : ℕ) → c < n → (f : ℕ) → member f (layout p c) ≡ true → get_or places f 0 ≡ place f (layout p c)) → AreFieldPlaces q places
noted_all p q n places e h g =
    let all : AreFieldPlaces p places = λ f c m. (elim (cases_lt c n) [
      | inl l ↦ g c l f m
      | inr l ↦ let none = rw (past_classes p c (omega arith)) at m in absurd (cc)
    ]) in
    subst (λ w. AreFieldPlaces w places) (sym e) all

-- a field that objects have is one of the program's
held_within : (p : Program) → Linked p → (f : ℕ) → IsHeld p f → f < length p.fields
held_within p l f h =
    let m : member f (layout p h.0) ≡ true = h.1 in
    elim (cases_lt h.0 (length p.classes)) [
      | inl g ↦ (stands p l h.0 f g m).field
      | inr g ↦ let none = rw (past_classes p h.0 (omega arith)) at m in absurd (cc)
    ]

pub entries_all : (p q : Program) (places : List ℕ) → Linked p → q ≡ p → length places ≡ length p.fields → HaveEntries q places
entries_all p q places l e n =
    let all : HaveEntries p places = λ f h. (let w = held_within p l f h in omega arith) in
    subst (λ w. HaveEntries w places) (sym e) all

pub cells_all : (p : Program) (n : ℕ) (cells : List ℕ) → length cells ≡ n → length p.classes ≤ n → ((c : ℕ) → c < n → get_or cells c 0 ≡ length (layout p c)) → (c : ℕ) → get_or cells c 0 ≡ length (layout p c)
cells_all p n cells l h g c = elim (cases_lt c n) [
  | inl i ↦ g c i
  | inr i ↦ get_or_past cells c 0 (omega arith) ∙ sym (ap (length {A = ℕ}) (past_classes p c (omega arith)))
]
