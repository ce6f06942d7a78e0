-- A new object with default cells is typed in a typed program, of which no field is a float or a double.
use Rattle.std.proofs.Common.{◌≡◌, ℕ, zero, suc, ◌<◌, ◌-◌, ◌+◌, List, [], ◌∷◌, ◌++◌, ◌⊎◌, length, map, get_or, slice_get, Bool, true, false, not, ◌||◌, cond, nat_eq, nat_lt, pos, Some, None, refl, sym, ◌∙◌, ap, subst, arith, inl, inr}
use Rattle.std.specs.Prelude.{filter}
use Rattle.std.specs.List.{list_all}
use Rattle.std.proofs.lemmas.Bool.{cases_Bool, and_parts, not-true, or_cases, eqb-true, eq-eqb, ltb-true, ltb-false, or_left, or_right}
use Rattle.std.proofs.lemmas.{List.length-replicate, List.get_or-replicate, List.Folds.list_any-append, Option.slice_get-get_or, Map.Views.any-filter_same}
use Rattle.jvm_model.specs.declared.{values.Value.Value, values.Base.Base, values.Kind.Kind, values.Head.Head, program.Program.Program}
use Rattle.jvm_model.specs.declared.values.Value.TheVariants as value
use Rattle.jvm_model.specs.declared.values.Base.TheVariants as base
use Rattle.jvm_model.specs.declared.values.Kind.TheVariants as kind
use Rattle.jvm_model.specs.{declared.program.ClassRec.ClassRec, declared.program.FieldRec.FieldRec, World.World, World.look, Builtin.builtin_count, View.keys}
use Rattle.jvm_model.specs.Library.{builtin_defs, builtin_classes, builtin_fields}
use Rattle.jvm_model.specs.Classes.{no_class, class_at, field_at, is_static, member, plain_fields, layout_in, layout, upwards, default_of, element_default, fields_of, elems_of, blank}
use Rattle.jvm_model.specs.Linked.{IsClass, IsField, IsKind, first_or, opens}
use Rattle.jvm_model.proofs.{BuiltinRules.class_keeps, BuiltinRules.field_keeps, Upwards.member_class}
use Rattle.type_frames.specs.{Descriptors.types_of, Descriptors.is_float, Typing.unsupported_field, Typing.IsTyped}
use Rattle.type_frames.specs.TypedState.{IsDeclared, IsReferenceOf, element_text}
use Rattle.check_sound.proofs.{Tree.IsNew, Arrive.counted_at, Arrive.slice_get_drop, Arrive.all_at_index}

-- ---- no field is a float or a double

own_fields : list_all (λ c. list_all (λ x. nat_lt x 2) c.fields) builtin_classes ≡ true
unfolding builtin_classes builtin_defs
own_fields = refl

whole_fields : list_all (λ f. not (is_float f.descriptor)) builtin_fields ≡ true
unfolding builtin_fields builtin_defs
whole_fields = refl

served : (c : ClassRec) (x : FieldRec) → unsupported_field c x ≡ None → is_float x.descriptor ≡ false
served c x e = elim (cases_Bool (is_float x.descriptor)) [ inr q ↦ q | inl q ↦ absurd (let z : unsupported_field c x ≡ None = e in let y = rw q at z in cc) ]

module _ (p : Program) (ty : IsTyped p) where
  pub not_float : (f : ℕ) → IsField p f → is_float (field_at p f).descriptor ≡ false
  not_float f h =
      let lk = ty.linked in
      let c = (field_at p f).class in
      let i = lk.numbers.fields f h in
      let k = counted_at f (class_at p c).fields (lk.listed.fields f h) in
      elim (cases_Bool (nat_lt c builtin_count)) [
        | inl q ↦
            let m = ltb-true f 2 (all_at_index (λ x. nat_lt x 2) (class_at p c).fields k.0 f (class_keeps p lk.builtins (λ c. list_all (λ x. nat_lt x 2) c.fields) own_fields c (ltb-true c builtin_count q)) k.1) in
            not-true _ (field_keeps p lk.builtins (λ x. not (is_float x.descriptor)) whole_fields f m)
        | inr q ↦ by c q i k
      ]
    where
      by : (c : ℕ) → nat_lt c builtin_count ≡ false → c < length p.classes → ((k : ℕ) × (slice_get (class_at p c).fields k ≡ Some f)) → is_float (field_at p f).descriptor ≡ false
      by c q i k =
          let d : c ≡ builtin_count + (c - builtin_count) = (let z = ltb-false c builtin_count q in omega arith) in
          served (class_at p c) (field_at p f) (ty.fields (c - builtin_count) k.0 f (class_at p c) (slice_get_drop p.classes builtin_count (c - builtin_count) ∙ (ap (slice_get p.classes) (sym d) ∙ slice_get-get_or p.classes c no_class i)) k.1)

  -- ---- the default of an instance field

  not_letter : (u n : ℕ) (us : List ℕ) → n ≡ 70 → is_float (u ∷ us) ≡ false → nat_eq u n ≡ true → ⊥
  not_letter u n us e h q = let z : u ≡ n = eqb-true u n q in let y : is_float (70 ∷ us) ≡ false = subst (λ (k : ℕ). is_float (k ∷ us) ≡ false) (z ∙ e) h in absurd (cc)

  not_double : (u n : ℕ) (us : List ℕ) → n ≡ 68 → is_float (u ∷ us) ≡ false → nat_eq u n ≡ true → ⊥
  not_double u n us e h q = let z : u ≡ n = eqb-true u n q in let y : is_float (68 ∷ us) ≡ false = subst (λ (k : ℕ). is_float (k ∷ us) ≡ false) (z ∙ e) h in absurd (cc)

  pub null_at : (w : World) (d : List ℕ) → is_float d ≡ false → member (first_or 0 d) (68 ∷ 70 ∷ 76 ∷ 91 ∷ []) ≡ true → IsReferenceOf p w (types_of d) value.Null
  null_at w [] h m = absurd (cc)
  null_at w (u ∷ us) h m = elim (or_cases (nat_eq u 68) _ m) [
    | inl q ↦ absurd (not_double u 68 us refl h q)
    | inr m ↦ elim (or_cases (nat_eq u 70) _ m) [
      | inl q ↦ absurd (not_letter u 70 us refl h q)
      | inr m ↦ elim (or_cases (nat_eq u 76) _ m) [
        | inl q ↦ subst (λ (k : ℕ). IsReferenceOf p w (types_of (k ∷ us)) value.Null) (sym (eqb-true u 76 q)) tt
        | inr m ↦ elim (or_cases (nat_eq u 91) false m) [
          | inl q ↦ subst (λ (k : ℕ). IsReferenceOf p w (types_of (k ∷ us)) value.Null) (sym (eqb-true u 91 q)) tt
          | inr q ↦ absurd (cc)
        ]
      ]
    ]
  ]

  -- a default is no constant and no object
  abbrev IsDefault : Value → Type 0
  IsDefault (value.Lit n) = ⊥
  IsDefault (value.Obj o) = ⊥
  IsDefault v = Unit {0}

  default_is : (d : List ℕ) → IsDefault (default_of d)
  default_is [] = tt
  default_is (u ∷ us) = by (member u (66 ∷ 67 ∷ 73 ∷ 83 ∷ 90 ∷ [])) (nat_eq u 74)
    where
      by : (a b : Bool) → IsDefault (cond a (value.Int (pos 0)) (cond b (value.Long (pos 0)) value.Null))
      by true b = tt
      by false true = tt
      by false false = tt

  opened_default : (w : World) (d : List ℕ) (v : Value) → IsDefault v → is_float d ≡ false → opens p d v ≡ true → IsDeclared p w d v
  opened_default w d (value.Int n) i h o = o
  opened_default w d (value.Long n) i h o = eqb-true (first_or 0 d) 74 o
  opened_default w d value.Null i h o = null_at w d h o
  opened_default w d _ i h o = absurd i

  pub default_declared : (w : World) (f : ℕ) → IsField p f → is_static (field_at p f).flags ≡ false → IsDeclared p w (field_at p f).descriptor (default_of (field_at p f).descriptor)
  default_declared w f h s =
      let op = ty.linked.openings in
      opened_default w (field_at p f).descriptor (default_of (field_at p f).descriptor) (default_is (field_at p f).descriptor) (not_float f h)
      (subst (λ (v : Value). opens p (field_at p f).descriptor v ≡ true) (op.defaults f h s) (op.values f h))

  -- ---- the fields of a layout

  filtered : (g : ℕ → Bool) (f : ℕ) (xs : List ℕ) → member f (filter g xs) ≡ true → (g f ≡ true) × (member f xs ≡ true)
  filtered g f xs m = and_parts (g f) (member f xs) (sym (any-filter_same (nat_eq f) g (g f) (λ k e. ap g (sym (eqb-true f k e))) xs) ∙ m)

  member_index : (f : ℕ) (xs : List ℕ) → member f xs ≡ true → (k : ℕ) × (k < length xs) × (get_or xs k 0 ≡ f)
  member_index f [] m = absurd (cc)
  member_index f (x ∷ xs) m = elim (or_cases (nat_eq f x) (member f xs) m) [
    | inl e ↦ (0, omega arith, sym (eqb-true f x e))
    | inr e ↦ let r = member_index f xs e in let lt = r.1 in (suc r.0, omega arith, r.2)
  ]

  any_parts : (f : ℕ) (xs ys : List ℕ) → member f (xs ++ ys) ≡ true → (member f xs ≡ true) ⊎ (member f ys ≡ true)
  any_parts f xs ys m = or_cases (member f xs) (member f ys) (sym (list_any-append (nat_eq f) xs ys) ∙ m)

  -- a field of a layout is an instance field of the program
  pub record PlainField (f : ℕ) : Type 0 where
    pub is_field : IsField p f
    pub plain : is_static (field_at p f).flags ≡ false

  in_layout : (f : ℕ) (cs : List ℕ) → ((c : ℕ) → member c cs ≡ true → IsClass p c) → member f (layout_in p cs) ≡ true → PlainField f
  in_layout f [] k m = absurd (cc)
  in_layout f (c ∷ cs) k m = elim (any_parts f (layout_in p cs) (plain_fields p c) m) [
    | inl l ↦ in_layout f cs (λ d q. k d (or_right (nat_eq d c) (member d cs) q)) l
    | inr r ↦
        let q = filtered (λ g. not (is_static (field_at p g).flags)) f (class_at p c).fields r in
        let i = member_index f (class_at p c).fields q.1 in
        let n = ty.linked.numbers.classes c (k c (or_left (nat_eq c c) (member c cs) (eq-eqb c c refl))) in
        record { is_field = subst (λ (y : ℕ). IsField p y) i.2 (n.fields i.0 0 i.1); plain = not-true _ q.0 }
  ]

  pub layout_field : (c f : ℕ) → IsClass p c → member f (layout p c) ≡ true → PlainField f
  unfolding layout
  layout_field c f h m = in_layout f (upwards p c) (λ d q. member_class p ty.linked _ c d h q) m

  -- ---- a blank object

  record Celled (xs : List ℕ) (f : ℕ) : Type 0 where
    there : member f (keys (map (λ g. (g, default_of (field_at p g).descriptor)) xs)) ≡ true
    holds : look nat_eq value.Null (map (λ g. (g, default_of (field_at p g).descriptor)) xs) f ≡ default_of (field_at p f).descriptor

  celled : (xs : List ℕ) (f : ℕ) → member f xs ≡ true → Celled xs f
  celled [] f e = absurd (cc)
  celled (x ∷ xs) f e = elim (cases_Bool (nat_eq f x)) [
    | inl b ↦ record { there = (rw b refl); holds = (rw b (ap (λ (z : ℕ). default_of (field_at p z).descriptor) (sym (eqb-true f x b)))) }
    | inr b ↦ let r = celled xs f (sym (later (nat_eq f x) (member f xs) b) ∙ e) in record { there = (rw b r.there); holds = (rw b r.holds) }
  ]
    where
      later : (a c : Bool) → a ≡ false → (a || c) ≡ c
      later a c h = rw h refl

  -- null is of an array or object type
  null_cell : (w : World) (d : ℕ) (b : Base) → nat_eq d 1 ≡ false → 0 < d → IsDeclared p w (element_text p (kind.Array d b)) value.Null
  null_cell w zero b q h = absurd (omega arith)
  null_cell w (suc zero) b q h = absurd (cc)
  null_cell w (suc (suc d)) b q h = tt

  cell : (w : World) (d : ℕ) (b : Base) (v : Value) → 0 < d → IsDeclared p w (element_text p (kind.Array 1 b)) v → IsDeclared p w (element_text p (kind.Array d b)) (cond (nat_eq d 1) v value.Null)
  cell w d b v h k = elim (cases_Bool (nat_eq d 1)) [
    | inl q ↦ subst (λ (n : ℕ). IsDeclared p w (element_text p (kind.Array n b)) (cond (nat_eq n 1) v value.Null)) (sym (eqb-true d 1 q)) k
    | inr q ↦ subst (λ (c : Bool). IsDeclared p w (element_text p (kind.Array d b)) (cond c v value.Null)) (sym q) (null_cell w d b q h)
  ]

  element_declared : (w : World) (d : ℕ) (b : Base) → 0 < d → IsDeclared p w (element_text p (kind.Array d b)) (element_default d b)
  element_declared w d base.Long h = cell w d base.Long (value.Long (pos 0)) h refl
  element_declared w d (base.Class c) h = cell w d (base.Class c) value.Null h tt
  element_declared w d b h = cell w d b (value.Int (pos 0)) h refl

  pub blank_new : (w : World) (h : Head) → IsKind p h.kind → IsNew p w (blank p h)
  unfolding blank
  blank_new w h i = record {
    is_kind = i;
    fields = λ c f e m.
        let r = celled (layout p c) f m in
        let g = layout_field c f (subst (λ (k : Kind). IsKind p k) e i) m in (
          subst (λ (k : Kind). member f (keys (fields_of p k)) ≡ true) (sym e) r.there,
          subst (λ (k : Kind). IsDeclared p w (field_at p f).descriptor (look nat_eq value.Null (fields_of p k) f)) (sym e)
              (subst (λ (v : Value). IsDeclared p w (field_at p f).descriptor v) (sym r.holds) (default_declared w f g.is_field g.plain)),
        );
    elems = λ d k b e lt.
        let j : IsKind p (kind.Array d b) = subst (λ (x : Kind). IsKind p x) e i in (
          subst (λ (x : Kind). k < length (elems_of x h.length)) (sym e) (let n = length-replicate h.length (element_default d b) in omega arith),
          subst (λ (x : Kind). IsDeclared p w (element_text p x) (get_or (elems_of x h.length) k value.Null)) (sym e)
              (subst (λ (v : Value). IsDeclared p w (element_text p (kind.Array d b)) v) (sym (get_or-replicate h.length k (element_default d b) value.Null lt)) (element_declared w d b j.0)),
        );
  }
