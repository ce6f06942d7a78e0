-- A value of a field's type opens the field where there is no object.
use Rattle.std.proofs.Common.{◌≡◌, ◌⊎◌, ℕ, zero, suc, ◌<◌, ◌≤◌, List, [], ◌∷◌, ◌++◌, length, get_or, drop, replicate, codes, Bool, true, false, not, ◌&&◌, ◌||◌, cond, nat_eq, nat_le, Option, Some, None, refl, sym, ◌∙◌, ap, subst, inl, inr, arith}
use Rattle.std.specs.Str.{bytes_eq}
use Rattle.std.proofs.lemmas.Bool.{and_parts, and_from, or_cases, or_left, or_right, eqb-true, eq-eqb, le-leb, not-true}
use Rattle.std.proofs.{lemmas.List.Folds.list_any_at, lemmas.List.Quantifiers.position-Some, lemmas.Iterator.Adapters.position_from-zero}
use Rattle.et_base.specs.Names.{is_field_descriptor}
use Rattle.et_base.proofs.Texts.{units_true, units_same}
use Rattle.class_pool.specs.NamesGrammar.{IsElement}
use Rattle.class_pool.proofs.NamesSpelled.{field_taken}
use Rattle.jvm_model.specs.{declared.values.Value.Value, declared.program.ClassRec.ClassRec, declared.program.Program.Program, World.World, World.size}
use Rattle.jvm_model.specs.declared.values.Value.TheVariants as value
use Rattle.jvm_model.specs.declared.values.Kind.TheVariants as kind
use Rattle.jvm_model.specs.{Library.builtin_defs, Library.builtin_classes, Rows.constant_kind, Builtin.object_class, Builtin.string_class, Builtin.stream_class}
use Rattle.jvm_model.specs.Classes.{no_class, class_at, is_below, is_interface, member, upwards}
use Rattle.jvm_model.specs.Linked.{Linked, IsClass, is_interface_at, class_descriptor, takes, opens}
use Rattle.jvm_model.proofs.BuiltinRules.{builtin_class}
use Rattle.type_frames.specs.declared.vtype.{VType.VType, VType.TheVariants.Object, VType.TheVariants.Long, VType.TheVariants.Top, VType.TheVariants.Int}
use Rattle.type_frames.specs.Assign.{class_named, takes_any, extends, class_fits, element_fits, is_array, object_fits}
use Rattle.type_frames.specs.Descriptors.{types_of, class_name, name_of}
use Rattle.type_frames.specs.TypedState.{IsInstance, IsReferenceOf, IsDeclared}
use Rattle.type_frames.proofs.AssignLaws.{first_named}
use Rattle.check_sound.proofs.{Instances.plain_name, KindNames.class_within, Thrown.builtin_is, Thrown.object_named, Thrown.under_object}

-- ---- texts

-- the text of a class
class_text : (us : List ℕ) → is_field_descriptor (76 ∷ us) ≡ true → 76 ∷ us ≡ class_descriptor (class_name us)
class_text us h = let t = field_taken (76 ∷ us) h in by t.dimensions t.element t.spelled t.ends
  where
    by : (n : ℕ) (e : List ℕ) → 76 ∷ us ≡ replicate n 91 ++ e → IsElement e → 76 ∷ us ≡ class_descriptor (class_name us)
    by zero e s (inl (c, is, b)) = absurd (cc)
    by zero e s (inr (name, is, x)) = let q : us ≡ name ++ 59 ∷ [] = cc in ap (λ (z : List ℕ). 76 ∷ z) (q ∙ ap (λ (a : List ℕ). a ++ 59 ∷ []) (sym (class_within name) ∙ ap class_name (sym q)))
    by (suc n) e s x = absurd (let z : true ≡ false = ap (λ (xs : List ℕ). nat_eq (get_or xs 0 0) 76) s in cc)

module _ (p : Program) (lk : Linked p) where
  named : (a : List ℕ) (c : ℕ) → class_named p a ≡ Some c → (c < length p.classes) × (name_of p c ≡ a)
  named a c e =
      let test : ClassRec → Bool = λ x. bytes_eq x.name a in
      let r = position-Some test p.classes c no_class (position_from-zero test p.classes ∙ e) in
      (r.0, units_true (class_at p c).name a r.1)

  module _ (k : ℕ) (ik : IsClass p k) (up : upwards p k ≡ k ∷ object_class ∷ []) (d a : List ℕ) (da : d ≡ class_descriptor a) where
    itself : name_of p k ≡ a → takes p d (name_of p k) ≡ true
    itself e = or_left (bytes_eq d (class_descriptor (name_of p k))) _ (units_same d (class_descriptor (name_of p k)) (da ∙ ap class_descriptor (sym e)))

    object : name_of p object_class ≡ a → takes p d (name_of p k) ≡ true
    object e = or_right (bytes_eq d (class_descriptor (name_of p k))) _ (or_left (bytes_eq d (codes "Ljava/lang/Object;")) _ (units_same d (codes "Ljava/lang/Object;") (da ∙ ap class_descriptor (sym e ∙ object_named p lk))))

    interface : (c : ℕ) → c < length p.classes → is_interface_at p c ≡ true → name_of p c ≡ a → takes p d (name_of p k) ≡ true
    interface c h i e =
        or_right (bytes_eq d (class_descriptor (name_of p k))) _ (or_right (bytes_eq d (codes "Ljava/lang/Object;")) _
        (list_any_at (λ (c : ClassRec). is_interface c.flags && bytes_eq d (class_descriptor c.name)) p.classes c no_class h
        (and_from (is_interface (class_at p c).flags) _ i (units_same d (class_descriptor (class_at p c).name) (da ∙ ap class_descriptor (sym e))))))

    of_any : (o : Option ℕ) → class_named p a ≡ o → takes_any p a ≡ true → takes p d (name_of p k) ≡ true
    unfolding takes_any
    of_any None q e = absurd (let z : false ≡ true = sym (ap (λ (o : Option ℕ). elim o as (λ x. Bool) [ None ↦ false | Some d ↦ nat_eq d object_class || is_interface (class_at p d).flags ]) q) ∙ e in cc)
    of_any (Some c) q e =
        let n = named a c q in
        elim (or_cases (nat_eq c object_class) (is_interface (class_at p c).flags) (sym (ap (λ (o : Option ℕ). elim o as (λ x. Bool) [ None ↦ false | Some d ↦ nat_eq d object_class || is_interface (class_at p d).flags ]) q) ∙ e)) [
          | inl z ↦ object (ap (λ (x : ℕ). name_of p x) (sym (eqb-true c object_class z)) ∙ n.1)
          | inr z ↦ interface c n.0 z n.1
        ]

    abbrev from_class : Option ℕ → Bool
    from_class o = elim o [ None ↦ false | Some c ↦ elim (class_named p a) [ None ↦ false | Some d ↦ is_below p c d ] ]

    abbrev to_class : Option ℕ → Bool
    to_class o = elim o [ None ↦ false | Some d ↦ is_below p k d ]

    of_above : (o : Option ℕ) → class_named p a ≡ o → to_class o ≡ true → takes p d (name_of p k) ≡ true
    unfolding is_below
    of_above None q e = absurd (cc)
    of_above (Some c) q e =
        let n = named a c q in
        let m : member c (k ∷ object_class ∷ []) ≡ true = subst (λ (xs : List ℕ). member c xs ≡ true) up e in
        elim (or_cases (nat_eq c k) (nat_eq c object_class || false) m) [
          | inl z ↦ itself (ap (λ (x : ℕ). name_of p x) (sym (eqb-true c k z)) ∙ n.1)
          | inr r ↦ elim (or_cases (nat_eq c object_class) false r) [ inl z ↦ object (ap (λ (x : ℕ). name_of p x) (sym (eqb-true c object_class z)) ∙ n.1) | inr z ↦ absurd (cc) ]
        ]

    of_extends : extends p (name_of p k) a ≡ true → takes p d (name_of p k) ≡ true
    unfolding extends
    of_extends e = of_above (class_named p a) refl (sym (ap from_class (first_named p lk k ik)) ∙ e)

    pub fits_takes : class_fits p (name_of p k) a ≡ true → takes p d (name_of p k) ≡ true
    unfolding class_fits
    fits_takes e = elim (or_cases (bytes_eq (name_of p k) a) (takes_any p a || extends p (name_of p k) a) e) [
      | inl q ↦ itself (units_true (name_of p k) a q)
      | inr r ↦ elim (or_cases (takes_any p a) (extends p (name_of p k) a) r) [ inl q ↦ of_any (class_named p a) refl q | inr q ↦ of_extends q ]
    ]

  -- an instance of a class fits by name
  no_array_fits : (a b : List ℕ) → is_array a ≡ false → object_fits p a b ≡ not (is_array b) && class_fits p a b
  unfolding object_fits
  no_array_fits a b e = ap (λ (x : Bool). elim x as (λ z. Bool) [ true ↦ elim (is_array b) as (λ z. Bool) [ true ↦ element_fits p (drop 1 a) (drop 1 b) | false ↦ takes_any p b ] | false ↦ not (is_array b) && class_fits p a b ]) e

  instance_fits : (k : ℕ) (a : List ℕ) → IsClass p k → IsInstance p (kind.Class k) a → (is_array a ≡ false) × (class_fits p (name_of p k) a ≡ true)
  instance_fits k a h i =
      let r = and_parts (not (is_array a)) (class_fits p (name_of p k) a) (sym (no_array_fits (name_of p k) a (plain_name p lk k h)) ∙ i) in
      (not-true (is_array a) r.0, r.1)

  -- ---- what takes a reference

  reference_text : (w : World) (u : ℕ) (us : List ℕ) (v : Value) → IsReferenceOf p w (types_of (u ∷ us)) v → (nat_eq u 76 ≡ true) ⊎ (nat_eq u 91 ≡ true)
  reference_text w u us v h = by (nat_eq u 74) (nat_eq u 76) (nat_eq u 91) (nat_eq u 86) (nat_eq u 70) (nat_eq u 68) h
    where
      by : (a b c d e f : Bool) → IsReferenceOf p w (elim a [ true ↦ Long ∷ [] | false ↦ elim b [ true ↦ Object (class_name us) ∷ [] | false ↦ elim c [ true ↦ Object (u ∷ us) ∷ [] | false ↦ elim d [ true ↦ [] | false ↦ elim e [ true ↦ Top ∷ [] | false ↦ elim f [ true ↦ Top ∷ Top ∷ [] | false ↦ Int ∷ [] ] ] ] ] ] ]) v → (b ≡ true) ⊎ (c ≡ true)
      by true b c d e f h = absurd h
      by false true c d e f h = inl refl
      by false false true d e f h = inr refl
      by false false false true e f h = absurd h
      by false false false false true f h = absurd h
      by false false false false false true h = absurd h
      by false false false false false false h = absurd h

  null_opens : (w : World) (d : List ℕ) → IsReferenceOf p w (types_of d) value.Null → opens p d value.Null ≡ true
  null_opens w [] h = absurd h
  null_opens w (u ∷ us) h = elim (reference_text w u us value.Null h) [
    | inl q ↦ subst (λ (x : ℕ). opens p (x ∷ us) value.Null ≡ true) (sym (eqb-true u 76 q)) refl
    | inr q ↦ subst (λ (x : ℕ). opens p (x ∷ us) value.Null ≡ true) (sym (eqb-true u 91 q)) refl
  ]

  -- a constant object of a class right below Object
  abbrev IsTaken : World → ℕ → ℕ → List ℕ → Type 0
  IsTaken w n k d = IsReferenceOf p w (types_of d) (value.Lit n) → (n ≤ length p.literals) × (takes p d (name_of p k) ≡ true)

  module _ (w : World) (n k : ℕ) (e : constant_kind n ≡ kind.Class k) (ik : IsClass p k) (up : upwards p k ≡ k ∷ object_class ∷ []) where
    of_class : (us : List ℕ) → is_field_descriptor (76 ∷ us) ≡ true → IsTaken w n k (76 ∷ us)
    of_class us g r = (r.0, fits_takes k ik up (76 ∷ us) (class_name us) (class_text us g) (instance_fits k (class_name us) ik (subst (λ x. IsInstance p x (class_name us)) e r.1)).1)

    of_array : (us : List ℕ) → IsTaken w n k (91 ∷ us)
    of_array us r = absurd (let y : true ≡ false = (instance_fits k (91 ∷ us) ik (subst (λ x. IsInstance p x (91 ∷ us)) e r.1)).0 in cc)

    class_takes : (d : List ℕ) → is_field_descriptor d ≡ true → IsTaken w n k d
    class_takes [] f h = absurd h
    class_takes (u ∷ us) f h = elim (reference_text w u us (value.Lit n) h) [
      | inl q ↦ subst (λ (y : ℕ). is_field_descriptor (y ∷ us) ≡ true → IsTaken w n k (y ∷ us)) (sym (eqb-true u 76 q)) (of_class us) f h
      | inr q ↦ subst (λ (y : ℕ). IsTaken w n k (y ∷ us)) (sym (eqb-true u 91 q)) (of_array us) h
    ]

  literal_opens : (w : World) (d : List ℕ) (n : ℕ) → is_field_descriptor d ≡ true → IsReferenceOf p w (types_of d) (value.Lit n) → opens p d (value.Lit n) ≡ true
  unfolding builtin_classes builtin_defs
  literal_opens w d n f h = by (nat_eq n 0) refl
    where
      by : (b : Bool) → nat_eq n 0 ≡ b → cond b (takes p d (codes "java/io/PrintStream")) (nat_le n (length p.literals) && takes p d (codes "java/lang/String")) ≡ true
      by true q =
          let t = class_takes w n stream_class (ap (λ (b : Bool). kind.Class (cond b stream_class string_class)) q) (builtin_is p lk stream_class (omega arith)) (under_object p lk stream_class (omega arith) refl) d f h in
          subst (λ (a : List ℕ). takes p d a ≡ true) (ap (λ (r : ClassRec). r.name) (builtin_class p lk.builtins stream_class (omega arith))) t.1
      by false q =
          let t = class_takes w n string_class (ap (λ (b : Bool). kind.Class (cond b stream_class string_class)) q) (builtin_is p lk string_class (omega arith)) (under_object p lk string_class (omega arith) refl) d f h in
          and_from (nat_le n (length p.literals)) _ (le-leb n (length p.literals) t.0) (subst (λ (a : List ℕ). takes p d a ≡ true) (ap (λ (r : ClassRec). r.name) (builtin_class p lk.builtins string_class (omega arith))) t.1)

  pub declared_opens : (w : World) (d : List ℕ) (v : Value) → size w ≡ 0 → is_field_descriptor d ≡ true → IsDeclared p w d v → opens p d v ≡ true
  declared_opens w d (value.Int n) z f h = h
  declared_opens w d (value.Long n) z f h = eq-eqb _ 74 h
  declared_opens w d value.Null z f h = null_opens w d h
  declared_opens w d (value.Lit n) z f h = literal_opens w d n f h
  declared_opens w d (value.Obj o) z f h = absurd (none (types_of d) h)
    where
      none : (ts : List VType) → IsReferenceOf p w ts (value.Obj o) → ⊥
      none (Object a ∷ []) h = let l = h.0 in omega arith
      none ts h = h
