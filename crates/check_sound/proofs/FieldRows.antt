-- The rows of getfield and putfield. An instance of the class that is named has the field, and no constant is one.
use Rattle.std.proofs.Common.{◌≡◌, ◌≢◌, ◌⊎◌, ℕ, zero, suc, ◌<◌, List, [], ◌∷◌, length, filter, Bool, true, false, not, ◌&&◌, ◌||◌, cond, nat_eq, Option, Some, None, refl, sym, ◌∙◌, ap, subst, arith, inl, inr}
use Rattle.std.specs.Prelude.{flat_map}
use Rattle.std.proofs.lemmas.Bool.{cases_lt, and_parts, or_cases, or_right, eqb-true}
use Rattle.std.proofs.lemmas.{List.get_or_past, List.Folds.list_any-append, Map.Views.any-filter_same}
use Rattle.jvm_model.specs.declared.{values.Value.Value, values.Kind.Kind, program.Program.Program, program.ClassRec.ClassRec, outcome.Next.TheVariants.Fault}
use Rattle.jvm_model.specs.declared.values.Value.TheVariants as value
use Rattle.jvm_model.specs.declared.values.Kind.TheVariants as kind
use Rattle.jvm_model.specs.declared.values.Location.TheVariants as place
use Rattle.jvm_model.specs.declared.instr.Instr.TheVariants as form
use Rattle.jvm_model.specs.{World.World, World.size, Entries.Entries, Entries.with_stack, Library.builtin_defs, Library.builtin_classes, RowsFields.row_fields}
use Rattle.jvm_model.specs.Builtin.{object_class, string_class, stream_class, builtin_count, null_pointer_exception}
use Rattle.jvm_model.specs.Classes.{no_class, class_at, field_at, member, is_static, is_below, upwards, class_bound, layout}
use Rattle.jvm_model.specs.{Lookup.is_field, Lookup.field_path_in, Lookup.field_path, Lookup.find_field, Narrow.narrowed, Access.Access, Access.write}
use Rattle.jvm_model.specs.Rows.{Answer, constant_kind, on_object, goes_on, popping, answer}
use Rattle.check_sound.proofs.{Arguments.Argument, Ends.fault_typed, Thrown.builtin_is, Thrown.thrown, CallEffects.push, LibraryTypes.laid}
use Rattle.jvm_model.specs.Linked.{Linked, IsClass, count, IsField, IsKind, IsPlainField, IsFoundField, is_interface_at}
use Rattle.jvm_model.proofs.{Interfaces.member-flat_map, BuiltinRules.builtin_class}
use Rattle.jvm_model.proofs.Upwards.{superclass_is, below_same, below_trans, upwards_step}
use Rattle.type_frames.specs.declared.vtype.{VType.VType, VType.TheVariants.Object, VType.TheVariants.UninitThis}
use Rattle.type_frames.specs.declared.stack_effect.OperandConstraint.TheVariants.{Fits}
use Rattle.type_frames.specs.{Frames.same, Environment.Environment, Descriptors.types_of, Descriptors.name_of, Typing.IsTyped}
use Rattle.type_frames.specs.StackEffect.{sides, needs_of, object_of, place_of}
use Rattle.type_frames.specs.TypedState.{kind_at, IsInstance, RefersTo, HasType, is_class_with}
use Rattle.type_frames.proofs.AssignLaws.{object_below, interface_root}
use Rattle.check_sound.proofs.Tree.{IsSpot, typed_read, typed_write, typed_known}
use Rattle.check_sound.proofs.Operands.{Operands, rest_of, popping-fits, on_object-typed}
use Rattle.check_sound.proofs.Ready.{Ends, Row, Ready, here, rest, operands, on, names_form, form_kind, form_found}
use Rattle.check_sound.proofs.Instances.{takes_every, Below, instance_below}
use Rattle.check_sound.proofs.DeclaredValues.{text_of_field, declared_result, argument_stored, popping-declared}
use Rattle.check_sound.proofs.SelectLaws.{any_some, all_member, found, direct}

module _ (p : Program) (lk : Linked p) where
  -- ---- Object, String and PrintStream have no fields

  no_fields : (d f : ℕ) → d < builtin_count → (class_at p d).fields ≡ [] → member f (class_at p d).fields ≡ true → ⊥
  no_fields d f h e m = let z : false ≡ true = ap (member f) (sym e) ∙ m in cc

  object_fields : (class_at p 0).fields ≡ []
  unfolding builtin_classes builtin_defs
  object_fields = ap (λ (x : ClassRec). x.fields) (builtin_class p lk.builtins 0 (omega arith))

  string_fields : (class_at p 1).fields ≡ []
  unfolding builtin_classes builtin_defs
  string_fields = ap (λ (x : ClassRec). x.fields) (builtin_class p lk.builtins 1 (omega arith))

  stream_fields : (class_at p 4).fields ≡ []
  unfolding builtin_classes builtin_defs
  stream_fields = ap (λ (x : ClassRec). x.fields) (builtin_class p lk.builtins 4 (omega arith))

  string_above : (class_at p 1).superclass ≡ Some 0
  unfolding builtin_classes builtin_defs
  string_above = ap (λ (x : ClassRec). x.superclass) (builtin_class p lk.builtins 1 (omega arith))

  stream_above : (class_at p 4).superclass ≡ Some 0
  unfolding builtin_classes builtin_defs
  stream_above = ap (λ (x : ClassRec). x.superclass) (builtin_class p lk.builtins 4 (omega arith))

  -- what is above a class whose superclass is Object
  above_object : (c d : ℕ) → IsClass p c → (class_at p c).superclass ≡ Some object_class → is_below p c d ≡ true → (d ≡ c) ⊎ (d ≡ object_class)
  unfolding is_below
  above_object c d h e m = elim (or_cases (nat_eq d c) (member d (upwards p object_class)) (ap (member d) (sym (upwards_step p lk c object_class h e)) ∙ m)) [
    | inl q ↦ inl (eqb-true d c q)
    | inr q ↦ inr (object_below p lk d q)
  ]

  -- ---- the class that has a found field

  pub record Owned (named f : ℕ) : Type 0 where
    pub listed : member f (class_at p (field_at p f).class).fields ≡ true
    pub above : is_below p named (field_at p f).class ≡ true
    pub narrow : takes_every p named ≡ false

  up_one : (c x : ℕ) → IsClass p c → (class_at p c).superclass ≡ Some x → is_below p c x ≡ true
  unfolding is_below
  up_one c x h e = ap (member x) (upwards_step p lk c x h e) ∙ or_right (nat_eq x c) (member x (upwards p x)) (below_same p x)

  path_above : (k c d : ℕ) → IsClass p c → is_interface_at p d ≡ false → d ≢ object_class → member d (field_path_in p k c) ≡ true → is_below p c d ≡ true
  path_above zero c d h n o m = absurd cc
  path_above (suc k) c d h n o m = elim (or_cases (member d (c ∷ flat_map (λ i. field_path_in p k i) (class_at p c).interfaces)) _ (sym (list_any-append (nat_eq d) (c ∷ flat_map (λ i. field_path_in p k i) (class_at p c).interfaces) _) ∙ m)) [
    | inl q ↦ elim (or_cases (nat_eq d c) (member d (flat_map (λ i. field_path_in p k i) (class_at p c).interfaces)) q) [
      | inl e ↦ subst (λ (x : ℕ). is_below p c x ≡ true) (sym (eqb-true d c e)) (below_same p c)
      | inr e ↦ absurd (
          let i = any_some (λ j. member d (field_path_in p k j)) (class_at p c).interfaces (sym (member-flat_map d (λ j. field_path_in p k j) (class_at p c).interfaces) ∙ e) in
          let j = direct p lk c i.0 i.1 in
          let b = path_above k i.0 d j.is_class n o i.2 in
          no_interface i.0 d j.is_class j.interface n o (above_object i.0 d j.is_class (interface_root p lk i.0 j.is_class j.interface) b))
    ]
    | inr q ↦ super (class_at p c).superclass refl (λ e g. path_above k e d g n o) q
  ]
    where
      no_interface : (i d : ℕ) → IsClass p i → is_interface_at p i ≡ true → is_interface_at p d ≡ false → d ≢ object_class → (d ≡ i) ⊎ (d ≡ object_class) → ⊥
      no_interface i d h y n o (inl e) = let z : true ≡ false = sym y ∙ (ap (is_interface_at p) (sym e) ∙ n) in cc
      no_interface i d h y n o (inr e) = o e

      super : (o : Option ℕ) → (class_at p c).superclass ≡ o → ((e : ℕ) → IsClass p e → member d (field_path_in p k e) ≡ true → is_below p e d ≡ true) → member d (elim o as (λ x. List ℕ) [ None ↦ [] | Some e ↦ field_path_in p k e ]) ≡ true → is_below p c d ≡ true
      super None e f m = absurd cc
      super (Some x) e f m =
          let y = superclass_is p lk c x h e in
          below_trans p lk c x d h (up_one c x h e) (f x y m)

  owned : (named f : ℕ) → IsClass p named → IsField p f → IsPlainField p f → IsFoundField p named f → Owned named f
  unfolding find_field field_path
  owned named f h k n e =
      let path = field_path_in p class_bound named in
      let q = found (λ x. is_field p (field_at p f).name (field_at p f).descriptor x) (flat_map (λ d. (class_at p d).fields) path) f e in
      let c = any_some (λ d. member f (class_at p d).fields) path (sym (member-flat_map f (λ d. (class_at p d).fields) path) ∙ q.listed) in
      by c.0 c.1 c.2
    where
      empty : (d : ℕ) → member f (class_at p d).fields ≡ true → d ≢ object_class
      empty d m e = no_fields 0 f (omega arith) object_fields (subst (λ (x : ℕ). member f (class_at p x).fields ≡ true) e m)

      wide : (d : ℕ) → is_below p named d ≡ true → is_interface_at p d ≡ false → d ≢ object_class → (b : Bool) → takes_every p named ≡ b → takes_every p named ≡ false
      wide d b i o false q = q
      wide d b i o true q = absurd (elim (or_cases (nat_eq named object_class) (is_interface_at p named) q) as (λ x. ⊥) [
        | inl z ↦ o (object_below p lk d (subst (λ (x : ℕ). is_below p x d ≡ true) (eqb-true named object_class z) b))
        | inr z ↦ elim (above_object named d h (interface_root p lk named h z) b) as (λ x. ⊥) [
          | inl y ↦ (let w : true ≡ false = sym z ∙ (ap (is_interface_at p) (sym y) ∙ i) in cc)
          | inr y ↦ o y
        ]
      ])

      by : (d : ℕ) → member d (field_path_in p class_bound named) ≡ true → member f (class_at p d).fields ≡ true → Owned named f
      by d m l = elim (cases_lt d (length p.classes)) [
        | inl g ↦ (
            let own : (field_at p f).class ≡ d = all_member (λ x. (field_at p x).class ≡ d) (class_at p d).fields f (lk.listed.own_fields d g) l in
            let i : is_interface_at p d ≡ false = subst (λ (x : ℕ). is_interface_at p x ≡ false) own n.1 in
            let b = path_above class_bound named d h i (empty d l) m in
            record {
              listed = subst (λ (x : ℕ). member f (class_at p x).fields ≡ true) (sym own) l;
              above = subst (λ (x : ℕ). is_below p named x ≡ true) (sym own) b;
              narrow = wide d b i (empty d l) (takes_every p named) refl;
            })
        | inr g ↦ absurd (let z : true ≡ false = sym l ∙ ap (λ (x : ClassRec). member f x.fields) (get_or_past p.classes d no_class g) in cc)
      ]

  -- ---- the field of an instance

  kept : (f : ℕ) (xs : List ℕ) → is_static (field_at p f).flags ≡ false → member f xs ≡ true → member f (filter (λ g. not (is_static (field_at p g).flags)) xs) ≡ true
  kept f xs n m = any-filter_same (nat_eq f) (λ g. not (is_static (field_at p g).flags)) true (λ k e. ap not (subst (λ (y : ℕ). is_static (field_at p y).flags ≡ false) (eqb-true f k e) n)) xs ∙ m

  pub in_layout : (k f : ℕ) → is_static (field_at p f).flags ≡ false → member f (class_at p (field_at p f).class).fields ≡ true → is_below p k (field_at p f).class ≡ true → member f (layout p k) ≡ true
  unfolding layout is_below
  in_layout k f n m b = laid p lk f (field_at p f).class (upwards p k) b (kept f (class_at p (field_at p f).class).fields n m)

  counted_member : (f : ℕ) (xs : List ℕ) → count f xs ≡ 1 → member f xs ≡ true
  counted_member f [] e = absurd (let z : 0 ≡ 1 = e in omega arith)
  counted_member f (x ∷ xs) e = by (nat_eq f x) (count f xs) e (counted_member f xs)
    where
      by : (b : Bool) (n : ℕ) → cond b (suc n) n ≡ 1 → (n ≡ 1 → member f xs ≡ true) → (b || member f xs) ≡ true
      by true n e g = refl
      by false n e g = g e

  -- a field is listed by its class
  pub own_listed : (f : ℕ) → IsField p f → member f (class_at p (field_at p f).class).fields ≡ true
  own_listed f h = counted_member f (class_at p (field_at p f).class).fields (lk.listed.fields f h)

  module _ (named f : ℕ) (h : IsClass p named) (k : IsField p f) (n : IsPlainField p f) (e : IsFoundField p named f) where
    own : Owned named f
    own = owned named f h k n e

    -- the class of an instance is below that of the field
    lower : (x : Kind) → IsKind p x → IsInstance p x (name_of p named) → Below p x (field_at p f).class
    lower x i j =
        let b = instance_below p lk x named i h own.narrow j in
        record { class = b.class; is = b.is; below = below_trans p lk b.class named (field_at p f).class (subst (λ (z : Kind). IsKind p z) b.is i) b.below own.above }

    pub spot : (w : World) (o : ℕ) → o < size w → IsKind p (kind_at w o) → IsInstance p (kind_at w o) (name_of p named) → IsSpot p w (place.Field o f)
    spot w o l i j = let b = lower (kind_at w o) i j in (b.class, l, b.is, in_layout b.class f n.0 own.listed b.below)

    no_string : (d : ℕ) → d ≡ (field_at p f).class → is_below p 1 d ≡ true → ⊥
    no_string d q b = elim (above_object 1 d (builtin_is p lk 1 (omega arith)) string_above b) as (λ x. ⊥) [
      | inl z ↦ no_fields 1 f (omega arith) string_fields (subst (λ (x : ℕ). member f (class_at p x).fields ≡ true) (sym q ∙ z) own.listed)
      | inr z ↦ no_fields 0 f (omega arith) object_fields (subst (λ (x : ℕ). member f (class_at p x).fields ≡ true) (sym q ∙ z) own.listed)
    ]

    no_stream : (d : ℕ) → d ≡ (field_at p f).class → is_below p 4 d ≡ true → ⊥
    no_stream d q b = elim (above_object 4 d (builtin_is p lk 4 (omega arith)) stream_above b) as (λ x. ⊥) [
      | inl z ↦ no_fields 4 f (omega arith) stream_fields (subst (λ (x : ℕ). member f (class_at p x).fields ≡ true) (sym q ∙ z) own.listed)
      | inr z ↦ no_fields 0 f (omega arith) object_fields (subst (λ (x : ℕ). member f (class_at p x).fields ≡ true) (sym q ∙ z) own.listed)
    ]

    pub no_constant : (i : ℕ) → IsInstance p (constant_kind i) (name_of p named) → ⊥
    no_constant i j = by (nat_eq i 0) j
      where
        class_eq : {a b : ℕ} → kind.Class a ≡ kind.Class b → a ≡ b
        class_eq z = cc

        by : (b : Bool) → IsInstance p (kind.Class (cond b stream_class string_class)) (name_of p named) → ⊥
        by true j = let b = lower (kind.Class stream_class) (builtin_is p lk 4 (omega arith)) j in no_stream (field_at p f).class refl (subst (λ (x : ℕ). is_below p x (field_at p f).class ≡ true) (sym (class_eq b.is)) b.below)
        by false j = let b = lower (kind.Class string_class) (builtin_is p lk 1 (omega arith)) j in no_string (field_at p f).class refl (subst (λ (x : ℕ). is_below p x (field_at p f).class ≡ true) (sym (class_eq b.is)) b.below)

-- ---- the rows

module _ (p : Program) (ty : IsTyped p) {w : World} where
  -- the object that an `<init>` begins is of the current class or below it
  started_in : (f : ℕ) (e : Environment) (t : Entries) (x : Value) {k : ℕ → Access (Answer Entries)} → IsClass p e.class → IsField p f → IsPlainField p f → (field_at p f).class ≡ e.class → HasType p w e UninitThis x
      → ((o : ℕ) → IsSpot p w (place.Field o f) → Row p w (k o)) → Row p w (on_object t x k)
  started_in f e t (value.Obj o) g h n c (l, b) q = q o (by (kind_at w o) refl b)
    where
      by : (k : Kind) → kind_at w o ≡ k → is_class_with (λ d. is_below p d e.class) k ≡ true → IsSpot p w (place.Field o f)
      by (kind.Class d) z y = (d, l, z, in_layout p ty.linked d f n.0 (own_listed p ty.linked f h) (subst (λ (a : ℕ). is_below p d a ≡ true) (sym c) y))
      by (kind.Array d b) z y = absurd cc
  started_in f e t _ g h n c q r = absurd q

module _ (p : Program) (ty : IsTyped p) {w : World} {s : Entries} where
  pub get_field : (c f : ℕ) → Ready p w s (form.GetField c f) → Row p w (row_fields p (form.GetField c f) s)
  unfolding row_fields sides
  get_field c f r =
      let lk = ty.linked in
      let n = names_form p ty r in
      let k = form_kind p ty r in
      let e = form_found p ty r in
      let d = (field_at p f).descriptor in
      popping-fits p (Ends p) w lk (Object (name_of p c)) tt (operands r) (λ v vs us h sv o.
      on_object-typed p (Ends p) w (with_stack s vs) (name_of p c) v h.type (no_constant p lk c f n.0 n.1 k e) (fault_typed p ty r null_pointer_exception vs (thrown p lk null_pointer_exception refl) (rest_of o).range) (λ x l i.
      typed_known x l (λ j. typed_read (spot p lk c f n.0 n.1 k e w x l j i) (λ u q.
      on p ty r refl r.locals (push p w (here r) (types_of d) (rest r) (u ∷ []) vs (declared_result p w d u q) (rest_of o))))))

  -- an instance of the named class
  stored_in : (c f : ℕ) (r : Ready p w s (form.PutField c f)) (t : Entries) (x : Value) {k : ℕ → Access (Answer Entries)} → Ends p w (answer (Fault null_pointer_exception) t) → RefersTo p w (name_of p c) x
      → ((o : ℕ) → IsSpot p w (place.Field o f) → Row p w (k o)) → Row p w (on_object t x k)
  stored_in c f r t x g h q =
      let lk = ty.linked in
      let n = names_form p ty r in
      let k = form_kind p ty r in
      let e = form_found p ty r in
      on_object-typed p (Ends p) w t (name_of p c) x h (no_constant p lk c f n.0 n.1 k e) g (λ o l i. typed_known o l (λ j. q o (spot p lk c f n.0 n.1 k e w o l j i)))

  pub put_field : (c f : ℕ) → Ready p w s (form.PutField c f) → Row p w (row_fields p (form.PutField c f) s)
  unfolding row_fields sides
  put_field c f r =
      let lk = ty.linked in
      let n = names_form p ty r in
      let k = form_kind p ty r in
      let d = (field_at p f).descriptor in
      let text = text_of_field d (lk.listed.field_names f n.1).1 in
      let e = here r in
      let u = place_of r.types (length (needs_of d)) in
      popping-declared p ty (Ends p) d text (operands r) (λ v ws us a o.
      by v ws us a (same u UninitThis && (nat_eq c e.class && nat_eq (field_at p f).class e.class)) refl o)
    where
      writes : (v : Value) (left : List Value) → Argument p w (field_at p f).descriptor v → Row p w (goes_on p s left) → (o : ℕ) → IsSpot p w (place.Field o f) → Row p w (write (place.Field o f) (narrowed (field_at p f).descriptor v) (goes_on p s left))
      writes v left a g o i = typed_write tt i (argument_stored p w (field_at p f).descriptor v (text_of_field (field_at p f).descriptor (ty.linked.listed.field_names f (names_form p ty r).1).1) a) g

      by : (v : Value) (ws : List Value) (us : List VType) → Argument p w (field_at p f).descriptor v
          → (b : Bool) → (same (place_of r.types (length (needs_of (field_at p f).descriptor))) UninitThis && (nat_eq c (here r).class && nat_eq (field_at p f).class (here r).class)) ≡ b
          → Operands p w (here r) (cond b (Fits UninitThis) (Fits (object_of p c)) ∷ []) us (rest r) ws
          → Row p w (popping ws (λ x left. on_object (with_stack s left) x (λ o. write (place.Field o f) (narrowed (field_at p f).descriptor v) (goes_on p s left))))
      by v ws us a false q o = popping-fits p (Ends p) w ty.linked (Object (name_of p c)) tt o (λ x xs ts h sv m.
          stored_in c f r (with_stack s xs) x (fault_typed p ty r null_pointer_exception xs (thrown p ty.linked null_pointer_exception refl) (rest_of m).range) h.type (writes v xs a (on p ty r refl r.locals (rest_of m))))
      by v ws us a true q o =
          let z = eqb-true (field_at p f).class (here r).class (and_parts (nat_eq c (here r).class) _ (and_parts (same (place_of r.types (length (needs_of (field_at p f).descriptor))) UninitThis) _ q).1).1 in
          popping-fits p (Ends p) w ty.linked UninitThis tt o (λ x xs ts h sv m.
          started_in p ty f (here r) (with_stack s xs) x (subst (λ (y : ℕ). IsClass p y) z (ty.linked.numbers.fields f (names_form p ty r).1)) (names_form p ty r).1 (form_kind p ty r) z h.type (writes v xs a (on p ty r refl r.locals (rest_of m))))
