-- The rows of new, newarray, anewarray and multianewarray.
use Rattle.std.proofs.Common.{◌≡◌, ℕ, ℤ, zero, suc, ◌+◌, ◌≤◌, List, [], ◌∷◌, get_or, true, false, pos, negsuc, nat_eq, Option, Some, slice_get, refl, sym, ◌∙◌, ap, subst, arith, inl, inr}
use Rattle.std.specs.List.{position_from}
use Rattle.std.proofs.lemmas.{Bool.cases_Bool, Bool.eqb-true, Bool.eq-eqb, Option.slice_get_within, Option.get_or_from_slice_get}
use Rattle.jvm_model.specs.declared.{values.Value.Value, values.Kind.Kind, values.Head.Head, program.Program.Program, program.Placed.Placed}
use Rattle.jvm_model.specs.declared.values.Value.TheVariants as value
use Rattle.jvm_model.specs.declared.values.Kind.TheVariants as kind
use Rattle.jvm_model.specs.declared.values.Location.TheVariants as place
use Rattle.jvm_model.specs.declared.instr.Instr.TheVariants as form
use Rattle.jvm_model.specs.{World.World, World.size, World.make_object, Entries.Entries, Linked.IsKind, Linked.IsArray, Linked.Ascends}
use Rattle.jvm_model.specs.{World.Object as Made, Builtin.instantiation_error, Builtin.negative_size_exception, Classes.blank, Classes.instance_head}
use Rattle.jvm_model.specs.RowsCreate.{new_object, is_bare, array_head, new_array, row_create}
use Rattle.jvm_model.proofs.{Places.places_from, Locations.at_make_new, Locations.size_make}
use Rattle.check_sound.proofs.{KindNames.kind_itself, Arrive.is_body, Onward.grows_make, Onward.ready_grows, Tree.typed_done, Tree.typed_make, Tree.typed_spend}
use Rattle.type_frames.specs.declared.vtype.VType.TheVariants.{Top, Int, Object, Uninit}
use Rattle.type_frames.specs.{Frames.index_of, Given.places, Descriptors.kind_name, StackEffect.sides, StackEffect.is_that, Typing.IsTyped}
use Rattle.type_frames.specs.Environment.{Environment, found_at, class_made, made_at}
use Rattle.type_frames.specs.TypedState.{kind_at, IsInstance, is_class_with, HasType}
use Rattle.check_sound.proofs.Operands.{rest_of, popping-fits, on_int-typed, choose-typed}
use Rattle.check_sound.proofs.Held.{Is, Held, on_top, locals_over, held_over, locals_turned, held_turned}
use Rattle.check_sound.proofs.{Ends.fault_typed, Ends.using-typed, Ends.new_kind, Thrown.thrown, Blank.blank_new}
use Rattle.check_sound.proofs.Ready.{Ends, Row, Ready, here, rest, operands, on, names_form}

-- ---- the class that a `new` names

first_place : (n i : ℕ) (xs : List Placed) (k : ℕ) (x : Placed) → Ascends n xs → slice_get xs k ≡ Some x → position_from (λ m. nat_eq m x.pc) i (places xs) ≡ Some (i + k)
first_place n i [] k x a e = absurd (cc)
first_place n i (y ∷ ys) zero x a e =
    let q : y ≡ x = cc in
    rw (eq-eqb y.pc x.pc (ap (λ (z : Placed). z.pc) q)) (ap {B = Option ℕ} (λ j. Some j) (omega arith))
first_place n i (y ∷ ys) (suc k) x a e =
    let d = places_from ys (y.pc + 1) k x a.1 (slice_get_within ys k x e) in
    let g : get_or ys k x ≡ x = get_or_from_slice_get ys k x x e in
    let far : y.pc + 1 ≤ x.pc = subst (λ (z : Placed). y.pc + 1 ≤ z.pc) g d in
    let ne : nat_eq y.pc x.pc ≡ false = differ y.pc x.pc far in
    rw ne (first_place (y.pc + 1) (i + 1) ys k x a.1 e ∙ ap {B = Option ℕ} (λ j. Some j) (omega arith))
  where
    differ : (a b : ℕ) → a + 1 ≤ b → nat_eq a b ≡ false
    differ a b h = elim (cases_Bool (nat_eq a b)) [ inl q ↦ absurd (let z = eqb-true a b q in omega arith) | inr q ↦ q ]

module _ (p : Program) (ty : IsTyped p) where
  -- a new object of a kind
  made_type : (w : World) (k : Kind) (x : Made) (e : Environment) → IsKind p k → x.head.kind ≡ k → Is p (make_object w x) e (Object (kind_name p k)) (value.Obj (size w))
  made_type w k x e h q =
      let z = size_make w x in
      let is : kind_at (make_object w x) (size w) ≡ k = ap (λ (z : Head). z.kind) (at_make_new w x (place.Head (size w)) refl) ∙ q in
      record { type = ((omega arith), subst (λ (y : Kind). IsInstance p y (kind_name p k)) (sym is) (kind_itself p ty.linked k h)); range = omega arith }

module _ (p : Program) (ty : IsTyped p) {w : World} {s : Entries} where
  made_here : (c : ℕ) (r : Ready p w s (form.New c)) → made_at (here r) s.top.pc ≡ Some c
  unfolding made_at index_of
  made_here c r =
      let x : Placed = record { pc = s.top.pc; form = form.New c } in
      let a = (is_body p ty s.top.number r.body r.given r.has_code r.has_frames).ascending in
      let q : 0 + r.index ≡ r.index = omega arith in
      ap (λ (i : Option ℕ). class_made (found_at r.body.code i)) (first_place 0 0 r.body.code r.index x a r.there ∙ ap {B = Option ℕ} (λ j. Some j) q) ∙ ap class_made r.there

  -- what was made, uninitialised
  new_type : (c : ℕ) (r : Ready p w s (form.New c)) (x : Made) → x.head.kind ≡ kind.Class c → HasType p (make_object w x) (here r) (Uninit s.top.pc) (value.Obj (size w))
  new_type c r x e = (
    (let z = size_make w x in omega arith),
    subst (λ (k : Kind). is_class_with (λ d. is_that d (made_at (here r) s.top.pc)) k ≡ true) (sym (new_kind p w c x e))
        (subst (λ (o : Option ℕ). is_that c o ≡ true) (sym (made_here c r)) (eq-eqb c c refl)),
  )

  new_object-typed : (c : ℕ) → Ready p w s (form.New c) → Row p w (new_object p c s)
  unfolding new_object blank sides ready_grows
  new_object-typed c r =
      let x = blank p (instance_head c) in
      let v = make_object w x in
      let g = ready_grows (grows_make p w x) r in
      let i = new_type c r x refl in
      typed_spend (typed_make (blank_new p ty w (instance_head c) (names_form p ty r)) (on p ty g refl
      (locals_turned p v (here r) (Uninit s.top.pc) Top (λ v h. tt) g.locals)
      (on_top tt (record { type = i; range = i.0 }) (held_turned p v (here r) (Uninit s.top.pc) Top (λ v h. tt) refl g.stack))))

  pub new : (c : ℕ) → Ready p w s (form.New c) → Row p w (row_create p (form.New c) s)
  unfolding row_create
  new c r = choose-typed p (Ends p) w (is_bare p c)
      (λ q. typed_done (fault_typed p ty r instantiation_error s.top.stack (thrown p ty.linked instantiation_error refl) r.stack.range))
      (λ q. using-typed p ty r c (names_form p ty r) (new_object-typed c r))

  -- ---- arrays

  sized_array : (k : Kind) (r : Ready p w s (form.NewArray k)) (vs : List Value) → IsKind p k → Held p w (here r) (rest r) vs → (n : ℤ) → Row p w (new_array p k s vs n)
  unfolding blank sides ready_grows
  sized_array k r vs h i (pos n) =
      let x = blank p (array_head k n) in
      let g = grows_make p w x in
      typed_spend (typed_make (blank_new p ty w (array_head k n) h) (on p ty (ready_grows g r) refl (locals_over g.over r.locals)
      (on_top tt (made_type p ty w k x (here r) h refl) (held_over g.over i))))
  sized_array k r vs h i (negsuc n) = typed_done (fault_typed p ty r negative_size_exception vs (thrown p ty.linked negative_size_exception refl) i.range)

  pub new_array-typed : (k : Kind) → Ready p w s (form.NewArray k) → Row p w (row_create p (form.NewArray k) s)
  unfolding row_create sides
  new_array-typed k r = popping-fits p (Ends p) w ty.linked Int tt (operands r) (λ v vs us h sv o. on_int-typed p (Ends p) w v h (λ n.
      sized_array k r vs (array_kind k (names_form p ty r)) (rest_of o) n))
    where
      array_kind : (k : Kind) → IsArray p k → IsKind p k
      array_kind (kind.Array d b) h = h
      array_kind (kind.Class c) h = absurd h
