-- The rows of checkcast and instanceof, and athrow's.
use Rattle.std.proofs.Common.{◌≡◌, ℕ, List, ◌∷◌, true, refl, sym, subst, arith}
use Rattle.jvm_model.specs.declared.{values.Value.Value, values.Kind.Kind, instr.Instr.Instr, program.Program.Program, outcome.Next.TheVariants.Raise}
use Rattle.jvm_model.specs.declared.values.Value.TheVariants as value
use Rattle.jvm_model.specs.declared.instr.Instr.TheVariants as form
use Rattle.jvm_model.specs.{World.World, Entries.Entries, Kinds.kind_fits, Kinds.class_of}
use Rattle.jvm_model.specs.{Builtin.object_class, Builtin.throwable_class, Builtin.class_cast_exception, Builtin.null_pointer_exception, Classes.is_below}
use Rattle.jvm_model.specs.{Rows.constant_kind, Rows.answer, Rows.on_object, Linked.Linked, Linked.IsKind, Access.done}
use Rattle.check_sound.proofs.{Instances.instance_below, Tree.typed_done, Tree.typed_known, Ends.fault_typed, KindNames.kind_instance}
use Rattle.jvm_model.specs.{RowsCasts.cast_to, RowsCasts.cast, RowsCasts.tested, RowsCasts.row_casts, Step.group_of, Step.casts, Step.row_throw}
use Rattle.type_frames.specs.{declared.vtype.VType.TheVariants.Object, Descriptors.name_of, Descriptors.kind_name, StackEffect.sides, Typing.IsTyped}
use Rattle.type_frames.specs.TypedState.{kind_at, IsInstance, RefersTo}
use Rattle.check_sound.proofs.Held.{Is, Held, on_top, int_on}
use Rattle.check_sound.proofs.Operands.{rest_of, popping-fits, head-typed, choose-typed}
use Rattle.check_sound.proofs.Ready.{Ends, Row, Ready, here, rest, operands, on, raised_typed}
use Rattle.check_sound.proofs.{Thrown.builtin_is, Thrown.thrown, Ready.names_form}
use Rattle.check_sound.proofs.LibraryTypes.{constant_is_kind, throwable_plain, no_throwable}

module _ (p : Program) (lk : Linked p) where
  throwable_below : (x : Kind) → IsKind p x → IsInstance p x (name_of p throwable_class) → is_below p (class_of x) throwable_class ≡ true
  throwable_below x h i =
      let b = instance_below p lk x throwable_class h (builtin_is p lk throwable_class (omega arith)) (throwable_plain p lk) i in
      subst (λ (k : Kind). is_below p (class_of k) throwable_class ≡ true) (sym b.is) b.below

module _ (p : Program) (ty : IsTyped p) {w : World} {s : Entries} where
  -- an object that the class or array takes goes on; another throws
  cast_to-typed : (k : Kind) (r : Ready p w s (form.CheckCast k)) (v : Value) (vs : List Value) (x : Kind) → Held p w (here r) (rest r) vs → IsKind p x → (IsInstance p x (kind_name p k) → Held p w (here r) (Object (kind_name p k) ∷ rest r) (v ∷ vs)) → Row p w (cast_to p k s v vs x)
  unfolding sides
  cast_to-typed k r v vs x h i f = choose-typed p (Ends p) w (kind_fits p x k)
      (λ q. on p ty r refl r.locals (f (kind_instance p ty.linked x k i (names_form p ty r) q)))
      (λ q. typed_done (fault_typed p ty r class_cast_exception vs (thrown p ty.linked class_cast_exception refl) h.range))

  cast-typed : (k : Kind) (r : Ready p w s (form.CheckCast k)) (a : List ℕ) (v : Value) (vs : List Value) → Is p w (here r) (Object a) v → Held p w (here r) (rest r) vs → Row p w (cast p k s v vs)
  unfolding sides
  cast-typed k r a value.Null vs i h = on p ty r refl r.locals (on_top tt (record { type = tt; range = tt }) h)
  cast-typed k r a (value.Lit n) vs i h = cast_to-typed k r (value.Lit n) vs (constant_kind n) h (constant_is_kind p ty.linked n) (λ q. on_top tt (record { type = (i.range, q); range = i.range }) h)
  cast-typed k r a (value.Obj o) vs i h = head-typed p (Ends p) w o i.range (λ x.
      cast_to-typed k r (value.Obj o) vs (kind_at w o) h x (λ q. on_top tt (record { type = (i.range, q); range = i.range }) h))
  cast-typed k r a _ vs i h = absurd i.type

  pub check_cast : (k : Kind) → Ready p w s (form.CheckCast k) → Row p w (row_casts p (form.CheckCast k) s)
  unfolding row_casts sides
  check_cast k r = popping-fits p (Ends p) w ty.linked (Object (name_of p object_class)) tt (operands r) (λ v vs us h sv o. cast-typed k r (name_of p object_class) v vs h (rest_of o))

  tested-typed : (k : Kind) (r : Ready p w s (form.InstanceOf k)) (a : List ℕ) (v : Value) (vs : List Value) → Is p w (here r) (Object a) v → Held p w (here r) (rest r) vs → Row p w (tested p k s v vs)
  unfolding sides
  tested-typed k r a value.Null vs i h = on p ty r refl r.locals (int_on h)
  tested-typed k r a (value.Lit n) vs i h = on p ty r refl r.locals (int_on h)
  tested-typed k r a (value.Obj o) vs i h = head-typed p (Ends p) w o i.range (λ x. on p ty r refl r.locals (int_on h))
  tested-typed k r a _ vs i h = absurd i.type

  pub instance_of : (k : Kind) → Ready p w s (form.InstanceOf k) → Row p w (row_casts p (form.InstanceOf k) s)
  unfolding row_casts sides
  instance_of k r = popping-fits p (Ends p) w ty.linked (Object (name_of p object_class)) tt (operands r) (λ v vs us h sv o. tested-typed k r (name_of p object_class) v vs h (rest_of o))

  pub casts-typed : (i : Instr) → group_of i ≡ casts → Ready p w s i → Row p w (row_casts p i s)
  casts-typed (form.CheckCast k) g r = check_cast k r
  casts-typed (form.InstanceOf k) g r = instance_of k r
  casts-typed _ g r = absurd (cc)

  -- athrow
  raises : (r : Ready p w s form.Throw) → (v : Value) → RefersTo p w (name_of p throwable_class) v → Row p w (on_object s v (λ o. done (answer (Raise v) s)))
  raises r value.Null h = typed_done (fault_typed p ty r null_pointer_exception s.top.stack (thrown p ty.linked null_pointer_exception refl) r.stack.range)
  raises r (value.Lit n) h = absurd (no_throwable p ty.linked n h.1)
  raises r (value.Obj o) h = typed_known o h.0 (λ k. typed_done ((h.0, throwable_below p ty.linked (kind_at w o) k h.1), raised_typed p ty r (value.Obj o) s.top.stack r.stack.range))
  raises r _ h = absurd h

  pub throw-typed : Ready p w s form.Throw → Row p w (row_throw s)
  unfolding row_throw sides
  throw-typed r = popping-fits p (Ends p) w ty.linked (Object (name_of p throwable_class)) tt (operands r) (λ v vs us h sv o. raises r v h.type)
