-- What has a type keeps it where there are more objects.
use Rattle.std.proofs.Common.{◌≡◌, ℕ, ◌<◌, List, [], ◌∷◌, true, refl, sym, ◌∙◌, ap, subst, arith}
use Rattle.jvm_model.specs.declared.{values.Value.Value, values.Kind.Kind, values.Head.Head, program.Program.Program}
use Rattle.jvm_model.specs.declared.values.Value.TheVariants as value
use Rattle.jvm_model.specs.{World.World, World.size, Builtin.throwable_class, Classes.is_below, Kinds.class_of}
use Rattle.type_frames.specs.{declared.vtype.VType.VType, Environment.Environment, Environment.made_at, Descriptors.types_of, StackEffect.is_that}
use Rattle.type_frames.specs.declared.vtype.VType.TheVariants.{Top, Int, Long, Null, Object, UninitThis, Uninit}
use Rattle.type_frames.specs.TypedState.{kind_at, IsInRange, IsInstance, RefersTo, is_class_with, HasType, HaveTypes, HaveStackTypes, IsReferenceOf, IsDeclared, IsThrowable}
use Rattle.check_sound.proofs.Tree.{Over, Alike}

-- the references are in range
abbrev pub Ranged : Program → World → List Value → Type 0
Ranged p w [] = Unit {0}
Ranged p w (v ∷ vs) = IsInRange p w v × Ranged p w vs

pub over_itself : (w : World) → Over w w
over_itself w = record { sizes = omega arith; heads = λ o h. refl }

pub over_then : (u v w : World) → Over u v → Over v w → Over u w
over_then u v w a b = record { sizes = (let x = a.sizes in let y = b.sizes in omega arith); heads = λ o h. b.heads o (let x = a.sizes in omega arith) ∙ a.heads o h }

pub alike_over : (u w : World) → Alike u w → Over u w
alike_over u w a = record { sizes = (let e = a.sizes in omega arith); heads = λ o h. sym (a.heads o) }

pub alike_back : (u w : World) → Alike u w → Alike w u
alike_back u w a = record { sizes = sym a.sizes; heads = λ o. sym (a.heads o); states = λ c. sym (a.states c) }

module _ (p : Program) (u w : World) (g : Over u w) where
  pub kind_over : (o : ℕ) → o < size u → kind_at u o ≡ kind_at w o
  kind_over o h = ap (λ (z : Head). z.kind) (sym (g.heads o h))

  within : (o : ℕ) → o < size u → o < size w
  within o h = let s = g.sizes in omega arith

  pub refers_over : (a : List ℕ) (v : Value) → RefersTo p u a v → RefersTo p w a v
  refers_over a value.Null h = tt
  refers_over a (value.Lit n) h = h
  refers_over a (value.Obj o) h = (within o h.0, subst (λ (k : Kind). IsInstance p k a) (kind_over o h.0) h.1)
  refers_over a _ h = absurd h

  pub range_over : (v : Value) → IsInRange p u v → IsInRange p w v
  range_over (value.Obj o) h = within o h
  range_over (value.Lit n) h = h
  range_over _ h = tt

  pub ranged_over : (vs : List Value) → Ranged p u vs → Ranged p w vs
  ranged_over [] h = tt
  ranged_over (v ∷ vs) h = (range_over v h.0, ranged_over vs h.1)

  pub type_over : (e : Environment) (t : VType) (v : Value) → HasType p u e t v → HasType p w e t v
  type_over e Top v h = tt
  type_over e (Object a) v h = refers_over a v h
  type_over e Int (value.Int n) h = tt
  type_over e Long (value.Long n) h = tt
  type_over e Null value.Null h = tt
  type_over e UninitThis (value.Obj o) h = (within o h.0, subst (λ (k : Kind). is_class_with (λ c. is_below p c e.class) k ≡ true) (kind_over o h.0) h.1)
  type_over e (Uninit pc) (value.Obj o) h = (within o h.0, subst (λ (k : Kind). is_class_with (λ c. is_that c (made_at e pc)) k ≡ true) (kind_over o h.0) h.1)
  type_over e _ _ h = absurd h

  pub types_over : (e : Environment) (ts : List VType) (vs : List Value) → HaveTypes p u e ts vs → HaveTypes p w e ts vs
  types_over e [] [] h = tt
  types_over e (t ∷ ts) (v ∷ vs) h = (type_over e t v h.0, types_over e ts vs h.1)
  types_over e _ _ h = absurd h

  pub stack_over : (e : Environment) (ts : List VType) (vs : List Value) → HaveStackTypes p u e ts vs → HaveStackTypes p w e ts vs
  stack_over e ts [] h = h
  stack_over e (Top ∷ t ∷ ts) (value.Long n ∷ vs) h = (type_over e t (value.Long n) h.0, stack_over e ts vs h.1)
  stack_over e _ (value.Long n ∷ vs) h = absurd h
  stack_over e (t ∷ ts) (v ∷ vs) h = (type_over e t v h.0, stack_over e ts vs h.1)
  stack_over e [] (v ∷ vs) h = absurd h

  reference_over : (ts : List VType) (v : Value) → IsReferenceOf p u ts v → IsReferenceOf p w ts v
  reference_over (Object a ∷ []) v h = refers_over a v h
  reference_over _ v h = absurd h

  pub declared_over : (d : List ℕ) (v : Value) → IsDeclared p u d v → IsDeclared p w d v
  declared_over d (value.Int n) h = h
  declared_over d (value.Long n) h = h
  declared_over d v h = reference_over (types_of d) v h

  pub throwable_over : (v : Value) → IsThrowable p u v → IsThrowable p w v
  throwable_over (value.Obj o) h = (within o h.0, subst (λ (k : Kind). is_below p (class_of k) throwable_class ≡ true) (kind_over o h.0) h.1)
  throwable_over _ h = absurd h
