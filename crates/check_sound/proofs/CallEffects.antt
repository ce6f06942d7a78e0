-- What a call leaves of the frame of types, and the values that it gives.
use Rattle.std.proofs.Common.{◌≡◌, ℕ, ◌≤◌, List, [], ◌∷◌, ◌++◌, length, drop, Bool, true, false, Option, Some, refl, sym, ◌∙◌, subst, arith}
use Rattle.std.specs.Prelude.{slice_index_or}
use Rattle.std.proofs.lemmas.{List.length-append, List.length-reverse, Option.same_Some, Bool.and_parts, Bool.eqb-true, Bool.leb-true}
use Rattle.std.specs.Str.{bytes_eq}
use Rattle.jvm_model.specs.declared.{values.Value.Value, values.Kind.Kind, instr.Instr.Instr, program.Program.Program, program.MethodRec.MethodRec}
use Rattle.jvm_model.specs.declared.values.Value.TheVariants as value
use Rattle.jvm_model.specs.declared.values.Kind.TheVariants as kind
use Rattle.jvm_model.specs.declared.instr.Instr.TheVariants as form
use Rattle.jvm_model.specs.{declared.program.Placed.Placed, World.World, Linked.Linked, Linked.IsClass, Narrow.narrow, Narrow.narrowed}
use Rattle.jvm_model.specs.Classes.{method_at, init_name, is_below}
use Rattle.type_frames.specs.declared.{vtype.VType.VType, stack_effect.OperandConstraint.OperandConstraint, stack_effect.OperandConstraint.TheVariants.Raw}
use Rattle.type_frames.specs.declared.vtype.VType.TheVariants.{Top, Int, Long, Object, UninitThis, Uninit}
use Rattle.type_frames.specs.{declared.stack_effect.StackEffect.StackEffect, Frames.Slots, Frames.same, Frames.places_of, Frames.spread}
use Rattle.type_frames.specs.{Rules.meets, Rules.meet_all, Rules.turned, Rules.after, Descriptors.name_of, Environment.Environment, Environment.made_at}
use Rattle.type_frames.specs.StackEffect.{sides, place_of, on_stack, argument_needs, result_types, call_sides, is_that, is_start, started, init_sides, special_sides, special_need, is_raw}
use Rattle.type_frames.specs.TypedState.{HaveStackTypes, kind_at, IsInRange, IsInstance, is_class_with, HasType, called_by}
use Rattle.check_sound.proofs.Held.{Locals, Held, on_top, int_on, long_on, locals_turned, held_turned}
use Rattle.check_sound.proofs.{Arrive.Kept, Instances.instance_itself, Instances.below_is, Ready.HasPlain}

-- what these sides of a call of the method do to locals and operands
pub record CallEffects (p : Program) (e : Environment) (f : Slots) (s : StackEffect) (m : MethodRec) : Type 0 where
  pub falls : s.falls ≡ true
  pub gives : s.gives ≡ result_types m.descriptor
  pub locals : (w : World) (ls : List Value) → Locals p w e f.locals ls → Locals p w e (after f s).locals ls
  pub stack : (w : World) (vs : List Value) → Held p w e (drop (length s.takes) f.stack) vs → Held p w e (turned s.turn (drop (length s.takes) f.stack)) vs

module _ (p : Program) (lk : Linked p) where
  plain_call : (e : Environment) (f : Slots) (m : MethodRec) (ns : List OperandConstraint) → CallEffects p e f (call_sides m ns) m
  plain_call e f m ns = record { falls = refl; gives = refl; locals = λ w ls h. h; stack = λ w vs h. h }

  -- an uninitialised object becomes one of its class
  start_of : (w : World) (c : ℕ) (x : Option ℕ) (k : Kind) → IsClass p c → is_that c x ≡ true → is_class_with (λ d. is_that d x) k ≡ true → IsInstance p k (name_of p c)
  start_of w c (Some d) (kind.Class k) h a b = subst (λ (x : ℕ). IsInstance p (kind.Class x) (name_of p c)) (eqb-true c d a ∙ sym (eqb-true k d b)) (instance_itself p lk c h)
  start_of w c _ _ h a b = absurd (cc)

  pub this_of : (c : ℕ) (k : Kind) → IsClass p c → is_class_with (λ d. is_below p d c) k ≡ true → IsInstance p k (name_of p c)
  this_of c (kind.Class d) h b = below_is p lk d c h b
  this_of c (kind.Array n b) h q = absurd (cc)

  starts : (w : World) (e : Environment) (c : ℕ) (t : VType) → IsClass p c → IsClass p e.class → is_start p e c t ≡ true → (v : Value) → HasType p w e t v → HasType p w e (started p e c t) v
  starts w e c UninitThis h g q (value.Obj o) i = (i.0, this_of e.class (kind_at w o) g i.1)
  starts w e c (Uninit pc) h g q (value.Obj o) i = (i.0, start_of w c (made_at e pc) (kind_at w o) h q i.1)
  starts w e c UninitThis h g q v i = absurd i
  starts w e c (Uninit pc) h g q v i = absurd i
  starts w e c _ h g q v i = absurd (cc)

  -- the need below others
  pub meet_at : (ns : List OperandConstraint) (n : OperandConstraint) (ts : List VType) → length (ns ++ n ∷ []) ≤ length ts → meet_all p (ns ++ n ∷ []) ts ≡ true → meets p n (slice_index_or ts (length ns) Top) ≡ true
  meet_at [] n [] h m = absurd (omega arith)
  meet_at [] n (t ∷ ts) h m = (and_parts (meets p n t) (meet_all p [] ts) m).0
  meet_at (k ∷ ns) n [] h m = absurd (omega arith)
  meet_at (k ∷ ns) n (t ∷ ts) h m = meet_at ns n ts (omega arith) (and_parts (meets p k t) (meet_all p (ns ++ n ∷ []) ts) m).1

  not_top : (t : VType) → is_raw t ≡ true → same Top t ≡ false
  not_top Top m = absurd (cc)
  not_top _ m = refl

  init_call : (e : Environment) (f : Slots) (m : MethodRec) → IsClass p m.class → IsClass p e.class → (let t = place_of f (length (argument_needs m.descriptor)) in is_start p e m.class t ≡ true) → is_raw (place_of f (length (argument_needs m.descriptor))) ≡ true
      → CallEffects p e f (init_sides p e f m (place_of f (length (argument_needs m.descriptor)))) m
  init_call e f m h g q r =
      let t = place_of f (length (argument_needs m.descriptor)) in
      record {
        falls = refl;
        gives = refl;
        locals = λ w ls i. locals_turned p w e t (started p e m.class t) (starts w e m.class t h g q) i;
        stack = λ w vs i. held_turned p w e t (started p e m.class t) (starts w e m.class t h g q) (not_top t r) i;
      }

  special_call : (e : Environment) (f : Slots) (k : Kind) (m : MethodRec) → IsClass p m.class → IsClass p e.class → (special_sides p e f k m).starts_well ≡ true → length (special_sides p e f k m).takes ≤ length f.stack → meet_all p (special_sides p e f k m).takes f.stack ≡ true → CallEffects p e f (special_sides p e f k m) m
  special_call e f k m h g = by (bytes_eq m.name init_name)
    where
      sides_by : Bool → StackEffect
      sides_by b = elim b as (λ x. StackEffect) [ true ↦ init_sides p e f m (place_of f (length (argument_needs m.descriptor))) | false ↦ call_sides m (special_need p e k ∷ []) ]

      by : (b : Bool) → (elim b as (λ x. StackEffect) [ true ↦ init_sides p e f m (place_of f (length (argument_needs m.descriptor))) | false ↦ call_sides m (special_need p e k ∷ []) ]).starts_well ≡ true
          → length (elim b as (λ x. StackEffect) [ true ↦ init_sides p e f m (place_of f (length (argument_needs m.descriptor))) | false ↦ call_sides m (special_need p e k ∷ []) ]).takes ≤ length f.stack
          → meet_all p (elim b as (λ x. StackEffect) [ true ↦ init_sides p e f m (place_of f (length (argument_needs m.descriptor))) | false ↦ call_sides m (special_need p e k ∷ []) ]).takes f.stack ≡ true
          → CallEffects p e f (elim b as (λ x. StackEffect) [ true ↦ init_sides p e f m (place_of f (length (argument_needs m.descriptor))) | false ↦ call_sides m (special_need p e k ∷ []) ]) m
      by true q l t = init_call e f m h g q (meet_at (argument_needs m.descriptor) Raw f.stack l t)
      by false q l t = plain_call e f m (special_need p e k ∷ [])

  pub call_of : (e : Environment) (k : ℕ) (x : Placed) (f : Slots) (m : ℕ) → called_by x.form ≡ Some m → IsClass p (method_at p m).class → IsClass p e.class → Kept p e k x f (sides p e x.pc f x.form) → CallEffects p e f (sides p e x.pc f x.form) (method_at p m)
  unfolding sides
  call_of e k x f m c h g q = by x.form c q
    where
      by : (i : Instr) → called_by i ≡ Some m → Kept p e k x f (sides p e x.pc f i) → CallEffects p e f (sides p e x.pc f i) (method_at p m)
      by (form.InvokeVirtual t n) c q = subst (λ (y : ℕ). CallEffects p e f (sides p e x.pc f (form.InvokeVirtual t n)) (method_at p y)) (same_Some _ _ c) (plain_call e f (method_at p n) _)
      by (form.InvokeStatic n) c q = subst (λ (y : ℕ). CallEffects p e f (sides p e x.pc f (form.InvokeStatic n)) (method_at p y)) (same_Some _ _ c) (plain_call e f (method_at p n) _)
      by (form.InvokeInterface t n) c q = subst (λ (y : ℕ). CallEffects p e f (sides p e x.pc f (form.InvokeInterface t n)) (method_at p y)) (same_Some _ _ c) (plain_call e f (method_at p n) _)
      by (form.InvokeSpecial t n) c q =
          let z : n ≡ m = same_Some _ _ c in
          subst (λ (y : ℕ). CallEffects p e f (sides p e x.pc f (form.InvokeSpecial t n)) (method_at p y)) z
          (special_call e f t (method_at p n) (subst (λ (y : ℕ). IsClass p (method_at p y).class) (sym z) h) g q.seven (leb-true _ _ (and_parts _ _ q.one).0) q.two)
      by _ c q = absurd (cc)

-- ---- results

-- one value of the type of a result, or none
abbrev pub Result : Program → World → List VType → List Value → Type 0
Result p w [] vs = vs ≡ []
Result p w (t ∷ []) (v ∷ []) = HasPlain p w t v × IsInRange p w v
Result p w ts vs = ⊥

narrow_plain : (p : Program) (w : World) (t : VType) (u : ℕ) (v : Value) → HasPlain p w t v → HasPlain p w t (narrow u v)
unfolding narrow
narrow_plain p w Int u (value.Int n) h = tt
narrow_plain p w (Object a) u (value.Int n) h = absurd h
narrow_plain p w Long u (value.Int n) h = absurd h
narrow_plain p w _ u _ h = h

pub narrowed_plain : (p : Program) (w : World) (t : VType) (d : List ℕ) (v : Value) → HasPlain p w t v → HasPlain p w t (narrowed d v)
narrowed_plain p w t [] v h = h
narrowed_plain p w t (u ∷ us) v h = narrow_plain p w t u v h

narrow_range : (p : Program) (w : World) (u : ℕ) (v : Value) → IsInRange p w v → IsInRange p w (narrow u v)
unfolding narrow
narrow_range p w u (value.Int n) h = tt
narrow_range p w u _ h = h

pub narrowed_range : (p : Program) (w : World) (d : List ℕ) (v : Value) → IsInRange p w v → IsInRange p w (narrowed d v)
narrowed_range p w [] v h = h
narrowed_range p w (u ∷ us) v h = narrow_range p w u v h

-- a result on operands
pub push : (p : Program) (w : World) (e : Environment) (ts us : List VType) (vs ws : List Value) → Result p w ts vs → Held p w e us ws → Held p w e (on_stack ts ++ us) (vs ++ ws)
push p w e [] us [] ws r h = h
push p w e [] us (v ∷ vs) ws r h = absurd (cc)
push p w e (Int ∷ []) us (value.Int n ∷ []) ws r h = int_on h
push p w e (Long ∷ []) us (value.Long n ∷ []) ws r h = long_on h
push p w e (Object a ∷ []) us (value.Null ∷ []) ws r h = on_top tt (record { type = r.0; range = r.1 }) h
push p w e (Object a ∷ []) us (value.Lit n ∷ []) ws r h = on_top tt (record { type = r.0; range = r.1 }) h
push p w e (Object a ∷ []) us (value.Obj n ∷ []) ws r h = on_top tt (record { type = r.0; range = r.1 }) h
push p w e (_ ∷ []) us (_ ∷ []) ws r h = absurd r.0
push p w e _ us _ ws r h = absurd r

-- there are no more values than places
pub values_few : (p : Program) (w : World) (e : Environment) (ts : List VType) (vs : List Value) → HaveStackTypes p w e ts vs → length vs ≤ length ts
values_few p w e ts [] h = omega arith
values_few p w e (Top ∷ t ∷ ts) (value.Long n ∷ vs) h = let q = values_few p w e ts vs h.1 in omega arith
values_few p w e _ (value.Long n ∷ vs) h = absurd h
values_few p w e (t ∷ ts) (_ ∷ vs) h = let q = values_few p w e ts vs h.1 in omega arith
values_few p w e _ _ h = absurd h

pub on_stack_length : (ts : List VType) → length ts ≤ length (on_stack ts)
on_stack_length ts = let a = length-reverse (spread ts) in let b = spread_length ts in omega arith
  where
    one : (t : VType) → 1 ≤ length (places_of t)
    one Long = omega arith
    one _ = omega arith

    spread_length : (ts : List VType) → length ts ≤ length (spread ts)
    spread_length [] = omega arith
    spread_length (t ∷ ts) = let a = one t in let b = spread_length ts in let c = length-append (places_of t) (spread ts) in omega arith
