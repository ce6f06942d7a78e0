-- Values with their types and their references in range: one, the locals of a frame, and operands.
use Rattle.std.proofs.Common.{◌≡◌, ℕ, ℤ, List, [], ◌∷◌, map, Bool, true, false, cond, refl, sym, ap, subst}
use Rattle.std.proofs.lemmas.Bool.{and_parts, eqb-true}
use Rattle.jvm_model.specs.declared.{values.Value.Value, values.Kind.Kind, program.Program.Program}
use Rattle.jvm_model.specs.declared.values.Value.TheVariants as value
use Rattle.jvm_model.specs.{World.World, Linked.Linked, Rows.constant_kind}
use Rattle.type_frames.specs.declared.vtype.VType.{VType}
use Rattle.type_frames.specs.declared.vtype.VType.TheVariants.{Top, Int, Long, Null, Object, UninitThis, Uninit}
use Rattle.type_frames.specs.{Frames.same, Environment.Environment, Descriptors.kind_name, Assign.assignable, Rules.fit_all, Rules.turned_one}
use Rattle.type_frames.specs.TypedState.{kind_at, IsInRange, IsInstance, RefersTo, HasType, HaveTypes, HasOnTop, HaveStackTypes}
use Rattle.type_frames.proofs.AssignLaws.{assignable_trans}
use Rattle.et_base.proofs.Texts.{units_true}
use Rattle.check_sound.proofs.{Tree.Over, Grow.Ranged, Grow.types_over, Grow.stack_over, Grow.ranged_over}

-- the value has the type
pub record Is (p : Program) (w : World) (e : Environment) (t : VType) (v : Value) : Type 0 where
  pub type : HasType p w e t v
  pub range : IsInRange p w v

-- the locals have the types, slot by slot
pub record Locals (p : Program) (w : World) (e : Environment) (ts : List VType) (vs : List Value) : Type 0 where
  pub types : HaveTypes p w e ts vs
  pub range : Ranged p w vs

-- the operands have the types, place by place
pub record Held (p : Program) (w : World) (e : Environment) (ts : List VType) (vs : List Value) : Type 0 where
  pub types : HaveStackTypes p w e ts vs
  pub range : Ranged p w vs

-- a value of one place
abbrev pub IsShort : Value → Type 0
IsShort (value.Long n) = ⊥
IsShort v = Unit {0}

module _ {p : Program} {w : World} {e : Environment} where
  pub locals_over : {u : World} {ts : List VType} {vs : List Value} → Over w u → Locals p w e ts vs → Locals p u e ts vs
  locals_over {u = u} {ts = ts} {vs = vs} g i = record { types = types_over p w u g e ts vs i.types; range = ranged_over p w u g vs i.range }

  pub held_over : {u : World} {ts : List VType} {vs : List Value} → Over w u → Held p w e ts vs → Held p u e ts vs
  held_over {u = u} {ts = ts} {vs = vs} g i = record { types = stack_over p w u g e ts vs i.types; range = ranged_over p w u g vs i.range }

  -- one more operand, of one place
  pub on_top : {t : VType} {ts : List VType} {v : Value} {vs : List Value} → IsShort v → Is p w e t v → Held p w e ts vs → Held p w e (t ∷ ts) (v ∷ vs)
  on_top {v = value.Int n} s i h = record { types = (i.type, h.types); range = (i.range, h.range) }
  on_top {v = value.Null} s i h = record { types = (i.type, h.types); range = (i.range, h.range) }
  on_top {v = value.Lit n} s i h = record { types = (i.type, h.types); range = (i.range, h.range) }
  on_top {v = value.Obj o} s i h = record { types = (i.type, h.types); range = (i.range, h.range) }
  on_top {v = value.Long n} s i h = absurd s

  pub int_on : {n : ℤ} {ts : List VType} {vs : List Value} → Held p w e ts vs → Held p w e (Int ∷ ts) (value.Int n ∷ vs)
  int_on h = record { types = (tt, h.types); range = (tt, h.range) }

  pub long_on : {n : ℤ} {ts : List VType} {vs : List Value} → Held p w e ts vs → Held p w e (Top ∷ Long ∷ ts) (value.Long n ∷ vs)
  long_on h = record { types = (tt, h.types); range = (tt, h.range) }

  pub long_top : {ts : List VType} {v : Value} {vs : List Value} → Is p w e Long v → Held p w e ts vs → Held p w e (Top ∷ Long ∷ ts) (v ∷ vs)
  long_top {v = value.Long n} i h = record { types = (tt, h.types); range = (tt, h.range) }
  long_top {v = value.Int n} i h = absurd i.type
  long_top {v = value.Null} i h = absurd i.type
  long_top {v = value.Lit n} i h = absurd i.type
  long_top {v = value.Obj n} i h = absurd i.type

  pub nothing_held : Held p w e [] []
  nothing_held = record { types = refl; range = tt }

-- ---- assignable types

module _ (p : Program) (lk : Linked p) (w : World) (e : Environment) where
  instance_fits : (k : Kind) (a b : List ℕ) → assignable p (Object a) (Object b) ≡ true → IsInstance p k a → IsInstance p k b
  instance_fits k a b f i = assignable_trans p lk (Object (kind_name p k)) (Object a) (Object b) i f

  pub refers_fits : (a b : List ℕ) (v : Value) → assignable p (Object a) (Object b) ≡ true → RefersTo p w a v → RefersTo p w b v
  refers_fits a b value.Null f h = tt
  refers_fits a b (value.Lit n) f h = (h.0, instance_fits (constant_kind n) a b f h.1)
  refers_fits a b (value.Obj o) f h = (h.0, instance_fits (kind_at w o) a b f h.1)
  refers_fits a b _ f h = absurd h

  null_refers : (b : List ℕ) (v : Value) → HasType p w e Null v → RefersTo p w b v
  null_refers b value.Null h = tt
  null_refers b _ h = absurd h

  pub type_fits : (t u : VType) (v : Value) → assignable p t u ≡ true → HasType p w e t v → HasType p w e u v
  type_fits t Top v f h = tt
  type_fits Int Int v f h = h
  type_fits Long Long v f h = h
  type_fits Null Null v f h = h
  type_fits Null (Object b) v f h = null_refers b v h
  type_fits (Object a) (Object b) v f h = refers_fits a b v f h
  type_fits UninitThis UninitThis v f h = h
  type_fits (Uninit a) (Uninit b) v f h = subst (λ (k : ℕ). HasType p w e (Uninit k) v) (eqb-true a b f) h
  type_fits _ _ v f h = absurd (cc)

  pub is_fits : (t u : VType) (v : Value) → assignable p t u ≡ true → Is p w e t v → Is p w e u v
  is_fits t u v f i = record { type = type_fits t u v f i.type; range = i.range }

  types_fit : (ts us : List VType) (vs : List Value) → fit_all p ts us ≡ true → HaveTypes p w e ts vs → HaveTypes p w e us vs
  types_fit [] [] vs f h = h
  types_fit (t ∷ ts) (u ∷ us) [] f h = absurd h
  types_fit (t ∷ ts) (u ∷ us) (v ∷ vs) f h = let q = and_parts _ _ f in (type_fits t u v q.0 h.0, types_fit ts us vs q.1 h.1)
  types_fit _ _ vs f h = absurd (cc)

  pub locals_fit : (ts us : List VType) (vs : List Value) → fit_all p ts us ≡ true → Locals p w e ts vs → Locals p w e us vs
  locals_fit ts us vs f h = record { types = types_fit ts us vs f h.types; range = h.range }

  nil_fits : (ts us : List VType) → fit_all p ts us ≡ true → ts ≡ [] → us ≡ []
  nil_fits [] [] f h = refl
  nil_fits _ _ f h = absurd (cc)

  two_fit : (t : VType) (ts us : List VType) (n : ℤ) (vs : List Value) → fit_all p (Top ∷ t ∷ ts) us ≡ true → HasType p w e t (value.Long n) → ((us : List VType) → fit_all p ts us ≡ true → HaveStackTypes p w e us vs) → HaveStackTypes p w e us (value.Long n ∷ vs)
  two_fit t ts (Top ∷ u ∷ us) n vs f h k = let q = and_parts _ _ f in (type_fits t u (value.Long n) q.0 h, k us q.1)
  two_fit t ts _ n vs f h k = absurd (cc)

  stack_fit : (ts us : List VType) (vs : List Value) → fit_all p ts us ≡ true → HaveStackTypes p w e ts vs → HaveStackTypes p w e us vs
  stack_fit ts us [] f h = nil_fits ts us f h
  stack_fit (Top ∷ t ∷ ts) us (value.Long n ∷ vs) f h = two_fit t ts us n vs f h.0 (λ xs g. stack_fit ts xs vs g h.1)
  stack_fit _ us (value.Long n ∷ vs) f h = absurd h
  stack_fit (t ∷ ts) (u ∷ us) (v ∷ vs) f h = let q = and_parts _ _ f in (type_fits t u v q.0 h.0, stack_fit ts us vs q.1 h.1)
  stack_fit [] us (v ∷ vs) f h = absurd h
  stack_fit (t ∷ ts) [] (v ∷ vs) f h = absurd (cc)

  pub held_fits : (ts us : List VType) (vs : List Value) → fit_all p ts us ≡ true → Held p w e ts vs → Held p w e us vs
  held_fits ts us vs f h = record { types = stack_fit ts us vs f h.types; range = h.range }

-- ---- all places of one type become another

pub same_is : (t u : VType) → same t u ≡ true → t ≡ u
same_is Top Top e = refl
same_is Int Int e = refl
same_is Long Long e = refl
same_is Null Null e = refl
same_is (Object a) (Object b) e = ap {B = VType} (λ k. Object k) (units_true a b e)
same_is UninitThis UninitThis e = refl
same_is (Uninit a) (Uninit b) e = ap {B = VType} (λ k. Uninit k) (eqb-true a b e)
same_is _ _ e = absurd (cc)

module _ (p : Program) (w : World) (e : Environment) (a b : VType) (k : (v : Value) → HasType p w e a v → HasType p w e b v) where
  turned_type : (t : VType) (v : Value) → HasType p w e t v → HasType p w e (turned_one a b t) v
  turned_type t v h = by (same t a) refl
    where
      by : (x : Bool) → same t a ≡ x → HasType p w e (cond x b t) v
      by true q = k v (subst (λ (u : VType). HasType p w e u v) (same_is t a q) h)
      by false q = h

  turned_types : (ts : List VType) (vs : List Value) → HaveTypes p w e ts vs → HaveTypes p w e (map (turned_one a b) ts) vs
  turned_types [] [] h = tt
  turned_types (t ∷ ts) (v ∷ vs) h = (turned_type t v h.0, turned_types ts vs h.1)
  turned_types _ _ h = absurd h

  pub locals_turned : {ts : List VType} {vs : List Value} → Locals p w e ts vs → Locals p w e (map (turned_one a b) ts) vs
  locals_turned {ts = ts} {vs = vs} h = record { types = turned_types ts vs h.types; range = h.range }

  turned_stack : same Top a ≡ false → (ts : List VType) (vs : List Value) → HaveStackTypes p w e ts vs → HaveStackTypes p w e (map (turned_one a b) ts) vs
  turned_stack n [] [] h = refl
  turned_stack n (t ∷ ts) [] h = absurd (cc)
  turned_stack n (Top ∷ u ∷ ts) (value.Long i ∷ vs) h = subst (λ (x : Bool). HasOnTop p w e (value.Long i) (cond x b Top ∷ map (turned_one a b) (u ∷ ts)) (λ us. HaveStackTypes p w e us vs)) (sym n) (turned_type u (value.Long i) h.0, turned_stack n ts vs h.1)
  turned_stack n _ (value.Long i ∷ vs) h = absurd h
  turned_stack n (t ∷ ts) (v ∷ vs) h = (turned_type t v h.0, turned_stack n ts vs h.1)
  turned_stack n [] (v ∷ vs) h = absurd h

  pub held_turned : {ts : List VType} {vs : List Value} → same Top a ≡ false → Held p w e ts vs → Held p w e (map (turned_one a b) ts) vs
  held_turned {ts = ts} {vs = vs} n h = record { types = turned_stack n ts vs h.types; range = h.range }
