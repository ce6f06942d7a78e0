-- The rows of moves: constants, loads, stores, moves of operands and monitors.
use Rattle.std.proofs.Common.{◌≡◌, ℕ, zero, suc, ◌+◌, ◌<◌, List, [], ◌∷◌, ◌++◌, length, Bool, true, false, ◌&&◌, cond, nat_eq, nat_lt, Option, Some, slice_get, slice_set, set, refl, sym, ◌∙◌, ap, subst, arith, inl, inr, append-nil}
use Rattle.std.specs.Prelude.{slice_index_or}
use Rattle.std.proofs.lemmas.Bool.{and_parts, cases_Bool, eqb-true, ltb-true, lt-ltb}
use Rattle.jvm_model.specs.{Builtin.null_pointer_exception, Builtin.string_class, Builtin.stream_class, Step.group_of, Step.moves}
use Rattle.jvm_model.specs.{Classes.method_at, Linked.Linked, Linked.IsLiteral, Rows.goes_on, World.World, Entries.Entries, Entries.with_stack}
use Rattle.jvm_model.specs.declared.values.Kind.TheVariants as kind
use Rattle.jvm_model.specs.declared.{instr.Sort.Sort, instr.Instr.Instr, values.Value.Value, program.Program.Program}
use Rattle.type_frames.specs.declared.stack_effect.{OperandConstraint.OperandConstraint, Reading.Reading}
use Rattle.type_frames.specs.declared.stack_effect.OperandConstraint.TheVariants.{Fits, One, Half, Ref}
use Rattle.type_frames.specs.Rules.{meets, is_ref, cut_long, set_one, is_read, all_read}
use Rattle.type_frames.specs.TypedState.{IsInRange, IsInstance, RefersTo, HasType, HaveTypes}
use Rattle.check_sound.proofs.{Wide.wide_before, Instances.instance_itself, Grow.Ranged, Ends.fault_typed, Thrown.builtin_is, Thrown.thrown}
use Rattle.jvm_model.specs.declared.values.Value.TheVariants as value
use Rattle.jvm_model.specs.declared.instr.Instr.TheVariants as form
use Rattle.jvm_model.specs.declared.instr.Sort.TheVariants as sort
use Rattle.jvm_model.specs.RowsMoves.{row_moves, is_long, loaded, stored}
use Rattle.type_frames.specs.{declared.vtype.VType.VType, Descriptors.name_of, Environment.Environment, Frames.same, Frames.top_of, Typing.IsTyped}
use Rattle.type_frames.specs.declared.vtype.VType.TheVariants.{Top, Int, Long}
use Rattle.type_frames.specs.StackEffect.{sides, two, long_need, setting, reading}
use Rattle.check_sound.proofs.Tree.{typed_done}
use Rattle.check_sound.proofs.Held.{Is, is_fits, Held, Locals, IsShort, on_top, int_on, long_on, long_top}
use Rattle.check_sound.proofs.Operands.{Operands, rest_of, popping-seen, popping-long-seen, popping-typed, popping-fits, popping-long, on_reference-typed, choose-typed, IsNullable}
use Rattle.check_sound.proofs.Ready.{Ends, Row, Ready, here, sides_at, then, rest, operands, on, next_typed, is_form, names_form, reads_kept, sets_kept}

-- ---- locals

-- a need that no unknown place meets
abbrev pub IsSure : Program → OperandConstraint → Type 0
IsSure p n = meets p n Top ≡ true → ⊥

local_type : (p : Program) (w : World) (e : Environment) (ts : List VType) (vs : List Value) (n : ℕ) (u : OperandConstraint) → IsSure p u → HaveTypes p w e ts vs → Ranged p w vs → meets p u (slice_index_or ts n Top) ≡ true
    → (v : Value) × (slice_get vs n ≡ Some v) × Is p w e (slice_index_or ts n Top) v
local_type p w e [] vs n u d h g m = absurd (d m)
local_type p w e (t ∷ ts) [] n u d h g m = absurd h
local_type p w e (t ∷ ts) (v ∷ vs) zero u d h g m = (v, refl, record { type = h.0; range = g.0 })
local_type p w e (t ∷ ts) (v ∷ vs) (suc n) u d h g m = local_type p w e ts vs n u d h.1 g.1 m

ref_short : (p : Program) (w : World) (e : Environment) (t : VType) (v : Value) → is_ref t ≡ true → HasType p w e t v → IsShort v
ref_short p w e Top v m h = absurd (cc)
ref_short p w e Int v m h = absurd (cc)
ref_short p w e Long v m h = absurd (cc)
ref_short p w e _ (value.Long n) m h = h
ref_short p w e _ _ m h = tt

-- a value of a type of one place
short_type : (p : Program) (w : World) (e : Environment) (v : Value) → Is p w e Int v → IsShort v
short_type p w e (value.Long n) h = absurd h.type
short_type p w e _ h = tt

long_true : {p : Program} {w : World} {e : Environment} {v : Value} → Is p w e Long v → is_long v ≡ true
long_true {v = value.Long n} h = refl
long_true {v = value.Int n} h = absurd h.type
long_true {v = value.Null} h = absurd h.type
long_true {v = value.Lit n} h = absurd h.type
long_true {v = value.Obj n} h = absurd h.type

short_false : (v : Value) → IsShort v → is_long v ≡ false
short_false (value.Long n) h = absurd h
short_false _ h = refl

true_false : {b : Bool} {A : Type 0} → b ≡ true → b ≡ false → A
true_false e f = absurd (cc)

ref_nullable : (p : Program) (w : World) (e : Environment) (t : VType) (v : Value) → is_ref t ≡ true → HasType p w e t v → IsNullable v
ref_nullable p w e Top v m h = absurd (cc)
ref_nullable p w e Int v m h = absurd (cc)
ref_nullable p w e Long v m h = absurd (cc)
ref_nullable p w e _ (value.Int n) m h = h
ref_nullable p w e _ (value.Long n) m h = h
ref_nullable p w e _ _ m h = tt

not_zero : (n : ℕ) → 0 < n → nat_eq n 0 ≡ false
not_zero n h = elim (cases_Bool (nat_eq n 0)) [ inl q ↦ absurd (let z = eqb-true n 0 q in omega arith) | inr q ↦ q ]

pub as_many : (p : Program) (w : World) (e : Environment) (ts : List VType) (vs : List Value) → HaveTypes p w e ts vs → length ts ≡ length vs
as_many p w e [] [] h = refl
as_many p w e (t ∷ ts) (v ∷ vs) h = ap suc (as_many p w e ts vs h.1)
as_many p w e _ _ h = absurd h

-- setting a local
module _ (p : Program) (w : World) (e : Environment) where
  set_type : (ts : List VType) (vs : List Value) (n : ℕ) (t : VType) (v : Value) → HasType p w e t v → HaveTypes p w e ts vs → HaveTypes p w e (slice_set ts n t) (set vs n v)
  set_type [] [] n t v g h = h
  set_type (u ∷ ts) (x ∷ vs) zero t v g h = (g, h.1)
  set_type (u ∷ ts) (x ∷ vs) (suc n) t v g h = (h.0, set_type ts vs n t v g h.1)
  set_type _ _ n t v g h = absurd h

  pub set_range : (vs : List Value) (n : ℕ) (v : Value) → IsInRange p w v → Ranged p w vs → Ranged p w (set vs n v)
  set_range [] n v g h = h
  set_range (x ∷ vs) zero v g h = (g, h.1)
  set_range (x ∷ vs) (suc n) v g h = (h.0, set_range vs n v g h.1)

  top_type : (ts : List VType) (vs : List Value) (n : ℕ) → HaveTypes p w e ts vs → HaveTypes p w e (slice_set ts n Top) vs
  top_type [] vs n h = h
  top_type (u ∷ ts) [] n h = absurd h
  top_type (u ∷ ts) (x ∷ vs) zero h = (tt, h.1)
  top_type (u ∷ ts) (x ∷ vs) (suc n) h = (h.0, top_type ts vs n h.1)

  cut_type : (ts : List VType) (vs : List Value) (n : ℕ) → HaveTypes p w e ts vs → HaveTypes p w e (cut_long ts n) vs
  cut_type ts vs zero h = h
  cut_type ts vs (suc n) h = by (same (slice_index_or ts n Top) Long)
    where
      by : (b : Bool) → HaveTypes p w e (cond b (slice_set ts n Top) ts) vs
      by true = top_type ts vs n h
      by false = h

  pub set_local : (ts : List VType) (vs : List Value) (n : ℕ) (t : VType) (v : Value) → Is p w e t v → Locals p w e ts vs → Locals p w e (set_one ts (setting n t)) (set vs n v)
  set_local ts vs n t v i h = record { types = set_type (cut_long ts n) vs n t v i.type (cut_type ts vs n h.types); range = set_range vs n v i.range h.range }

  pub top_local : (ts : List VType) (vs : List Value) (n : ℕ) → Locals p w e ts vs → Locals p w e (set_one ts (setting n Top)) vs
  top_local ts vs n h = record { types = top_type (cut_long ts n) vs n (cut_type ts vs n h.types); range = h.range }

pub literal_type : (p : Program) (lk : Linked p) (w : World) (n : ℕ) → IsLiteral p n → RefersTo p w (name_of p string_class) (value.Lit n)
literal_type p lk w n h = (h.1, subst (λ (b : Bool). IsInstance p (kind.Class (cond b stream_class string_class)) (name_of p string_class)) (sym (not_zero n h.0)) (instance_itself p lk string_class (builtin_is p lk string_class (omega arith))))

-- the two top places, copied below the next two
abbrev Copied : Program → World → Environment → List VType → List VType → List Value → Type 0
Copied p w e bs rs vs = Held p w e (top_of bs ∷ slice_index_or bs 1 Top ∷ slice_index_or bs 2 Top ∷ slice_index_or bs 3 Top ∷ top_of bs ∷ slice_index_or bs 1 Top ∷ rs) vs

-- ---- the rows

-- a need of two places and nothing more
only_two : {p : Program} {w : World} {e : Environment} {us rs : List VType} {vs : List Value} (t : VType) → Operands p w e (two t) us rs vs → Operands p w e (two t ++ []) us rs vs
only_two {p = p} {w = w} {e = e} {us = us} {rs = rs} {vs = vs} t o = subst (λ (ns : List OperandConstraint). Operands p w e ns us rs vs) (sym (append-nil (two t))) o

-- of two places the types are known
two_of : (p : Program) (w : World) (e : Environment) (t : VType) (ns : List OperandConstraint) (ts us : List VType) (vs : List Value) {A : Type 0} → Operands p w e (two t ++ ns) ts us vs
    → (Operands p w e (Half ∷ Fits Long ∷ ns) ts us vs → A) → (Operands p w e (One ∷ One ∷ ns) ts us vs → A) → A
two_of p w e t ns ts us vs o f g = elim (cases_Bool (same t Top)) [
  | inl q ↦ f (subst (λ (b : Bool). Operands p w e (cond b long_need (One ∷ One ∷ []) ++ ns) ts us vs) q o)
  | inr q ↦ g (subst (λ (b : Bool). Operands p w e (cond b long_need (One ∷ One ∷ []) ++ ns) ts us vs) q o)
]

module _ (p : Program) (ty : IsTyped p) {w : World} {s : Entries} where
  pub nop : Ready p w s form.Nop → Row p w (row_moves p form.Nop s)
  unfolding row_moves sides
  nop r = on p ty r refl r.locals r.stack

  pub pop : Ready p w s form.Pop → Row p w (row_moves p form.Pop s)
  unfolding row_moves sides
  pop r = popping-typed p (Ends p) w One tt (operands r) (λ v vs t us h sv m o.
      on p ty r refl r.locals (rest_of o))

  pub dup : Ready p w s form.Dup → Row p w (row_moves p form.Dup s)
  unfolding row_moves sides
  dup r = popping-seen p (Ends p) w One tt (operands r) (λ v vs t us q h sv m o.
      on p ty r refl r.locals (subst (λ (xs : List VType). Held p w (here r) (top_of xs ∷ top_of xs ∷ rest r) (v ∷ v ∷ vs)) (sym q) (on_top sv h (on_top sv h (rest_of o)))))

  pub swap : Ready p w s form.Swap → Row p w (row_moves p form.Swap s)
  unfolding row_moves sides
  swap r = popping-seen p (Ends p) w One tt (operands r) (λ v vs t us q h sv m o. popping-seen p (Ends p) w One tt o (λ x ws u ts z g sx n k.
      on p ty r refl r.locals (subst (λ (xs : List VType). Held p w (here r) (slice_index_or xs 1 Top ∷ top_of xs ∷ rest r) (x ∷ v ∷ ws)) (sym (q ∙ ap {B = List VType} (λ xs. t ∷ xs) z)) (on_top sx g (on_top sv h (rest_of k))))))

  pub dup_x1 : Ready p w s form.DupX1 → Row p w (row_moves p form.DupX1 s)
  unfolding row_moves sides
  dup_x1 r = popping-seen p (Ends p) w One tt (operands r) (λ v vs t us q h sv m o. popping-seen p (Ends p) w One tt o (λ x ws u ts z g sx n k.
      on p ty r refl r.locals (subst (λ (xs : List VType). Held p w (here r) (top_of xs ∷ slice_index_or xs 1 Top ∷ top_of xs ∷ rest r) (v ∷ x ∷ v ∷ ws)) (sym (q ∙ ap {B = List VType} (λ xs. t ∷ xs) z))
      (on_top sv h (on_top sx g (on_top sv h (rest_of k)))))))

  pub pop2 : Ready p w s form.Pop2 → Row p w (row_moves p form.Pop2 s)
  unfolding row_moves sides
  pop2 r = two_of p w (here r) (top_of r.types.stack) [] r.types.stack (rest r) s.top.stack (only_two (top_of r.types.stack) (operands r))
      (λ o. popping-long p (Ends p) w o (λ v vs us h k. choose-typed p (Ends p) w (is_long v) (λ q. on p ty r refl r.locals (rest_of k)) (λ q. true_false (long_true h) q)))
      (λ o. popping-typed p (Ends p) w One tt o (λ v vs t us h sv m k. choose-typed p (Ends p) w (is_long v) (λ q. true_false q (short_false v sv))
      (λ q. popping-typed p (Ends p) w One tt k (λ x ws u ts g sx n l. on p ty r refl r.locals (rest_of l)))))

  pub dup2 : Ready p w s form.Dup2 → Row p w (row_moves p form.Dup2 s)
  unfolding row_moves sides
  dup2 r = two_of p w (here r) (top_of r.types.stack) [] r.types.stack (rest r) s.top.stack (only_two (top_of r.types.stack) (operands r))
      (λ o. popping-long-seen p (Ends p) w o (λ v vs us q h k. choose-typed p (Ends p) w (is_long v)
      (λ e. on p ty r refl r.locals (subst (λ (xs : List VType). Held p w (here r) (top_of xs ∷ slice_index_or xs 1 Top ∷ top_of xs ∷ slice_index_or xs 1 Top ∷ rest r) (v ∷ v ∷ vs)) (sym q) (long_top h (long_top h (rest_of k)))))
      (λ e. true_false (long_true h) e)))
      (λ o. popping-seen p (Ends p) w One tt o (λ v vs t us q h sv m k. choose-typed p (Ends p) w (is_long v) (λ e. true_false e (short_false v sv))
      (λ e. popping-seen p (Ends p) w One tt k (λ x ws u ts z g sx n l. on p ty r refl r.locals
      (subst (λ (xs : List VType). Held p w (here r) (top_of xs ∷ slice_index_or xs 1 Top ∷ top_of xs ∷ slice_index_or xs 1 Top ∷ rest r) (v ∷ x ∷ v ∷ x ∷ ws)) (sym (q ∙ ap {B = List VType} (λ xs. t ∷ xs) z))
      (on_top sv h (on_top sx g (on_top sv h (on_top sx g (rest_of l))))))))))

  pub monitor : Ready p w s form.Monitor → Row p w (row_moves p form.Monitor s)
  unfolding row_moves sides
  monitor r = popping-seen p (Ends p) w Ref tt (operands r) (λ v vs t us q h sv m o.
      on_reference-typed p (Ends p) w (with_stack s vs) v (ref_nullable p w (here r) t v m h.type) (fault_typed p ty r null_pointer_exception vs (thrown p ty.linked null_pointer_exception refl) (rest_of o).range)
      (λ n. on p ty r refl r.locals (rest_of o)))

  -- ---- constants

  pub const : (v : Value) → Ready p w s (form.Const v) → Row p w (row_moves p (form.Const v) s)
  unfolding row_moves sides
  const (value.Int n) r = on p ty r refl r.locals (int_on r.stack)
  const (value.Long n) r = on p ty r refl r.locals (long_on r.stack)
  const value.Null r = on p ty r refl r.locals (on_top tt (record { type = tt; range = tt }) r.stack)
  const (value.Lit n) r = let h = names_form p ty r in on p ty r refl r.locals (on_top tt (record { type = literal_type p ty.linked w n h; range = h.1 }) r.stack)
  const (value.Obj o) r = absurd (is_form p ty r)

  -- ---- loads

  -- the local that is read
  pub read_local : {i : Instr} (r : Ready p w s i) (n : ℕ) (u : OperandConstraint) (more : List Reading) → (sides_at r).reads ≡ reading n u ∷ more → IsSure p u
      → (v : Value) × (slice_get s.top.locals n ≡ Some v) × (meets p u (slice_index_or r.types.locals n Top) ≡ true) × Is p w (here r) (slice_index_or r.types.locals n Top) v
  read_local r n u more e d =
      let all : all_read p r.body.max_locals r.types.locals (reading n u ∷ more) ≡ true = subst (λ (x : List Reading). all_read p r.body.max_locals r.types.locals x ≡ true) e (reads_kept r) in
      let m = (and_parts (nat_lt n r.body.max_locals) (meets p u (slice_index_or r.types.locals n Top)) (and_parts (is_read p r.body.max_locals r.types.locals (reading n u)) (all_read p r.body.max_locals r.types.locals more) all).0).1 in
      let f = local_type p w (here r) r.types.locals s.top.locals n u d r.locals.types r.locals.range m in
      (f.0, f.1, m, f.2)

  load_found : {i : Instr} (r : Ready p w s i) (n : ℕ) (v : Value) → slice_get s.top.locals n ≡ Some v → Row p w (goes_on p s (v ∷ s.top.stack)) → Row p w (loaded p s (slice_get s.top.locals n))
  load_found r n v q f = subst (λ (x : Option Value). Row p w (loaded p s x)) (sym q) f

  pub load : (x : Sort) (n : ℕ) → Ready p w s (form.Load x n) → Row p w (row_moves p (form.Load x n) s)
  unfolding row_moves sides
  load sort.Int n r =
      let f = read_local r n (Fits Int) [] refl (λ (e : false ≡ true). cc) in
      let i = is_fits p ty.linked w (here r) (slice_index_or r.types.locals n Top) Int f.0 f.2 f.3 in
      load_found r n f.0 f.1 (on p ty r refl r.locals (on_top (short_type p w (here r) f.0 i) i r.stack))
  load sort.Long n r =
      let f = read_local r n (Fits Long) (reading (n + 1) Half ∷ []) refl (λ (e : false ≡ true). cc) in
      let i = is_fits p ty.linked w (here r) (slice_index_or r.types.locals n Top) Long f.0 f.2 f.3 in
      load_found r n f.0 f.1 (on p ty r refl r.locals (long_top i r.stack))
  load sort.Ref n r =
      let f = read_local r n Ref [] refl (λ (e : false ≡ true). cc) in
      load_found r n f.0 f.1 (on p ty r refl r.locals (on_top (ref_short p w (here r) (slice_index_or r.types.locals n Top) f.0 f.2 f.3.type) f.3 r.stack))

  -- ---- stores

  pub kept_local : {i : Instr} (r : Ready p w s i) (n : ℕ) (v : Value) (vs : List Value) → n < length s.top.locals → (sides_at r).falls ≡ true → Locals p w (here r) (then r).locals (set s.top.locals n v) → Held p w (here r) (then r).stack vs → Row p w (stored p s n v vs)
  kept_local r n v vs h f l k = choose-typed p (Ends p) w (nat_lt n (length s.top.locals)) (λ q. typed_done (next_typed p ty r f l k)) (λ q. true_false (lt-ltb n (length s.top.locals) h) q)

  within : {i : Instr} (r : Ready p w s i) (n : ℕ) → nat_lt n r.body.max_locals ≡ true → n < length s.top.locals
  within r n q =
      let a = ltb-true n r.body.max_locals q in
      let b = wide_before p (method_at p s.top.number) r.body r.given r.has_code r.has_frames r.index s.top.pc r.types r.known in
      let c = as_many p w (here r) r.types.locals s.top.locals r.locals.types in omega arith

  pub store : (x : Sort) (n : ℕ) → Ready p w s (form.Store x n) → Row p w (row_moves p (form.Store x n) s)
  unfolding row_moves sides
  store sort.Int n r = popping-fits p (Ends p) w ty.linked Int tt (operands r) (λ v vs us h sv o.
      kept_local r n v vs (within r n (and_parts (nat_lt n r.body.max_locals) true (sets_kept r)).0) refl (set_local p w (here r) r.types.locals s.top.locals n Int v h r.locals) (rest_of o))
  store sort.Long n r = popping-long p (Ends p) w (operands r) (λ v vs us h o.
      kept_local r n v vs (within r n (and_parts (nat_lt n r.body.max_locals) true (and_parts (nat_lt (n + 1) r.body.max_locals) (nat_lt n r.body.max_locals && true) (sets_kept r)).1).0) refl
      (set_local p w (here r) (set_one r.types.locals (setting (n + 1) Top)) s.top.locals n Long v h (top_local p w (here r) r.types.locals s.top.locals (n + 1) r.locals)) (rest_of o))
  store sort.Ref n r = popping-seen p (Ends p) w Ref tt (operands r) (λ v vs t us q h sv m o.
      kept_local r n v vs (within r n (and_parts (nat_lt n r.body.max_locals) true (sets_kept r)).0) refl
      (subst (λ (xs : List VType). Locals p w (here r) (set_one r.types.locals (setting n (top_of xs))) (set s.top.locals n v)) (sym q) (set_local p w (here r) r.types.locals s.top.locals n t v h r.locals)) (rest_of o))

  -- ---- the other moves of operands

  -- ---- the other moves of operands: copies go below two or three places

  pub dup_x2 : Ready p w s form.DupX2 → Row p w (row_moves p form.DupX2 s)
  unfolding row_moves sides
  dup_x2 r = popping-seen p (Ends p) w One tt (operands r) (λ v vs t us q h sv m o.
      two_of p w (here r) (slice_index_or r.types.stack 1 Top) [] us (rest r) vs (only_two (slice_index_or r.types.stack 1 Top) o)
      (λ l. popping-long-seen p (Ends p) w l (λ x ws ts z g k. choose-typed p (Ends p) w (is_long x)
      (λ e. on p ty r refl r.locals (subst (λ (xs : List VType). Held p w (here r) (top_of xs ∷ slice_index_or xs 1 Top ∷ slice_index_or xs 2 Top ∷ top_of xs ∷ rest r) (v ∷ x ∷ v ∷ ws)) (sym (q ∙ ap {B = List VType} (λ xs. t ∷ xs) z))
      (on_top sv h (long_top g (on_top sv h (rest_of k))))))
      (λ e. true_false (long_true g) e)))
      (λ l. popping-seen p (Ends p) w One tt l (λ x ws u ts z g sx n k. choose-typed p (Ends p) w (is_long x) (λ e. true_false e (short_false x sx))
      (λ e. popping-seen p (Ends p) w One tt k (λ y xs c cs d j sy i b. on p ty r refl r.locals
      (subst (λ (bs : List VType). Held p w (here r) (top_of bs ∷ slice_index_or bs 1 Top ∷ slice_index_or bs 2 Top ∷ top_of bs ∷ rest r) (v ∷ x ∷ y ∷ v ∷ xs)) (sym (q ∙ ap {B = List VType} (λ bs. t ∷ bs) (z ∙ ap {B = List VType} (λ bs. u ∷ bs) d)))
      (on_top sv h (on_top sx g (on_top sy j (on_top sv h (rest_of b)))))))))))

  pub dup2_x1 : Ready p w s form.Dup2X1 → Row p w (row_moves p form.Dup2X1 s)
  unfolding row_moves sides
  dup2_x1 r = two_of p w (here r) (top_of r.types.stack) (One ∷ []) r.types.stack (rest r) s.top.stack (operands r)
      (λ l. popping-long-seen p (Ends p) w l (λ v vs us q h o. popping-seen p (Ends p) w One tt o (λ x ws u ts z g sx n k. choose-typed p (Ends p) w (is_long v)
      (λ e. on p ty r refl r.locals (subst (λ (bs : List VType). Held p w (here r) (top_of bs ∷ slice_index_or bs 1 Top ∷ slice_index_or bs 2 Top ∷ top_of bs ∷ slice_index_or bs 1 Top ∷ rest r) (v ∷ x ∷ v ∷ ws)) (sym (q ∙ ap {B = List VType} (λ bs. Top ∷ Long ∷ bs) z))
      (long_top h (on_top sx g (long_top h (rest_of k))))))
      (λ e. true_false (long_true h) e))))
      (λ l. popping-seen p (Ends p) w One tt l (λ v vs t us q h sv m o. popping-seen p (Ends p) w One tt o (λ x ws u ts z g sx n k. choose-typed p (Ends p) w (is_long v) (λ e. true_false e (short_false v sv))
      (λ e. popping-seen p (Ends p) w One tt k (λ y xs c cs d j sy i b. on p ty r refl r.locals
      (subst (λ (bs : List VType). Held p w (here r) (top_of bs ∷ slice_index_or bs 1 Top ∷ slice_index_or bs 2 Top ∷ top_of bs ∷ slice_index_or bs 1 Top ∷ rest r) (v ∷ x ∷ y ∷ v ∷ x ∷ xs)) (sym (q ∙ ap {B = List VType} (λ bs. t ∷ bs) (z ∙ ap {B = List VType} (λ bs. u ∷ bs) d)))
      (on_top sv h (on_top sx g (on_top sy j (on_top sv h (on_top sx g (rest_of b))))))))))))

  pub dup2_x2 : Ready p w s form.Dup2X2 → Row p w (row_moves p form.Dup2X2 s)
  unfolding row_moves sides
  dup2_x2 r = two_of p w (here r) (top_of r.types.stack) (two (slice_index_or r.types.stack 2 Top)) r.types.stack (rest r) s.top.stack (operands r)
      (λ l. popping-long-seen p (Ends p) w l (λ v vs us q h o. two_of p w (here r) (slice_index_or r.types.stack 2 Top) [] us (rest r) vs (only_two (slice_index_or r.types.stack 2 Top) o)
      (λ l. popping-long-seen p (Ends p) w l (λ x ws ts z g k. choose-typed p (Ends p) w (is_long v) (λ e. choose-typed p (Ends p) w (is_long x)
      (λ e. on p ty r refl r.locals (subst (λ (bs : List VType). Copied p w (here r) bs (rest r) (v ∷ x ∷ v ∷ ws)) (sym (q ∙ ap {B = List VType} (λ bs. Top ∷ Long ∷ bs) z)) (long_top h (long_top g (long_top h (rest_of k))))))
      (λ e. true_false (long_true g) e))
      (λ e. true_false (long_true h) e)))
      (λ l. popping-seen p (Ends p) w One tt l (λ x ws u ts z g sx n k. choose-typed p (Ends p) w (is_long v) (λ e. choose-typed p (Ends p) w (is_long x) (λ e. true_false e (short_false x sx))
      (λ e. popping-seen p (Ends p) w One tt k (λ y xs c cs d j sy i b. on p ty r refl r.locals
      (subst (λ (bs : List VType). Copied p w (here r) bs (rest r) (v ∷ x ∷ y ∷ v ∷ xs)) (sym (q ∙ ap {B = List VType} (λ bs. Top ∷ Long ∷ bs) (z ∙ ap {B = List VType} (λ bs. u ∷ bs) d))) (long_top h (on_top sx g (on_top sy j (long_top h (rest_of b)))))))))
      (λ e. true_false (long_true h) e)))))
      (λ l. popping-seen p (Ends p) w One tt l (λ v vs t us q h sv m o. popping-seen p (Ends p) w One tt o (λ x ws u ts z g sx n k. choose-typed p (Ends p) w (is_long v) (λ e. true_false e (short_false v sv))
      (λ e. two_of p w (here r) (slice_index_or r.types.stack 2 Top) [] ts (rest r) ws (only_two (slice_index_or r.types.stack 2 Top) k)
      (λ l. popping-long-seen p (Ends p) w l (λ y xs cs d j b. choose-typed p (Ends p) w (is_long y)
      (λ e. on p ty r refl r.locals (subst (λ (bs : List VType). Copied p w (here r) bs (rest r) (v ∷ x ∷ y ∷ v ∷ x ∷ xs)) (sym (q ∙ ap {B = List VType} (λ bs. t ∷ bs) (z ∙ ap {B = List VType} (λ bs. u ∷ bs) d)))
      (on_top sv h (on_top sx g (long_top j (on_top sv h (on_top sx g (rest_of b))))))))
      (λ e. true_false (long_true j) e)))
      (λ l. popping-seen p (Ends p) w One tt l (λ y xs c cs d j sy i b. choose-typed p (Ends p) w (is_long y) (λ e. true_false e (short_false y sy))
      (λ e. popping-seen p (Ends p) w One tt b (λ a bs1 f fs n1 i1 sa m1 b1. on p ty r refl r.locals
      (subst (λ (bs : List VType). Copied p w (here r) bs (rest r) (v ∷ x ∷ y ∷ a ∷ v ∷ x ∷ bs1)) (sym (q ∙ ap {B = List VType} (λ bs. t ∷ bs) (z ∙ ap {B = List VType} (λ bs. u ∷ bs) (d ∙ ap {B = List VType} (λ bs. c ∷ bs) n1))))
      (on_top sv h (on_top sx g (on_top sy j (on_top sa i1 (on_top sv h (on_top sx g (rest_of b1))))))))))))))))

  pub moves-typed : (i : Instr) → group_of i ≡ moves → Ready p w s i → Row p w (row_moves p i s)
  moves-typed form.Nop g r = nop r
  moves-typed (form.Const v) g r = const v r
  moves-typed (form.Load x n) g r = load x n r
  moves-typed (form.Store x n) g r = store x n r
  moves-typed form.Pop g r = pop r
  moves-typed form.Pop2 g r = pop2 r
  moves-typed form.Dup g r = dup r
  moves-typed form.DupX1 g r = dup_x1 r
  moves-typed form.DupX2 g r = dup_x2 r
  moves-typed form.Dup2 g r = dup2 r
  moves-typed form.Dup2X1 g r = dup2_x1 r
  moves-typed form.Dup2X2 g r = dup2_x2 r
  moves-typed form.Swap g r = swap r
  moves-typed form.Monitor g r = monitor r
  moves-typed _ g r = absurd (cc)
