-- The rows of whole-number arithmetic.
use Rattle.std.proofs.Common.{◌≡◌, ℕ, ℤ, zero, suc, List, [], ◌∷◌, ◌++◌, Bool, true, false, cond, pos, Option, set, refl, sym, subst}
use Rattle.std.specs.Ordering.{int_eq}
use Rattle.jvm_model.specs.declared.{values.Value.Value, instr.Instr.Instr, instr.Op.Op, instr.Conv.Conv, program.Program.Program}
use Rattle.jvm_model.specs.declared.values.Value.TheVariants as value
use Rattle.jvm_model.specs.declared.instr.Instr.TheVariants as form
use Rattle.jvm_model.specs.declared.instr.Op.TheVariants as op
use Rattle.jvm_model.specs.declared.instr.Conv.TheVariants as conv
use Rattle.jvm_model.specs.{World.World, Access.Access, Builtin.arithmetic_exception, Entries.Entries, Rows.Answer, Step.group_of, Step.arith}
use Rattle.et_base.specs.Numbers.{add32}
use Rattle.std.specs.Prelude.{slice_index_or}
use Rattle.std.proofs.lemmas.Option.{slice_get_within}
use Rattle.type_frames.specs.declared.{vtype.VType.VType, stack_effect.OperandConstraint.OperandConstraint}
use Rattle.type_frames.specs.{Environment.Environment, Rules.meets, TypedState.HasType, TypedState.HaveTypes, Typing.IsTyped}
use Rattle.check_sound.proofs.{MoveRows.read_local, MoveRows.kept_local, MoveRows.set_range, Held.is_fits, Held.Locals, Held.int_on, Held.long_on}
use Rattle.jvm_model.specs.RowsArith.{increased, divides, shifts, two_ints, two_longs, long_by_int, row_arith}
use Rattle.type_frames.specs.declared.stack_effect.OperandConstraint.TheVariants.{Fits, Half}
use Rattle.type_frames.specs.declared.vtype.VType.TheVariants.{Top, Int, Long}
use Rattle.type_frames.specs.StackEffect.{sides, second_need, int_need, long_need}
use Rattle.check_sound.proofs.{Tree.typed_done, Ends.fault_typed, Thrown.thrown}
use Rattle.check_sound.proofs.Operands.{Operands, rest_of, popping-fits, popping-long, on_int-typed, on_long-typed, choose-typed}
use Rattle.check_sound.proofs.Ready.{Ends, Row, Ready, here, rest, operands, on}

module _ (p : Program) {w : World} where
  -- division by 0 throws
  by_zero : (x : Op) (b : ℤ) {t u : Access (Answer Entries)} → Row p w t → Row p w u → Row p w (cond (divides x) (cond (int_eq b (pos 0)) t u) u)
  by_zero x b f g = choose-typed p (Ends p) w (divides x) (λ e. choose-typed p (Ends p) w (int_eq b (pos 0)) (λ e. f) (λ e. g)) (λ e. g)

-- an int in the place of another
int_there : (p : Program) (t : VType) → meets p (Fits Int) t ≡ true → t ≡ Int
int_there p Int m = refl
int_there p _ m = absurd (cc)

same_type : (p : Program) (w : World) (e : Environment) (ts : List VType) (vs : List Value) (n : ℕ) (a : ℤ) → slice_index_or ts n Top ≡ Int → HaveTypes p w e ts vs → HaveTypes p w e ts (set vs n (value.Int a))
same_type p w e [] [] n a q h = h
same_type p w e (t ∷ ts) (v ∷ vs) zero a q h = (subst (λ (x : VType). HasType p w e x (value.Int a)) (sym q) tt, h.1)
same_type p w e (t ∷ ts) (v ∷ vs) (suc n) a q h = (h.0, same_type p w e ts vs n a q h.1)
same_type p w e _ _ n a q h = absurd h

same_local : (p : Program) (w : World) (e : Environment) (ts : List VType) (vs : List Value) (n : ℕ) (a : ℤ) → slice_index_or ts n Top ≡ Int → Locals p w e ts vs → Locals p w e ts (set vs n (value.Int a))
same_local p w e ts vs n a q h = record { types = same_type p w e ts vs n a q h.types; range = set_range p w e vs n (value.Int a) tt h.range }

-- the upper operand's needs
ints_needed : (x : Op) → second_need x false ≡ int_need
ints_needed op.Shl = refl
ints_needed _ = refl

long_needed : (x : Op) → second_need x true ≡ cond (shifts x) int_need long_need
long_needed op.Shl = refl
long_needed _ = refl

module _ (p : Program) (ty : IsTyped p) {w : World} {s : Entries} where
  two_ints-typed : (x : Op) (r : Ready p w s (form.Binary x false)) → Operands p w (here r) (Fits Int ∷ Fits Int ∷ []) r.types.stack (rest r) s.top.stack → Row p w (two_ints p x s)
  unfolding sides
  two_ints-typed x r q = popping-fits p (Ends p) w ty.linked Int tt q (λ v vs us h sv o. popping-fits p (Ends p) w ty.linked Int tt o (λ u ws ts g su n.
      on_int-typed p (Ends p) w v h (λ b. on_int-typed p (Ends p) w u g (λ a.
      by_zero p x b (typed_done (fault_typed p ty r arithmetic_exception ws (thrown p ty.linked arithmetic_exception refl) (rest_of n).range))
      (on p ty r refl r.locals (int_on (rest_of n)))))))

  two_longs-typed : (x : Op) (r : Ready p w s (form.Binary x true)) → Operands p w (here r) (Half ∷ Fits Long ∷ Half ∷ Fits Long ∷ []) r.types.stack (rest r) s.top.stack → Row p w (two_longs p x s)
  unfolding sides
  two_longs-typed x r q = popping-long p (Ends p) w q (λ v vs us h o. popping-long p (Ends p) w o (λ u ws ts g n.
      on_long-typed p (Ends p) w v h (λ b. on_long-typed p (Ends p) w u g (λ a.
      by_zero p x b (typed_done (fault_typed p ty r arithmetic_exception ws (thrown p ty.linked arithmetic_exception refl) (rest_of n).range))
      (on p ty r refl r.locals (long_on (rest_of n)))))))

  long_by_int-typed : (x : Op) (r : Ready p w s (form.Binary x true)) → Operands p w (here r) (Fits Int ∷ Half ∷ Fits Long ∷ []) r.types.stack (rest r) s.top.stack → Row p w (long_by_int p x s)
  unfolding sides
  long_by_int-typed x r q = popping-fits p (Ends p) w ty.linked Int tt q (λ v vs us h sv o. popping-long p (Ends p) w o (λ u ws ts g n.
      on_int-typed p (Ends p) w v h (λ b. on_long-typed p (Ends p) w u g (λ a. on p ty r refl r.locals (long_on (rest_of n))))))

  pub binary : (x : Op) (wide : Bool) → Ready p w s (form.Binary x wide) → Row p w (row_arith p (form.Binary x wide) s)
  unfolding row_arith sides
  binary x false r = two_ints-typed x r (subst (λ (ns : List OperandConstraint). Operands p w (here r) (ns ++ int_need) r.types.stack (rest r) s.top.stack) (ints_needed x) (operands r))
  binary x true r =
      let o = subst (λ (ns : List OperandConstraint). Operands p w (here r) (ns ++ long_need) r.types.stack (rest r) s.top.stack) (long_needed x) (operands r) in
      choose-typed p (Ends p) w (shifts x)
      (λ e. long_by_int-typed x r (subst (λ (b : Bool). Operands p w (here r) (cond b int_need long_need ++ long_need) r.types.stack (rest r) s.top.stack) e o))
      (λ e. two_longs-typed x r (subst (λ (b : Bool). Operands p w (here r) (cond b int_need long_need ++ long_need) r.types.stack (rest r) s.top.stack) e o))

  pub neg : (wide : Bool) → Ready p w s (form.Neg wide) → Row p w (row_arith p (form.Neg wide) s)
  unfolding row_arith sides
  neg false r = popping-fits p (Ends p) w ty.linked Int tt (operands r) (λ v vs us h sv o. on_int-typed p (Ends p) w v h (λ a. on p ty r refl r.locals (int_on (rest_of o))))
  neg true r = popping-long p (Ends p) w (operands r) (λ v vs us h o. on_long-typed p (Ends p) w v h (λ a. on p ty r refl r.locals (long_on (rest_of o))))

  pub compare : Ready p w s form.Compare → Row p w (row_arith p form.Compare s)
  unfolding row_arith sides
  compare r = popping-long p (Ends p) w (operands r) (λ v vs us h o. popping-long p (Ends p) w o (λ u ws ts g n.
      on_long-typed p (Ends p) w v h (λ b. on_long-typed p (Ends p) w u g (λ a. on p ty r refl r.locals (int_on (rest_of n))))))

  pub convert : (x : Conv) → Ready p w s (form.Convert x) → Row p w (row_arith p (form.Convert x) s)
  unfolding row_arith sides
  convert conv.I2l r = popping-fits p (Ends p) w ty.linked Int tt (operands r) (λ v vs us h sv o. on_int-typed p (Ends p) w v h (λ a. on p ty r refl r.locals (long_on (rest_of o))))
  convert conv.L2i r = popping-long p (Ends p) w (operands r) (λ v vs us h o. on_long-typed p (Ends p) w v h (λ a. on p ty r refl r.locals (int_on (rest_of o))))
  convert _ r = popping-fits p (Ends p) w ty.linked Int tt (operands r) (λ v vs us h sv o. on_int-typed p (Ends p) w v h (λ a. on p ty r refl r.locals (int_on (rest_of o))))

  pub inc : (n : ℕ) (by : ℤ) → Ready p w s (form.Inc n by) → Row p w (row_arith p (form.Inc n by) s)
  unfolding row_arith sides
  inc n by r =
      let f = read_local p ty r n (Fits Int) [] refl (λ (e : false ≡ true). cc) in
      let i = is_fits p ty.linked w (here r) (slice_index_or r.types.locals n Top) Int f.0 f.2 f.3 in
      subst (λ (x : Option Value). Row p w (increased p n by s x)) (sym f.1) (on_int-typed p (Ends p) w f.0 i (λ a.
      kept_local p ty r n (value.Int (add32 a by)) s.top.stack (slice_get_within s.top.locals n f.0 f.1) refl (same_local p w (here r) r.types.locals s.top.locals n (add32 a by) (int_there p (slice_index_or r.types.locals n Top) f.2) r.locals) r.stack))

  pub arith-typed : (i : Instr) → group_of i ≡ arith → Ready p w s i → Row p w (row_arith p i s)
  arith-typed (form.Binary x wide) g r = binary x wide r
  arith-typed (form.Neg wide) g r = neg wide r
  arith-typed (form.Inc n by) g r = inc n by r
  arith-typed (form.Convert x) g r = convert x r
  arith-typed form.Compare g r = compare r
  arith-typed _ g r = absurd (cc)
