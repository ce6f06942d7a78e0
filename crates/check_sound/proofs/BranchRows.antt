-- The rows of branches and switches.
use Rattle.std.proofs.Common.{◌≡◌, ℕ, ℤ, suc, ◌<◌, List, [], ◌∷◌, length, map, Bool, true, false, ◌&&◌, ◌||◌, cond, nat_eq, nat_lt, pos, get_or, All, refl, sym, subst, arith}
use Rattle.std.specs.{List.list_any, Ordering.int_eq}
use Rattle.std.specs.Prelude.{int_le, unsigned_abs, ◌-ℤ◌}
use Rattle.std.proofs.lemmas.List.Folds.{list_any_at}
use Rattle.std.proofs.lemmas.Bool.{and_parts, ltb-true, eq-eqb, or_left, or_right}
use Rattle.jvm_model.specs.declared.{values.Value.Value, instr.Instr.Instr, instr.IfTest.IfTest, program.Program.Program}
use Rattle.jvm_model.specs.declared.instr.Instr.TheVariants as form
use Rattle.jvm_model.specs.{World.World, Entries.Entries, Linked.IsPlace, Rows.goes_to, Step.group_of, Step.branches}
use Rattle.jvm_model.specs.RowsBranches.{row_branches, holds, goes_if, table_target, lookup_target, flag_is, same_reference, is_null}
use Rattle.type_frames.specs.declared.{stack_effect.OperandConstraint.TheVariants.Ref, vtype.VType.TheVariants.Int}
use Rattle.type_frames.specs.{Environment.leads, StackEffect.sides, Typing.IsTyped}
use Rattle.check_sound.proofs.Held.{Held, Locals}
use Rattle.check_sound.proofs.Operands.{rest_of, popping-typed, popping-fits, on_int-typed, choose-typed}
use Rattle.check_sound.proofs.Ready.{Ends, Row, Ready, here, then, rest, sides_at, operands, on, to, is_form}

-- the instruction leads to its target
itself : (n : ℕ) → list_any (λ m. nat_eq m n) (n ∷ []) ≡ true
itself n = rw (eq-eqb n n refl) refl

any_at : (ts : List ℕ) (k d : ℕ) → k < length ts → list_any (λ m. nat_eq m (get_or ts k d)) ts ≡ true
any_at ts k d h = list_any_at (λ m. nat_eq m (get_or ts k d)) ts k d h (eq-eqb (get_or ts k d) (get_or ts k d) refl)

-- a key of a lookupswitch, or none, leads to one of its targets
found : (ps : List (ℤ × ℕ)) (other : ℕ) (n : ℤ) → (list_any (λ m. nat_eq m (lookup_target ps other n)) (other ∷ map (λ x. x.1) ps) ≡ true) × ((P : ℕ → Type 0) → All (λ x. P x.1) ps → P other → P (lookup_target ps other n))
unfolding lookup_target
found [] other n = (or_left (nat_eq other other) false (eq-eqb other other refl), λ P a o. o)
found (x ∷ ps) other n = by (int_eq x.0 n) (found ps other n)
  where
    later : (a b c : Bool) → (a || c) ≡ true → (a || (b || c)) ≡ true
    later false false c e = e
    later _ _ c e = refl

    by : (b : Bool) → (list_any (λ m. nat_eq m (lookup_target ps other n)) (other ∷ map (λ x. x.1) ps) ≡ true) × ((P : ℕ → Type 0) → All (λ x. P x.1) ps → P other → P (lookup_target ps other n))
        → (list_any (λ m. nat_eq m (cond b x.1 (lookup_target ps other n))) (other ∷ x.1 ∷ map (λ x. x.1) ps) ≡ true) × ((P : ℕ → Type 0) → All (λ x. P x.1) (x ∷ ps) → P other → P (cond b x.1 (lookup_target ps other n)))
    by true r = (or_right (nat_eq other x.1) (nat_eq x.1 x.1 || list_any (λ m. nat_eq m x.1) (map (λ x. x.1) ps)) (or_left (nat_eq x.1 x.1) (list_any (λ m. nat_eq m x.1) (map (λ x. x.1) ps)) (eq-eqb x.1 x.1 refl)), λ P a o. a 0 x (omega arith))
    by false r = (later (nat_eq other (lookup_target ps other n)) (nat_eq x.1 (lookup_target ps other n)) (list_any (λ m. nat_eq m (lookup_target ps other n)) (map (λ x. x.1) ps)) r.0, λ P a o. r.1 P (λ k d g. a (suc k) d (omega arith)) o)

module _ (p : Program) (ty : IsTyped p) {w : World} {s : Entries} where
  either : {i : Instr} (r : Ready p w s i) (b : Bool) (at : ℕ) (vs : List Value) → (sides_at r).falls ≡ true → leads i ≡ at ∷ [] → IsPlace r.body at → Locals p w (here r) (then r).locals s.top.locals → Held p w (here r) (then r).stack vs → Row p w (goes_if b at p s vs)
  either {i = i} r b at vs f e h l k = choose-typed p (Ends p) w b (λ q. to p ty r at (subst (λ (ks : List ℕ). list_any (λ m. nat_eq m at) ks ≡ true) (sym e) (itself at)) h l k) (λ q. on p ty r f l k)

  pub if_zero : (x : IfTest) (at : ℕ) → Ready p w s (form.IfZero x at) → Row p w (row_branches p (form.IfZero x at) s)
  unfolding row_branches sides
  if_zero x at r = popping-fits p (Ends p) w ty.linked Int tt (operands r) (λ v vs us h sv o. on_int-typed p (Ends p) w v h (λ a.
      either r (holds x a (pos 0)) at vs refl refl (is_form p ty r) r.locals (rest_of o)))

  pub if_ints : (x : IfTest) (at : ℕ) → Ready p w s (form.IfInts x at) → Row p w (row_branches p (form.IfInts x at) s)
  unfolding row_branches sides
  if_ints x at r = popping-fits p (Ends p) w ty.linked Int tt (operands r) (λ v vs us h sv o. popping-fits p (Ends p) w ty.linked Int tt o (λ u ws ts g su n.
      on_int-typed p (Ends p) w v h (λ b. on_int-typed p (Ends p) w u g (λ a. either r (holds x a b) at ws refl refl (is_form p ty r) r.locals (rest_of n)))))

  pub if_refs : (x : Bool) (at : ℕ) → Ready p w s (form.IfRefs x at) → Row p w (row_branches p (form.IfRefs x at) s)
  unfolding row_branches sides
  if_refs x at r = popping-typed p (Ends p) w Ref tt (operands r) (λ v vs t us h sv m o. popping-typed p (Ends p) w Ref tt o (λ u ws k ts g su n q.
      either r (flag_is x (same_reference u v)) at ws refl refl (is_form p ty r) r.locals (rest_of q)))

  pub if_null : (x : Bool) (at : ℕ) → Ready p w s (form.IfNull x at) → Row p w (row_branches p (form.IfNull x at) s)
  unfolding row_branches sides
  if_null x at r = popping-typed p (Ends p) w Ref tt (operands r) (λ v vs t us h sv m o. either r (flag_is x (is_null v)) at vs refl refl (is_form p ty r) r.locals (rest_of o))

  pub goto : (at : ℕ) → Ready p w s (form.Goto at) → Row p w (row_branches p (form.Goto at) s)
  unfolding row_branches sides
  goto at r = to p ty r at (itself at) (is_form p ty r) r.locals r.stack

  pub table : (low : ℤ) (ts : List ℕ) (other : ℕ) → Ready p w s (form.Table low ts other) → Row p w (row_branches p (form.Table low ts other) s)
  unfolding row_branches sides table_target
  table low ts other r =
      let f = is_form p ty r in
      popping-fits p (Ends p) w ty.linked Int tt (operands r) (λ v vs us h sv o. on_int-typed p (Ends p) w v h (λ n.
      by n vs (rest_of o) (int_le low n && nat_lt (unsigned_abs (n -ℤ low)) (length ts)) refl))
    where
      by : (n : ℤ) (vs : List Value) → Held p w (here r) (rest r) vs → (b : Bool) → (int_le low n && nat_lt (unsigned_abs (n -ℤ low)) (length ts)) ≡ b → Row p w (goes_to (cond b (get_or ts (unsigned_abs (n -ℤ low)) other) other) s vs)
      by n vs k false q = to p ty r other (or_left (nat_eq other other) _ (eq-eqb other other refl)) (is_form p ty r).3 r.locals k
      by n vs k true q =
          let lt = ltb-true _ (length ts) (and_parts _ _ q).1 in
          to p ty r (get_or ts (unsigned_abs (n -ℤ low)) other) (or_right (nat_eq other _) _ (any_at ts (unsigned_abs (n -ℤ low)) other lt)) ((is_form p ty r).2 (unsigned_abs (n -ℤ low)) other lt) r.locals k

  pub lookup : (ps : List (ℤ × ℕ)) (other : ℕ) → Ready p w s (form.Lookup ps other) → Row p w (row_branches p (form.Lookup ps other) s)
  unfolding row_branches sides
  lookup ps other r =
      let f = is_form p ty r in
      popping-fits p (Ends p) w ty.linked Int tt (operands r) (λ v vs us h sv o. on_int-typed p (Ends p) w v h (λ n.
      let x = found ps other n in
      to p ty r (lookup_target ps other n) x.0 (x.1 (λ to. IsPlace r.body to) f.1 f.2) r.locals (rest_of o)))

  pub branches-typed : (i : Instr) → group_of i ≡ branches → Ready p w s i → Row p w (row_branches p i s)
  branches-typed (form.IfZero x at) g r = if_zero x at r
  branches-typed (form.IfInts x at) g r = if_ints x at r
  branches-typed (form.IfRefs x at) g r = if_refs x at r
  branches-typed (form.IfNull x at) g r = if_null x at r
  branches-typed (form.Goto at) g r = goto at r
  branches-typed (form.Table low ts other) g r = table low ts other r
  branches-typed (form.Lookup ps other) g r = lookup ps other r
  branches-typed _ g r = absurd (cc)
