-- Rows without a touch in pairs: moves, arithmetic, branches, returns, throws.
use Rattle.std.proofs.Common.{◌≡◌, ℕ, ℤ, Bool, true, false, List, [], ◌∷◌, nat_lt, refl, ap, subst, arith, pos, Option, Some, None}
use Rattle.std.specs.Ordering.{int_eq}
use Rattle.jvm_model.specs.declared.{values.Value.Value, instr.Op.Op, instr.Conv.Conv, instr.Instr.Instr}
use Rattle.jvm_model.specs.declared.instr.Conv.TheVariants as conv
use Rattle.jvm_model.specs.declared.state.{EntryKind.EntryKind, EntryKind.TheVariants.Absent, EntryKind.TheVariants.InMethod, EntryKind.TheVariants.InClass}
use Rattle.jvm_model.specs.{Access.Access, Builtin.arithmetic_exception, Descriptors.return_type, Narrow.narrow, Narrow.narrowed}
use Rattle.jvm_model.specs.{Entries.Entries, Entries.popped_entry, Rows.Answer, Step.row_throw}
use Rattle.jvm_model.specs.RowsMoves.{is_long, loaded, with_local, stored, two_under_long, two_under_two, row_moves}
use Rattle.jvm_model.specs.RowsArith.{divides, shifts, unless_zero, two_ints, two_longs, long_by_int, converted, increased, row_arith}
use Rattle.jvm_model.specs.RowsBranches.{same_reference, is_null, flag_is, goes_if, row_branches}
use Rattle.jvm_model.specs.RowsReturn.{handed_on, hands_on, row_return}
use Rattle.order_law.specs.Pairing.{PairedList, no_more, one_more, PairedOption, both_none, both_some, PairedValue, ints, longs, nulls, literals, objects, both_done}
use Rattle.order_law.specs.Numbers.{Numbers, with_places}
use Rattle.order_law.specs.Forms.{PairedConstant, const_int, const_long, const_null, const_literal, PairedInstr}
use Rattle.order_law.specs.Forms as same
use Rattle.order_law.proofs.{Twins.Twins, Lists.test-paired, Lists.length-paired, Lists.get-list, Lists.set-list}
use Rattle.order_law.proofs.States.{go, raised, leave, answered, stack-paired, popped-paired, frame_top}
use Rattle.order_law.proofs.Combinators.{V, E, Frames, Rows, choose-paired, stuck_row-paired, faults-paired, goes_on-paired, goes_to-paired, popping-paired, on_int-paired, on_long-paired, on_object-paired, on_reference-paired}

pub constant-paired : (n : Numbers) (P : ℕ → ℕ → Type 0) {v w : Value} → PairedConstant n v w → PairedValue (with_places n P) v w
constant-paired n P (const_int k) = ints k
constant-paired n P (const_long k) = longs k
constant-paired n P const_null = nulls
constant-paired n P (const_literal e) = literals e

module _ (tw : Twins) where
  -- moves
  pub loaded-paired : {s t : Entries} {x y : Option Value} → Frames tw s t → PairedOption (V tw) x y → Rows tw (loaded tw.left s x) (loaded tw.right t y)
  loaded-paired f both_none = stuck_row-paired tw
  loaded-paired f (both_some r) = goes_on-paired tw f (one_more r f.entries.top.stack)

  pub local-paired : {s t : Entries} {v w : Value} (i : ℕ) → Frames tw s t → V tw v w → Frames tw (with_local s i v) (with_local t i w)
  local-paired i f r = record {
    entries = record { top = record { kind = f.entries.top.kind; number = f.entries.top.number; pc = f.entries.top.pc; stack = f.entries.top.stack; locals = set-list (V tw) i r f.entries.top.locals }; below = f.entries.below };
    method = f.method;
  }

  pub stored-paired : {s t : Entries} {v w : Value} {vs ws : List Value} (i : ℕ) → Frames tw s t → V tw v w → PairedList (V tw) vs ws → Rows tw (stored tw.left s i v vs) (stored tw.right t i w ws)
  stored-paired i f r rs = choose-paired tw _ _ (ap (λ (k : ℕ). nat_lt i k) (length-paired (V tw) f.entries.top.locals)) (goes_on-paired tw (local-paired i f r) rs) (stuck_row-paired tw)

  pub long-paired : {v w : Value} → V tw v w → is_long v ≡ is_long w
  long-paired (ints i) = refl
  long-paired _ = refl

  pub under_long-paired : {s t : Entries} {a a' b b' : Value} {vs ws : List Value} → Frames tw s t → V tw a a' → V tw b b' → PairedList (V tw) vs ws →
      Rows tw (two_under_long tw.left s a b vs) (two_under_long tw.right t a' b' ws)
  under_long-paired f r r' rs = choose-paired tw _ _ (long-paired r') (goes_on-paired tw f (one_more r (one_more r' (one_more r rs))))
      (popping-paired tw rs (λ c c' us xs k ks. goes_on-paired tw f (one_more r (one_more r' (one_more k (one_more r ks))))))

  pub under_two-paired : {s t : Entries} {a a' b b' : Value} {vs ws : List Value} → Frames tw s t → V tw a a' → V tw b b' → PairedList (V tw) vs ws →
      Rows tw (two_under_two tw.left s a b vs) (two_under_two tw.right t a' b' ws)
  under_two-paired f r r' rs = popping-paired tw rs (λ c c' us xs k ks. choose-paired tw _ _ (long-paired k) (goes_on-paired tw f (one_more r (one_more r' (one_more k (one_more r (one_more r' ks))))))
      (popping-paired tw ks (λ d d' us' xs' l ls. goes_on-paired tw f (one_more r (one_more r' (one_more k (one_more l (one_more r (one_more r' ls)))))))))

  pub moves-paired : {i j : Instr} {s t : Entries} → PairedInstr tw.numbers i j → Frames tw s t → Rows tw (row_moves tw.left i s) (row_moves tw.right j t)
  unfolding row_moves
  moves-paired same.nop f = goes_on-paired tw f f.entries.top.stack
  moves-paired (same.const c) f = goes_on-paired tw f (one_more (constant-paired tw.numbers tw.place c) f.entries.top.stack)
  moves-paired (same.load x i) f = loaded-paired f (get-list (V tw) i f.entries.top.locals)
  moves-paired (same.store x i) f = popping-paired tw f.entries.top.stack (λ a b vs ws r rs. stored-paired i f r rs)
  moves-paired same.pop f = popping-paired tw f.entries.top.stack (λ a b vs ws r rs. goes_on-paired tw f rs)
  moves-paired same.pop2 f = popping-paired tw f.entries.top.stack (λ a b vs ws r rs. choose-paired tw _ _ (long-paired r) (goes_on-paired tw f rs) (popping-paired tw rs (λ c d us xs k ks. goes_on-paired tw f ks)))
  moves-paired same.dup f = popping-paired tw f.entries.top.stack (λ a b vs ws r rs. goes_on-paired tw f (one_more r (one_more r rs)))
  moves-paired same.dup_x1 f = popping-paired tw f.entries.top.stack (λ a b vs ws r rs. popping-paired tw rs (λ c d us xs k ks. goes_on-paired tw f (one_more r (one_more k (one_more r ks)))))
  moves-paired same.dup_x2 f = popping-paired tw f.entries.top.stack (λ a b vs ws r rs. popping-paired tw rs (λ c d us xs k ks. under_long-paired f r k ks))
  moves-paired same.dup2 f = popping-paired tw f.entries.top.stack (λ a b vs ws r rs. choose-paired tw _ _ (long-paired r) (goes_on-paired tw f (one_more r (one_more r rs)))
      (popping-paired tw rs (λ c d us xs k ks. goes_on-paired tw f (one_more r (one_more k (one_more r (one_more k ks)))))))
  moves-paired same.dup2_x1 f = popping-paired tw f.entries.top.stack (λ a b vs ws r rs. popping-paired tw rs (λ c d us xs k ks. choose-paired tw _ _ (long-paired r)
      (goes_on-paired tw f (one_more r (one_more k (one_more r ks))))
      (popping-paired tw ks (λ e g us' xs' l ls. goes_on-paired tw f (one_more r (one_more k (one_more l (one_more r (one_more k ls)))))))))
  moves-paired same.dup2_x2 f = popping-paired tw f.entries.top.stack (λ a b vs ws r rs. popping-paired tw rs (λ c d us xs k ks. choose-paired tw _ _ (long-paired r)
      (under_long-paired f r k ks)
      (under_two-paired f r k ks)))
  moves-paired same.swap f = popping-paired tw f.entries.top.stack (λ a b vs ws r rs. popping-paired tw rs (λ c d us xs k ks. goes_on-paired tw f (one_more k (one_more r ks))))
  moves-paired same.monitor f = popping-paired tw f.entries.top.stack (λ a b vs ws r rs. on_reference-paired tw _ _ (stack-paired tw.numbers tw.place f rs).entries r (goes_on-paired tw f rs))
  moves-paired _ f = stuck_row-paired tw

  -- arithmetic
  pub unless_zero-paired : (x : Op) (b : ℤ) {s t : Entries} {k l : Access (Answer Entries)} → E tw s t → Rows tw k l → Rows tw (unless_zero x b s k) (unless_zero x b t l)
  unless_zero-paired x b r f = choose-paired tw (divides x) (divides x) refl
      (choose-paired tw (int_eq b (pos 0)) (int_eq b (pos 0)) refl (faults-paired tw (tw.matched.builtin arithmetic_exception (omega arith)) r) f) f

  pub two_ints-paired : (x : Op) {s t : Entries} → Frames tw s t → Rows tw (two_ints tw.left x s) (two_ints tw.right x t)
  two_ints-paired x f = popping-paired tw f.entries.top.stack (λ a b vs ws r rs. popping-paired tw rs (λ c d us xs k ks. on_int-paired tw r (λ i. on_int-paired tw k (λ j.
      unless_zero-paired x i (stack-paired tw.numbers tw.place f ks).entries (goes_on-paired tw f (one_more (ints _) ks))))))

  pub two_longs-paired : (x : Op) {s t : Entries} → Frames tw s t → Rows tw (two_longs tw.left x s) (two_longs tw.right x t)
  two_longs-paired x f = popping-paired tw f.entries.top.stack (λ a b vs ws r rs. popping-paired tw rs (λ c d us xs k ks. on_long-paired tw r (λ i. on_long-paired tw k (λ j.
      unless_zero-paired x i (stack-paired tw.numbers tw.place f ks).entries (goes_on-paired tw f (one_more (longs _) ks))))))

  pub long_by_int-paired : (x : Op) {s t : Entries} → Frames tw s t → Rows tw (long_by_int tw.left x s) (long_by_int tw.right x t)
  long_by_int-paired x f = popping-paired tw f.entries.top.stack (λ a b vs ws r rs. popping-paired tw rs (λ c d us xs k ks. on_int-paired tw r (λ i. on_long-paired tw k (λ j. goes_on-paired tw f (one_more (longs _) ks)))))

  pub converted-paired : (x : Conv) {s t : Entries} → Frames tw s t → Rows tw (converted tw.left x s) (converted tw.right x t)
  converted-paired conv.I2l f = popping-paired tw f.entries.top.stack (λ a b vs ws r rs. on_int-paired tw r (λ i. goes_on-paired tw f (one_more (longs _) rs)))
  converted-paired conv.L2i f = popping-paired tw f.entries.top.stack (λ a b vs ws r rs. on_long-paired tw r (λ i. goes_on-paired tw f (one_more (ints _) rs)))
  converted-paired _ f = popping-paired tw f.entries.top.stack (λ a b vs ws r rs. on_int-paired tw r (λ i. goes_on-paired tw f (one_more (ints _) rs)))

  pub increased-paired : (i : ℕ) (by : ℤ) {s t : Entries} {x y : Option Value} → Frames tw s t → PairedOption (V tw) x y → Rows tw (increased tw.left i by s x) (increased tw.right i by t y)
  increased-paired i by f both_none = stuck_row-paired tw
  increased-paired i by f (both_some r) = on_int-paired tw r (λ a. stored-paired i f (ints _) f.entries.top.stack)

  pub arith-paired : {i j : Instr} {s t : Entries} → PairedInstr tw.numbers i j → Frames tw s t → Rows tw (row_arith tw.left i s) (row_arith tw.right j t)
  unfolding row_arith
  arith-paired (same.binary x false) f = two_ints-paired x f
  arith-paired (same.binary x true) f = choose-paired tw (shifts x) (shifts x) refl (long_by_int-paired x f) (two_longs-paired x f)
  arith-paired (same.neg false) f = popping-paired tw f.entries.top.stack (λ a b vs ws r rs. on_int-paired tw r (λ i. goes_on-paired tw f (one_more (ints _) rs)))
  arith-paired (same.neg true) f = popping-paired tw f.entries.top.stack (λ a b vs ws r rs. on_long-paired tw r (λ i. goes_on-paired tw f (one_more (longs _) rs)))
  arith-paired (same.inc i by) f = increased-paired i by f (get-list (V tw) i f.entries.top.locals)
  arith-paired (same.convert x) f = converted-paired x f
  arith-paired same.compare f = popping-paired tw f.entries.top.stack (λ a b vs ws r rs. popping-paired tw rs (λ c d us xs k ks. on_long-paired tw r (λ i. on_long-paired tw k (λ j. goes_on-paired tw f (one_more (ints _) ks)))))
  arith-paired _ f = stuck_row-paired tw

  -- branches; equality of references wants places and constants one to one
  pub same_reference-paired : {v w x y : Value} → V tw v w → V tw x y → same_reference v x ≡ same_reference w y
  same_reference-paired nulls nulls = refl
  same_reference-paired (literals {n = a} {k = b} e) (literals {n = c} {k = d} g) = test-paired tw.matched.one_literal a b c d e g
  same_reference-paired (objects {a} {b} e) (objects {a = c} {b = d} g) = test-paired tw.one a b c d e g
  same_reference-paired _ _ = refl

  pub null-paired : {v w : Value} → V tw v w → is_null v ≡ is_null w
  null-paired (ints i) = refl
  null-paired _ = refl

  pub goes_if-paired : {b c : Bool} (to : ℕ) {s t : Entries} {vs ws : List Value} → b ≡ c → Frames tw s t → PairedList (V tw) vs ws → Rows tw (goes_if b to tw.left s vs) (goes_if c to tw.right t ws)
  goes_if-paired to e f rs = choose-paired tw _ _ e (goes_to-paired tw refl f rs) (goes_on-paired tw f rs)

  pub branches-paired : {i j : Instr} {s t : Entries} → PairedInstr tw.numbers i j → Frames tw s t → Rows tw (row_branches tw.left i s) (row_branches tw.right j t)
  unfolding row_branches
  branches-paired (same.if_zero x to) f = popping-paired tw f.entries.top.stack (λ a b vs ws r rs. on_int-paired tw r (λ i. goes_if-paired to refl f rs))
  branches-paired (same.if_ints x to) f = popping-paired tw f.entries.top.stack (λ a b vs ws r rs. popping-paired tw rs (λ c d us xs k ks. on_int-paired tw r (λ i. on_int-paired tw k (λ j. goes_if-paired to refl f ks))))
  branches-paired (same.if_refs x to) f = popping-paired tw f.entries.top.stack (λ a b vs ws r rs. popping-paired tw rs (λ c d us xs k ks. goes_if-paired to (ap (flag_is x) (same_reference-paired k r)) f ks))
  branches-paired (same.if_null x to) f = popping-paired tw f.entries.top.stack (λ a b vs ws r rs. goes_if-paired to (ap (flag_is x) (null-paired r)) f rs)
  branches-paired (same.goto to) f = goes_to-paired tw refl f f.entries.top.stack
  branches-paired (same.table low ts other) f = popping-paired tw f.entries.top.stack (λ a b vs ws r rs. on_int-paired tw r (λ i. goes_to-paired tw refl f rs))
  branches-paired (same.lookup ps other) f = popping-paired tw f.entries.top.stack (λ a b vs ws r rs. on_int-paired tw r (λ i. goes_to-paired tw refl f rs))
  branches-paired _ f = stuck_row-paired tw

  -- returns
  pub narrow-paired : (u : ℕ) {v w : Value} → V tw v w → V tw (narrow u v) (narrow u w)
  unfolding narrow
  narrow-paired u (ints i) = ints _
  narrow-paired u (longs i) = longs i
  narrow-paired u nulls = nulls
  narrow-paired u (literals e) = literals e
  narrow-paired u (objects x) = objects x

  pub narrow_by : (d : List ℕ) {v w : Value} → V tw v w → V tw (narrowed d v) (narrowed d w)
  narrow_by [] r = r
  narrow_by (u ∷ us) r = narrow-paired u r

  pub narrowed-paired : {d d' : List ℕ} {v w : Value} → d ≡ d' → V tw v w → V tw (narrowed d v) (narrowed d' w)
  narrowed-paired {d} {d'} {v} {w} e r = subst (λ (z : List ℕ). V tw (narrowed d v) (narrowed z w)) e (narrow_by d r)

  pub handed-paired : (k : EntryKind) {s t : Entries} {vs ws : List Value} → s.top.kind ≡ k → E tw s t → PairedList (V tw) vs ws → Rows tw (handed_on k tw.left vs s) (handed_on k tw.right ws t)
  handed-paired Absent e r rs = both_done (answered leave r)
  handed-paired InMethod e r no_more = let f = frame_top tw.numbers tw.place r e in goes_on-paired tw f r.top.stack
  handed-paired InMethod e r (one_more v vs) = let f = frame_top tw.numbers tw.place r e in goes_on-paired tw f (one_more v r.top.stack)
  handed-paired (InClass b) e r rs = both_done (answered go r)

  pub hands-paired : {s t : Entries} {vs ws : List Value} → E tw s t → PairedList (V tw) vs ws → Rows tw (hands_on tw.left vs s) (hands_on tw.right ws t)
  unfolding hands_on
  hands-paired {s} {t} {vs} {ws} r rs = let o = popped-paired tw.numbers tw.place r in
      subst (λ (k : EntryKind). Rows tw (hands_on tw.left vs s) (handed_on k tw.right ws (popped_entry t))) o.top.kind (handed-paired (popped_entry s).top.kind refl o rs)

  pub return-paired : {i j : Instr} {s t : Entries} → PairedInstr tw.numbers i j → Frames tw s t → Rows tw (row_return tw.left i s) (row_return tw.right j t)
  unfolding row_return
  return-paired (same.return None) f = hands-paired f.entries no_more
  return-paired (same.return (Some x)) f = popping-paired tw f.entries.top.stack (λ a b vs ws r rs. hands-paired f.entries (one_more (narrowed-paired (ap return_type (tw.matched.methods _ _ f.method).descriptor) r) no_more))
  return-paired _ f = stuck_row-paired tw

  -- athrow
  pub throw-paired : {s t : Entries} → Frames tw s t → Rows tw (row_throw s) (row_throw t)
  unfolding row_throw
  throw-paired f = popping-paired tw f.entries.top.stack (λ a b vs ws r rs. on_object-paired tw _ _ f.entries r (λ x y k. both_done (answered (raised r) f.entries)))
