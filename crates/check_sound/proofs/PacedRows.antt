-- Rows of instructions touch no more than they pay for: moves, arithmetic, branches, statics, fields, arrays, casts, returns,
-- athrow, and raising into a frame.
use Rattle.std.proofs.Common.{◌≡◌, ℕ, ℤ, pos, negsuc, suc, ◌≤◌, List, [], ◌∷◌, length, Bool, true, false, cond, nat_lt, Option, Some, None, slice_get, refl, arith}
use Rattle.std.specs.Ordering.{int_eq}
use Rattle.jvm_model.specs.declared.values.{Value.Value, Kind.Kind, Head.Head, InitState.InitState}
use Rattle.jvm_model.specs.declared.values.Value.TheVariants as value
use Rattle.jvm_model.specs.declared.values.Kind.TheVariants as kind
use Rattle.jvm_model.specs.declared.values.InitState.TheVariants.{Idle, Running, Erroneous}
use Rattle.jvm_model.specs.declared.values.Location.TheVariants as place
use Rattle.jvm_model.specs.declared.{instr.Op.Op, instr.Conv.Conv, instr.Cell.Cell, instr.Instr.Instr, state.EntryKind.EntryKind}
use Rattle.jvm_model.specs.declared.instr.Conv.TheVariants as conv
use Rattle.jvm_model.specs.declared.instr.Instr.TheVariants as form
use Rattle.jvm_model.specs.declared.state.EntryKind.TheVariants.{Absent, InMethod, InClass}
use Rattle.jvm_model.specs.{declared.program.Program.Program, Classes.method_at, Classes.field_at, Classes.is_trivial}
use Rattle.jvm_model.specs.Access.{Access, done, read, write, bind}
use Rattle.jvm_model.specs.Builtin.{no_class_error, stack_overflow_error, arithmetic_exception, array_store_exception, class_cast_exception, array_index_exception}
use Rattle.jvm_model.specs.{Kinds.class_of, Kinds.element_kind, Kinds.kind_fits, Descriptors.return_type, Linked.Linked, Narrow.narrowed, RowsFields.row_fields}
use Rattle.jvm_model.specs.{Step.row_throw, RowsStatics.read_static, RowsStatics.write_static, RowsStatics.row_statics}
use Rattle.jvm_model.specs.Entries.{Entries, with_stack, with_entry, class_entry, is_full, popped_entry}
use Rattle.jvm_model.specs.Rows.{Answer, popping, on_int, on_long, on_object, constant_kind, ready, begun, refused, begun_at, begin, once, using}
use Rattle.jvm_model.specs.RowsMoves.{is_long, loaded, stored, two_under_long, two_under_two, row_moves}
use Rattle.jvm_model.specs.RowsArith.{divides, shifts, unless_zero, two_ints, two_longs, long_by_int, converted, increased, row_arith}
use Rattle.jvm_model.specs.RowsBranches.{holds, same_reference, is_null, flag_is, goes_if, row_branches}
use Rattle.jvm_model.specs.RowsCasts.{cast_to, cast, tested, row_casts}
use Rattle.jvm_model.specs.RowsArrays.{on_array, in_range, holds_references, checked, stored_in, loaded_from, row_arrays}
use Rattle.jvm_model.specs.{RowsReturn.handed_on, RowsReturn.hands_on, RowsReturn.row_return, Raising.handler_for, Raising.handled, Raising.row_raise}
use Rattle.check_sound.proofs.Paced.{Limits, either, paced_done, paced_read, paced_write, PacedRow, popping-paced, on_int-paced, on_long-paced, on_object-paced, on_reference-paced}
use Rattle.check_sound.proofs.Light.{light, null_light}

pub none : 0 ≤ 4
none = omega arith

pub one : 1 ≤ 4
one = omega arith

pub two : 2 ≤ 4
two = omega arith

pub three : 3 ≤ 4
three = omega arith

-- the static and the state that the instruction names are allowed
abbrev pub NamesAllowed : Program → Limits → Instr → Type 0
NamesAllowed p M (form.GetStatic f) = M.gets f × M.states (field_at p f).class
NamesAllowed p M (form.PutStatic f) = M.puts f × M.states (field_at p f).class
NamesAllowed p M (form.New c) = M.states c
NamesAllowed p M (form.InvokeStatic m) = M.states (method_at p m).class
NamesAllowed p M i = Unit {0}

module _ (p : Program) (lk : Linked p) {M : Limits} where
  pop : (vs : List Value) {k : Value → List Value → Access (Answer Entries)} → ((v : Value) (ws : List Value) → PacedRow p M 4 0 (k v ws)) → PacedRow p M 4 0 (popping vs k)
  pop vs r = popping-paced p (null_light p lk) none vs r

  int : (v : Value) {k : ℤ → Access (Answer Entries)} → ((n : ℤ) → PacedRow p M 4 0 (k n)) → PacedRow p M 4 0 (on_int v k)
  int v r = on_int-paced p (null_light p lk) none v r

  long : (v : Value) {k : ℤ → Access (Answer Entries)} → ((n : ℤ) → PacedRow p M 4 0 (k n)) → PacedRow p M 4 0 (on_long v k)
  long v r = on_long-paced p (null_light p lk) none v r

  object : (s : Entries) (v : Value) {k : ℕ → Access (Answer Entries)} → ((o : ℕ) → PacedRow p M 4 0 (k o)) → PacedRow p M 4 0 (on_object s v k)
  object s v r = on_object-paced p (null_light p lk) none s v r

  -- ---- moves

  loaded-paced : (s : Entries) (o : Option Value) → PacedRow p M 4 0 (loaded p s o)
  loaded-paced s None = paced_done none
  loaded-paced s (Some v) = paced_done (none, tt)

  stored-paced : (s : Entries) (n : ℕ) (v : Value) (vs : List Value) → PacedRow p M 4 0 (stored p s n v vs)
  stored-paced s n v vs = either (nat_lt n (length s.top.locals)) (paced_done (none, tt)) (paced_done none)

  under_long : (s : Entries) (a b : Value) (ws : List Value) → PacedRow p M 4 0 (two_under_long p s a b ws)
  under_long s a b ws = either (is_long b) (paced_done (none, tt)) (pop ws (λ c rest. paced_done (none, tt)))

  under_two : (s : Entries) (a b : Value) (ws : List Value) → PacedRow p M 4 0 (two_under_two p s a b ws)
  under_two s a b ws = pop ws (λ c xs. either (is_long c) (paced_done (none, tt)) (pop xs (λ d rest. paced_done (none, tt))))

  pub moves-paced : (i : Instr) (s : Entries) → PacedRow p M 4 0 (row_moves p i s)
  unfolding row_moves
  moves-paced form.Nop s = paced_done (none, tt)
  moves-paced (form.Const v) s = paced_done (none, tt)
  moves-paced (form.Load x n) s = loaded-paced s (slice_get s.top.locals n)
  moves-paced (form.Store x n) s = pop s.top.stack (λ v vs. stored-paced s n v vs)
  moves-paced form.Pop s = pop s.top.stack (λ a vs. paced_done (none, tt))
  moves-paced form.Pop2 s = pop s.top.stack (λ a vs. either (is_long a) (paced_done (none, tt)) (pop vs (λ b rest. paced_done (none, tt))))
  moves-paced form.Dup s = pop s.top.stack (λ a vs. paced_done (none, tt))
  moves-paced form.DupX1 s = pop s.top.stack (λ a vs. pop vs (λ b rest. paced_done (none, tt)))
  moves-paced form.DupX2 s = pop s.top.stack (λ a vs. pop vs (λ b ws. under_long s a b ws))
  moves-paced form.Dup2 s = pop s.top.stack (λ a vs. either (is_long a) (paced_done (none, tt)) (pop vs (λ b rest. paced_done (none, tt))))
  moves-paced form.Dup2X1 s = pop s.top.stack (λ a vs. pop vs (λ b ws. either (is_long a) (paced_done (none, tt)) (pop ws (λ c rest. paced_done (none, tt)))))
  moves-paced form.Dup2X2 s = pop s.top.stack (λ a vs. pop vs (λ b ws. either (is_long a) (under_long s a b ws) (under_two s a b ws)))
  moves-paced form.Swap s = pop s.top.stack (λ a vs. pop vs (λ b rest. paced_done (none, tt)))
  moves-paced form.Monitor s = pop s.top.stack (λ v vs. on_reference-paced p (null_light p lk) none (with_stack s vs) v (paced_done (none, tt)))
  moves-paced _ s = paced_done none

  -- ---- arithmetic

  zero-paced : (x : Op) (b : ℤ) (s : Entries) {k : Access (Answer Entries)} → PacedRow p M 4 0 k → PacedRow p M 4 0 (unless_zero x b s k)
  zero-paced x b s r = either (divides x) (either (int_eq b (pos 0)) (paced_done (none, light p lk arithmetic_exception (omega arith))) r) r

  ints : (x : Op) (s : Entries) → PacedRow p M 4 0 (two_ints p x s)
  ints x s = pop s.top.stack (λ v vs. pop vs (λ u rest. int v (λ b. int u (λ a. zero-paced x b (with_stack s rest) (paced_done (none, tt))))))

  longs : (x : Op) (s : Entries) → PacedRow p M 4 0 (two_longs p x s)
  longs x s = pop s.top.stack (λ v vs. pop vs (λ u rest. long v (λ b. long u (λ a. zero-paced x b (with_stack s rest) (paced_done (none, tt))))))

  by_int : (x : Op) (s : Entries) → PacedRow p M 4 0 (long_by_int p x s)
  by_int x s = pop s.top.stack (λ v vs. pop vs (λ u rest. int v (λ b. long u (λ a. paced_done (none, tt)))))

  converted-paced : (x : Conv) (s : Entries) → PacedRow p M 4 0 (converted p x s)
  converted-paced conv.L2i s = pop s.top.stack (λ v vs. long v (λ a. paced_done (none, tt)))
  converted-paced _ s = pop s.top.stack (λ v vs. int v (λ a. paced_done (none, tt)))

  increased-paced : (n : ℕ) (by : ℤ) (s : Entries) (o : Option Value) → PacedRow p M 4 0 (increased p n by s o)
  increased-paced n by s None = paced_done none
  increased-paced n by s (Some v) = int v (λ a. stored-paced s n _ s.top.stack)

  pub arith-paced : (i : Instr) (s : Entries) → PacedRow p M 4 0 (row_arith p i s)
  unfolding row_arith
  arith-paced (form.Binary x false) s = ints x s
  arith-paced (form.Binary x true) s = either (shifts x) (by_int x s) (longs x s)
  arith-paced (form.Neg false) s = pop s.top.stack (λ v vs. int v (λ a. paced_done (none, tt)))
  arith-paced (form.Neg true) s = pop s.top.stack (λ v vs. long v (λ a. paced_done (none, tt)))
  arith-paced (form.Inc n by) s = increased-paced n by s (slice_get s.top.locals n)
  arith-paced (form.Convert x) s = converted-paced x s
  arith-paced form.Compare s = pop s.top.stack (λ v vs. pop vs (λ u rest. long v (λ b. long u (λ a. paced_done (none, tt)))))
  arith-paced _ s = paced_done none

  -- ---- branches

  if-paced : (b : Bool) (to : ℕ) (s : Entries) (vs : List Value) → PacedRow p M 4 0 (goes_if b to p s vs)
  if-paced b to s vs = either b (paced_done (none, tt)) (paced_done (none, tt))

  pub branches-paced : (i : Instr) (s : Entries) → PacedRow p M 4 0 (row_branches p i s)
  unfolding row_branches
  branches-paced (form.IfZero x to) s = pop s.top.stack (λ v vs. int v (λ a. if-paced (holds x a (pos 0)) to s vs))
  branches-paced (form.IfInts x to) s = pop s.top.stack (λ v vs. pop vs (λ u rest. int v (λ b. int u (λ a. if-paced (holds x a b) to s rest))))
  branches-paced (form.IfRefs x to) s = pop s.top.stack (λ v vs. pop vs (λ u rest. if-paced (flag_is x (same_reference u v)) to s rest))
  branches-paced (form.IfNull x to) s = pop s.top.stack (λ v vs. if-paced (flag_is x (is_null v)) to s vs)
  branches-paced (form.Goto to) s = paced_done (none, tt)
  branches-paced (form.Table low ts other) s = pop s.top.stack (λ v vs. int v (λ n. paced_done (none, tt)))
  branches-paced (form.Lookup ps other) s = pop s.top.stack (λ v vs. int v (λ n. paced_done (none, tt)))
  branches-paced _ s = paced_done none

  -- ---- the use of a class: its state is read where it isn't trivial

  pub using-paced : (c : ℕ) (s : Entries) (k : Access (Answer Entries)) → M.states c → (is_trivial p c ≡ true → PacedRow p M 4 0 k) → (is_trivial p c ≡ false → PacedRow p M 4 1 k) → PacedRow p M 4 0 (using p c s k)
  unfolding begin
  using-paced c s k m f g = by (is_trivial p c) refl
    where
      full : (b : Bool) → PacedRow p M 4 1 (bind (cond b (done (refused 18)) (write (place.Init c) Running (done (begun (with_entry (class_entry c) s))))) (once s k))
      full true = paced_done (one, light p lk stack_overflow_error (omega arith))
      full false = paced_write m (paced_done (two, tt))

      looks : (x : InitState) → is_trivial p c ≡ false → PacedRow p M 4 1 (bind (begun_at c s x) (once s k))
      looks Idle e = full (is_full s)
      looks Erroneous e = paced_done (one, light p lk no_class_error (omega arith))
      looks _ e = g e

      by : (b : Bool) → is_trivial p c ≡ b → PacedRow p M 4 0 (bind (cond b (done ready) (read (place.Init c) (begun_at c s))) (once s k))
      by true e = f e
      by false e = paced_read m (λ x. looks x e)

  -- ---- statics and fields

  pub read_static-paced : {d : ℕ} (f : ℕ) (s : Entries) → M.gets f → suc d ≤ 4 → PacedRow p M 4 d (read_static p f s)
  unfolding read_static
  read_static-paced f s m e = paced_read m (λ v. paced_done (e, tt))

  pub write_static-paced : {d : ℕ} (f : ℕ) (s : Entries) → M.puts f → suc d ≤ 4 → PacedRow p M 4 d (write_static p f s)
  unfolding write_static
  write_static-paced f s m e = popping-paced p (null_light p lk) (omega arith) s.top.stack (λ v vs. paced_write m (paced_done (e, tt)))

  pub statics-paced : (i : Instr) (s : Entries) → NamesAllowed p M i → PacedRow p M 4 0 (row_statics p i s)
  unfolding row_statics
  statics-paced (form.GetStatic f) s m = using-paced (field_at p f).class s (read_static p f s) m.1 (λ e. read_static-paced f s m.0 one) (λ e. read_static-paced f s m.0 two)
  statics-paced (form.PutStatic f) s m = using-paced (field_at p f).class s (write_static p f s) m.1 (λ e. write_static-paced f s m.0 one) (λ e. write_static-paced f s m.0 two)
  statics-paced _ s m = paced_done none

  pub fields-paced : (i : Instr) (s : Entries) → PacedRow p M 4 0 (row_fields p i s)
  unfolding row_fields
  fields-paced (form.GetField c f) s = pop s.top.stack (λ r vs. object (with_stack s vs) r (λ o. paced_read tt (λ v. paced_done (one, tt))))
  fields-paced (form.PutField c f) s = pop s.top.stack (λ v vs. pop vs (λ r rest. object (with_stack s rest) r (λ o. paced_write tt (paced_done (one, tt)))))
  fields-paced _ s = paced_done none

  -- ---- arrays: the head, the head of what is stored, the cell

  array-paced : (k : Kind) {t : Access (Answer Entries)} → PacedRow p M 4 1 t → PacedRow p M 4 1 (on_array k t)
  array-paced (kind.Class c) r = paced_done one
  array-paced (kind.Array d b) r = r

  range-paced : (s : Entries) (i : ℤ) (n : ℕ) {k : ℕ → Access (Answer Entries)} → ((j : ℕ) → PacedRow p M 4 1 (k j)) → PacedRow p M 4 1 (in_range s i n k)
  range-paced s (pos i) n r = either (nat_lt i n) (r i) (paced_done (one, light p lk array_index_exception (omega arith)))
  range-paced s (negsuc i) n r = paced_done (one, light p lk array_index_exception (omega arith))

  checked-paced : (k : Kind) (s : Entries) (v : Value) {t : Access (Answer Entries)} → PacedRow p M 4 1 t → PacedRow p M 4 2 t → PacedRow p M 4 1 (checked p k s v t)
  checked-paced k s value.Null r q = r
  checked-paced k s (value.Lit n) r q = either (kind_fits p (constant_kind n) (element_kind k)) r (paced_done (one, light p lk array_store_exception (omega arith)))
  checked-paced k s (value.Obj o) r q = paced_read tt (λ h. either (kind_fits p h.kind (element_kind k)) q (paced_done (two, light p lk array_store_exception (omega arith))))
  checked-paced k s _ r q = paced_done one

  stored_in-paced : (c : Cell) (s : Entries) (o : ℕ) (i : ℤ) (v : Value) (vs : List Value) (h : Head) → PacedRow p M 4 1 (stored_in p c s o i v vs h)
  stored_in-paced c s o i v vs h = array-paced h.kind (range-paced (with_stack s vs) i h.length (λ n. either (holds_references c)
      (checked-paced h.kind (with_stack s vs) v (paced_write tt (paced_done (two, tt))) (paced_write tt (paced_done (three, tt))))
      (paced_write tt (paced_done (two, tt)))))

  loaded_from-paced : (s : Entries) (o : ℕ) (i : ℤ) (vs : List Value) (h : Head) → PacedRow p M 4 1 (loaded_from p s o i vs h)
  loaded_from-paced s o i vs h = array-paced h.kind (range-paced (with_stack s vs) i h.length (λ n. paced_read tt (λ v. paced_done (two, tt))))

  pub arrays-paced : (i : Instr) (s : Entries) → PacedRow p M 4 0 (row_arrays p i s)
  unfolding row_arrays
  arrays-paced (form.ArrayLoad c) s = pop s.top.stack (λ v vs. pop vs (λ r rest. int v (λ i. object (with_stack s rest) r (λ o. paced_read tt (λ h. loaded_from-paced s o i rest h)))))
  arrays-paced (form.ArrayStore c) s = pop s.top.stack (λ v vs. pop vs (λ j ws. pop ws (λ r rest. int j (λ i. object (with_stack s rest) r (λ o. paced_read tt (λ h. stored_in-paced c s o i v rest h))))))
  arrays-paced form.ArrayLength s = pop s.top.stack (λ r vs. object (with_stack s vs) r (λ o. paced_read tt (λ h. array-paced h.kind (paced_done (one, tt)))))
  arrays-paced _ s = paced_done none

  -- ---- casts

  cast_to-paced : {d : ℕ} (k : Kind) (s : Entries) (v : Value) (vs : List Value) (x : Kind) → d ≤ 4 → PacedRow p M 4 d (cast_to p k s v vs x)
  cast_to-paced k s v vs x e = either (kind_fits p x k) (paced_done (e, tt)) (paced_done (e, light p lk class_cast_exception (omega arith)))

  cast-paced : (k : Kind) (s : Entries) (v : Value) (vs : List Value) → PacedRow p M 4 0 (cast p k s v vs)
  cast-paced k s value.Null vs = paced_done (none, tt)
  cast-paced k s (value.Lit n) vs = cast_to-paced k s (value.Lit n) vs (constant_kind n) none
  cast-paced k s (value.Obj o) vs = paced_read tt (λ h. cast_to-paced k s (value.Obj o) vs h.kind one)
  cast-paced k s _ vs = paced_done none

  tested-paced : (k : Kind) (s : Entries) (v : Value) (vs : List Value) → PacedRow p M 4 0 (tested p k s v vs)
  tested-paced k s value.Null vs = paced_done (none, tt)
  tested-paced k s (value.Lit n) vs = paced_done (none, tt)
  tested-paced k s (value.Obj o) vs = paced_read tt (λ h. paced_done (one, tt))
  tested-paced k s _ vs = paced_done none

  pub casts-paced : (i : Instr) (s : Entries) → PacedRow p M 4 0 (row_casts p i s)
  unfolding row_casts
  casts-paced (form.CheckCast k) s = pop s.top.stack (λ v vs. cast-paced k s v vs)
  casts-paced (form.InstanceOf k) s = pop s.top.stack (λ v vs. tested-paced k s v vs)
  casts-paced _ s = paced_done none

  -- ---- returns, athrow and raising

  handed-paced : (k : EntryKind) (vs : List Value) (s : Entries) → PacedRow p M 4 0 (handed_on k p vs s)
  handed-paced Absent vs s = paced_done (none, tt)
  handed-paced InMethod [] s = paced_done (none, tt)
  handed-paced InMethod (v ∷ vs) s = paced_done (none, tt)
  handed-paced (InClass b) vs s = paced_done (none, tt)

  hands-paced : (vs : List Value) (s : Entries) → PacedRow p M 4 0 (hands_on p vs s)
  unfolding hands_on
  hands-paced vs s = handed-paced (popped_entry s).top.kind vs (popped_entry s)

  pub returns-paced : (i : Instr) (s : Entries) → PacedRow p M 4 0 (row_return p i s)
  unfolding row_return
  returns-paced (form.Return None) s = hands-paced [] s
  returns-paced (form.Return (Some x)) s = pop s.top.stack (λ v vs. hands-paced (narrowed (return_type (method_at p s.top.number).descriptor) v ∷ []) s)
  returns-paced _ s = paced_done none

  pub throw-paced : (s : Entries) → PacedRow p M 4 0 (row_throw s)
  unfolding row_throw
  throw-paced s = pop s.top.stack (λ v vs. object s v (λ o. paced_done (none, tt)))

  handled-paced : (v : Value) (s : Entries) (o : Option ℕ) → PacedRow p M 4 1 (handled v s o)
  handled-paced v s None = paced_done (one, tt)
  handled-paced v s (Some pc) = paced_done (one, tt)

  pub raise-paced : (v : Value) (s : Entries) → PacedRow p M 4 0 (row_raise p v s)
  unfolding row_raise
  raise-paced v s = object s v (λ o. paced_read tt (λ h. handled-paced v s (handler_for p s.top.number s.top.pc (class_of h.kind))))
