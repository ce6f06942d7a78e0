-- Rows with touches in pairs: statics, fields, new objects, arrays, casts, calls.
use Rattle.std.proofs.Common.{◌≡◌, ℕ, ℤ, zero, suc, ◌+◌, Bool, true, false, cond, List, [], ◌∷◌, length, nat_lt, nat_le, slice_get, refl, ap, subst, arith, pos, negsuc, Option, Some, None}
use Rattle.et_base.specs.Numbers.{l2i}
use Rattle.jvm_model.specs.declared.{values.Value.Value, values.Value.TheVariants.Int, values.Kind.Kind, values.Head.Head, instr.Cell.Cell, instr.Instr.Instr}
use Rattle.jvm_model.specs.declared.{library.Native.Native, program.Body.Body}
use Rattle.jvm_model.specs.{Access.Access, Classes.method_at, Classes.is_abstract, Descriptors.parameters, Entries.Entries, Entries.with_stack}
use Rattle.jvm_model.specs.Builtin.{instantiation_error, negative_size_exception, array_index_exception, array_store_exception, class_cast_exception, abstract_method_error, stack_overflow_error}
use Rattle.jvm_model.specs.{Kinds.element_kind, Kinds.kind_fits, Narrow.narrow, Rows.Answer, Rows.faults, RowsFields.row_fields, Selection.Selected}
use Rattle.jvm_model.specs.RowsStatics.{read_static, write_static, row_statics}
use Rattle.jvm_model.specs.RowsCreate.{new_object, is_bare, array_head, new_array, children, nest, nest_cost, nested, sized, row_create}
use Rattle.jvm_model.specs.RowsArrays.{on_array, in_range, element_letter, holds_references, checked, stored_in, loaded_from, row_arrays}
use Rattle.jvm_model.specs.RowsCasts.{cast_to, cast, tested_for, tested, row_casts}
use Rattle.jvm_model.specs.RowsCalls.{enters_body, enters_native, calls, calls_selected, argument_count, on_receiver, receiver, row_calls}
use Rattle.order_law.specs.Pairing.{PairedList, one_more, PairedOption, both_none, both_some, ints, longs, nulls, literals, objects, statics, heads, at_field, at_elem, booleans, bytes, chars, shorts, int_bases, long_bases, class_bases, PairedKind, class_kinds, array_kinds, PairedHead, Paired, both_done, both_read, both_write, both_make, both_spend}
use Rattle.order_law.specs.{Numbers.Tested, Numbers.with_places, Forms.PairedInstr, Matched.PairedBody, Matched.MatchedStarts}
use Rattle.order_law.specs.Forms as same
use Rattle.order_law.proofs.{Twins.Twins, PlainRows.narrowed-paired, Lists.either, Lists.length-paired, Lists.get-list}
use Rattle.order_law.proofs.Programs.{interface-paired, layout-paired, blank-paired, instance-paired, element-paired, fits-paired, class_of-paired, named-paired, PairedSelected, both_chosen, both_failing, virtual-paired, interface_call-paired, special-paired}
use Rattle.order_law.proofs.States.{entering, stack-paired, full-paired, cost-paired, called-paired}
use Rattle.order_law.proofs.Combinators.{V, E, Frames, Rows, bind-paired, choose-paired, spend-paired, stuck_row-paired, faults-paired, goes_on-paired, popping-paired, on_int-paired, on_object-paired, on_reference-paired, with_kind-paired, using-paired}

module _ (tw : Twins) where
  abbrev KindsOf : Kind → Kind → Type 0
  KindsOf = PairedKind (Tested tw.numbers.class)

  abbrev HeadsOf : Head → Head → Type 0
  HeadsOf = PairedHead (Tested tw.numbers.class)

  -- these entries with other operands
  pub left_with : {s t : Entries} {vs ws : List Value} → Frames tw s t → PairedList (V tw) vs ws → E tw (with_stack s vs) (with_stack t ws)
  left_with f rs = (stack-paired tw.numbers tw.place f rs).entries

  -- statics
  pub read_static-paired : (a b : ℕ) {s t : Entries} → tw.numbers.fields a b ≡ true → Frames tw s t → Rows tw (read_static tw.left a s) (read_static tw.right b t)
  unfolding read_static
  read_static-paired a b e f = both_read (statics e) (λ v w r. goes_on-paired tw f (one_more r f.entries.top.stack))

  pub write_static-paired : (a b : ℕ) {s t : Entries} → tw.numbers.fields a b ≡ true → Frames tw s t → Rows tw (write_static tw.left a s) (write_static tw.right b t)
  unfolding write_static
  write_static-paired a b e f = popping-paired tw f.entries.top.stack (λ v w vs ws r rs. both_write (statics e) (narrowed-paired tw (tw.matched.fields a b e).descriptor r) (goes_on-paired tw f rs))

  pub statics-paired : MatchedStarts tw.numbers tw.left tw.right → {i j : Instr} {s t : Entries} → PairedInstr tw.numbers i j → Frames tw s t → Rows tw (row_statics tw.left i s) (row_statics tw.right j t)
  unfolding row_statics
  statics-paired st (same.get_static {f = a} {g = b} e) f = using-paired tw st _ _ (tw.matched.fields a b e).class f.entries (read_static-paired a b e f)
  statics-paired st (same.put_static {f = a} {g = b} e) f = using-paired tw st _ _ (tw.matched.fields a b e).class f.entries (write_static-paired a b e f)
  statics-paired st _ f = stuck_row-paired tw

  -- fields
  pub fields-paired : {i j : Instr} {s t : Entries} → PairedInstr tw.numbers i j → Frames tw s t → Rows tw (row_fields tw.left i s) (row_fields tw.right j t)
  unfolding row_fields
  fields-paired (same.get_field c e) f = popping-paired tw f.entries.top.stack (λ v w vs ws r rs. on_object-paired tw _ _ (left_with f rs) r (λ x y k. both_read (at_field k e) (λ v' w' l. goes_on-paired tw f (one_more l rs))))
  fields-paired (same.put_field {f = a} {g = b} c e) f = popping-paired tw f.entries.top.stack (λ v w vs ws r rs. popping-paired tw rs (λ v' w' us xs k ks. on_object-paired tw _ _ (left_with f ks) k (λ x y l.
      both_write (at_field l e) (narrowed-paired tw (tw.matched.fields a b e).descriptor r) (goes_on-paired tw f ks))))
  fields-paired _ f = stuck_row-paired tw

  -- new objects
  pub new_object-paired : (c d : ℕ) {s t : Entries} → tw.numbers.class c d ≡ true → Frames tw s t → Rows tw (new_object tw.left c s) (new_object tw.right d t)
  unfolding new_object
  new_object-paired c d e f = spend-paired tw (ap (λ (k : ℕ). 1 + k) (length-paired (Tested tw.numbers.fields) (layout-paired tw.numbers tw.left tw.right tw.matched c d e)))
      (both_make (blank-paired tw.numbers tw.left tw.right tw.matched tw.place (instance-paired tw.numbers tw.left tw.right tw.matched c d e)) (λ a b x. goes_on-paired tw f (one_more (objects x) f.entries.top.stack)))

  pub bare-paired : (c d : ℕ) → tw.numbers.class c d ≡ true → is_bare tw.left c ≡ is_bare tw.right d
  bare-paired c d e = either _ _ _ _ (ap is_abstract (tw.matched.classes c d e).flags) (interface-paired tw.numbers tw.left tw.right tw.matched c d e)

  pub array-paired : {k l : Kind} (i : ℕ) → KindsOf k l → HeadsOf (array_head k i) (array_head l i)
  array-paired i r = record { kind = r; length = refl }

  pub new_array-paired : {k l : Kind} {s t : Entries} {vs ws : List Value} (i : ℤ) → KindsOf k l → Frames tw s t → PairedList (V tw) vs ws → Rows tw (new_array tw.left k s vs i) (new_array tw.right l t ws i)
  new_array-paired (pos i) r f rs = both_spend (1 + i) (both_make (blank-paired tw.numbers tw.left tw.right tw.matched tw.place (array-paired i r)) (λ a b x. goes_on-paired tw f (one_more (objects x) rs)))
  new_array-paired (negsuc i) r f rs = faults-paired tw (tw.matched.builtin negative_size_exception (omega arith)) (left_with f rs)

  abbrev Makes : Access ℕ → Access ℕ → Type 0
  Makes a b = Paired (with_places tw.numbers tw.place) tw.place a b

  pub children-paired : (i j a b : ℕ) {x y : Access ℕ} → tw.place a b → Makes x y → Makes (children i j a x) (children i j b y)
  unfolding children
  children-paired zero j a b r f = both_done r
  children-paired (suc i) j a b r f = bind-paired tw f (λ c d s. both_write (at_elem j r) (objects s) (children-paired i (j + 1) a b r f))

  pub nest-paired : (i : ℕ) (ms : List ℕ) {k l : Kind} → KindsOf k l → Makes (nest tw.left k i ms) (nest tw.right l i ms)
  unfolding nest
  nest-paired i [] r = both_make (blank-paired tw.numbers tw.left tw.right tw.matched tw.place (array-paired i r)) (λ a b x. both_done x)
  nest-paired i (m ∷ ms) r = both_make (blank-paired tw.numbers tw.left tw.right tw.matched tw.place (array-paired i r))
      (λ a b x. children-paired i 0 a b x (nest-paired m ms (element-paired tw.numbers tw.left tw.right tw.matched r)))

  pub nested-paired : {k l : Kind} {s t : Entries} {vs ws : List Value} (ms : List ℕ) → KindsOf k l → Frames tw s t → PairedList (V tw) vs ws → Rows tw (nested tw.left k s vs ms) (nested tw.right l t ws ms)
  nested-paired [] r f rs = stuck_row-paired tw
  nested-paired (m ∷ ms) r f rs = both_spend (nest_cost m ms) (bind-paired tw (nest-paired m ms r) (λ a b x. goes_on-paired tw f (one_more (objects x) rs)))

  pub at_size : (k l : Kind) (s t : Entries) (us xs : List Value) (d : ℕ) (bad : Bool) (ms : List ℕ) (i : ℤ) →
      ((b : Bool) (ns : List ℕ) → Rows tw (sized tw.left k s d us b ns) (sized tw.right l t d xs b ns)) → Rows tw
      (elim i [ pos m ↦ sized tw.left k s d us bad (m ∷ ms) | negsuc m ↦ sized tw.left k s d us true ms ])
      (elim i [ pos m ↦ sized tw.right l t d xs bad (m ∷ ms) | negsuc m ↦ sized tw.right l t d xs true ms ])
  at_size k l s t us xs d bad ms (pos m) f = f bad (m ∷ ms)
  at_size k l s t us xs d bad ms (negsuc m) f = f true ms

  pub sized-paired : (d : ℕ) (bad : Bool) (ms : List ℕ) {k l : Kind} {s t : Entries} {vs ws : List Value} → KindsOf k l → Frames tw s t → PairedList (V tw) vs ws →
      Rows tw (sized tw.left k s d vs bad ms) (sized tw.right l t d ws bad ms)
  sized-paired zero bad ms r f rs = choose-paired tw bad bad refl (faults-paired tw (tw.matched.builtin negative_size_exception (omega arith)) (left_with f rs)) (nested-paired ms r f rs)
  sized-paired (suc d) bad ms {k} {l} {s} {t} r f rs = popping-paired tw rs (λ v w us xs u rest. on_int-paired tw u (λ i. at_size k l s t us xs d bad ms i (λ b ns. sized-paired d b ns r f rest)))

  pub create-paired : MatchedStarts tw.numbers tw.left tw.right → {i j : Instr} {s t : Entries} → PairedInstr tw.numbers i j → Frames tw s t → Rows tw (row_create tw.left i s) (row_create tw.right j t)
  unfolding row_create
  create-paired st (same.new {c} {d} e) f = choose-paired tw _ _ (bare-paired c d e) (faults-paired tw (tw.matched.builtin instantiation_error (omega arith)) f.entries) (using-paired tw st c d e f.entries (new_object-paired c d e f))
  create-paired st (same.new_array r) f = popping-paired tw f.entries.top.stack (λ v w vs ws u us. on_int-paired tw u (λ i. new_array-paired i r f us))
  create-paired st (same.multi_new_array d r) f = sized-paired d false [] r f f.entries.top.stack
  create-paired st _ f = stuck_row-paired tw

  -- arrays
  pub on_array-paired : {k l : Kind} {a b : Access (Answer Entries)} → KindsOf k l → Rows tw a b → Rows tw (on_array k a) (on_array l b)
  on_array-paired (class_kinds e) f = stuck_row-paired tw
  on_array-paired (array_kinds i e) f = f

  pub in_range-paired : {s t : Entries} (i : ℤ) {a b : ℕ} {k l : ℕ → Access (Answer Entries)} → E tw s t → a ≡ b → ((j : ℕ) → Rows tw (k j) (l j)) → Rows tw (in_range s i a k) (in_range t i b l)
  in_range-paired (pos i) r e f = choose-paired tw _ _ (ap (λ (z : ℕ). nat_lt i z) e) (f i) (faults-paired tw (tw.matched.builtin array_index_exception (omega arith)) r)
  in_range-paired (negsuc i) r e f = faults-paired tw (tw.matched.builtin array_index_exception (omega arith)) r

  pub letter-paired : {k l : Kind} → KindsOf k l → element_letter k ≡ element_letter l
  letter-paired (class_kinds e) = refl
  letter-paired (array_kinds i booleans) = refl
  letter-paired (array_kinds i bytes) = refl
  letter-paired (array_kinds i chars) = refl
  letter-paired (array_kinds i shorts) = refl
  letter-paired (array_kinds i int_bases) = refl
  letter-paired (array_kinds i long_bases) = refl
  letter-paired (array_kinds i (class_bases e)) = refl

  pub stores-paired : {k l x y : Kind} {s t : Entries} {a b : Access (Answer Entries)} → KindsOf k l → E tw s t → Rows tw a b → KindsOf x y →
      Rows tw (cond (kind_fits tw.left x (element_kind k)) a (faults array_store_exception s)) (cond (kind_fits tw.right y (element_kind l)) b (faults array_store_exception t))
  stores-paired r e f g = choose-paired tw _ _ (fits-paired tw.numbers tw.left tw.right tw.matched g (element-paired tw.numbers tw.left tw.right tw.matched r)) f (faults-paired tw (tw.matched.builtin array_store_exception (omega arith)) e)

  pub checked-paired : {k l : Kind} {s t : Entries} {v w : Value} {a b : Access (Answer Entries)} → KindsOf k l → E tw s t → V tw v w → Rows tw a b → Rows tw (checked tw.left k s v a) (checked tw.right l t w b)
  checked-paired r e (ints i) f = stuck_row-paired tw
  checked-paired r e (longs i) f = stuck_row-paired tw
  checked-paired r e nulls f = f
  checked-paired r e v f = with_kind-paired tw v (λ x y h. stores-paired r e f h)

  pub narrow_at : {a b : ℕ} {v w : Value} → a ≡ b → V tw v w → V tw (narrow a v) (narrow b w)
  narrow_at {a} {b} {v} {w} e r = narrowed-paired tw (ap (λ (z : ℕ). z ∷ []) e) r

  pub stored_in-paired : (c : Cell) {s t : Entries} {a b : ℕ} (i : ℤ) {v w : Value} {vs ws : List Value} {h k : Head} → Frames tw s t → tw.place a b → V tw v w → PairedList (V tw) vs ws → HeadsOf h k →
      Rows tw (stored_in tw.left c s a i v vs h) (stored_in tw.right c t b i w ws k)
  stored_in-paired c i f x r rs e = on_array-paired e.kind (in_range-paired i (left_with f rs) e.length (λ j. choose-paired tw (holds_references c) (holds_references c) refl
      (checked-paired e.kind (left_with f rs) r (both_write (at_elem j x) r (goes_on-paired tw f rs)))
      (both_write (at_elem j x) (narrow_at (letter-paired e.kind) r) (goes_on-paired tw f rs))))

  pub loaded_from-paired : {s t : Entries} {a b : ℕ} (i : ℤ) {vs ws : List Value} {h k : Head} → Frames tw s t → tw.place a b → PairedList (V tw) vs ws → HeadsOf h k →
      Rows tw (loaded_from tw.left s a i vs h) (loaded_from tw.right t b i ws k)
  loaded_from-paired i f x rs e = on_array-paired e.kind (in_range-paired i (left_with f rs) e.length (λ j. both_read (at_elem j x) (λ v w r. goes_on-paired tw f (one_more r rs))))

  pub length_int : {a b : ℕ} → a ≡ b → V tw (Int (l2i (pos a))) (Int (l2i (pos b)))
  length_int {a} {b} e = subst (λ (z : ℕ). V tw (Int (l2i (pos a))) (Int (l2i (pos z)))) e (ints (l2i (pos a)))

  pub arrays-paired : {i j : Instr} {s t : Entries} → PairedInstr tw.numbers i j → Frames tw s t → Rows tw (row_arrays tw.left i s) (row_arrays tw.right j t)
  unfolding row_arrays
  arrays-paired (same.array_load c) f = popping-paired tw f.entries.top.stack (λ v w vs ws r rs. popping-paired tw rs (λ v' w' us xs k ks. on_int-paired tw r (λ i. on_object-paired tw _ _ (left_with f ks) k (λ a b x. both_read (heads x) (λ h h' e. loaded_from-paired i f x ks e)))))
  arrays-paired (same.array_store c) f = popping-paired tw f.entries.top.stack (λ v w vs ws r rs. popping-paired tw rs (λ v' w' us xs k ks. popping-paired tw ks (λ v'' w'' us' xs' l ls. on_int-paired tw k (λ i. on_object-paired tw _ _ (left_with f ls) l (λ a b x. both_read (heads x) (λ h h' e. stored_in-paired c i f x r ls e))))))
  arrays-paired same.array_length f = popping-paired tw f.entries.top.stack (λ v w vs ws r rs. on_object-paired tw _ _ (left_with f rs) r (λ a b x. both_read (heads x) (λ h h' e. on_array-paired e.kind (goes_on-paired tw f (one_more (length_int e.length) rs)))))
  arrays-paired _ f = stuck_row-paired tw

  -- casts
  pub cast_to-paired : {k l x y : Kind} {s t : Entries} {v w : Value} {vs ws : List Value} → KindsOf k l → Frames tw s t → V tw v w → PairedList (V tw) vs ws → KindsOf x y → Rows tw (cast_to tw.left k s v vs x) (cast_to tw.right l t w ws y)
  cast_to-paired e f r rs g = choose-paired tw _ _ (fits-paired tw.numbers tw.left tw.right tw.matched g e) (goes_on-paired tw f (one_more r rs)) (faults-paired tw (tw.matched.builtin class_cast_exception (omega arith)) (left_with f rs))

  pub cast-paired : {k l : Kind} {s t : Entries} {v w : Value} {vs ws : List Value} → KindsOf k l → Frames tw s t → V tw v w → PairedList (V tw) vs ws → Rows tw (cast tw.left k s v vs) (cast tw.right l t w ws)
  cast-paired e f (ints i) rs = stuck_row-paired tw
  cast-paired e f (longs i) rs = stuck_row-paired tw
  cast-paired e f nulls rs = goes_on-paired tw f (one_more nulls rs)
  cast-paired e f v rs = with_kind-paired tw v (λ x y h. cast_to-paired e f v rs h)

  pub truth-paired : {b c : Bool} → b ≡ c → V tw (Int (cond b (pos 1) (pos 0))) (Int (cond c (pos 1) (pos 0)))
  truth-paired {b} {c} e = subst (λ (z : Bool). V tw (Int (cond b (pos 1) (pos 0))) (Int (cond z (pos 1) (pos 0)))) e (ints (cond b (pos 1) (pos 0)))

  pub tested_for-paired : {k l x y : Kind} {s t : Entries} {vs ws : List Value} → KindsOf k l → Frames tw s t → PairedList (V tw) vs ws → KindsOf x y → Rows tw (tested_for tw.left k s vs x) (tested_for tw.right l t ws y)
  tested_for-paired e f rs g = goes_on-paired tw f (one_more (truth-paired (fits-paired tw.numbers tw.left tw.right tw.matched g e)) rs)

  pub tested-paired : {k l : Kind} {s t : Entries} {v w : Value} {vs ws : List Value} → KindsOf k l → Frames tw s t → V tw v w → PairedList (V tw) vs ws → Rows tw (tested tw.left k s v vs) (tested tw.right l t w ws)
  tested-paired e f (ints i) rs = stuck_row-paired tw
  tested-paired e f (longs i) rs = stuck_row-paired tw
  tested-paired e f nulls rs = goes_on-paired tw f (one_more (ints (pos 0)) rs)
  tested-paired e f v rs = with_kind-paired tw v (λ x y h. tested_for-paired e f rs h)

  pub casts-paired : {i j : Instr} {s t : Entries} → PairedInstr tw.numbers i j → Frames tw s t → Rows tw (row_casts tw.left i s) (row_casts tw.right j t)
  unfolding row_casts
  casts-paired (same.check_cast e) f = popping-paired tw f.entries.top.stack (λ v w vs ws r rs. cast-paired e f r rs)
  casts-paired (same.instance_of e) f = popping-paired tw f.entries.top.stack (λ v w vs ws r rs. tested-paired e f r rs)
  casts-paired _ f = stuck_row-paired tw

  -- calls
  pub enters_body-paired : (a b k : ℕ) {x y : Option Body} {s t : Entries} → PairedOption (PairedBody tw.numbers) x y → tw.numbers.method a b ≡ true → Frames tw s t → Rows tw (enters_body x a k s) (enters_body y b k t)
  enters_body-paired a b k both_none e f = faults-paired tw (tw.matched.builtin abstract_method_error (omega arith)) f.entries
  enters_body-paired a b k (both_some r) e f = choose-paired tw _ _ (full-paired tw.numbers tw.place f.entries) (faults-paired tw (tw.matched.builtin stack_overflow_error (omega arith)) f.entries)
      (spend-paired tw (cost-paired tw.numbers tw.place r) (both_done (entering e (called-paired tw.numbers tw.place k r e f))))

  pub native_or_body : (x : Option Native) (a b k : ℕ) {y z : Option Body} {s t : Entries} → PairedOption (PairedBody tw.numbers) y z → tw.numbers.method a b ≡ true → Frames tw s t → Rows tw (enters_native x y a k s) (enters_native x z b k t)
  native_or_body None a b k r e f = enters_body-paired a b k r e f
  native_or_body (Some x) a b k r e f = both_done (entering e f)

  pub calls-paired : (a b k : ℕ) {s t : Entries} → tw.numbers.method a b ≡ true → Frames tw s t → Rows tw (calls tw.left a k s) (calls tw.right b k t)
  unfolding calls
  calls-paired a b k {s} {t} e f = let m = tw.matched.methods a b e in
      choose-paired tw _ _ (ap (λ (z : ℕ). nat_le k z) (length-paired (V tw) f.entries.top.stack))
      (subst (λ (z : Option Native). Rows tw (enters_native (method_at tw.left a).native (method_at tw.left a).body a k s) (enters_native z (method_at tw.right b).body b k t)) m.native
      (native_or_body (method_at tw.left a).native a b k m.body e f)) (stuck_row-paired tw)

  pub called-with : (a b i j : ℕ) {s t : Entries} → i ≡ j → tw.numbers.method a b ≡ true → Frames tw s t → Rows tw (calls tw.left a i s) (calls tw.right b j t)
  called-with a b i j {s} {t} g e f = subst (λ (z : ℕ). Rows tw (calls tw.left a i s) (calls tw.right b z t)) g (calls-paired a b i e f)

  pub selected-paired : {x y : Selected} (i j : ℕ) {s t : Entries} → PairedSelected tw.numbers tw.left tw.right tw.matched x y → i ≡ j → Frames tw s t → Rows tw (calls_selected tw.left x i s) (calls_selected tw.right y j t)
  selected-paired i j (both_chosen {a} {b} e) g f = called-with a b i j g e f
  selected-paired i j (both_failing e) g f = faults-paired tw e f.entries

  pub count-paired : (a b : ℕ) → tw.numbers.method a b ≡ true → argument_count tw.left a ≡ argument_count tw.right b
  unfolding argument_count
  count-paired a b e = ap (λ (z : List ℕ). length (parameters z)) (tw.matched.methods a b e).descriptor

  pub and_receiver : (a b : ℕ) → tw.numbers.method a b ≡ true → argument_count tw.left a + 1 ≡ argument_count tw.right b + 1
  and_receiver a b e = ap (λ (z : ℕ). z + 1) (count-paired a b e)

  pub receiver-paired : (a b : ℕ) {s t : Entries} → tw.numbers.method a b ≡ true → Frames tw s t → PairedOption (V tw) (receiver tw.left a s) (receiver tw.right b t)
  receiver-paired a b {s} {t} e f = subst (λ (z : ℕ). PairedOption (V tw) (receiver tw.left a s) (slice_get t.top.stack z)) (count-paired a b e) (get-list (V tw) (argument_count tw.left a) f.entries.top.stack)

  pub on_receiver-paired : {s t : Entries} {x y : Option Value} {k l : Value → Access (Answer Entries)} → Frames tw s t → PairedOption (V tw) x y → ((v w : Value) → V tw v w → Rows tw (k v) (l w)) → Rows tw (on_receiver s x k) (on_receiver t y l)
  on_receiver-paired f both_none g = stuck_row-paired tw
  on_receiver-paired f (both_some r) g = on_reference-paired tw _ _ f.entries r (g _ _ r)

  pub calls_rows-paired : MatchedStarts tw.numbers tw.left tw.right → {i j : Instr} {s t : Entries} → PairedInstr tw.numbers i j → Frames tw s t → Rows tw (row_calls tw.left i s) (row_calls tw.right j t)
  unfolding row_calls
  calls_rows-paired st (same.invoke_static {a} {b} e) f = using-paired tw st _ _ (tw.matched.methods a b e).class f.entries (called-with a b _ _ (count-paired a b e) e f)
  calls_rows-paired st (same.invoke_virtual {a = a} {b = b} k e) f = on_receiver-paired f (receiver-paired a b e f) (λ v w r. with_kind-paired tw r (λ x y h.
      selected-paired _ _ (virtual-paired tw.numbers tw.left tw.right tw.matched a b _ _ e (class_of-paired tw.numbers tw.left tw.right tw.matched h)) (and_receiver a b e) f))
  calls_rows-paired st (same.invoke_interface {c = c} {d = d} {a = a} {b = b} k e) f = on_receiver-paired f (receiver-paired a b e f) (λ v w r. with_kind-paired tw r (λ x y h.
      selected-paired _ _ (interface_call-paired tw.numbers tw.left tw.right tw.matched c d a b _ _ k e (class_of-paired tw.numbers tw.left tw.right tw.matched h)) (and_receiver a b e) f))
  calls_rows-paired st (same.invoke_special {a = a} {b = b} k e) f = on_receiver-paired f (receiver-paired a b e f) (λ v w r.
      selected-paired _ _ (special-paired tw.numbers tw.left tw.right tw.matched _ _ _ _ a b (tw.matched.methods _ _ f.method).class (named-paired tw.numbers tw.left tw.right tw.matched k) e) (and_receiver a b e) f)
  calls_rows-paired st _ f = stuck_row-paired tw
