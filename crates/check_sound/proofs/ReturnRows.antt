-- The rows of returns: the entry is popped, and a value goes to the frame below.
use Rattle.std.proofs.Common.{◌≡◌, ℕ, ◌+◌, ◌-◌, ◌≤◌, List, [], ◌∷◌, ◌++◌, length, drop, Bool, true, ◌&&◌, nat_le, Option, Some, None, IfSome, slice_get, refl, sym, ◌∙◌, ap, subst, arith}
use Rattle.std.proofs.lemmas.{Bool.and_parts, Bool.leb-true, List.length-drop, Option.same_Some}
use Rattle.check_sound.proofs.{Grow.Ranged, Tree.typed_done, Held.Is, Held.Locals, Held.Held, Operands.Operands, Operands.popping-fits, Operands.popping-long}
use Rattle.jvm_model.specs.declared.{values.Value.Value, program.Body.Body, program.Program.Program, program.Placed.Placed}
use Rattle.jvm_model.specs.declared.values.Value.TheVariants as value
use Rattle.jvm_model.specs.declared.state.{EntryKind.EntryKind, EntryKind.TheVariants.Absent, EntryKind.TheVariants.InMethod, EntryKind.TheVariants.InClass}
use Rattle.jvm_model.specs.declared.instr.{Instr.Instr, Sort.Sort}
use Rattle.jvm_model.specs.declared.instr.Instr.TheVariants as form
use Rattle.jvm_model.specs.declared.instr.Sort.TheVariants as sort
use Rattle.jvm_model.specs.{World.World, Classes.method_at, Classes.next_place, Descriptors.return_type, Narrow.narrowed, Rows.goes_on}
use Rattle.jvm_model.specs.{Entries.Entry, Entries.Entries, Entries.entries_of, Linked.IsClass, Linked.IsMethod, Linked.NamesForm, Linked.NamesBody}
use Rattle.jvm_model.specs.{RowsReturn.handed_on, RowsReturn.hands_on, RowsReturn.row_return, Step.group_of, Step.returns}
use Rattle.jvm_model.proofs.Ranges.{all_there}
use Rattle.type_frames.specs.declared.vtype.{VType.VType, VType.TheVariants.Int, VType.TheVariants.Long, VType.TheVariants.Object}
use Rattle.type_frames.specs.{Descriptors.types_of, Environment.Environment, Environment.environment_of, Rules.turned, Typing.IsTyped}
use Rattle.type_frames.specs.StackEffect.{sides, on_stack, result_types, return_typed}
use Rattle.type_frames.specs.TypedState.{IsInRange, Waits, IsTop, IsBelow, called_by}
use Rattle.check_sound.proofs.{Arrive.has_number, Arrive.kept_at, Arrive.arrived_next, RaiseRows.Beneath, RaiseRows.beneath, RaiseRows.none_typed}
use Rattle.check_sound.proofs.Ready.{TypedEntries, stub, Rest, IsEntry, closed, HasPlain, Ends, Row, Ready, here, rest, operands}
use Rattle.check_sound.proofs.CallEffects.{values_few, on_stack_length, call_of, Result, narrowed_plain, narrowed_range, push}

-- what a return of this sort says of the result
abbrev pub SortOf : List VType → Option Sort → Type 0
SortOf rs None = rs ≡ []
SortOf rs (Some sort.Int) = rs ≡ Int ∷ []
SortOf rs (Some sort.Long) = rs ≡ Long ∷ []
SortOf rs (Some sort.Ref) = (a : List ℕ) × (rs ≡ Object a ∷ [])

pub sort_of : (rs : List VType) (early : Bool) (x : Option Sort) → (return_typed rs early x).returns_well ≡ true → SortOf rs x
sort_of [] early None e = refl
sort_of (Int ∷ []) early (Some sort.Int) e = refl
sort_of (Long ∷ []) early (Some sort.Long) e = refl
sort_of (Object a ∷ []) early (Some sort.Ref) e = (a, refl)
sort_of _ early None e = absurd (cc)
sort_of _ early (Some sort.Int) e = absurd (cc)
sort_of _ early (Some sort.Long) e = absurd (cc)
sort_of _ early (Some sort.Ref) e = absurd (cc)

no_more : (p : Program) (w : World) (v u : Value) (vs : List Value) (ts : List VType) → Result p w ts (v ∷ u ∷ vs) → ⊥
no_more p w v u vs [] q = cc
no_more p w v u vs (t ∷ []) q = q
no_more p w v u vs (t ∷ x ∷ ts) q = q

pub plain_int : {p : Program} {w : World} {e : Environment} (v : Value) → Is p w e Int v → HasPlain p w Int v
plain_int (value.Int n) h = tt
plain_int _ h = absurd h.type

pub plain_long : {p : Program} {w : World} {e : Environment} (v : Value) → Is p w e Long v → HasPlain p w Long v
plain_long (value.Long n) h = tt
plain_long _ h = absurd h.type

module _ (p : Program) (ty : IsTyped p) where
  -- the class of a method with code is one
  pub home : (n : ℕ) → IsMethod p n → IsClass p (method_at p n).class
  home n h = ty.linked.numbers.methods n h

  pub named_class : (i : Instr) (m : ℕ) → called_by i ≡ Some m → NamesForm p i → IsClass p (method_at p m).class
  named_class (form.InvokeVirtual t n) m c h = subst (λ (y : ℕ). IsClass p (method_at p y).class) (same_Some _ _ c) (home n h.1)
  named_class (form.InvokeSpecial t n) m c h = subst (λ (y : ℕ). IsClass p (method_at p y).class) (same_Some _ _ c) (home n h.1)
  named_class (form.InvokeInterface t n) m c h = subst (λ (y : ℕ). IsClass p (method_at p y).class) (same_Some _ _ c) (home n h.1)
  named_class (form.InvokeStatic n) m c h = subst (λ (y : ℕ). IsClass p (method_at p y).class) (same_Some _ _ c) (home n h)
  named_class _ m c h = absurd (cc)

  -- the frame below goes on after its call
  back : {w : World} (n : ℕ) (f : Entry) (fs : List Entry) (vs : List Value) → f.kind ≡ InMethod → Waits p w n f → Beneath p w InMethod n f fs → Result p w (types_of (return_type (method_at p n).descriptor)) vs → Row p w (goes_on p (record { top = f; below = fs }) (vs ++ f.stack))
  back {w = w} n f fs vs k h b q =
      let st = h.stands in
      let e = environment_of p (method_at p f.number) st.body st.given in
      let x : Placed = record { pc = f.pc; form = st.instruction.form } in
      let th : slice_get st.body.code st.index ≡ Some x = st.there ∙ ap {B = Option Placed} (λ q. Some (record { pc = q; form = st.instruction.form })) st.place in
      let kept = kept_at p ty f.number st.body st.given st.has_code st.has_frames st.index x st.types th st.known in
      let names = all_there (λ y. NamesForm p y.form) st.body.code st.index st.instruction (subst (λ (o : Option Body). IfSome o (λ b. NamesBody p b)) st.has_code (ty.linked.numbers.bodies f.number (has_number p f.number st.body st.has_code))).forms st.there in
      let c = call_of p ty.linked e st.index x st.types h.named h.call (named_class st.instruction.form h.named h.call names) (home f.number (has_number p f.number st.body st.has_code)) kept in
      let ls : Locals p w e st.types.locals f.locals = record { types = st.locals; range = b.locals } in
      let ws : Held p w e (drop (length (sides p e f.pc st.types st.instruction.form).takes) st.types.stack) f.stack = record { types = h.operands; range = b.stack } in
      let us = turned (sides p e f.pc st.types st.instruction.form).turn (drop (length (sides p e f.pc st.types st.instruction.form).takes) st.types.stack) in
      let top = push p w e (types_of (return_type (method_at p n).descriptor)) us vs f.stack q (c.stack w f.stack ws) in
      let held : Held p w e ((sides p e f.pc st.types st.instruction.form).gives ++ us) (vs ++ f.stack) = subst (λ (ts : List VType). Held p w e (ts ++ us) (vs ++ f.stack)) (ap result_types h.same_descriptor ∙ sym c.gives) top in
      let l = c.locals w f.locals ls in
      let go = arrived_next p ty f.number st.body st.given st.has_code st.has_frames w st.index x st.types f.locals (vs ++ f.stack) th st.known c.falls l held in
      typed_done (subst (λ (z : EntryKind). TypedEntries p w None (record { top = record { kind = z; number = f.number; pc = next_place p f.number f.pc; stack = vs ++ f.stack; locals = f.locals }; below = fs })) (sym k)
      (closed None (record { kind = InMethod; number = f.number; pc = next_place p f.number f.pc; stack = vs ++ f.stack; locals = f.locals }) tt go held.range l.range (subst (λ (z : EntryKind). Rest p w z f.number fs) k b.rest)))

  -- the frame below has room for the result
  pub back_room : {w : World} (n : ℕ) (f : Entry) → Waits p w n f → Ranged p w f.locals → (b : Body) × ((method_at p f.number).body ≡ Some b) × (length f.stack + length (types_of (return_type (method_at p n).descriptor)) ≤ b.max_stack)
  back_room {w = w} n f h g =
      let st = h.stands in
      let e = environment_of p (method_at p f.number) st.body st.given in
      let x : Placed = record { pc = f.pc; form = st.instruction.form } in
      let th : slice_get st.body.code st.index ≡ Some x = st.there ∙ ap {B = Option Placed} (λ q. Some (record { pc = q; form = st.instruction.form })) st.place in
      let kept = kept_at p ty f.number st.body st.given st.has_code st.has_frames st.index x st.types th st.known in
      let names = all_there (λ y. NamesForm p y.form) st.body.code st.index st.instruction (subst (λ (o : Option Body). IfSome o (λ b. NamesBody p b)) st.has_code (ty.linked.numbers.bodies f.number (has_number p f.number st.body st.has_code))).forms st.there in
      let c = call_of p ty.linked e st.index x st.types h.named h.call (named_class st.instruction.form h.named h.call names) (home f.number (has_number p f.number st.body st.has_code)) kept in
      let o = sides p e f.pc st.types st.instruction.form in
      let r = leb-true _ _ (and_parts (nat_le (length o.takes) (length st.types.stack)) (nat_le (length o.gives + (length st.types.stack - length o.takes)) st.body.max_stack) kept.one).1 in
      let d = length-drop (length o.takes) st.types.stack in
      let v = values_few p w e (drop (length o.takes) st.types.stack) f.stack h.operands in
      let k : length o.gives ≡ length (on_stack (types_of (return_type (method_at p n).descriptor))) = ap length c.gives ∙ ap (λ (z : List ℕ). length (on_stack (types_of (return_type z)))) (sym h.same_descriptor) in
      let l = on_stack_length (types_of (return_type (method_at p n).descriptor)) in
      (st.body, st.has_code, omega arith)

  -- these values go to the entry below
  hands : {w : World} (n : ℕ) (vs : List Value) (fs : List Entry) → Rest p w InMethod n fs → Result p w (types_of (return_type (method_at p n).descriptor)) vs → Row p w (handed_on (entries_of fs).top.kind p vs (entries_of fs))
  hands n vs [] r q = typed_done (none_typed None)
  hands {w = w} n vs (f ∷ fs) r q = by f.kind refl (beneath r).is
    where
      given : (vs : List Value) → Row p w (goes_on p (record { top = f; below = fs }) (vs ++ f.stack)) → f.kind ≡ InMethod → Result p w (types_of (return_type (method_at p n).descriptor)) vs → Row p w (handed_on InMethod p vs (record { top = f; below = fs }))
      given [] t k q = t
      given (v ∷ []) t k q = t
      given (v ∷ u ∷ vs) t k q = absurd (no_more p w v u vs (types_of (return_type (method_at p n).descriptor)) q)

      by : (k : EntryKind) → f.kind ≡ k → IsBelow p w f k (stub InMethod n) InMethod → Row p w (handed_on k p vs (record { top = f; below = fs }))
      by InMethod k h = given vs (back n f fs vs k h (beneath r) q) k q
      by (InClass b) k h = typed_done (closed None f (subst (λ (z : EntryKind). IsEntry z) (sym k) tt) (subst (λ (z : EntryKind). IsTop p w None z f) (sym k) h.0) (beneath r).stack (beneath r).locals (beneath r).rest)
      by Absent k h = absurd h

module _ (p : Program) (ty : IsTyped p) {w : World} {s : Entries} where
  result_one : {i : Instr} (r : Ready p w s i) (t : VType) (v : Value) → types_of (return_type (method_at p s.top.number).descriptor) ≡ t ∷ [] → HasPlain p w t v → IsInRange p w v → Row p w (hands_on p (narrowed (return_type (method_at p s.top.number).descriptor) v ∷ []) s)
  unfolding hands_on
  result_one r t v e h g =
      let d = return_type (method_at p s.top.number).descriptor in
      hands p ty s.top.number (narrowed d v ∷ []) s.below r.rest (subst (λ (ts : List VType). Result p w ts (narrowed d v ∷ [])) (sym e) (narrowed_plain p w t d v h, narrowed_range p w d v g))

  pub return : (x : Option Sort) → Ready p w s (form.Return x) → Row p w (row_return p (form.Return x) s)
  unfolding row_return hands_on sides
  return None r =
      let e = sort_of (here r).result ((here r).starts && r.types.flag) None r.kept.six in
      hands p ty s.top.number [] s.below r.rest (subst (λ (ts : List VType). Result p w ts []) (sym e) refl)
  return (Some sort.Int) r =
      let e = sort_of (here r).result ((here r).starts && r.types.flag) (Some sort.Int) r.kept.six in
      popping-fits p (Ends p) w ty.linked Int tt (subst (λ (ts : List VType). Operands p w (here r) (return_typed ts ((here r).starts && r.types.flag) (Some sort.Int)).takes r.types.stack (rest r) s.top.stack) e (operands r)) (λ v vs us h sv o.
      result_one r Int v e (plain_int v h) h.range)
  return (Some sort.Long) r =
      let e = sort_of (here r).result ((here r).starts && r.types.flag) (Some sort.Long) r.kept.six in
      popping-long p (Ends p) w (subst (λ (ts : List VType). Operands p w (here r) (return_typed ts ((here r).starts && r.types.flag) (Some sort.Long)).takes r.types.stack (rest r) s.top.stack) e (operands r)) (λ v vs us h o.
      result_one r Long v e (plain_long v h) h.range)
  return (Some sort.Ref) r =
      let e = sort_of (here r).result ((here r).starts && r.types.flag) (Some sort.Ref) r.kept.six in
      popping-fits p (Ends p) w ty.linked (Object e.0) tt (subst (λ (ts : List VType). Operands p w (here r) (return_typed ts ((here r).starts && r.types.flag) (Some sort.Ref)).takes r.types.stack (rest r) s.top.stack) e.1 (operands r)) (λ v vs us h sv o.
      result_one r (Object e.0) v e.1 h.type h.range)

  pub returns-typed : (i : Instr) → group_of i ≡ returns → Ready p w s i → Row p w (row_return p i s)
  returns-typed (form.Return x) g r = return x r
  returns-typed _ g r = absurd (cc)
