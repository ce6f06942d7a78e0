-- The rows of calls: a method is entered with its arguments, and the calling frame waits.
use Rattle.std.proofs.Common.{◌≡◌, ℕ, zero, suc, ◌+◌, ◌-◌, ◌<◌, ◌≤◌, List, [], ◌∷◌, ◌++◌, length, take, drop, reverse, Bool, true, false, not, ◌&&◌, ◌||◌, cond, nat_eq, nat_le, Option, Some, None, slice_get, refl, sym, ◌∙◌, ap, subst, arith, inl, inr, length-append}
use Rattle.std.specs.Prelude.{flat_map, slice_index_or}
use Rattle.std.specs.{List.IsDistinct, Str.bytes_eq}
use Rattle.std.proofs.lemmas.Bool.{or_cases, and_parts, leb-true, leb-false, eqb-true, and_right}
use Rattle.std.proofs.lemmas.List.{length-drop, reverse-append, reverse-reverse, length-reverse, append_assoc}
use Rattle.std.proofs.Math.Seq.{take-append_seam, drop-append_seam}
use Rattle.jvm_model.specs.declared.values.{Value.Value, Kind.Kind}
use Rattle.jvm_model.specs.declared.values.Value.TheVariants as value
use Rattle.jvm_model.specs.declared.values.Kind.TheVariants as kind
use Rattle.jvm_model.specs.declared.state.{EntryKind.EntryKind, EntryKind.TheVariants.Absent, EntryKind.TheVariants.InMethod, EntryKind.TheVariants.InClass}
use Rattle.jvm_model.specs.declared.{instr.Instr.Instr, library.Native.Native, program.Program.Program, program.MethodRec.MethodRec, program.Body.Body}
use Rattle.jvm_model.specs.declared.instr.Instr.TheVariants as form
use Rattle.jvm_model.specs.{World.World, Access.Access, Kinds.class_of, Descriptors.parameters, Descriptors.return_type, Rows.Answer, Rows.with_kind}
use Rattle.jvm_model.specs.Selection.{Selected, chosen, failing, select_virtual, select_interface, select_special, or_kept, special_start, special_path, declared_in, is_like, named_class as class_named_by}
use Rattle.check_sound.proofs.SelectLaws.{SelectedOf, selected_virtual, selected_interface, selected_special}
use Rattle.jvm_model.specs.Builtin.{stream_class, string_class, abstract_method_error, stack_overflow_error, null_pointer_exception}
use Rattle.jvm_model.specs.Classes.{method_at, class_at, is_static, is_below, init_name, clinit_name}
use Rattle.jvm_model.specs.Entries.{Entry, Entries, is_full, with_stack, frame_of, called, slots_of}
use Rattle.jvm_model.specs.Linked.{Linked, IsClass, IsMethod, IsKind, IsFoundIn}
use Rattle.jvm_model.specs.RowsCalls.{enters_native, calls, calls_selected, argument_count, on_receiver, receiver, call_virtual, call_interface, call_special, row_calls}
use Rattle.jvm_model.specs.Step.{group_of, calls as of_calls}
use Rattle.type_frames.specs.declared.{vtype.VType.VType, stack_effect.OperandConstraint.OperandConstraint}
use Rattle.type_frames.specs.declared.vtype.VType.TheVariants.{Top, Object, UninitThis, Uninit}
use Rattle.type_frames.specs.declared.stack_effect.OperandConstraint.TheVariants.{Fits, Raw, Never}
use Rattle.type_frames.specs.{declared.stack_effect.StackEffect.StackEffect, Frames.spread, Frames.places_of, Environment.Environment, Environment.made_at}
use Rattle.type_frames.specs.{Assign.assignable, Rules.meets, Rules.turned, Descriptors.types_of, Descriptors.name_of, Descriptors.kind_name}
use Rattle.type_frames.specs.{Given.is_constructor, Given.this_types, Given.entry_types, Typing.IsTyped}
use Rattle.jvm_model.proofs.Upwards.{below_same as itself_below, below_trans}
use Rattle.check_sound.proofs.{Instances.below_class, Instances.super_below, Instances.instance_itself, Onward.whole, Onward.not_full, Onward.ready_grows}
use Rattle.type_frames.specs.StackEffect.{sides, argument_needs, result_types, on_stack, call_sides, is_that, is_start, init_sides, special_need, object_of, place_of}
use Rattle.type_frames.specs.TypedState.{is_class_with, kind_at, IsInRange, IsInstance, RefersTo, HasType, HaveTypes, IsBelow, class_begun, called_by}
use Rattle.check_sound.proofs.{Tree.typed_done, Tree.typed_spend, Grow.Ranged, Arrive.has_number, Ends.fault_typed, Ends.using-typed}
use Rattle.check_sound.proofs.Held.{refers_fits, Is, Held, IsShort, held_over, locals_over, is_fits}
use Rattle.check_sound.proofs.Operands.{Operands, IsPop, popped, none_there, rest_of, choose-typed, on_reference-typed, with_kind-typed, refers_nullable, IsNonNull, IsKindOf}
use Rattle.check_sound.proofs.Ready.{TypedEntries, stub, closed, below_same, Takes, Gives, operand_types, NativeCall, Enters, Ends, Row, Ready, here, sides_at, rest, operands, next_typed, raised_typed, waits_typed, names_form, form_kind, form_found, ranged_append}
use Rattle.check_sound.proofs.Thrown.{builtin_is, thrown}
use Rattle.check_sound.proofs.CallEffects.{values_few, on_stack_length, this_of, CallEffects, call_of, Result, push}
use Rattle.check_sound.proofs.{ReturnRows.home, ReturnRows.named_class, ParameterTexts.AreTexts}
use Rattle.check_sound.proofs.Arguments.{method_texts, Arguments, arguments_reverse, Taken, take_args, text_slots, EntersWith, entered_frame, takes_args, takes_append, one_each_reverse}

-- The arguments of a call of the method m, the last on top, over the operands that the frame keeps: n values, with which m
-- may be entered, or which it takes if it is built in.
pub record Passed (p : Program) (w : World) {s : Entries} {i : Instr} (r : Ready p w s i) (m n : ℕ) : Type 0 where
  pub args : List Value
  pub below : List Value
  pub split : s.top.stack ≡ args ++ below
  pub count : n ≡ length args
  pub held : Held p w (here r) (rest r) below
  pub slots : EntersWith p w m (reverse args)
  pub takes : Takes p w (operand_types p (method_at p m)) s.top.stack below

-- a result over the operands below
record Given (p : Program) (w : World) (ts : List VType) (vs rest : List Value) : Type 0 where
  results : List Value
  split : vs ≡ results ++ rest
  result : Result p w ts results

given_of : (p : Program) (w : World) (ts : List VType) (vs rest : List Value) → Gives p w ts vs rest → Given p w ts vs rest
given_of p w [] vs rest h = record { results = []; split = h; result = refl }
given_of p w (t ∷ []) (v ∷ vs) rest h = record { results = v ∷ []; split = ap {B = List Value} (λ xs. v ∷ xs) h.2; result = (h.0, h.1) }
given_of p w _ _ rest h = absurd h

same_body : {a b : Body} → Some a ≡ Some b → a ≡ b
same_body e = cc

reverse_range : (p : Program) (w : World) (vs us : List Value) → Ranged p w (vs ++ us) → Ranged p w (reverse vs)
reverse_range p w vs us h = back vs (first vs h)
  where
    first : (xs : List Value) → Ranged p w (xs ++ us) → Ranged p w xs
    first [] h = tt
    first (x ∷ xs) h = (h.0, first xs h.1)

    back : (xs : List Value) → Ranged p w xs → Ranged p w (reverse xs)
    back [] h = tt
    back (x ∷ xs) h = subst (λ (zs : List Value). Ranged p w zs) (sym (reverse-append (x ∷ []) xs)) (ranged_append p w (reverse xs) (x ∷ []) (back xs h.1) (h.0, tt))

module _ (p : Program) (ty : IsTyped p) {w : World} {s : Entries} {i : Instr} (r : Ready p w s i) where
  abbrev SameAs : ℕ → ℕ → Type 0
  SameAs m named = ((method_at p m).name ≡ (method_at p named).name) × ((method_at p m).descriptor ≡ (method_at p named).descriptor)

  -- the entries with the method's frame on top
  called_typed : (named m n : ℕ) (b : Body) → called_by i ≡ Some named → SameAs m named → Passed p w r m n → (method_at p m).body ≡ Some b → is_full s ≡ false → TypedEntries p w None (called b m n s)
  called_typed named m n b c q a hb f =
      let taken : take n s.top.stack ≡ a.args = ap (λ (k : ℕ). take k s.top.stack) a.count ∙ (ap (take (length a.args)) a.split ∙ take-append_seam a.args a.below) in
      let left : drop n s.top.stack ≡ a.below = ap (λ (k : ℕ). drop k s.top.stack) a.count ∙ (ap (drop (length a.args)) a.split ∙ drop-append_seam a.args a.below) in
      let held : Held p w (here r) (rest r) (drop n s.top.stack) = subst (λ (xs : List Value). Held p w (here r) (rest r) xs) (sym left) a.held in
      let args : List Value = reverse (take n s.top.stack) in
      let ranged : Ranged p w args = subst (λ (xs : List Value). Ranged p w (reverse xs)) (sym taken) (reverse_range p w a.args a.below (subst (λ (xs : List Value). Ranged p w xs) a.split r.stack.range)) in
      let enters : EntersWith p w m args = subst (λ (xs : List Value). EntersWith p w m (reverse xs)) (sym taken) a.slots in
      let e = entered_frame p ty w m b args hb enters ranged in
      let t : Entries = with_stack s (drop n s.top.stack) in
      subst (λ (fs : List Entry). TypedEntries p w None (record { top = frame_of b m args; below = fs })) (sym (whole t r.kind))
      (closed None (frame_of b m args) tt e.goes tt e.range (record {
        each = (subst (λ (k : EntryKind). IsBelow p w t.top k (stub InMethod m) InMethod) (sym r.kind) (waits_typed p ty r named m c q.0 q.1 held), below_same p w (stub InMethod s.top.number) t.top refl (sym r.kind) s.below r.rest.each);
        range = (held.range, r.locals.range, r.rest.range);
        few = not_full s f (whole s r.kind);
        apart = subst (λ (k : EntryKind). IsDistinct nat_eq (elim k as (λ x. List ℕ) [ Absent ↦ [] | InMethod ↦ [] | InClass b ↦ s.top.number ∷ [] ] ++ flat_map class_begun s.below)) (sym r.kind) r.rest.apart;
      }))

  -- a built-in method
  sides_of : (named : ℕ) → called_by i ≡ Some named → CallEffects p (here r) r.types (sides_at r) (method_at p named)
  sides_of named c = call_of p ty.linked (here r) r.index (record { pc = s.top.pc; form = i }) r.types named c (named_class p ty i named c (names_form p ty r)) (home p ty s.top.number (has_number p s.top.number r.body r.has_code)) r.kept

  -- there is room for the result of the call
  native_space : (named m n : ℕ) → called_by i ≡ Some named → SameAs m named → (a : Passed p w r m n) → (b : Body) → (method_at p s.top.number).body ≡ Some b → length a.below + length (types_of (return_type (method_at p m).descriptor)) ≤ b.max_stack
  native_space named m n c q a b hb =
      let z : r.body ≡ b = same_body (sym r.has_code ∙ hb) in
      let o = sides_at r in
      let k = sides_of named c in
      let h = leb-true _ _ (and_parts (nat_le (length o.takes) (length r.types.stack)) (nat_le (length o.gives + (length r.types.stack - length o.takes)) r.body.max_stack) r.kept.one).1 in
      let d = length-drop (length o.takes) r.types.stack in
      let v = values_few p w (here r) (rest r) a.below a.held.types in
      let g : length o.gives ≡ length (on_stack (types_of (return_type (method_at p m).descriptor))) = ap length k.gives ∙ ap (λ (x : List ℕ). length (on_stack (types_of (return_type x)))) (sym q.1) in
      let l = on_stack_length (types_of (return_type (method_at p m).descriptor)) in
      subst (λ (x : Body). length a.below + length (types_of (return_type (method_at p m).descriptor)) ≤ x.max_stack) z (omega arith)

  native_typed : (named m n : ℕ) → called_by i ≡ Some named → SameAs m named → Passed p w r m n → NativeCall p w m s
  unfolding ready_grows
  native_typed named m n c q a = let few : length s.top.stack ≤ r.body.max_stack = (let v = values_few p w (here r) r.types.stack s.top.stack r.stack.types in let f = r.fits in omega arith) in record {
    rest = a.below;
    takes = a.takes;
    range = r.stack.range;
    space = (r.body, r.has_code, native_space named m n c q a r.body r.has_code, few);
    answered = λ v g vs h.
        let x = given_of p v (types_of (return_type (method_at p m).descriptor)) vs a.below h in
        let k = sides_of named c in
        let us = turned (sides_at r).turn (rest r) in
        let top = push p v (here r) (types_of (return_type (method_at p m).descriptor)) us x.results a.below x.result (k.stack v a.below (held_over g.over a.held)) in
        let held : Held p v (here r) ((sides_at r).gives ++ us) vs = subst (λ (xs : List Value). Held p v (here r) ((sides_at r).gives ++ us) xs) (sym x.split) (subst (λ (ts : List VType). Held p v (here r) (ts ++ us) (x.results ++ a.below)) (ap result_types q.1 ∙ sym k.gives) top) in
        next_typed p ty (ready_grows g r) k.falls (k.locals v s.top.locals (locals_over g.over r.locals)) held;
    faulted = λ v g vs h. raised_typed p ty (ready_grows g r) value.Null vs h;
  }

  -- the call, its arguments taken
  pub call-typed : (named m n : ℕ) → called_by i ≡ Some named → SameAs m named → Passed p w r m n → Row p w (calls p m n s)
  unfolding calls
  call-typed named m n c q a = choose-typed p (Ends p) w (nat_le n (length s.top.stack)) (λ e. by (method_at p m).native (method_at p m).body refl refl) (λ e. absurd (short e))
    where
      short : nat_le n (length s.top.stack) ≡ false → ⊥
      short e =
          let z = leb-false n (length s.top.stack) e in
          let l : length s.top.stack ≡ length a.args + length a.below = ap length a.split ∙ length-append a.args a.below in
          let k = a.count in omega arith

      by : (x : Option Native) (b : Option Body) → (method_at p m).native ≡ x → (method_at p m).body ≡ b → Row p w (enters_native x b m n s)
      by (Some x) b hx hb = typed_done (subst (λ (y : Option Native). Enters p w m y s) (sym hx) (native_typed named m n c q a))
      by None None hx hb = typed_done (fault_typed p ty r abstract_method_error s.top.stack (thrown p ty.linked abstract_method_error refl) r.stack.range)
      by None (Some b) hx hb = choose-typed p (Ends p) w (is_full s) (λ e. typed_done (fault_typed p ty r stack_overflow_error s.top.stack (thrown p ty.linked stack_overflow_error refl) r.stack.range))
          (λ e. typed_spend (typed_done (subst (λ (y : Option Native). Enters p w m y (called b m n s)) (sym hx) (called_typed named m n b c q a hb e))))

-- ---- the receiver

short_slots : (w : World) (e : Environment) (p : Program) (x : VType) (ts : List VType) (v : Value) (vs : List Value) → places_of x ≡ x ∷ [] → IsShort v → HasType p w e x v → HaveTypes p w e (spread ts) (slots_of vs) → HaveTypes p w e (spread (x ∷ ts)) (slots_of (v ∷ vs))
short_slots w e p x ts v vs q s h g = subst (λ (xs : List VType). HaveTypes p w e (xs ++ spread ts) (slots_of (v ∷ vs))) (sym q) (by v s h)
  where
    by : (v : Value) → IsShort v → HasType p w e x v → HaveTypes p w e (x ∷ spread ts) (slots_of (v ∷ vs))
    by (value.Long n) s h = absurd s
    by _ s h = (h, g)

-- the type of `this` in a method that isn't static
abbrev pub this_type : Program → MethodRec → VType
this_type p m = cond (is_constructor m) UninitThis (Object (name_of p m.class))

pub this_is : (p : Program) (m : MethodRec) → is_static m.flags ≡ false → this_types p m ≡ this_type p m ∷ []
this_is p m f = ap (λ (b : Bool). elim b as (λ z. List VType) [ true ↦ [] | false ↦ elim (is_constructor m) as (λ z. List VType) [ true ↦ UninitThis ∷ [] | false ↦ Object (name_of p m.class) ∷ [] ] ]) f ∙ by (is_constructor m)
  where
    by : (b : Bool) → elim b as (λ z. List VType) [ true ↦ UninitThis ∷ [] | false ↦ Object (name_of p m.class) ∷ [] ] ≡ cond b UninitThis (Object (name_of p m.class)) ∷ []
    by true = refl
    by false = refl

this_place : (p : Program) (m : MethodRec) → places_of (this_type p m) ≡ this_type p m ∷ []
this_place p m = by (is_constructor m)
  where
    by : (b : Bool) → places_of (cond b UninitThis (Object (name_of p m.class))) ≡ cond b UninitThis (Object (name_of p m.class)) ∷ []
    by true = refl
    by false = refl

-- the arguments of a call and the receiver below them
record Received (p : Program) (w : World) {s : Entries} {i : Instr} (r : Ready p w s i) (d : List ℕ) (n : OperandConstraint) : Type 0 where
  args : List Value
  receiver : Value
  below : List Value
  type : VType
  split : s.top.stack ≡ args ++ receiver ∷ below
  count : length args ≡ length (parameters d)
  typed : Arguments p w (reverse (parameters d)) args
  is : Is p w (here r) type receiver
  met : meets p n type ≡ true
  short : IsShort receiver
  held : Held p w (here r) (rest r) below
  place : slice_index_or r.types.stack (length (argument_needs d)) Top ≡ type

index_drop : (n : ℕ) (ts : List VType) (t : VType) (us : List VType) → drop n ts ≡ t ∷ us → slice_index_or ts n Top ≡ t
index_drop zero [] t us e = absurd (cc)
index_drop zero (x ∷ ts) t us e = cc
index_drop (suc n) [] t us e = absurd (cc)
index_drop (suc n) (x ∷ ts) t us e = index_drop n ts t us e

module _ (p : Program) (ty : IsTyped p) {w : World} {s : Entries} {i : Instr} (r : Ready p w s i) where
  -- the operands of a call, the arguments of a method of this descriptor first
  received : (d : List ℕ) (n : OperandConstraint) → IsPop n → AreTexts (reverse (parameters d)) → Operands p w (here r) (argument_needs d ++ n ∷ []) r.types.stack (rest r) s.top.stack → Received p w r d n
  received d n k t o =
      let a = take_args p ty w (here r) (reverse (parameters d)) t (n ∷ []) r.types.stack (rest r) s.top.stack o in
      by a a.below a.split a.operands
    where
      by : (a : Taken p w (here r) (n ∷ []) r.types.stack (rest r) (reverse (parameters d)) s.top.stack) (below : List Value) → s.top.stack ≡ a.args ++ below → Operands p w (here r) (n ∷ []) a.types (rest r) below → Received p w r d n
      by a [] q o = absurd (none_there p w (here r) n [] a.types (rest r) o)
      by a (v ∷ vs) q o =
          let x = popped p w (here r) n [] a.types (rest r) v vs k o in
          record { args = a.args; receiver = v; below = vs; type = x.type; split = q; count = a.count ∙ length-reverse (parameters d); typed = a.typed; is = x.is; met = x.met; short = x.short; held = rest_of x.operands; place = index_drop (length (argument_needs d)) r.types.stack x.type x.below (a.dropped ∙ x.seen) }

  -- with a receiver for the method m they are those of m
  passed_to : (d : List ℕ) (n : OperandConstraint) (m : ℕ) (a : Received p w r d n) → (method_at p m).descriptor ≡ d → is_static (method_at p m).flags ≡ false
      → ((e : Environment) → e.class ≡ (method_at p m).class → HasType p w e (this_type p (method_at p m)) a.receiver) → RefersTo p w (name_of p (method_at p m).class) a.receiver → Passed p w r m (length (parameters d) + 1)
  passed_to d n m a q f this refers =
      let texts = parameters d in
      let back : Arguments p w texts (reverse a.args) = subst (λ (xs : List (List ℕ)). Arguments p w xs (reverse a.args)) (reverse-reverse texts) (arguments_reverse p w (reverse texts) a.args a.typed) in
      let turned_args : reverse (a.args ++ a.receiver ∷ []) ≡ a.receiver ∷ reverse a.args = reverse-append a.args (a.receiver ∷ []) in
      let flat = flat_map types_of texts in
      let order : flat_map types_of (reverse texts) ≡ reverse flat = one_each_reverse p w texts (reverse a.args) back in
      let types : operand_types p (method_at p m) ≡ reverse flat ++ Object (name_of p (method_at p m).class) ∷ [] =
      ap (λ (b : Bool). reverse (cond b [] (Object (name_of p (method_at p m).class) ∷ []) ++ flat_map types_of (parameters (method_at p m).descriptor))) f
      ∙ (ap (λ (x : List ℕ). reverse (Object (name_of p (method_at p m).class) ∷ flat_map types_of (parameters x))) q ∙ reverse-append (Object (name_of p (method_at p m).class) ∷ []) flat) in
      let below : Takes p w (Object (name_of p (method_at p m).class) ∷ []) (a.receiver ∷ a.below) a.below = (refers, receiver_range a, refl) in
      record {
        args = a.args ++ a.receiver ∷ [];
        below = a.below;
        split = a.split ∙ sym (append_assoc a.args (a.receiver ∷ []) a.below);
        count = (let l = length-append a.args (a.receiver ∷ []) in let c = a.count in omega arith);
        held = a.held;
        slots = λ e c. subst (λ (xs : List Value). HaveTypes p w e (spread (entry_types p (method_at p m))) (slots_of xs)) (sym turned_args)
            (subst (λ (ts : List VType). HaveTypes p w e (spread ts) (slots_of (a.receiver ∷ reverse a.args))) (sym (ap (λ (ts : List VType). ts ++ flat_map types_of (parameters (method_at p m).descriptor)) (this_is p (method_at p m) f) ∙ ap (λ (x : List ℕ). this_type p (method_at p m) ∷ flat_map types_of (parameters x)) q))
            (short_slots w e p (this_type p (method_at p m)) flat a.receiver (reverse a.args) (this_place p (method_at p m)) a.short (this e c) (text_slots p w e texts (reverse a.args) back)));
        takes = subst (λ (xs : List Value). Takes p w (operand_types p (method_at p m)) xs a.below) (sym a.split)
            (subst (λ (ts : List VType). Takes p w ts (a.args ++ a.receiver ∷ a.below) a.below) (sym types)
            (takes_append p w (reverse flat) (Object (name_of p (method_at p m).class) ∷ []) (a.args ++ a.receiver ∷ a.below) (a.receiver ∷ a.below) a.below
            (subst (λ (ts : List VType). Takes p w ts (a.args ++ a.receiver ∷ a.below) (a.receiver ∷ a.below)) order (takes_args p w (reverse texts) a.args (a.receiver ∷ a.below) a.typed)) below));
      }
    where
      receiver_range : (a : Received p w r d n) → IsInRange p w a.receiver
      receiver_range a = a.is.range

  -- the row finds the receiver
  receiver_is : (d : List ℕ) (n : OperandConstraint) (m : ℕ) (a : Received p w r d n) → (method_at p m).descriptor ≡ d → receiver p m s ≡ Some a.receiver
  unfolding argument_count
  receiver_is d n m a q = ap (λ (x : List ℕ). slice_get s.top.stack (length (parameters x))) q ∙ (ap (λ (xs : List Value). slice_get xs (length (parameters d))) a.split ∙ (ap (slice_get (a.args ++ a.receiver ∷ a.below)) (sym a.count) ∙ at_seam a.args a.receiver a.below))
    where
      at_seam : (xs : List Value) (v : Value) (ys : List Value) → slice_get (xs ++ v ∷ ys) (length xs) ≡ Some v
      at_seam [] v ys = refl
      at_seam (x ∷ xs) v ys = at_seam xs v ys

-- ---- static methods

module _ (p : Program) (ty : IsTyped p) {w : World} {s : Entries} where
  static_passed : {i : Instr} (r : Ready p w s i) (m : ℕ) → IsMethod p m → is_static (method_at p m).flags ≡ true → Operands p w (here r) (argument_needs (method_at p m).descriptor ++ []) r.types.stack (rest r) s.top.stack → Passed p w r m (length (parameters (method_at p m).descriptor))
  static_passed r m h f o =
      let texts = parameters (method_at p m).descriptor in
      let a = take_args p ty w (here r) (reverse texts) (method_texts p ty m h) [] r.types.stack (rest r) s.top.stack o in
      let back : Arguments p w texts (reverse a.args) = subst (λ (xs : List (List ℕ)). Arguments p w xs (reverse a.args)) (reverse-reverse texts) (arguments_reverse p w (reverse texts) a.args a.typed) in
      record {
        args = a.args;
        below = a.below;
        split = a.split;
        count = sym (a.count ∙ length-reverse texts);
        held = rest_of a.operands;
        slots = λ e c. subst (λ (ts : List VType). HaveTypes p w e (spread ts) (slots_of (reverse a.args))) (sym (ap (λ (b : Bool). elim b as (λ z. List VType) [ true ↦ [] | false ↦ elim (is_constructor (method_at p m)) as (λ z. List VType) [ true ↦ UninitThis ∷ [] | false ↦ Object (name_of p (method_at p m).class) ∷ [] ] ] ++ flat_map types_of texts) f))
            (text_slots p w e texts (reverse a.args) back);
        takes = subst (λ (xs : List Value). Takes p w (operand_types p (method_at p m)) xs a.below) (sym a.split)
            (subst (λ (b : Bool). Takes p w (reverse (cond b [] (Object (name_of p (method_at p m).class) ∷ []) ++ flat_map types_of texts)) (a.args ++ a.below) a.below) (sym f)
            (subst (λ (ts : List VType). Takes p w ts (a.args ++ a.below) a.below) (one_each_reverse p w texts (reverse a.args) back) (takes_args p w (reverse texts) a.args a.below a.typed)));
      }

  pub invoke_static : (m : ℕ) → Ready p w s (form.InvokeStatic m) → Row p w (row_calls p (form.InvokeStatic m) s)
  unfolding row_calls sides argument_count
  invoke_static m r =
      let h : IsMethod p m = names_form p ty r in
      using-typed p ty r (method_at p m).class (home p ty m h) (call-typed p ty r m m (length (parameters (method_at p m).descriptor)) refl (refl, refl) (static_passed r m h (form_kind p ty r).0 (operands r)))

-- ---- selected methods

not_started : (p : Program) (m n : MethodRec) → n.name ≡ m.name → not (bytes_eq m.name clinit_name || bytes_eq m.name init_name) ≡ true → is_constructor n ≡ false
not_started p m n e c = by (bytes_eq m.name clinit_name) (bytes_eq m.name init_name) refl c
  where
    by : (a b : Bool) → bytes_eq m.name init_name ≡ b → not (a || b) ≡ true → is_constructor n ≡ false
    by a false q c = and_right (not (is_static n.flags)) (bytes_eq n.name init_name) (ap (λ (x : List ℕ). bytes_eq x init_name) e ∙ q)
    by true true q c = absurd (cc)
    by false true q c = absurd (cc)

plain_this : (p : Program) (w : World) (e : Environment) (m : MethodRec) (v : Value) → is_constructor m ≡ false → RefersTo p w (name_of p m.class) v → HasType p w e (this_type p m) v
plain_this p w e m v c h = subst (λ (b : Bool). HasType p w e (cond b UninitThis (Object (name_of p m.class))) v) (sym c) h

kind_refers : (p : Program) (w : World) (v : Value) (x : Kind) (a : List ℕ) → IsKindOf p w v x → IsInRange p w v → IsInstance p x a → RefersTo p w a v
kind_refers p w (value.Lit n) x a k g h = (g, subst (λ (z : Kind). IsInstance p z a) k h)
kind_refers p w (value.Obj o) x a k g h = (g, subst (λ (z : Kind). IsInstance p z a) k.0 h)
kind_refers p w _ x a k g h = absurd k

known_kind : (p : Program) (lk : Linked p) (w : World) (v : Value) (x : Kind) → IsKindOf p w v x → IsKind p x
known_kind p lk w (value.Lit n) x k = subst (λ (z : Kind). IsKind p z) (sym k) (either (nat_eq n 0))
  where
    either : (b : Bool) → cond b stream_class string_class < length p.classes
    either true = builtin_is p lk stream_class (omega arith)
    either false = builtin_is p lk string_class (omega arith)
known_kind p lk w (value.Obj o) x k = k.1
known_kind p lk w _ x k = absurd k

module _ (p : Program) (ty : IsTyped p) {w : World} {s : Entries} {i : Instr} (r : Ready p w s i) where
  -- the method that was selected for the receiver is called
  selected-typed : (named : ℕ) (n : OperandConstraint) (a : Received p w r (method_at p named).descriptor n) → called_by i ≡ Some named → not (bytes_eq (method_at p named).name clinit_name || bytes_eq (method_at p named).name init_name) ≡ true
      → (x : Kind) → ((b : List ℕ) → IsInstance p x b → RefersTo p w b a.receiver) → (y : Selected) → SelectedOf p named x y → Row p w (calls_selected p y (length (parameters (method_at p named).descriptor) + 1) s)
  selected-typed named n a c q x f (chosen m) h =
      let g = f (name_of p (method_at p m).class) h.1 in
      call-typed p ty r named m (length (parameters (method_at p named).descriptor) + 1) c (h.0.name, h.0.descriptor)
      (passed_to p ty r (method_at p named).descriptor n m a h.0.descriptor h.0.plain (λ e z. plain_this p w e (method_at p m) a.receiver (not_started p (method_at p named) (method_at p m) h.0.name q) g) g)
  selected-typed named n a c q x f (failing d) h = typed_done (fault_typed p ty r d s.top.stack h r.stack.range)

  -- the receiver isn't null
  on_receiver-typed : (named : ℕ) (n : OperandConstraint) (a : Received p w r (method_at p named).descriptor n) (b : List ℕ) → RefersTo p w b a.receiver → (k : Value → Access (Answer Entries)) → (IsNonNull a.receiver → Row p w (k a.receiver)) → Row p w (on_receiver s (receiver p named s) k)
  on_receiver-typed named n a b h k f = subst (λ (o : Option Value). Row p w (on_receiver s o k)) (sym (receiver_is p ty r (method_at p named).descriptor n named a refl))
      (on_reference-typed p (Ends p) w s a.receiver (refers_nullable p w b a.receiver h) (fault_typed p ty r null_pointer_exception s.top.stack (thrown p ty.linked null_pointer_exception refl) r.stack.range) f)

module _ (p : Program) (ty : IsTyped p) {w : World} {s : Entries} where
  pub invoke_virtual : (k : Kind) (m : ℕ) → Ready p w s (form.InvokeVirtual k m) → Row p w (row_calls p (form.InvokeVirtual k m) s)
  unfolding row_calls sides argument_count
  invoke_virtual k m r =
      let h : IsMethod p m = (names_form p ty r).1 in
      let a = received p ty r (method_at p m).descriptor (Fits (Object (kind_name p k))) tt (method_texts p ty m h) (operands r) in
      let g = (is_fits p ty.linked w (here r) a.type (Object (kind_name p k)) a.receiver a.met a.is).type in
      on_receiver-typed p ty r m (Fits (Object (kind_name p k))) a (kind_name p k) g (λ v. with_kind v (λ x. call_virtual p m s x)) (λ n.
      with_kind-typed p (Ends p) w (kind_name p k) a.receiver n g (λ x j q.
      selected-typed p ty r m (Fits (Object (kind_name p k))) a refl r.kept.eleven x (λ b e. kind_refers p w a.receiver x b q a.is.range e) (select_virtual p m (class_of x))
      (selected_virtual p ty.linked k x m (names_form p ty r).0 (known_kind p ty.linked w a.receiver x q) h (form_kind p ty r).0 (form_found p ty r) j)))

  pub invoke_interface : (c m : ℕ) → Ready p w s (form.InvokeInterface c m) → Row p w (row_calls p (form.InvokeInterface c m) s)
  unfolding row_calls sides argument_count
  invoke_interface c m r =
      let h : IsMethod p m = (names_form p ty r).1 in
      let a = received p ty r (method_at p m).descriptor (Fits (Object (name_of p c))) tt (method_texts p ty m h) (operands r) in
      let g = (is_fits p ty.linked w (here r) a.type (Object (name_of p c)) a.receiver a.met a.is).type in
      on_receiver-typed p ty r m (Fits (Object (name_of p c))) a (name_of p c) g (λ v. with_kind v (λ x. call_interface p c m s x)) (λ n.
      with_kind-typed p (Ends p) w (name_of p c) a.receiver n g (λ x j q.
      selected-typed p ty r m (Fits (Object (name_of p c))) a refl r.kept.eleven x (λ b e. kind_refers p w a.receiver x b q a.is.range e) (select_interface p c m (class_of x))
      (selected_interface p ty.linked c m x (names_form p ty r).0 (form_kind p ty r).1 (known_kind p ty.linked w a.receiver x q) h (form_kind p ty r).0 (form_found p ty r))))

-- ---- invokespecial

-- an uninitialised object is `this` of the `<init>` that starts it
starts_this : (p : Program) (lk : Linked p) (w : World) (e d : Environment) (c : ℕ) (t : VType) (v : Value) → IsClass p c → IsClass p e.class → d.class ≡ c → is_start p e c t ≡ true → HasType p w e t v → HasType p w d UninitThis v
starts_this p lk w e d c UninitThis (value.Obj o) h g q z i = (i.0, subst (λ (x : ℕ). is_class_with (λ k. is_below p k x) (kind_at w o) ≡ true) (sym q) (upwards_of (kind_at w o) i.1))
  where
    current : is_below p e.class c ≡ true
    current = elim (or_cases (nat_eq c e.class) (is_that c (class_at p e.class).superclass) z) [
      | inl n ↦ subst (λ (x : ℕ). is_below p e.class x ≡ true) (sym (eqb-true c e.class n)) (itself_below p e.class)
      | inr n ↦ super_below p lk e.class c g n
    ]

    upwards_of : (k : Kind) → is_class_with (λ x. is_below p x e.class) k ≡ true → is_class_with (λ x. is_below p x c) k ≡ true
    upwards_of (kind.Class a) b = below_trans p lk a e.class c (below_class p lk a e.class g b) b current
    upwards_of (kind.Array n b) k = absurd (cc)
starts_this p lk w e d c (Uninit pc) (value.Obj o) h g q z i = (i.0, subst (λ (x : ℕ). is_class_with (λ k. is_below p k x) (kind_at w o) ≡ true) (sym q) (made (made_at e pc) (kind_at w o) z i.1))
  where
    made : (x : Option ℕ) (k : Kind) → is_that c x ≡ true → is_class_with (λ y. is_that y x) k ≡ true → is_class_with (λ y. is_below p y c) k ≡ true
    made (Some y) (kind.Class k) a b = subst (λ (x : ℕ). is_below p k x ≡ true) (eqb-true k y b ∙ sym (eqb-true c y a)) (itself_below p k)
    made _ _ a b = absurd (cc)
starts_this p lk w e d c UninitThis v h g q z i = i
starts_this p lk w e d c (Uninit pc) v h g q z i = absurd i
starts_this p lk w e d c _ v h g q z i = absurd (cc)

this_refers : (p : Program) (lk : Linked p) (w : World) (e : Environment) (v : Value) → IsClass p e.class → HasType p w e UninitThis v → RefersTo p w (name_of p e.class) v
this_refers p lk w e (value.Obj o) h i = (i.0, this_of p lk e.class (kind_at w o) h i.1)
this_refers p lk w e value.Null h i = absurd i
this_refers p lk w e (value.Lit n) h i = absurd i
this_refers p lk w e _ h i = i

module _ (p : Program) (ty : IsTyped p) {w : World} {s : Entries} where
  current_class : {i : Instr} (r : Ready p w s i) → IsClass p (method_at p s.top.number).class
  current_class r = home p ty s.top.number (has_number p s.top.number r.body r.has_code)

  -- `<init>`: the one that is named
  special_init : (k : Kind) (m : ℕ) (r : Ready p w s (form.InvokeSpecial k m)) → bytes_eq (method_at p m).name init_name ≡ true → IsMethod p m → is_static (method_at p m).flags ≡ false
      → Operands p w (here r) (argument_needs (method_at p m).descriptor ++ Raw ∷ []) r.types.stack (rest r) s.top.stack
      → is_start p (here r) (method_at p m).class (slice_index_or r.types.stack (length (argument_needs (method_at p m).descriptor)) Top) ≡ true
      → Row p w (on_receiver s (receiver p m s) (λ v. call_special p k m s))
  unfolding argument_count select_special
  special_init k m r q h f o st =
      let d = (method_at p m).descriptor in
      let c = (method_at p m).class in
      let a = received p ty r d Raw tt (method_texts p ty m h) o in
      let start : is_start p (here r) c a.type ≡ true = subst (λ (t : VType). is_start p (here r) c t ≡ true) a.place st in
      let this : (e : Environment) → e.class ≡ c → HasType p w e UninitThis a.receiver = λ e z. starts_this p ty.linked w (here r) e c a.type a.receiver (home p ty m h) (current_class r) z start a.is.type in
      let e0 : Environment = record (here r) { class = c } in
      let refers = this_refers p ty.linked w e0 a.receiver (home p ty m h) (this e0 refl) in
      let builds : is_constructor (method_at p m) ≡ true = ap (λ (b : Bool). not b && bytes_eq (method_at p m).name init_name) f ∙ q in
      on_receiver-typed p ty r m Raw a (name_of p c) refers (λ v. call_special p k m s) (λ n.
      subst (λ (b : Bool). Row p w (calls_selected p (cond b (chosen m) (or_kept p m (special_start p (method_at p s.top.number).class (class_named_by k)) (declared_in p (λ n. is_like p m n) (special_path p (special_start p (method_at p s.top.number).class (class_named_by k)))))) (length (parameters d) + 1) s)) (sym q)
      (call-typed p ty r m m (length (parameters d) + 1) refl (refl, refl)
      (passed_to p ty r d Raw m a refl f (λ e z. subst (λ (b : Bool). HasType p w e (cond b UninitThis (Object (name_of p c))) a.receiver) (sym builds) (this e z)) refers)))

  -- another method: the first one from the start of the look-up on
  special_plain : (k : Kind) (m : ℕ) (r : Ready p w s (form.InvokeSpecial k m)) → bytes_eq (method_at p m).name init_name ≡ false → IsMethod p m → IsKind p k → is_static (method_at p m).flags ≡ false → IsFoundIn p k m
      → not (bytes_eq (method_at p m).name clinit_name || bytes_eq (method_at p m).name init_name) ≡ true
      → Operands p w (here r) (argument_needs (method_at p m).descriptor ++ special_need p (here r) k ∷ []) r.types.stack (rest r) s.top.stack
      → Row p w (on_receiver s (receiver p m s) (λ v. call_special p k m s))
  unfolding argument_count
  special_plain k m r q h i f g e o = by (assignable p (object_of p (here r).class) (Object (kind_name p k))) refl
    where
      by : (b : Bool) → assignable p (object_of p (here r).class) (Object (kind_name p k)) ≡ b → Row p w (on_receiver s (receiver p m s) (λ v. call_special p k m s))
      by false z = absurd (
          let a = received p ty r (method_at p m).descriptor Never tt (method_texts p ty m h) (subst (λ (b : Bool). Operands p w (here r) (argument_needs (method_at p m).descriptor ++ cond b (Fits (object_of p (here r).class)) Never ∷ []) r.types.stack (rest r) s.top.stack) z o) in
          let n : false ≡ true = a.met in cc)
      by true z =
          let c = (method_at p s.top.number).class in
          let need = Fits (Object (name_of p c)) in
          let a = received p ty r (method_at p m).descriptor need tt (method_texts p ty m h) (subst (λ (b : Bool). Operands p w (here r) (argument_needs (method_at p m).descriptor ++ cond b (Fits (object_of p (here r).class)) Never ∷ []) r.types.stack (rest r) s.top.stack) z o) in
          let refers = (is_fits p ty.linked w (here r) a.type (Object (name_of p c)) a.receiver a.met a.is).type in
          on_receiver-typed p ty r m need a (name_of p c) refers (λ v. call_special p k m s) (λ n.
          selected-typed p ty r m need a refl e (kind.Class c) (λ b j. refers_fits p ty.linked w (here r) (name_of p c) b a.receiver j refers) (select_special p c (class_named_by k) m)
          (selected_special p ty.linked c m k (kind.Class c) (current_class r) i (current_class r) h f q g z (instance_itself p ty.linked c (current_class r))))

  pub invoke_special : (k : Kind) (m : ℕ) → Ready p w s (form.InvokeSpecial k m) → Row p w (row_calls p (form.InvokeSpecial k m) s)
  unfolding row_calls sides
  invoke_special k m r =
      let n = names_form p ty r in
      let f = (form_kind p ty r).0 in
      by (bytes_eq (method_at p m).name init_name) refl n.1 n.0 f (form_found p ty r) (operands r) r.kept.seven r.kept.eleven
    where
      by : (b : Bool) → bytes_eq (method_at p m).name init_name ≡ b → IsMethod p m → IsKind p k → is_static (method_at p m).flags ≡ false → IsFoundIn p k m
          → Operands p w (here r) (elim b as (λ x. StackEffect) [ true ↦ init_sides p (here r) r.types (method_at p m) (place_of r.types (length (argument_needs (method_at p m).descriptor))) | false ↦ call_sides (method_at p m) (special_need p (here r) k ∷ []) ]).takes r.types.stack (rest r) s.top.stack
          → (elim b as (λ x. StackEffect) [ true ↦ init_sides p (here r) r.types (method_at p m) (place_of r.types (length (argument_needs (method_at p m).descriptor))) | false ↦ call_sides (method_at p m) (special_need p (here r) k ∷ []) ]).starts_well ≡ true
          → (elim b as (λ x. StackEffect) [ true ↦ init_sides p (here r) r.types (method_at p m) (place_of r.types (length (argument_needs (method_at p m).descriptor))) | false ↦ call_sides (method_at p m) (special_need p (here r) k ∷ []) ]).calls_well ≡ true
          → Row p w (on_receiver s (receiver p m s) (λ v. call_special p k m s))
      by true q h j f g o st e = special_init k m r q h f o st
      by false q h j f g o st e = special_plain k m r q h j f g e o

  pub calls-typed : (i : Instr) → group_of i ≡ of_calls → Ready p w s i → Row p w (row_calls p i s)
  calls-typed (form.InvokeVirtual k m) g r = invoke_virtual p ty k m r
  calls-typed (form.InvokeInterface c m) g r = invoke_interface p ty c m r
  calls-typed (form.InvokeSpecial k m) g r = invoke_special k m r
  calls-typed (form.InvokeStatic m) g r = invoke_static p ty m r
  calls-typed _ g r = absurd (cc)
