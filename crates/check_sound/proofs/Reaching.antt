-- What the states have that a test comes to.
use Rattle.std.proofs.Common.{◌≡◌, ◌⊎◌, ℕ, ◌+◌, ◌-◌, ◌<◌, ◌≤◌, List, [], ◌∷◌, length, Bool, true, false, ◌&&◌, cond, nat_eq, nat_le, Option, Some, None, IfSome, refl, sym, ◌∙◌, ap, subst, arith, inl, inr}
use Rattle.std.proofs.lemmas.{Bool.cases_Bool, Bool.and_parts, Bool.leb-true, Bool.eqb-true, List.length-append, Option.same_Some}
use Rattle.jvm_model.specs.declared.{values.Value.Value, state.EntryKind.EntryKind, state.EntryKind.TheVariants.InMethod, instr.Instr.Instr, instr.Sort.Sort}
use Rattle.jvm_model.specs.declared.values.Value.TheVariants as value
use Rattle.jvm_model.specs.declared.instr.Instr.TheVariants as form
use Rattle.jvm_model.specs.declared.instr.Sort.TheVariants as sort
use Rattle.jvm_model.specs.declared.{library.Native.Native, outcome.Next.TheVariants.Enter, program.Program.Program, program.Body.Body}
use Rattle.jvm_model.specs.declared.library.Native.TheVariants as native
use Rattle.jvm_model.specs.{World.World, Access.run, Descriptors.return_type, Rows.Answer, Rows.answer, Step.row_here, Step.turn}
use Rattle.jvm_model.specs.{Classes.method_at, Classes.field_at, Classes.form_at, Entries.Entry, Entries.Entries, Entries.popped_entry, Entries.entries_of}
use Rattle.jvm_model.specs.{Reached.Reaches, Reached.begins, Reached.steps, State.State, State.Turn, State.next}
use Rattle.type_frames.specs.declared.vtype.{VType.VType, VType.TheVariants.Top, VType.TheVariants.Int, VType.TheVariants.Long, VType.TheVariants.Object}
use Rattle.type_frames.specs.declared.stack_effect.{StackEffect.StackEffect, OperandConstraint.TheVariants.One}
use Rattle.std.specs.Prelude.{slice_index_or}
use Rattle.type_frames.specs.{Frames.Slots, Frames.same, Environment.Environment, Descriptors.types_of, Descriptors.class_name, Typing.IsTyped}
use Rattle.type_frames.specs.StackEffect.{sides, two, long_need, const_type}
use Rattle.type_frames.specs.TypedState.{TypedWorld, TypedState, IsBelow}
use Rattle.type_frames.proofs.Started.{started_law}
use Rattle.check_sound.specs.{StepLaw.StaysTyped, ReachLaw.most_operands, ReachLaw.HasStackLimits, ReachLaw.puts, ReachLaw.native_puts}
use Rattle.check_sound.proofs.{TreeRuns.alike_itself, TreeRuns.tree_leaves, CallEffects.values_few, CallEffects.on_stack_length, RaiseRows.beneath}
use Rattle.check_sound.proofs.Ready.{TypedEntries, stub, Rest, Takes, NativeCall, Enters, Ends, Ready, ready, here, sides_at, names_form}
use Rattle.check_sound.proofs.{ReturnRows.SortOf, ReturnRows.sort_of, ReturnRows.back_room, ParameterTexts.IsText, DeclaredValues.text_of_field}
use Rattle.check_sound.proofs.LibraryTypes.{takes_of, result_of, native_takes, native_gives}
use Rattle.check_sound.proofs.WholeStep.{Groups, here-typed, stays_typed}

-- ---- what an instruction gives beyond what it takes

two_length : (t : VType) → length (two t) ≡ 2
two_length t = by (same t Top)
  where
    by : (b : Bool) → length (cond b long_need (One ∷ One ∷ [])) ≡ 2
    by true = refl
    by false = refl

some_types : (t : List ℕ) → IsText t → 1 ≤ length (types_of t)
some_types [] h = absurd (cc)
some_types (u ∷ us) h = elim (cases_Bool (nat_eq u 74)) [
  | inl a ↦ is_one (types_of (u ∷ us)) (Long) (rw (types_of, a) refl)
  | inr a ↦ elim (cases_Bool (nat_eq u 76)) [
    | inl b ↦ is_one (types_of (u ∷ us)) (Object (class_name us)) (rw (types_of, a, b) refl)
    | inr b ↦ elim (cases_Bool (nat_eq u 91)) [
      | inl c ↦ is_one (types_of (u ∷ us)) (Object (u ∷ us)) (rw (types_of, a, b, c) refl)
      | inr c ↦ elim (cases_Bool (nat_eq u 86)) [
        | inl d ↦ absurd (let z : IsText (86 ∷ us) = subst (λ (n : ℕ). IsText (n ∷ us)) (eqb-true u 86 d) h in cc)
        | inr d ↦ elim (cases_Bool (nat_eq u 70)) [
          | inl e ↦ is_one (types_of (u ∷ us)) Top (rw (types_of, a, b, c, d, e) refl)
          | inr e ↦ elim (cases_Bool (nat_eq u 68)) [
            | inl f ↦ subst (λ (ts : List VType). 1 ≤ length ts) (sym (doubles a b c d e f)) (omega arith)
            | inr f ↦ is_one (types_of (u ∷ us)) Int (rw (types_of, a, b, c, d, e, f) refl)
          ]
        ]
      ]
    ]
  ]
]
  where
    is_one : (ts : List VType) (t : VType) → ts ≡ t ∷ [] → 1 ≤ length ts
    is_one ts t e = subst (λ (xs : List VType). 1 ≤ length xs) (sym e) (omega arith)

    doubles : nat_eq u 74 ≡ false → nat_eq u 76 ≡ false → nat_eq u 91 ≡ false → nat_eq u 86 ≡ false → nat_eq u 70 ≡ false → nat_eq u 68 ≡ true → types_of (u ∷ us) ≡ Top ∷ Top ∷ []
    doubles a b c d e f = rw (types_of, a, b, c, d, e, f) refl

const_length : (p : Program) (v : Value) → 1 ≤ length (const_type p v)
const_length p (value.Int n) = omega arith
const_length p _ = omega arith

-- nothing more, or as much as the instruction gives beyond what it takes
Grown : StackEffect → Instr → Type 0
Grown o i = (puts i ≡ 0) ⊎ (length o.takes + puts i ≤ length o.gives)

-- the fields of static instructions have types
abbrev HasFieldType : Program → Instr → Type 0
HasFieldType p (form.GetStatic f) = 1 ≤ length (types_of (field_at p f).descriptor)
HasFieldType p _ = Unit {0}

module _ (p : Program) (e : Environment) (pc : ℕ) (f : Slots) where
  dup_x2 : length (sides p e pc f form.DupX2).takes + 1 ≤ length (sides p e pc f form.DupX2).gives
  unfolding sides
  dup_x2 = let l = two_length (slice_index_or f.stack 1 Top) in omega arith

  dup2 : length (sides p e pc f form.Dup2).takes + 2 ≤ length (sides p e pc f form.Dup2).gives
  unfolding sides
  dup2 = let l = two_length (slice_index_or f.stack 0 Top) in omega arith

  dup2_x1 : length (sides p e pc f form.Dup2X1).takes + 2 ≤ length (sides p e pc f form.Dup2X1).gives
  unfolding sides
  dup2_x1 = let l = two_length (slice_index_or f.stack 0 Top) in let a = length-append (two (slice_index_or f.stack 0 Top)) (One ∷ []) in omega arith

  dup2_x2 : length (sides p e pc f form.Dup2X2).takes + 2 ≤ length (sides p e pc f form.Dup2X2).gives
  unfolding sides
  dup2_x2 = let l = two_length (slice_index_or f.stack 0 Top) in let k = two_length (slice_index_or f.stack 2 Top) in let a = length-append (two (slice_index_or f.stack 0 Top)) (two (slice_index_or f.stack 2 Top)) in omega arith

grown : (p : Program) (e : Environment) (pc : ℕ) (f : Slots) (i : Instr) → HasFieldType p i → Grown (sides p e pc f i) i
unfolding sides Grown
grown p e pc f (form.Const v) t = inr (const_length p v)
grown p e pc f (form.Load sort.Int n) t = inr (omega arith)
grown p e pc f (form.Load sort.Long n) t = inr (omega arith)
grown p e pc f (form.Load sort.Ref n) t = inr (omega arith)
grown p e pc f form.Dup t = inr (omega arith)
grown p e pc f form.DupX1 t = inr (omega arith)
grown p e pc f form.DupX2 t = inr (dup_x2 p e pc f)
grown p e pc f form.Dup2 t = inr (dup2 p e pc f)
grown p e pc f form.Dup2X1 t = inr (dup2_x1 p e pc f)
grown p e pc f form.Dup2X2 t = inr (dup2_x2 p e pc f)
grown p e pc f (form.GetStatic n) t = inr (let l = on_stack_length (types_of (field_at p n).descriptor) in omega arith)
grown p e pc f (form.New c) t = inr (omega arith)
grown p e pc f _ t = inl refl

module _ (p : Program) (ty : IsTyped p) where
  field_type : {w : World} {s : Entries} (i : Instr) → Ready p w s i → HasFieldType p i
  field_type (form.GetStatic f) r = some_types (field_at p f).descriptor (text_of_field (field_at p f).descriptor (ty.linked.listed.field_names f (names_form p ty r)).1)
  field_type _ r = tt

  pub room : {w : World} (s : Entries) (i : Instr) (r : Ready p w s i) → r.body.max_stack ≤ most_operands → length s.top.stack + puts i ≤ most_operands
  unfolding Grown
  room {w = w} s i r m =
      let o = sides_at r in
      let q = and_parts (nat_le (length o.takes) (length r.types.stack)) (nat_le (length o.gives + (length r.types.stack - length o.takes)) r.body.max_stack) r.kept.one in
      let a = leb-true _ _ q.0 in
      let b = leb-true _ _ q.1 in
      let f = r.fits in
      let v = values_few p w (here r) r.types.stack s.top.stack r.stack.types in
      elim (grown p (here r) s.top.pc r.types i (field_type i r)) [
        | inl z ↦ omega arith
        | inr z ↦ omega arith
      ]

module _ (p : Program) (ty : IsTyped p) (limits : HasStackLimits p) where
  limit_of : (m : ℕ) (b : Body) → (method_at p m).body ≡ Some b → b.max_stack ≤ most_operands
  limit_of m b h = subst (λ (o : Option Body). IfSome o (λ b. b.max_stack ≤ most_operands)) h (limits m)

  some_result : (rs : List VType) (x : Sort) → SortOf rs (Some x) → 1 ≤ length rs
  some_result rs sort.Ref e = subst (λ (ts : List VType). 1 ≤ length ts) (sym e.1) (omega arith)
  some_result rs _ e = subst (λ (ts : List VType). 1 ≤ length ts) (sym e) (omega arith)

  return_room : {w : World} (s : Entries) (x : Sort) → Ready p w s (form.Return (Some x)) → (popped_entry s).top.kind ≡ InMethod → length (popped_entry s).top.stack + 1 ≤ most_operands
  unfolding sides
  return_room {w = w} s x r k = by s.below r.rest k
    where
      result : 1 ≤ length (types_of (return_type (method_at p s.top.number).descriptor))
      result = some_result _ x (sort_of (here r).result ((here r).starts && r.types.flag) (Some x) r.kept.six)

      by : (fs : List Entry) → Rest p w InMethod s.top.number fs → (entries_of fs).top.kind ≡ InMethod → length (entries_of fs).top.stack + 1 ≤ most_operands
      by [] t k = absurd (cc)
      by (f ∷ fs) t k =
          let b = beneath t in
          let q = back_room p ty s.top.number f (subst (λ (j : EntryKind). IsBelow p w f j (stub InMethod s.top.number) InMethod) k b.is) b.locals in
          let m = limit_of f.number q.0 q.1 in
          let n = q.2 in
          let z = result in omega arith

module _ (p : Program) (ty : IsTyped p) (limits : HasStackLimits p) (gs : Groups p) where
  entries_of_state : (w : World) (s : State) → TypedState p w s → s.raised ≡ None → TypedEntries p w None s.entries
  entries_of_state w s t n = subst (λ (x : Option Value). TypedEntries p w x s.entries) n (record { references = t.references; few = t.few; alone = t.alone; top = t.top; below = t.below; one_each = t.one_each })

  ready_at : (w : World) (s : State) (i : Instr) → TypedState p w s → s.entries.top.kind ≡ InMethod → s.raised ≡ None → form_at p s.entries.top.number s.entries.top.pc ≡ Some i → Ready p w s.entries i
  ready_at w s i t k n f =
      let r = ready p ty s.entries k (entries_of_state w s t n) in
      let e : r.0 ≡ i = same_Some _ _ (sym r.1 ∙ f) in
      subst (λ (j : Instr). Ready p w s.entries j) e r.2

  pub instruction_room : (w : World) (s : State) (i : Instr) → TypedState p w s → s.entries.top.kind ≡ InMethod → s.raised ≡ None → form_at p s.entries.top.number s.entries.top.pc ≡ Some i → length s.entries.top.stack + puts i ≤ most_operands
  instruction_room w s i t k n f = let r = ready_at w s i t k n f in room p ty s.entries i r (limit_of p ty limits s.entries.top.number r.body r.has_code)

  pub result_room : (w : World) (s : State) (x : Sort) → TypedState p w s → s.entries.top.kind ≡ InMethod → s.raised ≡ None → form_at p s.entries.top.number s.entries.top.pc ≡ Some (form.Return (Some x)) → (popped_entry s.entries).top.kind ≡ InMethod → length (popped_entry s.entries).top.stack + 1 ≤ most_operands
  result_room w s x t k n f q = return_room p ty limits s.entries x (ready_at w s (form.Return (Some x)) t k n f) q

  -- a built-in method that takes nothing and gives a value, or another one
  native_space : (v : World) (m : ℕ) (x : Native) (t : Entries) → (method_at p m).native ≡ Some x → NativeCall p v m t → length t.top.stack + native_puts x ≤ most_operands
  native_space v m x t e c =
      let b = c.space in
      let l = limit_of p ty limits t.top.number b.0 b.1 in
      by x (native_takes p ty.linked v m x t.top.stack c.rest e c.takes) (native_gives p ty.linked m x e) b.2 b.3 l
    where
      by : (x : Native) → Takes p v (takes_of p x) t.top.stack c.rest → types_of (return_type (method_at p m).descriptor) ≡ result_of x
          → {k : ℕ} → length c.rest + length (types_of (return_type (method_at p m).descriptor)) ≤ k → length t.top.stack ≤ k → k ≤ most_operands → length t.top.stack + native_puts x ≤ most_operands
      by native.SystemClock a g h f l = let z = ap length a in let y = ap length g in omega arith
      by native.EnvRandom a g h f l = let z = ap length a in let y = ap length g in omega arith
      by _ a g h f l = omega arith

  pub native_room : (w : World) (s : State) (m : ℕ) (x : Native) (t : Entries) → TypedState p w s → s.entries.top.kind ≡ InMethod → s.raised ≡ None → (run (row_here p s.entries) w).value ≡ answer (Enter m) t → (method_at p m).native ≡ Some x → length t.top.stack + native_puts x ≤ most_operands
  native_room w s m x t h k n a e =
      let y = tree_leaves p (Ends p) (row_here p s.entries) w w (alike_itself w) h.world (here-typed p ty gs w s.entries k (entries_of_state w s h n)) in
      let c : Ends p y.seen (answer (Enter m) t) = subst (λ (z : Answer Entries). Ends p y.seen z) a y.answer in
      native_space y.seen m x t e (subst (λ (z : Option Native). Enters p y.seen m z t) e c)

module _ (p : Program) (ty : IsTyped p) (gs : Groups p) where
  went_on : (w : World) (s : State) (x : Turn) → x ≡ next s → StaysTyped p w x → TypedState p w s
  went_on w s x e h = subst (λ (y : Turn). StaysTyped p w y) e h

  pub reached_typed : (t : ℕ) (w v : World) (s : State) → TypedWorld p w → 0 < t → t ≤ length p.tests → Reaches p t w s v → TypedState p v s
  reached_typed t w v s h low high begins = started_law p w t h low high
  reached_typed t w v s h low high (steps {s = s0} {v = v0} r e) = went_on v s (turn p s0 v0) e (stays_typed p ty gs v0 s0 (reached_typed t w v0 s0 h low high r)).1
