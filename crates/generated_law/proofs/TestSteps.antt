-- The steps of a static test without parameters, for the instructions of the generated tests.
use Rattle.std.proofs.Common.{◌≡◌, ℕ, ◌+◌, true, false, cond, ℤ, List, [], ◌∷◌, ◌++◌, length, Some, None, refl, ap, ◌∙◌}
use Rattle.std.specs.Prelude.{codes}
use Rattle.std.specs.Fmt.{signed_decimal}
use Rattle.et_base.specs.Numbers.{add32}
use Rattle.jvm_model.specs.declared.{values.Value.Value, instr.Instr.Instr, outcome.Own.Own, outcome.Verdict.TheVariants.Passed}
use Rattle.jvm_model.specs.declared.values.Value.TheVariants as value
use Rattle.jvm_model.specs.declared.values.Location.TheVariants as place
use Rattle.jvm_model.specs.declared.instr.Instr.TheVariants as form
use Rattle.jvm_model.specs.declared.instr.Op.TheVariants as op
use Rattle.jvm_model.specs.declared.library.Native.TheVariants as native
use Rattle.jvm_model.specs.declared.{state.EntryKind.TheVariants.InMethod, state.Stage.TheVariants.Last, program.Program.Program, program.Placed.Placed}
use Rattle.jvm_model.specs.Access.{Access, done, read, write, spend, bind}
use Rattle.jvm_model.specs.Classes.{field_at, method_at, form_at, next_place, is_static, is_trivial}
use Rattle.jvm_model.specs.{Descriptors.parameters, Entries.Entries, Entries.no_entries, Narrow.narrow, Narrow.narrowed, Natives.row_native}
use Rattle.jvm_model.specs.Driver.{driven, drives, drive_first, drive, judge, once_driven, makes}
use Rattle.jvm_model.specs.{NativesOutside.native_env, RowsArith.row_arith, RowsMoves.row_moves, RowsReturn.hands_on, RowsReturn.row_return}
use Rattle.jvm_model.specs.Rows.{Answer, ready, begun_at, begin, once, using}
use Rattle.jvm_model.specs.RowsCalls.{calls, argument_count, row_calls, enters_native}
use Rattle.jvm_model.specs.RowsStatics.{read_static, write_static, row_statics}
use Rattle.jvm_model.specs.State.{State, next, ended, test_at, started}
use Rattle.jvm_model.specs.Step.{row, row_or_none, row_here, after_row, entered, step}
use Rattle.jvm_model.proofs.Steps.{step_drives, step_runs}
use Rattle.generated_law.specs.GeneratedSuite.{body_with}

-- ---- states

-- a test in its method, before an instruction
abbrev pub inside : ℕ → ℕ → ℕ → List Value → Own → State
inside t m pc stack o = record {
  test = t;
  entries = record { top = record { kind = InMethod; number = m; pc = pc; stack = stack; locals = [] }; below = [] };
  stage = Last None;
  raised = None;
  own = o;
}

-- a test whose method has returned
abbrev pub behind : ℕ → Own → State
behind t o = record { test = t; entries = no_entries; stage = Last None; raised = None; own = o }

-- the instruction at a place of a method, and the place after it
pub record StandsAt (p : Program) (m pc : ℕ) (i : Instr) (after : ℕ) : Type 0 where
  pub form : form_at p m pc ≡ Some i
  pub follows : next_place p m pc ≡ after

-- a class that is used without a step
used : (p : Program) (c : ℕ) (s : Entries) (k : Access (Answer Entries)) → is_trivial p c ≡ true → using p c s k ≡ k
unfolding begin
used p c s k e = ap (λ b. bind (cond b (done ready) (read (place.Init c) (begun_at c s))) (once s k)) e

-- the row that a step has
rowed : (p : Program) (t m pc after : ℕ) (st : List Value) (o : Own) (i : Instr) → StandsAt p m pc i after
    → step p (inside t m pc st o) ≡ spend 1 (bind (row p i (inside t m pc st o).entries) (after_row p (inside t m pc st o)))
unfolding row_here
rowed p t m pc after st o i h = let s = inside t m pc st o in step_runs p s refl refl ∙ ap (λ x. spend 1 (bind (row_or_none p x s.entries) (after_row p s))) h.form

-- ---- instructions

pub const_step : (p : Program) (t m pc after : ℕ) (st : List Value) (o : Own) (v : Value) → StandsAt p m pc (form.Const v) after → step p (inside t m pc st o) ≡ spend 1 (done (next (inside t m after (v ∷ st) o)))
unfolding row row_moves
const_step p t m pc after st o v h = rowed p t m pc after st o (form.Const v) h ∙ ap (λ n. spend 1 (done (next (inside t m n (v ∷ st) o)))) h.follows

pub get_step : (p : Program) (t m pc after c f : ℕ) (st : List Value) (o : Own) → StandsAt p m pc (form.GetStatic f) after → (field_at p f).class ≡ c → is_trivial p c ≡ true
    → step p (inside t m pc st o) ≡ spend 1 (read (place.Static f) (λ v. done (next (inside t m after (v ∷ st) o))))
unfolding row row_statics read_static
get_step p t m pc after c f st o h e trivial =
    let s = inside t m pc st o in
    rowed p t m pc after st o (form.GetStatic f) h
    ∙ (ap (λ d. spend 1 (bind (using p d s.entries (read_static p f s.entries)) (after_row p s))) e
    ∙ (ap (λ k. spend 1 (bind k (after_row p s))) (used p c s.entries (read_static p f s.entries) trivial) ∙ ap (λ n. spend 1 (read (place.Static f) (λ (v : Value). done (next (inside t m n (v ∷ st) o))))) h.follows))

pub put_step : (p : Program) (t m pc after c f : ℕ) (st : List Value) (o : Own) (n : ℤ) → StandsAt p m pc (form.PutStatic f) after → (field_at p f).class ≡ c → is_trivial p c ≡ true → (field_at p f).descriptor ≡ codes "I"
    → step p (inside t m pc (value.Int n ∷ st) o) ≡ spend 1 (write (place.Static f) (value.Int n) (done (next (inside t m after st o))))
unfolding row row_statics write_static narrow
put_step p t m pc after c f st o n h e trivial d =
    let s = inside t m pc (value.Int n ∷ st) o in
    rowed p t m pc after (value.Int n ∷ st) o (form.PutStatic f) h
    ∙ (ap (λ x. spend 1 (bind (using p x s.entries (write_static p f s.entries)) (after_row p s))) e
    ∙ (ap (λ k. spend 1 (bind k (after_row p s))) (used p c s.entries (write_static p f s.entries) trivial)
    ∙ (ap (λ x. spend 1 (write (place.Static f) (narrowed x (value.Int n)) (done (next (inside t m (next_place p m pc) st o))))) d
    ∙ ap (λ x. spend 1 (write (place.Static f) (value.Int n) (done (next (inside t m x st o))))) h.follows)))

pub add_step : (p : Program) (t m pc after : ℕ) (st : List Value) (o : Own) (a b : ℤ) → StandsAt p m pc (form.Binary op.Add false) after
    → step p (inside t m pc (value.Int b ∷ value.Int a ∷ st) o) ≡ spend 1 (done (next (inside t m after (value.Int (add32 a b) ∷ st) o)))
unfolding row row_arith
add_step p t m pc after st o a b h = rowed p t m pc after (value.Int b ∷ value.Int a ∷ st) o (form.Binary op.Add false) h ∙ ap (λ n. spend 1 (done (next (inside t m n (value.Int (add32 a b) ∷ st) o)))) h.follows

pub return_step : (p : Program) (t m pc after : ℕ) (o : Own) → StandsAt p m pc (form.Return None) after → step p (inside t m pc [] o) ≡ spend 1 (done (next (behind t o)))
unfolding row row_return hands_on
return_step p t m pc after o h = rowed p t m pc after [] o (form.Return None) h

-- what printing a number adds to what the test has of its own
abbrev pub printed_line : ℤ → List ℕ
printed_line n = signed_decimal n ++ 10 ∷ []

abbrev pub with_line : Own → ℤ → Own
with_line o n = record o { output = o.output ++ printed_line n }

-- the method is that of electric/Env, in a class that is used without a step
pub record Prints (p : Program) (m c : ℕ) : Type 0 where
  pub class : (method_at p m).class ≡ c
  pub trivial : is_trivial p c ≡ true
  pub native : (method_at p m).native ≡ Some native.EnvPrint
  pub descriptor : (method_at p m).descriptor ≡ codes "(I)V"

pub print_step : (p : Program) (t m pc after c q : ℕ) (o : Own) (n : ℤ) → StandsAt p m pc (form.InvokeStatic q) after → Prints p q c
    → step p (inside t m pc (value.Int n ∷ []) o) ≡ spend 1 (spend (length (printed_line n)) (done (next (inside t m after [] (with_line o n)))))
unfolding row row_calls calls argument_count parameters row_native native_env
print_step p t m pc after c q o n h e =
    let s = inside t m pc (value.Int n ∷ []) o in
    rowed p t m pc after (value.Int n ∷ []) o (form.InvokeStatic q) h
    ∙ (ap (λ x. spend 1 (bind (using p x s.entries (calls p q (argument_count p q) s.entries)) (after_row p s))) e.class
    ∙ (ap (λ k. spend 1 (bind k (after_row p s))) (used p c s.entries (calls p q (argument_count p q) s.entries) e.trivial)
    ∙ (ap (λ d. spend 1 (bind (calls p q (length (parameters d)) s.entries) (after_row p s))) e.descriptor
    ∙ (ap (λ x. spend 1 (bind (enters_native x (method_at p q).body q 1 s.entries) (after_row p s))) e.native
    ∙ (ap (λ x. spend 1 (entered p s x s.entries)) e.native ∙ ap (λ x. spend 1 (spend (length (printed_line n)) (done (next (inside t m x [] (with_line o n)))))) h.follows)))))

-- ---- the begin and the end

pub first_step : (p : Program) (t m c stack length : ℕ) (code : List Placed) → (test_at p t).method ≡ m → is_static (method_at p m).flags ≡ true → (method_at p m).class ≡ c → is_trivial p c ≡ true → (method_at p m).body ≡ Some (body_with stack length code)
    → step p (started p t) ≡ spend 1 (spend (stack + 0) (done (next (inside t m 0 [] (started p t).own))))
unfolding drive drive_first drives begin
first_step p t m c stack length code e static class trivial body =
    let s = started p t in
    let more = bind (begin p (test_at p t).class s.entries) (once_driven p s (makes p (test_at p t).class s)) in
    step_drives p s refl
    ∙ (ap (λ n. spend 1 (cond (is_static (method_at p n).flags) (bind (begin p (method_at p n).class s.entries) (once_driven p s (drives p n [] (Last None) s))) more)) e
    ∙ (ap (λ b. spend 1 (cond b (bind (begin p (method_at p m).class s.entries) (once_driven p s (drives p m [] (Last None) s))) more)) static
    ∙ (ap (λ x. spend 1 (bind (begin p x s.entries) (once_driven p s (drives p m [] (Last None) s)))) class
    ∙ (ap (λ b. spend 1 (bind (cond b (done ready) (read (place.Init c) (begun_at c s.entries))) (once_driven p s (drives p m [] (Last None) s)))) trivial
    ∙ ap (λ x. spend 1 (driven p x m [] (Last None) s)) body))))

pub last_step : (p : Program) (t : ℕ) (o : Own) → step p (behind t o) ≡ spend 1 (done (ended Passed o.output))
unfolding drive judge
last_step p t o = step_drives p (behind t o) refl
