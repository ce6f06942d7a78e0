-- How what quiet initialisers leave is computed in one memory, instruction by instruction (JVMS 2.9 and 5.5).
use Rattle.std.specs.Prelude.{◌≡◌, ◌≢◌, ℕ, List, [], ◌∷◌, length, get_or, map, None, Bool, true, false, cond, nat_lt, ◌&&◌}
use Rattle.std.specs.List.{range_with_len}
use Rattle.jvm_model.specs.declared.{values.InitState.TheVariants.Running, values.Value.Value, values.Value.TheVariants.Null, instr.Instr.Instr}
use Rattle.jvm_model.specs.declared.values.Location.TheVariants as place
use Rattle.jvm_model.specs.declared.instr.Instr.TheVariants as form
use Rattle.jvm_model.specs.declared.program.{Body.Body, ClassRec.ClassRec, FieldRec.FieldRec, Placed.Placed, Program.Program}
use Rattle.jvm_model.specs.{World.World, World.at, Access.run, Linked.IsField, Rows.stuck_row, Step.row, View.Exists}
use Rattle.jvm_model.specs.Classes.{no_class, no_field, field_at, is_trivial, next_place}
use Rattle.jvm_model.specs.Entries.{Entries, entries_of, frame_of}
use Rattle.check_sound.specs.ReachLaw.{puts}
use Rattle.vm_frames.specs.Stack.{HasRoom}
use Rattle.quiet_init.specs.{Quiet.is_calm, Quiet.is_quiet, Quiet.goes_with, Quiet.left_by, StillLaw.HasOwn}

-- the static is there, and its class is being initialised
pub record IsBegun (p : Program) (f : ℕ) (w : World) : Type 0 where
  pub there : Exists w (place.Static f)
  pub stateful : is_trivial p (field_at p f).class ≡ false
  pub running : at w (place.Init (field_at p f).class) ≡ Running

-- a calm instruction, or one that reads or sets such a static
abbrev pub IsServed : Program → Instr → World → Type 0
IsServed p (form.GetStatic f) w = IsBegun p f w
IsServed p (form.PutStatic f) w = IsBegun p f w
IsServed p i w = is_calm i ≡ true

-- an instruction can be done: it has its row, and there is room for what it puts on the operands
pub record CanDo (p : Program) (i : Instr) (s : Entries) (w : World) : Type 0 where
  pub served : IsServed p i w
  pub has_row : (run (row p i s) w).value ≢ stuck_row
  pub room : HasRoom (puts i) s

-- and is done, with these entries and this world then
pub record Does (p : Program) (i : Instr) (s : Entries) (w : World) (t : Entries) (v : World) : Type 0 where
  pub entries : goes_with s (run (row p i s) w).value ≡ t
  pub world : (run (row p i s) w).world ≡ v

-- these can be done, one after the other
abbrev pub CanDoAll : Program → List Placed → Entries → World → Type 0
CanDoAll p [] s w = Unit {0}
CanDoAll p (x ∷ xs) s w = let r = run (row p x.form s) w in CanDo p x.form s w × CanDoAll p xs (goes_with s r.value) r.world

-- an instruction that touches nothing brings these entries, whatever the program and the world
abbrev pub GoesCalmly : Instr → ℕ → Entries → Entries → Type 0
GoesCalmly i next s t = (p : Program) (w : World) → next_place p s.top.number s.top.pc ≡ next → goes_with s (run (row p i s) w).value ≡ t

-- code without its last instruction
abbrev pub before_end : List Placed → List Placed
before_end [] = []
before_end (x ∷ []) = []
before_end (x ∷ y ∷ ys) = x ∷ before_end (y ∷ ys)

-- the entries of a method that is entered above no other
abbrev pub entered : ℕ → Body → Entries
entered m b = entries_of (frame_of b m [] ∷ [])

-- the world has a place for each static and each state
pub record HasPlaces (p : Program) (w : World) : Type 0 where
  pub statics : length w.statics ≡ length p.fields
  pub states : length w.states ≡ length p.classes

-- the second world has in the statics of a class what its initialiser leaves, and all others as the first has them
pub record Leaves (p : Program) (c : ℕ) (u w : World) : Type 0 where
  pub places : HasPlaces p w
  pub own : HasOwn p c (left_by p c) w
  pub others : (f : ℕ) → (field_at p f).class ≢ c → at w (place.Static f) ≡ at u (place.Static f)

-- what a field has once the quiet classes before this one were served
abbrev pub value_before : Program → ℕ → ℕ → Value
value_before p c f = cond (nat_lt (field_at p f).class c && is_quiet p (field_at p f).class) (at (left_by p (field_at p f).class) (place.Static f)) (field_at p f).opening

pub record AreLeft (p : Program) (c : ℕ) (w : World) : Type 0 where
  pub places : HasPlaces p w
  pub values : (f : ℕ) → IsField p f → at w (place.Static f) ≡ value_before p c f

-- the flags of the quiet classes, by number
abbrev pub AreFlags : Program → List Bool → Type 0
AreFlags p flags = flags ≡ map (is_quiet p) (range_with_len 0 (length p.classes))

-- the values that open the fields once all quiet classes were served
pub record AreOpenings (p : Program) (vs : List Value) : Type 0 where
  pub long : length vs ≡ length p.fields
  pub values : (f : ℕ) → IsField p f → get_or vs f Null ≡ value_before p (length p.classes) f

-- the classes without the initialisers of those with a flag
abbrev pub unstarted : List Bool → List ClassRec → List ClassRec
unstarted flags xs = map (λ c. cond (get_or flags c false) (record (get_or xs c no_class) { initialiser = None }) (get_or xs c no_class)) (range_with_len 0 (length xs))

-- the fields with these opening values
abbrev pub opened_with : List Value → List FieldRec → List FieldRec
opened_with vs xs = map (λ f. record (get_or xs f no_field) { opening = get_or vs f Null }) (range_with_len 0 (length xs))
