-- What the machine does at the code of a quiet initialiser (JVMS 5.5 and 6.5).
use Rattle.std.specs.Prelude.{◌≡◌, ◌≢◌, ℕ, suc, List, [], ◌∷◌, length, true, false, Some, None}
use Rattle.jvm_model.specs.declared.{values.InitState.TheVariants.Running, state.EntryKind.TheVariants.InClass, program.Body.Body, program.Placed.Placed}
use Rattle.jvm_model.specs.declared.values.Location.TheVariants as place
use Rattle.jvm_model.specs.{declared.program.Program.Program, World.World, World.at, Access.run, Linked.IsBody, Rows.stuck_row, State.State, State.next}
use Rattle.jvm_model.specs.Classes.{class_at, field_at, method_at, is_trivial}
use Rattle.jvm_model.specs.{Entries.Entry, Entries.Entries, Entries.entries_of, Entries.frame_of, Step.row, Step.step, Step.turn}
use Rattle.quiet_init.specs.Quiet.{is_still, goes_with, begun_world, left_by}

-- n steps lead from a state in a world to another one in another
pub data Leads (p : Program) : ℕ → State → World → State → World → Type 0 where
  there : {s : State} {w : World} → Leads p 0 s w s w
  one_more : {n : ℕ} {s t u : State} {w v : World} → turn p s w ≡ next t → Leads p n t (run (step p s) w).world u v → Leads p (suc n) s w u v

-- each of these instructions has a row
abbrev pub HaveRows : Program → List Placed → Entries → World → Type 0
HaveRows p [] s w = Unit {0}
HaveRows p (x ∷ xs) s w = let r = run (row p x.form s) w in (r.value ≢ stuck_row) × HaveRows p xs (goes_with s r.value) r.world

-- the second world has the statics of the class as the first has them
abbrev pub HasOwn : Program → ℕ → World → World → Type 0
HasOwn p c u w = (f : ℕ) → (field_at p f).class ≡ c → at w (place.Static f) ≡ at u (place.Static f)

-- of the first world no more than statics of the class is other in the second
pub record OwnAlone (p : Program) (c : ℕ) (u w : World) : Type 0 where
  pub objects : w.objects ≡ u.objects
  pub states : w.states ≡ u.states
  pub files : w.files ≡ u.files
  pub props : w.props ≡ u.props
  pub statics : (f : ℕ) → (field_at p f).class ≢ c → at w (place.Static f) ≡ at u (place.Static f)

-- The code of a class's initialiser is still, and is begun in a world in which its class is being initialised and has its opening
-- values, under an entry of the class, and each of its instructions has a row. Then as many steps as it has instructions pop its
-- frame, they change statics of the class alone, and these are then what the initialiser leaves by the definition.
pub record EndsStill (p : Program) (c : ℕ) (b : Body) (s : State) (bs : List Entry) (w : World) : Type 0 where
  pub world : World
  pub leads : Leads p (length b.code) s w (record s { entries = entries_of bs; raised = None }) world
  pub own : HasOwn p c (left_by p c) world
  pub alone : OwnAlone p c w world

abbrev pub StillLaw : Type 0
StillLaw = (p : Program) (c m : ℕ) (b : Body) (s : State) (e : Entry) (es : List Entry) (w : World) → (class_at p c).initialiser ≡ Some m → (method_at p m).body ≡ Some b → is_still p c b.code ≡ true →
    is_trivial p c ≡ false → IsBody b → s.entries ≡ record { top = frame_of b m []; below = e ∷ es } → e.kind ≡ InClass true → s.raised ≡ None →
    at w (place.Init c) ≡ Running → HasOwn p c (begun_world p c) w → HaveRows p b.code s.entries w → EndsStill p c b s (e ∷ es) w
