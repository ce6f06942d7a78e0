-- What bounds the touches of a step and of a test, which statics they write, and which statics and class states a step meets.
use Rattle.std.specs.Prelude.{◌≡◌, ◌⊎◌, ℕ, zero, suc, pos, ◌*◌, ◌-◌, ◌^◌, ◌<◌, ◌≤◌, List, [], ◌∷◌, length, map, Bool, true, false, cond, Option, Some, None, All}
use Rattle.jvm_model.specs.declared.{values.Value.Value, values.Value.TheVariants.Int, values.Location.Location, values.Touch.Touch, instr.Instr.Instr}
use Rattle.jvm_model.specs.declared.values.Location.TheVariants as place
use Rattle.jvm_model.specs.declared.instr.Instr.TheVariants as form
use Rattle.jvm_model.specs.declared.state.{EntryKind.EntryKind, EntryKind.TheVariants.Absent, EntryKind.TheVariants.InMethod, EntryKind.TheVariants.InClass}
use Rattle.jvm_model.specs.declared.{state.Stage.TheVariants.First, program.Program.Program}
use Rattle.jvm_model.specs.{World.World, World.at, Access.write_of, Access.run, Entries.Entries, Initialise.parts_of, Linked.Linked, RowsCreate.nest_sum}
use Rattle.jvm_model.specs.Classes.{field_at, form_at, is_static, member, method_at}
use Rattle.jvm_model.specs.{State.State, State.test_at, Step.step, Step.cost, Step.touch, Suite.tree, Suite.Given, Suite.one_test}

-- ---- what a multianewarray costs

-- the sizes that it takes off the operands, the outer one first, before those that were taken; none where one is no size
abbrev pub sizes_taken : ℕ → List Value → List ℕ → List ℕ
sizes_taken zero vs ns = ns
sizes_taken (suc d) (Int (pos n) ∷ vs) ns = sizes_taken d vs (n ∷ ns)
sizes_taken (suc d) _ ns = []

abbrev pub sizes_sum : List ℕ → ℕ
sizes_sum [] = 0
sizes_sum (n ∷ ns) = nest_sum n ns

-- what its arrays cost together; 0 for any other instruction
abbrev pub array_sum : Instr → List Value → ℕ
array_sum (form.MultiNewArray k d) vs = sizes_sum (sizes_taken d vs [])
array_sum _ vs = 0

abbrev pub sum_of : Option Instr → List Value → ℕ
sum_of None vs = 0
sum_of (Some i) vs = array_sum i vs

-- the same of the instruction at the top frame's place
abbrev pub sum_here : Program → Entries → ℕ
sum_here p s = sum_of (form_at p s.top.number s.top.pc) s.top.stack

-- an instruction is at the top, and nothing is raised
abbrev pub IsRunning : State → Type 0
IsRunning s = (s.entries.top.kind ≡ InMethod) × (s.raised ≡ None)

-- The step's cost isn't cut: with its own 1, a multianewarray at the top costs at most the greatest 64-bit number.
abbrev pub IsPriced : Program → State → Type 0
IsPriced p s = IsRunning s → sum_here p s.entries ≤ 2 ^ 64 - 2

-- ---- what writes a static

-- the instruction at the top is a putstatic of the field
abbrev pub PutsHere : Program → State → ℕ → Type 0
PutsHere p s f = IsRunning s × (form_at p s.entries.top.number s.entries.top.pc ≡ Some (form.PutStatic f))

-- the code of some method has a putstatic of the field
abbrev pub IsPut : Program → ℕ → Type 0
IsPut p f = (m : ℕ) × (pc : ℕ) × (form_at p m pc ≡ Some (form.PutStatic f))

-- if the touch is a write of a static, it is one of M
abbrev pub WriteOf : (ℕ → Type 0) → Touch → Type 0
WriteOf M t = (f : ℕ) → t ≡ write_of (place.Static f) → M f

-- the statics that are written are of M
abbrev pub Writes : (ℕ → Type 0) → List Touch → Type 0
Writes M ts = All (WriteOf M) ts

-- the static of a field is in the one world what it is in the other
abbrev pub IsSameStatic : World → World → ℕ → Type 0
IsSameStatic v w f = at v (place.Static f) ≡ at w (place.Static f)

-- ---- what meets a static or the state of a class

-- the instruction at the top is a getstatic of the field
abbrev pub GetsHere : Program → State → ℕ → Type 0
GetsHere p s f = IsRunning s × (form_at p s.entries.top.number s.entries.top.pc ≡ Some (form.GetStatic f))

-- the class that an instruction uses, and so starts (JVMS 5.5)
abbrev pub class_used : Program → Instr → Option ℕ
class_used p (form.GetStatic f) = Some (field_at p f).class
class_used p (form.PutStatic f) = Some (field_at p f).class
class_used p (form.New c) = Some c
class_used p (form.InvokeStatic m) = Some (method_at p m).class
class_used p _ = None

abbrev pub used_of : Program → Option Instr → Option ℕ
used_of p None = None
used_of p (Some i) = class_used p i

-- the class that the driver's first step uses: that of a static test method, or that of the test's object
abbrev pub first_class : Program → State → ℕ
first_class p s = let t = test_at p s.test in cond (is_static (method_at p t.method).flags) (method_at p t.method).class t.class

-- a step on an initialisation entry of class d meets the state of c, a part of d before `<clinit>` is entered, and else d itself
abbrev pub MetByEntry : Program → Option Value → Bool → ℕ → ℕ → Type 0
MetByEntry p None false d c = member c (map (λ x. x.class) (parts_of p d)) ≡ true
MetByEntry p None true d c = d ≡ c
MetByEntry p (Some v) b d c = d ≡ c

abbrev pub MetBy : EntryKind → Option Value → Program → State → ℕ → Type 0
MetBy Absent x p s c = (s.stage ≡ First) × (first_class p s ≡ c)
MetBy InMethod None p s c = used_of p (form_at p s.entries.top.number s.entries.top.pc) ≡ Some c
MetBy InMethod (Some v) p s c = ⊥
MetBy (InClass b) x p s c = MetByEntry p x b s.entries.top.number c

-- The step may read or write the state of the class: it is the class that the instruction at the top or the driver uses, or what
-- the initialisation entry at the top is about.
abbrev pub StateHere : Program → State → ℕ → Type 0
StateHere p s c = MetBy s.entries.top.kind s.raised p s c

-- a static is one of N, and a state is that of a class of S
abbrev pub MeetsOf : (ℕ → Type 0) → (ℕ → Type 0) → Location → Type 0
MeetsOf N S (place.Static f) = N f
MeetsOf N S (place.Init c) = S c
MeetsOf N S l = Unit {0}

-- no other statics and states are touched
abbrev pub Meets : (ℕ → Type 0) → (ℕ → Type 0) → List Touch → Type 0
Meets N S ts = All (λ t. MeetsOf N S t.location) ts

-- ---- the laws

-- A step touches at most four locations for each unit of its cost, in any state of a linked program.
abbrev pub PaceLaw : Type 0
PaceLaw = (p : Program) (w : World) (s : State) → Linked p → IsPriced p s → length (touch p s w) ≤ 4 * cost p s w

-- A step writes no static but that of a putstatic at the top, and each other stays as it was.
abbrev pub StaticsLaw : Type 0
StaticsLaw = (p : Program) (w : World) (s : State) → Linked p → Writes (PutsHere p s) (touch p s w) × ((f : ℕ) → (PutsHere p s f → ⊥) → IsSameStatic (run (step p s) w).world w f)

-- A step touches no static but that of a getstatic or putstatic at the top, and no state but of the class that it uses, of parts
-- of the class at the top, and of that class.
abbrev pub TouchesLaw : Type 0
TouchesLaw = (p : Program) (w : World) (s : State) → Linked p → Meets (λ f. GetsHere p s f ⊎ PutsHere p s f) (StateHere p s) (touch p s w)

-- The run of a test, whose units are a 64-bit number, touches at most four locations for each of them.
abbrev pub TestPaceLaw : Type 0
TestPaceLaw = (p : Program) (t b : ℕ) (w : World) → Linked p → (run (tree p t b) w).units < 2 ^ 64 → length (run (tree p t b) w).touches ≤ 4 * (run (tree p t b) w).units

-- And so does what a test gives.
abbrev pub GivenPaceLaw : Type 0
GivenPaceLaw = (p : Program) (t b : ℕ) (w : World) (g : Given) → Linked p → one_test p w t b ≡ Some g → g.outcome.units < 2 ^ 64 → length g.touches ≤ 4 * g.outcome.units

-- A test writes no static but those that some code puts, and each other stays as it was.
abbrev pub TestStaticsLaw : Type 0
TestStaticsLaw = (p : Program) (t b : ℕ) (w : World) → Linked p → Writes (IsPut p) (run (tree p t b) w).touches × ((f : ℕ) → (IsPut p f → ⊥) → IsSameStatic (run (tree p t b) w).world w f)
