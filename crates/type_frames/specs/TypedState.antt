-- What a typed state of a test is: the world and the state beside it agree with the frames that the check gives its code
-- (JVMS 4.10.1 and 2.6; initialisation entries and the driver's stage are this project's). All is said of a typed program.
use Rattle.std.specs.Prelude.{◌≡◌, ℕ, List, [], ◌∷◌, ◌++◌, length, map, drop, ◌<◌, ◌≤◌, All, Bool, true, false, nat_eq, Option, Some, None, IfSome, slice_get, flat_map}
use Rattle.std.specs.List.{IsDistinct}
use Rattle.jvm_model.specs.declared.{values.Value.Value, values.Base.Base, values.Kind.Kind, values.InitState.TheVariants.Running, state.EntryKind.EntryKind}
use Rattle.jvm_model.specs.declared.values.Value.TheVariants as value
use Rattle.jvm_model.specs.declared.values.Kind.TheVariants as kind
use Rattle.jvm_model.specs.declared.values.Location.TheVariants as place
use Rattle.jvm_model.specs.declared.state.{EntryKind.TheVariants.Absent, EntryKind.TheVariants.InMethod, EntryKind.TheVariants.InClass, Stage.Stage}
use Rattle.jvm_model.specs.declared.{instr.Instr.Instr, program.Program.Program, program.Body.Body, program.Placed.Placed, program.TestEntry.TestEntry}
use Rattle.jvm_model.specs.declared.state.Stage.TheVariants.{First, Made, Built, SetUp, Called, Last}
use Rattle.jvm_model.specs.declared.instr.Instr.TheVariants as form
use Rattle.jvm_model.specs.{World.World, World.size, World.at, World.object_at, Entries.Entry, Entries.all_entries, Entries.entry_limit, Entries.no_entries}
use Rattle.jvm_model.specs.{View.Exists, Builtin.throwable_class, Initialise.parts_of, Kinds.class_of, Rows.constant_kind}
use Rattle.jvm_model.specs.{Linked.IsField, Linked.IsKind, Linked.first_or, Linked.fits_int, State.State, State.started, State.test_at}
use Rattle.jvm_model.specs.Classes.{class_at, field_at, method_at, is_below, is_static, is_trivial, layout, member}
use Rattle.type_frames.specs.{declared.vtype.VType.VType, declared.vtype.Frame.Frame, Frames.Slots, Descriptors.types_of, Descriptors.kind_name}
use Rattle.type_frames.specs.declared.vtype.VType.TheVariants.{Top, Int, Long, Null, Object, UninitThis, Uninit}
use Rattle.type_frames.specs.{Assign.assignable, Given.given_frames, Environment.Environment, Environment.environment_of, Environment.made_at}
use Rattle.type_frames.specs.{StackEffect.sides, StackEffect.is_that, Typing.before}

-- Values.

-- what an object is an instance of
abbrev pub kind_at : World → ℕ → Kind
kind_at w o = (object_at w o).head.kind

-- a reference is to a constant of the program or to an object that was made
abbrev pub IsInRange : Program → World → Value → Type 0
IsInRange p w (value.Lit n) = n ≤ length p.literals
IsInRange p w (value.Obj o) = o < size w
IsInRange p w v = Unit {0}

-- an object of this kind may stand where the class or array of this name is asked
abbrev pub IsInstance : Program → Kind → List ℕ → Type 0
IsInstance p k a = assignable p (Object (kind_name p k)) (Object a) ≡ true

-- null, or a reference to an instance of the class or array of this name
abbrev pub RefersTo : Program → World → List ℕ → Value → Type 0
RefersTo p w a value.Null = Unit {0}
RefersTo p w a (value.Lit n) = (n ≤ length p.literals) × IsInstance p (constant_kind n) a
RefersTo p w a (value.Obj o) = (o < size w) × IsInstance p (kind_at w o) a
RefersTo p w a v = ⊥

-- whether a kind is a class with this property
abbrev pub is_class_with : (ℕ → Bool) → Kind → Bool
is_class_with f (kind.Class c) = f c
is_class_with f (kind.Array d b) = false

-- The value has the type, in a method with this environment. Of an uninitialised object its class is known: for `this` of
-- an `<init>` it is the current one or below it, else it is the class that the `new` at the type's place names.
abbrev pub HasType : Program → World → Environment → VType → Value → Type 0
HasType p w e Top v = Unit {0}
HasType p w e Int (value.Int n) = Unit {0}
HasType p w e Long (value.Long n) = Unit {0}
HasType p w e Null value.Null = Unit {0}
HasType p w e (Object a) v = RefersTo p w a v
HasType p w e UninitThis (value.Obj o) = (o < size w) × (is_class_with (λ c. is_below p c e.class) (kind_at w o) ≡ true)
HasType p w e (Uninit pc) (value.Obj o) = (o < size w) × (is_class_with (λ c. is_that c (made_at e pc)) (kind_at w o) ≡ true)
HasType p w e _ _ = ⊥

-- locals, slot by slot
abbrev pub HaveTypes : Program → World → Environment → List VType → List Value → Type 0
HaveTypes p w e [] [] = Unit {0}
HaveTypes p w e (t ∷ ts) (v ∷ vs) = HasType p w e t v × HaveTypes p w e ts vs
HaveTypes p w e _ _ = ⊥

-- The operand on top has the type on top, and the rest of the types is as it should be. A long takes two places, of which
-- the upper one is Top (JVMS 2.6.2).
abbrev pub HasOnTop : Program → World → Environment → Value → List VType → (List VType → Type 0) → Type 0
HasOnTop p w e (value.Long n) (Top ∷ t ∷ ts) rest = HasType p w e t (value.Long n) × rest ts
HasOnTop p w e (value.Long n) _ rest = ⊥
HasOnTop p w e v (t ∷ ts) rest = HasType p w e t v × rest ts
HasOnTop p w e v [] rest = ⊥

-- operands, the top one first
abbrev pub HaveStackTypes : Program → World → Environment → List VType → List Value → Type 0
HaveStackTypes p w e ts [] = ts ≡ []
HaveStackTypes p w e ts (v ∷ vs) = HasOnTop p w e v ts (λ us. HaveStackTypes p w e us vs)

-- The world.

abbrev pub IsReferenceOf : Program → World → List VType → Value → Type 0
IsReferenceOf p w (Object a ∷ []) v = RefersTo p w a v
IsReferenceOf p w _ v = ⊥

-- The value is one of the type of a descriptor (JVMS 2.3 and 2.4); of boolean, byte, char and short it is in their range.
abbrev pub IsDeclared : Program → World → List ℕ → Value → Type 0
IsDeclared p w d (value.Int n) = fits_int (first_or 0 d) n ≡ true
IsDeclared p w d (value.Long n) = first_or 0 d ≡ 74
IsDeclared p w d v = IsReferenceOf p w (types_of d) v

-- the descriptor of the elements of an array
abbrev pub element_text : Program → Kind → List ℕ
element_text p k = drop 1 (kind_name p k)

-- Each value has its declared type, and each field and element of an object is there.
pub record TypedWorld (p : Program) (w : World) : Type 0 where
  pub statics : (f : ℕ) → IsField p f → Exists w (place.Static f) × IsDeclared p w (field_at p f).descriptor (at w (place.Static f))
  pub states : (c : ℕ) → c < length p.classes → Exists w (place.Init c)
  pub kinds : (o : ℕ) → o < size w → IsKind p (kind_at w o)
  pub fields : (o c f : ℕ) → o < size w → kind_at w o ≡ kind.Class c → member f (layout p c) ≡ true → Exists w (place.Field o f) × IsDeclared p w (field_at p f).descriptor (at w (place.Field o f))
  pub elements : (o d i : ℕ) (b : Base) → o < size w → kind_at w o ≡ kind.Array d b → i < (object_at w o).head.length → Exists w (place.Elem o i) × IsDeclared p w (element_text p (kind.Array d b)) (at w (place.Elem o i))

-- Method frames.

-- The frame stands at an instruction of its method, x, and its locals have, slot by slot, the types of the frame before it.
pub record Stands (p : Program) (w : World) (f : Entry) : Type 0 where
  pub body : Body
  pub given : List Frame
  pub index : ℕ
  pub instruction : Placed
  pub types : Slots
  -- the types of the operands are within the method's limit (JVMS 4.7.3)
  pub fits : length types.stack ≤ body.max_stack
  pub has_code : (method_at p f.number).body ≡ Some body
  pub has_frames : given_frames p (method_at p f.number) ≡ Some given
  pub there : slice_get body.code index ≡ Some instruction
  pub place : instruction.pc ≡ f.pc
  pub known : before p (environment_of p (method_at p f.number) body given) index f.pc ≡ Some types
  pub locals : HaveTypes p w (environment_of p (method_at p f.number) body given) types.locals f.locals

abbrev pub environment_at : {p : Program} {w : World} {f : Entry} → Stands p w f → Environment
environment_at {p} {w} {f} s = environment_of p (method_at p f.number) s.body s.given

-- so many places of the types were taken off, and the operands have the rest of them
abbrev pub HasOperands : {p : Program} {w : World} {f : Entry} → Stands p w f → ℕ → Type 0
HasOperands {p} {w} {f} s taken = HaveStackTypes p w (environment_at s) (drop taken s.types.stack) f.stack

-- the frame goes on at its instruction: its operands have the types of the frame before it
pub record Goes (p : Program) (w : World) (f : Entry) : Type 0 where
  pub stands : Stands p w f
  pub operands : HasOperands stands 0

-- the method that a call names
abbrev pub called_by : Instr → Option ℕ
called_by (form.InvokeVirtual k m) = Some m
called_by (form.InvokeSpecial k m) = Some m
called_by (form.InvokeStatic m) = Some m
called_by (form.InvokeInterface c m) = Some m
called_by _ = None

-- how many places of the stack the instruction of a frame takes
abbrev pub places_taken : {p : Program} {w : World} {f : Entry} → Stands p w f → ℕ
places_taken {p} {w} {f} s = length (sides p (environment_at s) f.pc s.types s.instruction.form).takes

-- The frame waits at a call of the method m, and method n runs for it: n has the name and descriptor of m, and the
-- frame's operands have the types of the frame before the call but for the arguments that it took.
pub record Waits (p : Program) (w : World) (n : ℕ) (f : Entry) : Type 0 where
  pub stands : Stands p w f
  pub named : ℕ
  pub call : called_by stands.instruction.form ≡ Some named
  pub same_name : (method_at p n).name ≡ (method_at p named).name
  pub same_descriptor : (method_at p n).descriptor ≡ (method_at p named).descriptor
  pub operands : HasOperands stands (places_taken stands)

-- Initialisation entries.

-- the entry is of a class that isn't trivial and is Running
pub record Initialises (p : Program) (w : World) (f : Entry) : Type 0 where
  pub not_trivial : is_trivial p f.number ≡ false
  pub running : at w (place.Init f.number) ≡ Running

-- The entry that stands directly above the initialisation entry f is one that f's own step pushed, for its superclass or a
-- default interface, or its `<clinit>`.
abbrev pub IsPushedBy : Program → Entry → EntryKind → Entry → EntryKind → Type 0
IsPushedBy p f (InClass false) above (InClass b) = member above.number (map (λ x. x.class) (parts_of p f.number)) ≡ true
IsPushedBy p f (InClass true) above InMethod = (class_at p f.number).initialiser ≡ Some above.number
IsPushedBy p f _ above _ = ⊥

-- The list of entries.

-- The top entry. A frame in which something is raised keeps its locals; its operands are given up.
abbrev pub IsTop : Program → World → Option Value → EntryKind → Entry → Type 0
IsTop p w raised Absent f = Unit {0}
IsTop p w None InMethod f = Goes p w f
IsTop p w (Some v) InMethod f = Stands p w f
IsTop p w raised (InClass b) f = Initialises p w f

-- An entry and the one directly above it. A frame waits at its call, or for a class that its instruction uses: this one is
-- tried again, so its operands are whole.
abbrev pub IsBelow : Program → World → Entry → EntryKind → Entry → EntryKind → Type 0
IsBelow p w f InMethod above InMethod = Waits p w above.number f
IsBelow p w f InMethod above (InClass b) = Goes p w f
IsBelow p w f (InClass b) above k = Initialises p w f × IsPushedBy p f (InClass b) above k
IsBelow p w f _ above _ = ⊥

abbrev pub AllBelow : Program → World → Entry → List Entry → Type 0
AllBelow p w above [] = Unit {0}
AllBelow p w above (f ∷ fs) = IsBelow p w f f.kind above above.kind × AllBelow p w f fs

-- the class of an initialisation entry
abbrev pub class_begun : Entry → List ℕ
class_begun f = elim f.kind [ Absent ↦ [] | InMethod ↦ [] | InClass b ↦ f.number ∷ [] ]

-- The rest of the state.

abbrev pub IsThrowable : Program → World → Value → Type 0
IsThrowable p w (value.Obj o) = (o < size w) × (is_below p (class_of (kind_at w o)) throwable_class ≡ true)
IsThrowable p w v = ⊥

-- an object of the class c itself
abbrev pub IsOfClass : World → ℕ → ℕ → Type 0
IsOfClass w c o = (o < size w) × (kind_at w o ≡ kind.Class c)

-- The stage's object is one of the test's class, which a test of a static method doesn't have; and what came out of what
-- was called is a throwable.
abbrev pub HasObject : Program → World → TestEntry → ℕ → Type 0
HasObject p w t o = IsOfClass w t.class o × (is_static (method_at p t.method).flags ≡ false)

abbrev pub HasStage : Program → World → TestEntry → Stage → Type 0
HasStage p w t First = Unit {0}
HasStage p w t (Made o) = HasObject p w t o
HasStage p w t (Built o) = HasObject p w t o
HasStage p w t (SetUp o) = HasObject p w t o
HasStage p w t (Called o v) = HasObject p w t o × IfSome v (IsThrowable p w)
HasStage p w t (Last v) = IfSome v (IsThrowable p w)

-- the values of an entry
abbrev pub values_of : Entry → List Value
values_of f = f.stack ++ f.locals

-- A typed state of a test in a world.
pub record TypedState (p : Program) (w : World) (s : State) : Type 0 where
  -- the test is one of the program's
  pub test : (0 < s.test) × (s.test ≤ length p.tests)
  -- each value in the world has its declared type
  pub world : TypedWorld p w
  -- each reference in the entries is in range
  pub references : All (IsInRange p w) (flat_map values_of (all_entries s.entries))
  -- there are at most 1,024 entries
  pub few : length (all_entries s.entries) ≤ entry_limit
  -- where no entry is at the top, there is none at all
  pub alone : s.entries.top.kind ≡ Absent → s.entries ≡ no_entries
  -- the top entry, and each other one with the entry directly above it
  pub top : IsTop p w s.raised s.entries.top.kind s.entries.top
  pub below : AllBelow p w s.entries.top s.entries.below
  -- no two initialisation entries are of one class
  pub one_each : IsDistinct nat_eq (flat_map class_begun (all_entries s.entries))
  -- what is raised is a Throwable
  pub raised : IfSome s.raised (IsThrowable p w)
  -- the driver's stage has the test's object
  pub stage : HasStage p w (test_at p s.test) s.stage

-- the start state of each test is typed, in each typed world
abbrev pub StartedLaw : Type 0
StartedLaw = (p : Program) (w : World) (n : ℕ) → TypedWorld p w → 0 < n → n ≤ length p.tests → TypedState p w (started p n)
