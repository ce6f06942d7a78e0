-- The frame before an instruction, what it is for a program to be typed, and its first fault.
use Rattle.std.specs.Prelude.{ℕ, zero, suc, List, [], ◌∷◌, drop, map, Bool, true, not, ◌&&◌, ◌||◌, cond, nat_lt, Option, Some, None, slice_get, is_some, ◌≡◌, unwrap_or}
use Rattle.std.specs.Str.{bytes_eq}
use Rattle.jvm_model.specs.declared.program.{Program.Program, ClassRec.ClassRec, FieldRec.FieldRec, MethodRec.MethodRec, Body.Body, Placed.Placed}
use Rattle.jvm_model.specs.Classes.{field_at, method_at, is_private, is_interface, has_flag, clinit_name}
use Rattle.jvm_model.specs.{Builtin.builtin_count, Linked.Linked}
use Rattle.type_frames.specs.declared.{vtype.Frame.Frame, stack_effect.StackEffect.StackEffect, fault.CheckFault.CheckFault}
use Rattle.type_frames.specs.declared.fault.CheckFault.TheVariants.{Rule, NoFrame, Unsupported}
use Rattle.type_frames.specs.{Frames.Slots, Frames.slots_of, Descriptors.has_float, Descriptors.is_float, Given.given_frames, StackEffect.sides}
use Rattle.type_frames.specs.Environment.{Environment, environment_of, given_at, is_target}
use Rattle.type_frames.specs.Rules.{after, opening, broken}

-- what goes on to the next instruction: the frame after, unless control never does
abbrev pub passed : Slots → StackEffect → Option Slots
passed f s = cond s.falls (Some (after f s)) None

abbrev pub passed_on : Program → Environment → Option Slots → Option Placed → Option Slots
passed_on p e None x = None
passed_on p e (Some f) None = None
passed_on p e (Some f) (Some x) = passed f (sides p e x.pc f x.form)

-- the frame given at a place; else, where nothing leads there, the one that comes in from above
abbrev pub taken_at : Environment → ℕ → Option Slots → Option Slots
taken_at e pc f = elim (given_at e pc) [ Some g ↦ Some (slots_of g) | None ↦ cond (is_target e pc) None f ]

abbrev pub taken_by : Environment → Option Placed → Option Slots → Option Slots
taken_by e None f = None
taken_by e (Some x) f = taken_at e x.pc f

-- the frame after the instruction before the k-th one, none after an unconditional transfer; at the first the descriptor's
unfoldable pub incoming : Program → Environment → ℕ → Option Slots
incoming p e zero = Some (opening e)
incoming p e (suc k) = passed_on p e (taken_by e (slice_get e.body.code k) (incoming p e k)) (slice_get e.body.code k)

-- the frame before the k-th instruction
abbrev pub before : Program → Environment → ℕ → ℕ → Option Slots
before p e k pc = taken_at e pc (incoming p e k)

-- What is wrong with an instruction.
pub data Breach : Type 0 where
  -- there is no frame where one is needed
  no_frame : Breach
  -- this rule is broken, and none of a lower number
  rule : ℕ → Breach

abbrev pub breach_of : Option ℕ → Option Breach
breach_of None = None
breach_of (Some r) = Some (rule r)

abbrev pub judged : Program → Environment → ℕ → Placed → Option Slots → Option Breach
judged p e k x None = Some no_frame
judged p e k x (Some f) = breach_of (broken p e k x f (sides p e x.pc f x.form))

-- what is wrong with the k-th instruction x of a method
unfoldable pub breach_at : Program → Environment → ℕ → Placed → Option Breach
breach_at p e k x = judged p e k x (before p e k x.pc)

-- Members that this project doesn't serve.

-- native methods, 0x0100
abbrev pub is_native : ℕ → Bool
is_native flags = has_flag 0x0100 flags

-- an interface method with code, other than `<clinit>`, that is private or of a class file of version 50 or 51
abbrev pub is_unserved : ClassRec → MethodRec → Bool
is_unserved c m = is_some m.body && (is_interface c.flags && (not (bytes_eq m.name clinit_name) && (is_private m.flags || nat_lt c.version 52)))

abbrev pub unsupported_field : ClassRec → FieldRec → Option CheckFault
unsupported_field c x = cond (is_float x.descriptor) (Some (Unsupported c.name x.name)) None

abbrev pub unsupported_method : ClassRec → MethodRec → Option CheckFault
unsupported_method c m = cond (has_float m.descriptor || (is_native m.flags || is_unserved c m)) (Some (Unsupported c.name m.name)) None

-- The first fault.

abbrev pub or_later : Option CheckFault → Option CheckFault → Option CheckFault
or_later (Some x) y = Some x
or_later None y = y

abbrev pub fields_fault : Program → ClassRec → List ℕ → Option CheckFault
fields_fault p c [] = None
fields_fault p c (n ∷ ns) = or_later (unsupported_field c (field_at p n)) (fields_fault p c ns)

abbrev pub members_fault : Program → ClassRec → List ℕ → Option CheckFault
members_fault p c [] = None
members_fault p c (n ∷ ns) = or_later (unsupported_method c (method_at p n)) (members_fault p c ns)

-- a breach as a fault of the j-th method of a class
abbrev pub fault_of : List ℕ → ℕ → ℕ → Option Breach → Option CheckFault
fault_of name j pc None = None
fault_of name j pc (Some no_frame) = Some (NoFrame name j pc)
fault_of name j pc (Some (rule r)) = Some (Rule name j pc r)

-- from the k-th instruction on
abbrev pub code_fault : Program → List ℕ → ℕ → Environment → ℕ → List Placed → Option CheckFault
code_fault p name j e k [] = None
code_fault p name j e k (x ∷ xs) = or_later (fault_of name j x.pc (breach_at p e k x)) (code_fault p name j e (suc k) xs)

-- rule 8 is named before all else of a method, at place 0
abbrev pub body_fault : Program → List ℕ → ℕ → MethodRec → Body → Option (List Frame) → Option CheckFault
body_fault p name j m b None = Some (Rule name j 0 8)
body_fault p name j m b (Some gs) = code_fault p name j (environment_of p m b gs) 0 b.code

unfoldable pub method_fault : Program → List ℕ → ℕ → MethodRec → Option CheckFault
method_fault p name j m = elim m.body [ None ↦ None | Some b ↦ body_fault p name j m b (given_frames p m) ]

abbrev pub methods_fault : Program → List ℕ → ℕ → List ℕ → Option CheckFault
methods_fault p name j [] = None
methods_fault p name j (n ∷ ns) = or_later (method_fault p name j (method_at p n)) (methods_fault p name (suc j) ns)

unfoldable pub class_fault : Program → ClassRec → Option CheckFault
class_fault p c = or_later (fields_fault p c c.fields) (or_later (members_fault p c c.methods) (methods_fault p c.name 1 c.methods))

abbrev pub classes_fault : Program → List ClassRec → Option CheckFault
classes_fault p [] = None
classes_fault p (c ∷ cs) = or_later (class_fault p c) (classes_fault p cs)

-- the classes of the suite's files, which come after the built-in ones
abbrev pub given_classes : Program → List ClassRec
given_classes p = drop builtin_count p.classes

-- the first fault of a program: by class in order, members first, then by method and place
unfoldable pub check_fault : Program → Option CheckFault
check_fault p = classes_fault p (given_classes p)

-- a method whose stack map isn't malformed, and at each of whose instructions there is a frame and no rule is broken
pub record IsTypedMethod (p : Program) (m : MethodRec) : Type 0 where
  pub frames : (b : Body) → m.body ≡ Some b → is_some (given_frames p m) ≡ true
  pub each : (b : Body) (gs : List Frame) (k : ℕ) (x : Placed) → m.body ≡ Some b → given_frames p m ≡ Some gs → slice_get b.code k ≡ Some x → breach_at p (environment_of p m b gs) k x ≡ None

-- A typed program: it is linked, and each given class has only members that are served, and only typed methods.
pub record IsTyped (p : Program) : Type 0 where
  pub linked : Linked p
  pub fields : (i k n : ℕ) (c : ClassRec) → slice_get (given_classes p) i ≡ Some c → slice_get c.fields k ≡ Some n → unsupported_field c (field_at p n) ≡ None
  pub members : (i k n : ℕ) (c : ClassRec) → slice_get (given_classes p) i ≡ Some c → slice_get c.methods k ≡ Some n → unsupported_method c (method_at p n) ≡ None
  pub methods : (i k n : ℕ) (c : ClassRec) → slice_get (given_classes p) i ≡ Some c → slice_get c.methods k ≡ Some n → IsTypedMethod p (method_at p n)

-- the given frames of all methods in order; none of one whose stack map is malformed
abbrev pub frames_or_none : Program → MethodRec → List Frame
frames_or_none p m = unwrap_or (given_frames p m) []

unfoldable pub all_frames : Program → List (List Frame)
all_frames p = map (frames_or_none p) p.methods
