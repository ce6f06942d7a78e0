-- The rules of the check, each by itself, and the lowest one that is broken (JVMS 4.10.1).
use Rattle.std.specs.Prelude.{ℕ, zero, suc, List, [], ◌∷◌, ◌++◌, length, map, drop, Bool, true, false, not, ◌&&◌, ◌||◌, cond, nat_eq, nat_lt, nat_le, ◌+◌, ◌-◌, Option, Some, None, slice_get, slice_set, slice_index_or, is_some}
use Rattle.std.specs.List.{list_all}
use Rattle.jvm_model.specs.{declared.program.Program.Program, declared.program.Placed.Placed, declared.program.Handler.Handler, Builtin.throwable_class}
use Rattle.type_frames.specs.declared.{vtype.VType.VType, vtype.Frame.Frame, stack_effect.OperandConstraint.OperandConstraint, stack_effect.Reading.Reading}
use Rattle.type_frames.specs.declared.vtype.VType.TheVariants.{Top, Int, Long, Null, Object, UninitThis, Uninit}
use Rattle.type_frames.specs.declared.stack_effect.{LocalUpdate.LocalUpdate, Substitution.Substitution}
use Rattle.type_frames.specs.declared.stack_effect.OperandConstraint.TheVariants.{Fits, One, Half, Ref, Raw, Small, Array, Never}
use Rattle.type_frames.specs.declared.stack_effect.{Substitution.TheVariants.Keep, Substitution.TheVariants.All, StackEffect.StackEffect}
use Rattle.type_frames.specs.{Frames.Slots, Frames.same, Frames.slots_of, Frames.padded, Assign.assignable, Assign.is_array}
use Rattle.type_frames.specs.{StackEffect.is_raw, StackEffect.object_of, Environment.Environment, Environment.given_at, Environment.made_at, Environment.leads}

-- a reference, also one to an uninitialised object
abbrev pub is_ref : VType → Bool
is_ref Null = true
is_ref (Object a) = true
is_ref t = is_raw t

abbrev pub is_one : VType → Bool
is_one Int = true
is_one t = is_ref t

-- null, or an array of bytes or booleans, [B or [Z
abbrev pub is_small : VType → Bool
is_small Null = true
is_small (Object (u ∷ w ∷ [])) = nat_eq u 91 && (nat_eq w 66 || nat_eq w 90)
is_small _ = false

abbrev pub is_any_array : VType → Bool
is_any_array Null = true
is_any_array (Object a) = is_array a
is_any_array _ = false

abbrev pub meets : Program → OperandConstraint → VType → Bool
meets p (Fits u) t = assignable p t u
meets p One t = is_one t
meets p Half t = same t Top
meets p Ref t = is_ref t
meets p Raw t = is_raw t
meets p Small t = is_small t
meets p Array t = is_any_array t
meets p Never t = false

-- the needs as far as there are places
abbrev pub meet_all : Program → List OperandConstraint → List VType → Bool
meet_all p [] ts = true
meet_all p (n ∷ ns) [] = true
meet_all p (n ∷ ns) (t ∷ ts) = meets p n t && meet_all p ns ts

abbrev pub is_read : Program → ℕ → List VType → Reading → Bool
is_read p most ts r = nat_lt r.local most && meets p r.need (slice_index_or ts r.local Top)

abbrev pub all_read : Program → ℕ → List VType → List Reading → Bool
all_read p most ts [] = true
all_read p most ts (r ∷ rs) = is_read p most ts r && all_read p most ts rs

abbrev pub can_set : ℕ → List LocalUpdate → Bool
can_set most [] = true
can_set most (s ∷ ss) = nat_lt s.local most && can_set most ss

-- The frame after an instruction.

abbrev pub turned_one : VType → VType → VType → VType
turned_one a b t = cond (same t a) b t

abbrev pub turned : Substitution → List VType → List VType
turned Keep ts = ts
turned (All a b) ts = map (turned_one a b) ts

-- once this was initialised
abbrev pub flag_after : Substitution → Bool → Bool
flag_after Keep b = b
flag_after (All a t) b = not (same a UninitThis) && b

-- a long whose second place is overwritten is none any more
abbrev pub cut_long : List VType → ℕ → List VType
cut_long ts zero = ts
cut_long ts (suc n) = cond (same (slice_index_or ts n Top) Long) (slice_set ts n Top) ts

abbrev pub set_one : List VType → LocalUpdate → List VType
set_one ts s = slice_set (cut_long ts s.local) s.local s.to

abbrev pub set_all : List VType → List LocalUpdate → List VType
set_all ts [] = ts
set_all ts (s ∷ ss) = set_all (set_one ts s) ss

abbrev pub after : Slots → StackEffect → Slots
after f s = record { locals = set_all (turned s.turn f.locals) s.sets; stack = s.gives ++ turned s.turn (drop (length s.takes) f.stack); flag = flag_after s.turn f.flag }

-- Frames that are assignable to given ones.

abbrev pub fit_all : Program → List VType → List VType → Bool
fit_all p [] [] = true
fit_all p (t ∷ ts) (u ∷ us) = assignable p t u && fit_all p ts us
fit_all p _ _ = false

-- an uninitialised type is of a place that has a `new`
abbrev pub is_made : Environment → VType → Bool
is_made e (Uninit pc) = is_some (made_at e pc)
is_made e _ = true

abbrev pub all_made : Environment → List VType → Bool
all_made e ts = list_all (λ t. is_made e t) ts

-- a given frame that something may be assignable to (this project's)
abbrev pub is_sound : Environment → Frame → Bool
is_sound e g = nat_le (length g.locals) e.body.max_locals && (nat_le (length g.stack) e.body.max_stack && (all_made e g.locals && all_made e g.stack))

abbrev pub slots_fit : Program → Slots → Slots → Bool
slots_fit p f g = fit_all p f.locals g.locals && (fit_all p f.stack g.stack && (not f.flag || g.flag))

-- to the frame given at a place, if there is one; where one lacks, that is named at that place
abbrev pub fits_given : Program → Environment → Slots → Option Frame → Bool
fits_given p e f None = true
fits_given p e f (Some g) = is_sound e g && slots_fit p f (slots_of g)

abbrev pub fits_at : Program → Environment → Slots → ℕ → Bool
fits_at p e f pc = fits_given p e f (given_at e pc)

abbrev pub fits_targets : Program → Environment → Slots → List ℕ → Bool
fits_targets p e f ks = list_all (λ k. fits_at p e f k) ks

-- the frame of the descriptor
abbrev pub opening : Environment → Slots
opening e = record { locals = padded e.body.max_locals e.args; stack = []; flag = e.starts }

-- at the first instruction: what is given there takes the descriptor's frame
abbrev pub is_entered : Program → Environment → ℕ → ℕ → Bool
is_entered p e zero pc = fits_at p e (opening e) pc
is_entered p e (suc k) pc = true

-- what is given at the next instruction takes the frame
abbrev pub fits_next : Program → Environment → Slots → Option Placed → Bool
fits_next p e f None = true
fits_next p e f (Some x) = fits_at p e f x.pc

-- Handlers.

abbrev pub covers : Handler → ℕ → Bool
covers h pc = nat_le h.from pc && nat_lt pc h.to

abbrev pub caught : Handler → ℕ
caught h = elim h.catches [ None ↦ throwable_class | Some c ↦ c ]

-- the locals before an instruction, with what is caught alone on the stack
abbrev pub thrown : Program → Slots → Handler → Slots
thrown p f h = record f { stack = object_of p (caught h) ∷ [] }

-- the locals before the instruction and what is caught are taken, and no `<init>` has still to call another one
abbrev pub handles : Program → Environment → ℕ → Slots → Handler → Bool
handles p e pc f h = not (covers h pc) || (nat_lt 0 e.body.max_stack && (not (e.starts && f.flag) && fits_at p e (thrown p f h) h.at))

abbrev pub all_handle : Program → Environment → ℕ → Slots → List Handler → Bool
all_handle p e pc f hs = list_all (λ h. handles p e pc f h) hs

-- The rules: whether each is kept by instruction k, with this frame before it and these sides. Rule 8, that the stack map
-- isn't malformed, comes before all else of a method.

-- the stack has enough places, and doesn't grow past its end
abbrev pub rule_1 : Environment → Slots → StackEffect → Bool
rule_1 e f s = nat_le (length s.takes) (length f.stack) && nat_le (length s.gives + (length f.stack - length s.takes)) e.body.max_stack

-- the operands are of the types needed
abbrev pub rule_2 : Program → Slots → StackEffect → Bool
rule_2 p f s = meet_all p s.takes f.stack

-- the locals are there, and of the types needed
abbrev pub rule_3 : Program → Environment → Slots → StackEffect → Bool
rule_3 p e f s = all_read p e.body.max_locals f.locals s.reads && can_set e.body.max_locals s.sets

-- what stands afterwards is assignable to what is given where control goes
abbrev pub rule_4 : Program → Environment → ℕ → Placed → Slots → StackEffect → Bool
rule_4 p e k x f s = is_entered p e k x.pc && (fits_targets p e (after f s) (leads x.form) && (not s.falls || fits_next p e (after f s) (slice_get e.body.code (k + 1))))

-- control doesn't pass the end of the code
abbrev pub rule_5 : Environment → ℕ → StackEffect → Bool
rule_5 e k s = not s.falls || nat_lt (k + 1) (length e.body.code)

-- a return fits the descriptor, and an `<init>` called another one before
abbrev pub rule_6 : StackEffect → Bool
rule_6 s = s.returns_well

-- an uninitialised object is used by its own `<init>` alone
abbrev pub rule_7 : StackEffect → Bool
rule_7 s = s.starts_well

-- handlers take what may be thrown
abbrev pub rule_9 : Program → Environment → Placed → Slots → Bool
rule_9 p e x f = all_handle p e x.pc f e.body.handlers

-- the arguments are within the locals
abbrev pub rule_10 : Environment → ℕ → Bool
rule_10 e zero = nat_le (length e.args) e.body.max_locals
rule_10 e (suc k) = true

-- `<clinit>` isn't called, and `<init>` by invokespecial alone
abbrev pub rule_11 : StackEffect → Bool
rule_11 s = s.calls_well

pub record Test : Type 0 where
  pub rule : ℕ
  pub kept : Bool

abbrev pub test : ℕ → Bool → Test
test n b = record { rule = n; kept = b }

-- the number of the first test that isn't kept
abbrev pub first_broken : List Test → Option ℕ
first_broken [] = None
first_broken (t ∷ ts) = elim t.kept [ true ↦ first_broken ts | false ↦ Some t.rule ]

abbrev pub tests : Program → Environment → ℕ → Placed → Slots → StackEffect → List Test
tests p e k x f s = test 1 (rule_1 e f s) ∷ test 2 (rule_2 p f s) ∷ test 3 (rule_3 p e f s) ∷ test 4 (rule_4 p e k x f s) ∷ test 5 (rule_5 e k s) ∷ test 6 (rule_6 s) ∷ test 7 (rule_7 s) ∷ test 9 (rule_9 p e x f) ∷ test 10 (rule_10 e k) ∷ test 11 (rule_11 s) ∷ []

-- the lowest rule that instruction k breaks
unfoldable pub broken : Program → Environment → ℕ → Placed → Slots → StackEffect → Option ℕ
broken p e k x f s = first_broken (tests p e k x f s)
