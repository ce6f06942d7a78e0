-- What the parts of the walk over a method answer.
use Rattle.std.specs.Prelude.{ℕ, List, [], ◌∷◌, ◌++◌, Option, Some, None, map, ◌≡◌}
use Rattle.jvm_model.specs.declared.program.{Program.Program, Placed.Placed}
use Rattle.type_frames.specs.declared.{stack_effect.StackEffect.StackEffect, vtype.Frame.Frame}
use Rattle.type_frames.specs.declared.stack_effect.{OperandConstraint.OperandConstraint, OperandConstraint.TheVariants.One}
use Rattle.type_frames.specs.StackEffect.{place_of, two}
use Rattle.type_checker.specs.declared.moves.{Taken.Taken, Taken.TheVariants.Single, Taken.TheVariants.Pair}
use Rattle.type_frames.specs.{Given.given_frames, Frames.Slots, Environment.Environment, Rules.broken}
use Rattle.type_frames.specs.Typing.{Breach, no_frame, rule, passed, passed_on, judged, fault_of}
use Rattle.type_checker.specs.declared.{judge.Turned.Turned, judge.Step.Step, judge.Step.TheVariants.Faulty, judge.Step.TheVariants.Onward, rule.Rule.Rule}
use Rattle.type_checker.specs.declared.judge.Turned.TheVariants as way
use Rattle.type_checker.specs.declared.rule.Rule.TheVariants as rules

-- what the stack map of each method gives, in order
abbrev pub stack_maps : Program → List (Option (List Frame))
stack_maps p = map (given_frames p) p.methods

-- the number by which a fault names a rule
abbrev pub number_of : Rule → ℕ
number_of rules.StackRoom = 1
number_of rules.Operands = 2
number_of rules.Locals = 3
number_of rules.Targets = 4
number_of rules.End = 5
number_of rules.Return = 6
number_of rules.Initialised = 7
number_of rules.StackMap = 8
number_of rules.Handlers = 9
number_of rules.Arguments = 10
number_of rules.Calls = 11

-- with these sides: the lowest broken rule, or the frame that goes on
abbrev pub IsJudged : Program → Environment → ℕ → Placed → Slots → StackEffect → Turned → Type 0
IsJudged p e k x f s (way.Broken None) = ⊥
IsJudged p e k x f s (way.Broken (Some r)) = broken p e k x f s ≡ Some (number_of r)
IsJudged p e k x f s (way.On g) = (broken p e k x f s ≡ None) × (g ≡ passed f s)

-- no frame, or a broken rule
abbrev pub breach : Option Rule → Breach
breach None = no_frame
breach (Some r) = rule (number_of r)

-- with the frame before the instruction, if there is one
abbrev pub IsTurned : Program → Environment → ℕ → Placed → Option Slots → Turned → Type 0
IsTurned p e k x f (way.Broken b) = judged p e k x f ≡ Some (breach b)
IsTurned p e k x f (way.On g) = (judged p e k x f ≡ None) × (g ≡ passed_on p e f (Some x))

abbrev pub IsStep : Program → Environment → List ℕ → ℕ → ℕ → Placed → Option Slots → Step → Type 0
IsStep p e name j k x f (Faulty c) = fault_of name j x.pc (judged p e k x f) ≡ Some c
IsStep p e name j k x f (Onward g) = (fault_of name j x.pc (judged p e k x f) ≡ None) × (g ≡ passed_on p e f (Some x))

-- these needs, and those of places that a move of the stack takes
abbrev pub with_taken : Slots → List OperandConstraint → List Taken → List OperandConstraint
with_taken f needs [] = needs
with_taken f needs (Single ∷ ts) = with_taken f (needs ++ One ∷ []) ts
with_taken f needs (Pair n ∷ ts) = with_taken f (needs ++ two (place_of f n)) ts
