-- What the rules look at of a method (the environment of JVMS 4.10.1.1).
use Rattle.std.specs.Prelude.{ℕ, List, [], ◌∷◌, ◌++◌, map, Bool, Option, Some, None, flat_map, is_some, slice_get}
use Rattle.jvm_model.specs.declared.{program.Program.Program, program.MethodRec.MethodRec, program.Body.Body, program.Placed.Placed, instr.Instr.Instr}
use Rattle.jvm_model.specs.declared.instr.Instr.TheVariants as form
use Rattle.type_frames.specs.{declared.vtype.VType.VType, declared.vtype.Frame.Frame, Frames.spread, Frames.index_of, Descriptors.types_of}
use Rattle.type_frames.specs.Given.{is_constructor, entry_types, places}
use Rattle.jvm_model.specs.Descriptors.{return_type}

-- class: the current class; starts: the method is an instance `<init>`; args: the places of `this` and of the parameters;
-- result: the type that is returned, none for void; given: the frames of the stack map
pub record Environment : Type 0 where
  pub class : ℕ
  pub starts : Bool
  pub args : List VType
  pub result : List VType
  pub body : Body
  pub given : List Frame

abbrev pub environment_of : Program → MethodRec → Body → List Frame → Environment
environment_of p m b gs = record { class = m.class; starts = is_constructor m; args = spread (entry_types p m); result = types_of (return_type m.descriptor); body = b; given = gs }

-- the element at an index, if there is one
abbrev pub found_at : {A : Type 0} → List A → Option ℕ → Option A
found_at xs None = None
found_at xs (Some i) = slice_get xs i

-- the frame that is given at a place
unfoldable pub given_at : Environment → ℕ → Option Frame
given_at e pc = found_at e.given (index_of pc (map (λ g. g.pc) e.given))

-- the class that a `new` names
abbrev pub class_made : Option Placed → Option ℕ
class_made None = None
class_made (Some x) = elim x.form [ form.New c ↦ Some c | _ ↦ None ]

-- the class that the `new` at a place names, if there is one
unfoldable pub made_at : Environment → ℕ → Option ℕ
made_at e pc = class_made (found_at e.body.code (index_of pc (places e.body.code)))

-- the places that an instruction may go to besides the next one
abbrev pub leads : Instr → List ℕ
leads (form.IfZero test to) = to ∷ []
leads (form.IfInts test to) = to ∷ []
leads (form.IfRefs equal to) = to ∷ []
leads (form.IfNull null to) = to ∷ []
leads (form.Goto to) = to ∷ []
leads (form.Table low targets other) = other ∷ targets
leads (form.Lookup pairs other) = other ∷ map (λ x. x.1) pairs
leads _ = []

-- the places that a branch or a handler leads to
abbrev pub targets : Body → List ℕ
targets b = flat_map (λ x. leads x.form) b.code ++ map (λ h. h.at) b.handlers

unfoldable pub is_target : Environment → ℕ → Bool
is_target e pc = is_some (index_of pc (targets e.body))
