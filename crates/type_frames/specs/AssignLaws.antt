-- Laws of what may stand where a type is asked.
use Rattle.std.specs.Prelude.{◌≡◌, ◌⊎◌, ℕ, true}
use Rattle.et_base.specs.Names.{is_class_entry_name}
use Rattle.jvm_model.specs.{declared.program.Program.Program, Builtin.object_class, Linked.Linked, Linked.IsClass, Linked.is_interface_at}
use Rattle.type_frames.specs.declared.vtype.{VType.VType, VType.TheVariants.Null, VType.TheVariants.Object}
use Rattle.type_frames.specs.{Descriptors.name_of, Assign.assignable}

-- an object's type is named as a Class entry names it: by a class name or an array's descriptor (JVMS 4.4.1)
abbrev pub InForm : VType → Type 0
InForm (Object a) = is_class_entry_name a ≡ true
InForm t = Unit {0}

abbrev pub IsReference : VType → Type 0
IsReference Null = Unit {0}
IsReference (Object a) = Unit {0}
IsReference t = ⊥

-- each type in form may stand for itself
abbrev pub ItselfLaw : Type 0
ItselfLaw = (p : Program) (t : VType) → InForm t → assignable p t t ≡ true

-- in a linked program what may stand for a type may stand for all that this type may stand for
abbrev pub TransitiveLaw : Type 0
TransitiveLaw = (p : Program) → Linked p → (a b c : VType) →
    assignable p a b ≡ true → assignable p b c ≡ true → assignable p a c ≡ true

-- Object and each interface of a linked program take null and every object and array
abbrev pub ReferenceLaw : Type 0
ReferenceLaw = (p : Program) → Linked p → (c : ℕ) → IsClass p c →
    (c ≡ object_class) ⊎ (is_interface_at p c ≡ true) →
    (t : VType) → IsReference t → assignable p t (Object (name_of p c)) ≡ true
