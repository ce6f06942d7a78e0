-- The first fault as it is answered: with offsets from the file's begin.
use Rattle.std.specs.Prelude.{◌≡◌, ℕ, ◌-◌, List, length, Result, Ok, Err}
use Rattle.class_pool.specs.declared.fault.Fault.{Fault}
use Rattle.class_pool.specs.declared.fault.Fault.TheVariants as inner
use Rattle.class_reader.specs.{declared.fault.ClassFault.ClassFault, declared.parts.ClassParts.ClassParts, Class.class_at}
use Rattle.class_reader.specs.declared.fault.ClassFault.TheVariants.{BadMagic, BadVersion, Truncated, BadTag, BadIndex, BadUtf, BadLength, BadDescriptor, Repeated, CodeKind, CutCode, Unsupported, BadOperand, BadTarget, Trailing, NoMemory}

-- a place by its offset in a file of total bytes
abbrev pub shown : ℕ → Fault → ClassFault
shown total inner.BadMagic = BadMagic
shown total (inner.BadVersion major) = BadVersion major
shown total (inner.Truncated left) = Truncated (total - left)
shown total (inner.BadTag left tag) = BadTag (total - left) tag
shown total (inner.BadIndex left) = BadIndex (total - left)
shown total (inner.BadUtf left) = BadUtf (total - left)
shown total (inner.BadLength left) = BadLength (total - left)
shown total (inner.BadDescriptor left) = BadDescriptor (total - left)
shown total (inner.Repeated left) = Repeated (total - left)
shown total (inner.CodeKind left) = CodeKind (total - left)
shown total (inner.CutCode method pc) = CutCode method pc
shown total (inner.Unsupported method pc opcode) = Unsupported method pc opcode
shown total (inner.BadOperand method pc) = BadOperand method pc
shown total (inner.BadTarget method pc) = BadTarget method pc
shown total (inner.Trailing left) = Trailing (total - left)

-- a reading with its fault as it is answered
abbrev pub with_offsets : {A : Type 0} → ℕ → Result A Fault → Result A ClassFault
with_offsets total (Ok x) = Ok x
with_offsets total (Err fault) = Err (shown total fault)

-- what the bytes are: the parts that they spell, or the first fault
abbrev pub class_of : List ℕ → Result ClassParts ClassFault
class_of bytes = with_offsets (length bytes) (class_at bytes)

-- The answer is what is given, unless memory ran out.
abbrev pub Answers : {A : Type 0} → Result A ClassFault → Result A ClassFault → Type 0
Answers (Ok x) given = given ≡ Ok x
Answers (Err NoMemory) given = Unit {0}
Answers (Err fault) given = given ≡ Err fault
