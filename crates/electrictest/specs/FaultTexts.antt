-- How faults of the input are written (this project's).
use Rattle.std.specs.Prelude.{ℕ, List, [], ◌∷◌, ◌++◌, codes, decimal}
use Rattle.et_base.specs.Quotes.{name_of}
use Rattle.class_reader.specs.declared.fault.ClassFault.{ClassFault}
use Rattle.class_reader.specs.declared.fault.ClassFault.TheVariants as fault
use Rattle.class_link.specs.declared.fault.LinkFault.{LinkFault}
use Rattle.class_link.specs.declared.fault.LinkFault.TheVariants as link
use Rattle.type_frames.specs.declared.fault.CheckFault.{CheckFault}
use Rattle.type_frames.specs.declared.fault.CheckFault.TheVariants as check
use Rattle.suite_load.specs.declared.suite_text.Why.{Why}
use Rattle.suite_load.specs.declared.suite_text.Why.TheVariants as why

-- what is wrong with a line of a suite text
abbrev pub why_text : Why → List ℕ
why_text why.Header = codes "header"
why_text why.Form = codes "form"
why_text why.Order = codes "order"
why_text why.Name = codes "name"
why_text why.Number = codes "number"
why_text why.Twice = codes "twice"
why_text why.TooMany = codes "too-many"
why_text why.NotATest = codes "not-a-test"

-- two numbers, parted by a space
abbrev pub two : ℕ → ℕ → List ℕ
two a b = decimal a ++ (32 ∷ decimal b)

-- a fault of a class file; offsets and places are those of its field or instruction
unfoldable pub class_text : ClassFault → List ℕ
class_text fault.BadMagic = codes "bad-magic"
class_text (fault.BadVersion major) = codes "bad-version " ++ decimal major
class_text (fault.Truncated at) = codes "truncated " ++ decimal at
class_text (fault.BadTag at tag) = codes "bad-tag " ++ two at tag
class_text (fault.BadIndex at) = codes "bad-index " ++ decimal at
class_text (fault.BadUtf at) = codes "bad-utf " ++ decimal at
class_text (fault.BadLength at) = codes "bad-length " ++ decimal at
class_text (fault.BadDescriptor at) = codes "bad-descriptor " ++ decimal at
class_text (fault.Repeated at) = codes "repeated " ++ decimal at
class_text (fault.CodeKind at) = codes "code-kind " ++ decimal at
class_text (fault.CutCode method pc) = codes "cut-code " ++ two method pc
class_text (fault.Unsupported method pc opcode) = codes "unsupported " ++ (decimal method ++ (32 ∷ two pc opcode))
class_text (fault.BadOperand method pc) = codes "bad-operand " ++ two method pc
class_text (fault.BadTarget method pc) = codes "bad-target " ++ two method pc
class_text (fault.Trailing at) = codes "trailing " ++ decimal at
class_text fault.NoMemory = []

-- a fault of linking: classes with dots, and places in a class's pool; a test that is none is a fault of its line
unfoldable pub link_text : LinkFault → List ℕ
link_text (link.Duplicate class) = codes "duplicate " ++ name_of class
link_text (link.Missing class name) = codes "missing " ++ (name_of class ++ (32 ∷ name_of name))
link_text (link.Cycle class) = codes "cycle " ++ name_of class
link_text (link.NoMember class index) = codes "no-member " ++ (name_of class ++ (32 ∷ decimal index))
link_text (link.WrongKind class index) = codes "wrong-kind " ++ (name_of class ++ (32 ∷ decimal index))
link_text (link.NotATest test) = []
link_text link.NoMemory = []

-- a fault of the check: the class, then the method's number in its file and the place, or a member
unfoldable pub check_text : CheckFault → List ℕ
check_text (check.Rule class method pc rule) = name_of class ++ (32 ∷ (two method pc ++ (codes " rule " ++ decimal rule)))
check_text (check.NoFrame class method pc) = name_of class ++ (32 ∷ (two method pc ++ codes " no-frame"))
check_text (check.Unsupported class member) = name_of class ++ (32 ∷ (name_of member ++ codes " unsupported"))
check_text check.NoMemory = []
