-- The grammar of a class file, part by part. Attributes that are skipped are no part of what is spelled.
use Rattle.std.specs.Prelude.{◌^◌, ℕ, List, [], Option, Some, None, is_some, Bool, not, nat_lt, nat_le, ◌==◌, ◌&&◌, cond}
use Rattle.std.specs.Int.{w32}
use Rattle.class_pool.specs.{declared.pool.Entry.Entry, Pool.entry_of, Pool.is_text, Pool.is_class, PoolGrammar.PoolText}
use Rattle.class_pool.specs.Grammar.{Nothing, Then, Mapped, Tested, Number, Run, Counted, Sized, Chain}
use Rattle.code_decode.specs.{declared.decoding.Code.Code, CodeGrammar.CodeText}
use Rattle.class_reader.specs.declared.parts.{CodePart.CodePart, RawHandler.RawHandler, MapPart.MapPart, MemberPart.MemberPart, ClassParts.ClassParts}
use Rattle.class_reader.specs.{Indices.Short, Indices.Index, Indices.Form, Handlers.HandlersText, MapGrammar.MapText}
use Rattle.class_reader.specs.Names.{is_code, is_constant_value, is_stack_map, is_own_class, is_field_name, is_field_type, is_method_name, is_method_type, fits_constant, is_repeated, fits_flags}

-- ---- attributes (JVMS 4.7)

-- an attribute that is skipped, behind its name
abbrev pub OtherText : List ℕ → Unit {0} → Type 0
OtherText = Then (Number w32 (2 ^ 32)) (λ n. Mapped (λ _. tt) (Run n))

-- an attribute behind its name; one that is wanted stands once
abbrev pub OnceText : {A : Type 0} → Bool → (List ℕ → A → Type 0) → Option A → List ℕ → Option A → Type 0
OnceText wanted S found text now = cond wanted (Tested (not (is_some found)) (Mapped Some S) text now) (Mapped (λ _. found) OtherText text now)

abbrev pub AttributeText : {A : Type 0} → (Option Entry → Bool) → (List ℕ → A → Type 0) → List (Option Entry) → Option A → List ℕ → Option A → Type 0
AttributeText wanted S slots found = Then (Index is_text slots) (λ name. OnceText (wanted (entry_of slots name)) S found)

-- the attributes of one place, of which one kind is read
abbrev pub AttributesText : {A : Type 0} → (Option Entry → Bool) → (List ℕ → A → Type 0) → List (Option Entry) → List ℕ → Option A → Type 0
AttributesText wanted S slots = Then Short (λ n. Chain (AttributeText wanted S slots) None n)

abbrev pub SkippedText : List (Option Entry) → List ℕ → Unit {0} → Type 0
SkippedText slots = Then (Index is_text slots) (λ _. OtherText)

abbrev pub AllSkippedText : List (Option Entry) → List ℕ → Unit {0} → Type 0
AllSkippedText slots = Then Short (λ n. Chain (λ _. SkippedText slots) tt n)

-- a ConstantValue behind its name (JVMS 4.7.2)
abbrev pub ConstantText : List (Option Entry) → ℕ → List ℕ → ℕ → Type 0
ConstantText slots descriptor = Then (Number w32 (2 ^ 32)) (λ n. Tested (n == 2) (Index (fits_constant (entry_of slots descriptor)) slots))

-- ---- Code (JVMS 4.7.3)

abbrev pub RunText : List ℕ → List ℕ → Type 0
RunText = Then (Number w32 (2 ^ 32)) (λ n. Tested (nat_lt 0 n && nat_lt n 65536) (Run n))

-- a value that these bytes don't spell, with a fact of it
abbrev pub Beside : {A B : Type 0} → (A → Type 0) → (A → List ℕ → B → Type 0) → List ℕ → B → Type 0
Beside {A = A} P T text y = (x : A) × P x × T x text y

abbrev pub part_of : ℕ → ℕ → Code → List RawHandler → Option MapPart → CodePart
part_of stack locals code handlers map = record { max_stack = stack; max_locals = locals; code = code; handlers = handlers; map = map }

abbrev pub PartText : List (Option Entry) → List ℕ → CodePart → Type 0
PartText slots = Then Short (λ stack. Then Short (λ locals. Then RunText (λ run. Beside (CodeText slots run) (λ code. Then (HandlersText slots code) (λ handlers.
    Mapped (part_of stack locals code handlers) (AttributesText is_stack_map (MapText slots) slots))))))

-- ---- fields and methods (JVMS 4.5 and 4.6)

abbrev pub field_of : ℕ → ℕ → ℕ → Option ℕ → MemberPart
field_of flags name descriptor constant = record { flags = flags; name = name; descriptor = descriptor; constant = constant; code = None }

abbrev pub FieldText : List (Option Entry) → List MemberPart → List ℕ → MemberPart → Type 0
FieldText slots before = Then Short (λ flags. Then (Form is_field_name slots) (λ name. Then (Form is_field_type slots) (λ descriptor. Tested (not (is_repeated slots before name descriptor))
    (Mapped (field_of flags name descriptor) (AttributesText is_constant_value (ConstantText slots descriptor) slots)))))

abbrev pub FieldsText : List (Option Entry) → List ℕ → List MemberPart → Type 0
FieldsText slots = Then Short (λ n. Counted (λ before _. FieldText slots before) [] n)

abbrev pub method_of : ℕ → ℕ → ℕ → Option CodePart → MemberPart
method_of flags name descriptor code = record { flags = flags; name = name; descriptor = descriptor; constant = None; code = code }

-- a method has code exactly where it is neither abstract nor native
abbrev pub MethodText : List (Option Entry) → List MemberPart → List ℕ → MemberPart → Type 0
MethodText slots before = Then Short (λ flags. Then (Form is_method_name slots) (λ name. Then (Form (is_method_type flags) slots) (λ descriptor. Tested (not (is_repeated slots before name descriptor))
    (Then (AttributesText is_code (Sized (PartText slots)) slots) (λ code. Tested (fits_flags flags (is_some code)) (Nothing (method_of flags name descriptor code)))))))

abbrev pub MethodsText : List (Option Entry) → List ℕ → List MemberPart → Type 0
MethodsText slots = Then Short (λ n. Counted (λ before _. MethodText slots before) [] n)

-- ---- the file (JVMS 4.1)

-- the magic number, any minor version, and a major one from 50 to 52
abbrev pub HeadText : List ℕ → ℕ × ℕ → Type 0
HeadText = Then (Number w32 (2 ^ 32)) (λ magic. Tested (magic == 3405691582) (Then Short (λ minor. Then Short (λ major. Tested (nat_le 50 major && nat_le major 52) (Nothing (minor, major))))))

abbrev pub InterfacesText : List (Option Entry) → List ℕ → List ℕ → Type 0
InterfacesText slots = Then Short (λ n. Counted (λ _ _. Index is_class slots) [] n)

abbrev pub pair_of : List MemberPart → List MemberPart → List MemberPart × List MemberPart
pair_of fields methods = (fields, methods)

abbrev pub MembersText : List (Option Entry) → List ℕ → List MemberPart × List MemberPart → Type 0
MembersText slots = Then (FieldsText slots) (λ fields. Then (MethodsText slots) (λ methods. Mapped (λ _. pair_of fields methods) (AllSkippedText slots)))

abbrev pub parts_of : ℕ × ℕ → List (Option Entry) → ℕ → ℕ → ℕ → List ℕ → List MemberPart × List MemberPart → ClassParts
parts_of version slots flags this super interfaces members = record { minor = version.0; major = version.1; pool = slots; flags = flags; this_class = this; super_class = super; interfaces = interfaces; fields = members.0; methods = members.1 }

abbrev pub BodyText : ℕ × ℕ → List (Option Entry) → List ℕ → ClassParts → Type 0
BodyText version slots = Then Short (λ flags. Then (Index (is_own_class slots) slots) (λ this. Then (Index is_class slots) (λ super. Then (InterfacesText slots) (λ interfaces.
    Mapped (parts_of version slots flags this super interfaces) (MembersText slots)))))

-- the bytes spell the class file
unfoldable pub class_bytes : List ℕ → ClassParts → Type 0
class_bytes = Then HeadText (λ version. Then PoolText (λ slots. BodyText version slots))

-- some bytes spell these parts
pub record IsClass (c : ClassParts) : Type 0 where
  pub bytes : List ℕ
  pub spelled : class_bytes bytes c
