-- How a class file is read from left to right, and the first fault.
use Rattle.std.specs.Prelude.{ℕ, ◌+◌, ◌-◌, List, [], length, Option, Some, None, is_some, Result, Ok, Bool, not, nat_lt, nat_le, ◌==◌, ◌&&◌, if◌then◌else◌}
use Rattle.std.specs.Int.{w16, w32}
use Rattle.class_pool.specs.{declared.fault.Fault.Fault, declared.pool.Entry.Entry, Reading.number_at, Reading.run_at, Loops.counted, Loops.folded}
use Rattle.class_pool.specs.declared.fault.Fault.TheVariants.{BadMagic, BadVersion, BadLength, Repeated, CodeKind, Trailing}
use Rattle.et_base.specs.Answers.{◌>>=◌, tested}
use Rattle.class_pool.specs.Pool.{entry_of, is_text, is_class, pool_at}
use Rattle.class_reader.specs.declared.parts.{CodePart.CodePart, MemberPart.MemberPart, ClassParts.ClassParts}
use Rattle.code_decode.specs.Decoding.{code_at}
use Rattle.class_reader.specs.{Indices.index_at, Indices.form_at, Handlers.handlers_at, Maps.map_at}
use Rattle.class_reader.specs.Names.{is_code, is_constant_value, is_stack_map, is_own_class, is_field_name, is_field_type, is_method_name, is_method_type, fits_constant, is_repeated, fits_flags}

-- ---- attributes (JVMS 4.7)

-- an attribute that is skipped, behind its name
unfoldable pub other_at : List ℕ → Result (Unit {0} × List ℕ) Fault
other_at bytes = do
  len ← number_at w32 bytes
  run ← run_at len.0 len.1
  Ok (tt, run.1)

-- an attribute behind its name, left bytes before the end: one that is wanted stands once
unfoldable pub once_at : {A : Type 0} → Bool → (List ℕ → Result (A × List ℕ) Fault) → Option A → ℕ → List ℕ → Result (Option A × List ℕ) Fault
once_at wanted content found left bytes = if wanted then (do
  once ← tested (not (is_some found)) (Repeated left)
  x ← content bytes
  Ok (Some x.0, x.1)) else (do
    other ← other_at bytes
    Ok (found, other.1))

-- an attribute: what is found after it
unfoldable pub attribute_at : {A : Type 0} → (Option Entry → Bool) → (List ℕ → Result (A × List ℕ) Fault) → List (Option Entry) → Option A → List ℕ → Result (Option A × List ℕ) Fault
attribute_at wanted content slots found bytes = do
  name ← index_at is_text slots bytes
  once_at (wanted (entry_of slots name.0)) content found (length bytes) name.1

-- the attributes of one place, of which one kind is read
unfoldable pub attributes_at : {A : Type 0} → (Option Entry → Bool) → (List ℕ → Result (A × List ℕ) Fault) → List (Option Entry) → List ℕ → Result (Option A × List ℕ) Fault
attributes_at wanted content slots bytes = do
  count ← number_at w16 bytes
  folded (λ found b. attribute_at wanted content slots found b) None count.0 count.1

-- an attribute of a place where none is read
unfoldable pub skipped_at : List (Option Entry) → List ℕ → Result (Unit {0} × List ℕ) Fault
skipped_at slots bytes = do
  name ← index_at is_text slots bytes
  other_at name.1

unfoldable pub all_skipped_at : List (Option Entry) → List ℕ → Result (Unit {0} × List ℕ) Fault
all_skipped_at slots bytes = do
  count ← number_at w16 bytes
  folded (λ _ b. skipped_at slots b) tt count.0 count.1

-- a ConstantValue behind its name, for a field of this descriptor (JVMS 4.7.2)
unfoldable pub constant_at : List (Option Entry) → ℕ → List ℕ → Result (ℕ × List ℕ) Fault
constant_at slots descriptor bytes = do
  len ← number_at w32 bytes
  two ← tested (len.0 == 2) (BadLength (length bytes))
  index_at (fits_constant (entry_of slots descriptor)) slots len.1

-- ---- Code (JVMS 4.7.3)

-- the length of code, and its bytes
unfoldable pub run_code_at : List ℕ → Result (List ℕ × List ℕ) Fault
run_code_at bytes = do
  len ← number_at w32 bytes
  fits ← tested (nat_lt 0 len.0 && nat_lt len.0 65536) (BadLength (length bytes))
  run_at len.0 len.1

-- the content of a Code attribute, of the method of this number
unfoldable pub part_at : ℕ → List (Option Entry) → List ℕ → Result (CodePart × List ℕ) Fault
part_at method slots bytes = do
  stack ← number_at w16 bytes
  locals ← number_at w16 stack.1
  run ← run_code_at locals.1
  code ← code_at method slots run.0
  handlers ← handlers_at method slots code run.1
  map ← attributes_at is_stack_map (map_at slots) slots handlers.1
  Ok (record { max_stack = stack.0; max_locals = locals.0; code = code; handlers = handlers.0; map = map.0 }, map.1)

-- a Code attribute behind its name
unfoldable pub code_attribute_at : ℕ → List (Option Entry) → List ℕ → Result (CodePart × List ℕ) Fault
code_attribute_at method slots bytes = do
  len ← number_at w32 bytes
  part ← part_at method slots len.1
  fits ← tested (length len.1 - length part.1 == len.0) (BadLength (length bytes))
  Ok part

-- ---- fields and methods (JVMS 4.5 and 4.6)

unfoldable pub field_at : List (Option Entry) → List MemberPart → List ℕ → Result (MemberPart × List ℕ) Fault
field_at slots before bytes = do
  flags ← number_at w16 bytes
  name ← form_at is_field_name slots flags.1
  descriptor ← form_at is_field_type slots name.1
  once ← tested (not (is_repeated slots before name.0 descriptor.0)) (Repeated (length name.1))
  constant ← attributes_at is_constant_value (constant_at slots descriptor.0) slots descriptor.1
  Ok (record { flags = flags.0; name = name.0; descriptor = descriptor.0; constant = constant.0; code = None }, constant.1)

unfoldable pub fields_at : List (Option Entry) → List ℕ → Result (List MemberPart × List ℕ) Fault
fields_at slots bytes = do
  count ← number_at w16 bytes
  counted (λ before _ b. field_at slots before b) [] count.0 count.1

-- methods are numbered from 1
unfoldable pub method_at : List (Option Entry) → List MemberPart → List ℕ → Result (MemberPart × List ℕ) Fault
method_at slots before bytes = do
  flags ← number_at w16 bytes
  name ← form_at is_method_name slots flags.1
  descriptor ← form_at (is_method_type flags.0) slots name.1
  once ← tested (not (is_repeated slots before name.0 descriptor.0)) (Repeated (length name.1))
  code ← attributes_at is_code (code_attribute_at (length before + 1) slots) slots descriptor.1
  right ← tested (fits_flags flags.0 (is_some code.0)) (CodeKind (length bytes))
  Ok (record { flags = flags.0; name = name.0; descriptor = descriptor.0; constant = None; code = code.0 }, code.1)

unfoldable pub methods_at : List (Option Entry) → List ℕ → Result (List MemberPart × List ℕ) Fault
methods_at slots bytes = do
  count ← number_at w16 bytes
  counted (λ before _ b. method_at slots before b) [] count.0 count.1

-- ---- the file (JVMS 4.1)

-- the magic number, and the minor and major version
unfoldable pub head_at : List ℕ → Result ((ℕ × ℕ) × List ℕ) Fault
head_at bytes = do
  magic ← number_at w32 bytes
  right ← tested (magic.0 == 3405691582) BadMagic
  minor ← number_at w16 magic.1
  major ← number_at w16 minor.1
  fits ← tested (nat_le 50 major.0 && nat_le major.0 52) (BadVersion major.0)
  Ok ((minor.0, major.0), major.1)

unfoldable pub interfaces_at : List (Option Entry) → List ℕ → Result (List ℕ × List ℕ) Fault
interfaces_at slots bytes = do
  count ← number_at w16 bytes
  counted (λ _ _ b. index_at is_class slots b) [] count.0 count.1

-- what stands behind the interfaces
unfoldable pub members_at : List (Option Entry) → List ℕ → Result ((List MemberPart × List MemberPart) × List ℕ) Fault
members_at slots bytes = do
  fields ← fields_at slots bytes
  methods ← methods_at slots fields.1
  others ← all_skipped_at slots methods.1
  Ok ((fields.0, methods.0), others.1)

-- what stands behind the pool
unfoldable pub body_at : (ℕ × ℕ) → List (Option Entry) → List ℕ → Result (ClassParts × List ℕ) Fault
body_at version slots bytes = do
  flags ← number_at w16 bytes
  this ← index_at (is_own_class slots) slots flags.1
  super ← index_at is_class slots this.1
  interfaces ← interfaces_at slots super.1
  members ← members_at slots interfaces.1
  Ok (record { minor = version.0; major = version.1; pool = slots; flags = flags.0; this_class = this.0; super_class = super.0; interfaces = interfaces.0; fields = members.0.0; methods = members.0.1 }, members.1)

unfoldable pub class_at : List ℕ → Result ClassParts Fault
class_at bytes = do
  version ← head_at bytes
  slots ← pool_at version.1
  parts ← body_at version.0 slots.0 slots.1
  ended ← tested (length parts.1 == 0) (Trailing (length parts.1))
  Ok parts.0
