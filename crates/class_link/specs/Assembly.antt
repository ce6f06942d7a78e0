-- The records of a program, whatever the bodies of its methods are: built-in classes, fields and methods first, then those
-- of the class files in the suite's order.
use Rattle.std.specs.Prelude.{ℕ, ◌+◌, List, [], ◌∷◌, ◌++◌, length, map, flat_map, option_map, option_and_then, Option, Some, None, is_some, Bool, false, ◌&&◌, cond, ◌-◌, filter}
use Rattle.std.specs.{List.range_with_len, Str.bytes_eq, Option.option_to_list}
use Rattle.class_pool.specs.{declared.pool.Entry.Entry, Pool.entry_of}
use Rattle.class_pool.specs.declared.pool.Entry.TheVariants as entry
use Rattle.class_reader.specs.declared.parts.{ClassParts.ClassParts, MemberPart.MemberPart, CodePart.CodePart}
use Rattle.jvm_model.specs.declared.values.{Value.Value, Value.TheVariants.Int, Value.TheVariants.Long, Value.TheVariants.Lit}
use Rattle.jvm_model.specs.declared.program.{Program.Program, ClassRec.ClassRec, FieldRec.FieldRec, MethodRec.MethodRec, Body.Body, TestEntry.TestEntry}
use Rattle.jvm_model.specs.{Builtin.builtin_count, Driver.no_arguments, Narrow.narrowed}
use Rattle.jvm_model.specs.Library.{builtin_classes, builtin_fields, builtin_methods}
use Rattle.jvm_model.specs.Classes.{is_static, clinit_name, default_of, member}
use Rattle.class_link.specs.ClassNames.{text_at, name_at, own_name, all_names, class_number, number_or_first, needed_class}
use Rattle.class_link.specs.Literals.{literals, literal_number}

-- ---- classes

-- the class that an entry names, an array's innermost element class, where it is there
abbrev pub mentioned_by : List (List ℕ) → List (Option Entry) → Option Entry → List ℕ
mentioned_by names slots (Some (entry.Class name)) = option_to_list (option_and_then (class_number names) (needed_class (text_at slots name)))
mentioned_by names slots _ = []

-- the given classes, whose numbers follow those of the built-in ones
abbrev pub given_classes : List (List ℕ) → List ℕ
given_classes names = range_with_len builtin_count (length names - builtin_count)

-- the given classes that the Class entries of a pool name, in rising order
abbrev pub mentions : List (List ℕ) → List (Option Entry) → List ℕ
mentions names slots = filter (λ c. member c (flat_map (mentioned_by names slots) slots)) (given_classes names)

-- the class's own static `<clinit>` with `()V` and code (JVMS 2.9)
abbrev pub is_initialiser : List (Option Entry) → MemberPart → Bool
is_initialiser slots x = is_static x.flags && (bytes_eq (text_at slots x.name) clinit_name && (bytes_eq (text_at slots x.descriptor) no_arguments && is_some x.code))

-- its number, where the first of these methods has the number m
abbrev pub initialiser_from : ℕ → List (Option Entry) → List MemberPart → Option ℕ
initialiser_from m slots [] = None
initialiser_from m slots (x ∷ xs) = cond (is_initialiser slots x) (Some m) (initialiser_from (m + 1) slots xs)

-- a class whose first field has the number f and whose first method m; a name that isn't there counts as that of the
-- first class, and such a class isn't linked
abbrev pub class_rec : List (List ℕ) → ℕ → ℕ → ClassParts → ClassRec
class_rec names f m c = record {
  name = own_name c;
  version = c.major;
  flags = c.flags;
  superclass = Some (number_or_first names (name_at c.pool c.super_class));
  interfaces = map (λ i. number_or_first names (name_at c.pool i)) c.interfaces;
  fields = range_with_len f (length c.fields);
  methods = range_with_len m (length c.methods);
  initialiser = initialiser_from m c.pool c.methods;
  mentions = mentions names c.pool;
}

abbrev pub class_recs : List (List ℕ) → ℕ → ℕ → List ClassParts → List ClassRec
class_recs names f m [] = []
class_recs names f m (c ∷ cs) = class_rec names f m c ∷ class_recs names (f + length c.fields) (m + length c.methods) cs

-- ---- fields

-- the value that a ConstantValue gives to a field of this type (JVMS 4.7.2); floats and doubles keep the default
abbrev pub constant_opening : List (List ℕ) → List (Option Entry) → List ℕ → Option Entry → Value
constant_opening texts slots descriptor (Some (entry.Integer n)) = narrowed descriptor (Int n)
constant_opening texts slots descriptor (Some (entry.Long n)) = Long n
constant_opening texts slots descriptor (Some (entry.Str text)) = Lit (literal_number texts (text_at slots text))
constant_opening texts slots descriptor _ = default_of descriptor

abbrev pub static_opening : List (List ℕ) → List (Option Entry) → List ℕ → Option ℕ → Value
static_opening texts slots descriptor None = default_of descriptor
static_opening texts slots descriptor (Some i) = constant_opening texts slots descriptor (entry_of slots i)

-- what a field opens with: a static with a ConstantValue with that, each other field with its type's default
unfoldable pub opening : List (List ℕ) → List (Option Entry) → MemberPart → Value
opening texts slots x = cond (is_static x.flags) (static_opening texts slots (text_at slots x.descriptor) x.constant) (default_of (text_at slots x.descriptor))

-- a field of the class n
abbrev pub field_rec : List (List ℕ) → List (Option Entry) → ℕ → MemberPart → FieldRec
field_rec texts slots n x = record { class = n; name = text_at slots x.name; descriptor = text_at slots x.descriptor; flags = x.flags; opening = opening texts slots x }

-- ---- methods

abbrev pub method_rec : (CodePart → Body) → List (Option Entry) → ℕ → MemberPart → MethodRec
method_rec body slots n x = record { class = n; name = text_at slots x.name; descriptor = text_at slots x.descriptor; flags = x.flags; native = None; body = option_map body x.code }

-- ---- members of several classes

-- what is made of the members of these classes, the first of which has the number n
abbrev pub member_recs : {X : Type 0} → (ClassParts → ℕ → MemberPart → X) → (ClassParts → List MemberPart) → ℕ → List ClassParts → List X
member_recs make members n [] = []
member_recs make members n (c ∷ cs) = map (make c n) (members c) ++ member_recs make members (n + 1) cs

abbrev pub field_recs : List (List ℕ) → ℕ → List ClassParts → List FieldRec
field_recs texts n cs = member_recs (λ c. field_rec texts c.pool) (λ c. c.fields) n cs

abbrev pub method_recs : (ClassParts → CodePart → Body) → ℕ → List ClassParts → List MethodRec
method_recs body n cs = member_recs (λ c. method_rec (body c) c.pool) (λ c. c.methods) n cs

-- ---- the program

-- the program of these class files with these bodies, tests and files
unfoldable pub assembled : (ClassParts → CodePart → Body) → List ClassParts → List TestEntry → List (List ℕ × List ℕ) → Program
assembled body cs tests files = record {
  classes = builtin_classes ++ class_recs (all_names cs) (length builtin_fields) (length builtin_methods) cs;
  fields = builtin_fields ++ field_recs (literals cs) builtin_count cs;
  methods = builtin_methods ++ method_recs body builtin_count cs;
  literals = literals cs;
  tests = tests;
  files = files;
}

-- a body without instructions, handlers and frames
abbrev pub bare_body : CodePart → Body
bare_body code = record { max_stack = code.max_stack; max_locals = code.max_locals; length = code.code.length; code = []; handlers = []; frames = []; malformed = false }

-- The program before its references are resolved: no body has an instruction yet, and there are no tests. Members are
-- looked up in it.
abbrev pub skeleton : List ClassParts → Program
skeleton cs = assembled (λ c code. bare_body code) cs [] []

-- the bodies of these classes' methods, in the methods' order
abbrev pub bodies_of : (ClassParts → CodePart → Body) → List ClassParts → List (Option Body)
bodies_of body cs = flat_map (λ c. map (λ m. option_map (body c) m.code) c.methods) cs
