-- The faults of linking, each by itself.
use Rattle.std.specs.Prelude.{ℕ, ◌+◌, List, [], ◌∷◌, ◌++◌, length, map, option_and_then, is_some, Option, Some, None, Bool, true, false, not, ◌&&◌, ◌||◌, cond, nat_eq, nat_le}
use Rattle.std.specs.{List.list_any, List.list_all, List.range_with_len, Str.bytes_eq}
use Rattle.class_pool.specs.{declared.pool.Entry.Entry, Pool.entry_of, Pool.is_class}
use Rattle.class_reader.specs.declared.parts.ClassParts.{ClassParts}
use Rattle.et_base.specs.Names.{starts_array}
use Rattle.jvm_model.specs.declared.program.{Program.Program, TestEntry.TestEntry}
use Rattle.jvm_model.specs.Builtin.{builtin_count, object_class, throwable_class}
use Rattle.jvm_model.specs.{Library.builtin_classes, RowsCreate.is_bare, Driver.plain_method_in, Linked.is_interface_at, Linked.test_method}
use Rattle.jvm_model.specs.Classes.{class_at, method_at, is_static, is_interface, is_below, member, init_name}
use Rattle.class_link.specs.declared.{fault.LinkFault.LinkFault, lines.TestLine.TestLine}
use Rattle.class_link.specs.declared.fault.LinkFault.TheVariants as fault
use Rattle.code_forms.specs.{declared.references.Use.Use, declared.references.Target.Target, Uses.fits}
use Rattle.class_link.specs.ClassNames.{name_at, own_name, class_number, number_or_first, missing}
use Rattle.class_link.specs.References.{LinkEnvironment, target_of, missing_for, uses}

-- the first of what f gives for the items
abbrev pub first_some : {A B : Type 0} → (A → Option B) → List A → Option B
first_some f [] = None
first_some f (x ∷ xs) = elim (f x) [ Some y ↦ Some y | None ↦ first_some f xs ]

-- the pool indices of a class
abbrev pub indices : ClassParts → List ℕ
indices c = range_with_len 1 (length c.pool)

-- ---- names

-- the first class whose name stands among those before it
abbrev pub duplicate : List (List ℕ) → List ClassParts → Option LinkFault
duplicate before [] = None
duplicate before (c ∷ cs) = cond (list_any (bytes_eq (own_name c)) before) (Some (fault.Duplicate (own_name c))) (duplicate (before ++ own_name c ∷ []) cs)

abbrev pub duplicate_fault : List ClassParts → Option LinkFault
duplicate_fault cs = duplicate (map (λ c. c.name) builtin_classes) cs

-- ---- superclasses and superinterfaces

-- the class d may stand as a superclass: no interface, and of the built-in ones Object or a throwable; above an interface
-- stands Object
abbrev pub superclass_fits : Program → ClassParts → ℕ → Bool
superclass_fits p c d = not (is_interface_at p d) && ((nat_le builtin_count d || (nat_eq d object_class || is_below p d throwable_class)) && (not (is_interface c.flags) || nat_eq d object_class))

-- the entry i serves where the class names it: as its superclass, as a superinterface
abbrev pub supertype_fits : LinkEnvironment → ClassParts → ℕ → Bool
supertype_fits s c i = let name = name_at c.pool i in let d = number_or_first s.names name in
    not (starts_array name) && ((not (nat_eq i c.super_class) || superclass_fits s.program c d) && (not (member i c.interfaces) || is_interface_at s.program d))

abbrev pub missing_or : ClassParts → Option (List ℕ) → Option LinkFault → Option LinkFault
missing_or c (Some name) f = Some (fault.Missing (own_name c) name)
missing_or c None f = f

abbrev pub wrong_unless : Bool → ClassParts → ℕ → Option LinkFault
wrong_unless true c i = None
wrong_unless false c i = Some (fault.WrongKind (own_name c) i)

unfoldable pub supertype_fault : LinkEnvironment → ClassParts → ℕ → Option LinkFault
supertype_fault s c i = cond (nat_eq i c.super_class || member i c.interfaces) (missing_or c (missing s.names (name_at c.pool i)) (wrong_unless (supertype_fits s c i) c i)) None

-- the first fault of a class's superclass and superinterfaces, by pool index
unfoldable pub supertypes_fault : LinkEnvironment → ClassParts → Option LinkFault
supertypes_fault s c = first_some (supertype_fault s c) (indices c)

-- ---- references

-- how the class uses the entry i
abbrev pub uses_at : ℕ → List (ℕ × Use) → List Use
uses_at i [] = []
uses_at i (x ∷ xs) = cond (nat_eq x.0 i) (x.1 ∷ uses_at i xs) (uses_at i xs)

-- the target fits each of these uses by the class n
abbrev pub all_fit : Program → ℕ → Option Entry → Target → List Use → Bool
all_fit p n e t us = list_all (fits p n e t) us

-- an array of floats or doubles, which only a handler can name here, is of the wrong kind
abbrev pub target_fault : LinkEnvironment → ℕ → ClassParts → ℕ → List Use → Option Target → Option LinkFault
target_fault s n c i us None = Some (cond (is_class (entry_of c.pool i)) (fault.WrongKind (own_name c) i) (fault.NoMember (own_name c) i))
target_fault s n c i us (Some t) = wrong_unless (all_fit s.program n (entry_of c.pool i) t us) c i

-- the fault of the entry i, used so by the class n: its class isn't there, or its member, or it is of the wrong kind
unfoldable pub entry_fault : LinkEnvironment → ℕ → ClassParts → ℕ → List Use → Option LinkFault
entry_fault s n c i [] = None
entry_fault s n c i us = missing_or c (missing_for s.names c.pool (entry_of c.pool i)) (target_fault s n c i us (target_of s c.pool (entry_of c.pool i)))

-- the first fault of the entries that the code of the class n uses, by pool index
unfoldable pub references_fault : LinkEnvironment → ℕ → ClassParts → Option LinkFault
references_fault s n c = first_some (λ i. entry_fault s n c i (uses_at i (uses c))) (indices c)

-- the same of several classes, the first of which has the number n
abbrev pub all_references_fault : LinkEnvironment → ℕ → List ClassParts → Option LinkFault
all_references_fault s n [] = None
all_references_fault s n (c ∷ cs) = elim (references_fault s n c) [ Some f ↦ Some f | None ↦ all_references_fault s (n + 1) cs ]

-- ---- tests

-- the class may be that of a test: one of the class files that can have instances
abbrev pub holds_tests : Program → ℕ → Bool
holds_tests p c = nat_le builtin_count c && not (is_bare p c)

-- a method with code; of an instance one where its class declares an instance method `<init>` with `()V`
abbrev pub is_test_method : Program → ℕ → ℕ → Bool
is_test_method p c m = is_some (method_at p m).body && (is_static (method_at p m).flags || is_some (plain_method_in p init_name (class_at p c).methods))

abbrev pub entry_with : ℕ → TestLine → ℕ → ℕ → TestEntry
entry_with budget line c m = record { class = c; method = m; clock = line.clock; seed = line.seed; budget = budget }

abbrev pub test_in : Program → ℕ → TestLine → ℕ → Option TestEntry
test_in p budget line c = cond (holds_tests p c) (option_and_then (λ m. cond (is_test_method p c m) (Some (entry_with budget line c m)) None) (test_method p c line.method)) None

-- the test of a line, if it is one: the first method of the name with `()V` from the class upwards (this project's)
unfoldable pub test_entry : LinkEnvironment → ℕ → TestLine → Option TestEntry
test_entry s budget line = option_and_then (test_in s.program budget line) (class_number s.names line.class)
