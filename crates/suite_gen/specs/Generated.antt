-- The generated suite of k tests (this project's): a class Gen of static methods t1, t2, .. in groups of four. The tests of a
-- group share a static int: the first sets it, the others print it, add to it, and print it.
use Rattle.std.specs.Prelude.{ℕ, ◌+◌, ◌-◌, ◌*◌, ◌/◌, ◌%◌, ℤ, pos, List, [], ◌∷◌, ◌++◌, map, codes, decimal, Option, Some, None, false, ◌==◌, if◌then◌else◌}
use Rattle.std.specs.List.{flat_map, range_with_len}
use Rattle.class_pool.specs.declared.pool.Entry.{Entry}
use Rattle.class_pool.specs.declared.pool.Entry.TheVariants.{Utf8, Class, Field, Method, NameAndType}
use Rattle.code_decode.specs.declared.instructions.RawOp.{RawOp}
use Rattle.class_reader.specs.declared.parts.{CodePart.CodePart, MemberPart.MemberPart, ClassParts.ClassParts}

-- ---- the suite text

abbrev pub test_line : ℕ → List ℕ
test_line i = codes "test Gen.t" ++ (decimal i ++ (10 ∷ []))

unfoldable pub suite_text : ℕ → List ℕ
suite_text k = codes "electric-suite 1" ++ (10 ∷ (codes "class Gen.class" ++ (10 ∷ (flat_map test_line (range_with_len 1 k) ++ (codes "end" ++ (10 ∷ []))))))

-- ---- the constant pool (JVMS 4.4): what is common, then the entries of each group's field, then each test's name

-- the group of test i, from 0 on, and how many groups there are
abbrev pub group_of : ℕ → ℕ
group_of i = (i - 1) / 4

abbrev pub group_count : ℕ → ℕ
group_count k = (k + 3) / 4

abbrev pub common_slots : List (Option Entry)
common_slots = Some (Utf8 (codes "Gen")) ∷ Some (Class 1) ∷ Some (Utf8 (codes "java/lang/Object")) ∷ Some (Class 3) ∷ Some (Utf8 (codes "Code"))
    ∷ Some (Utf8 (codes "I")) ∷ Some (Utf8 (codes "()V")) ∷ Some (Utf8 (codes "electric/Env")) ∷ Some (Class 8) ∷ Some (Utf8 (codes "print"))
    ∷ Some (Utf8 (codes "(I)V")) ∷ Some (NameAndType 10 11) ∷ Some (Method 9 12) ∷ []

-- where these stand: the method print of electric/Env, a group's field and its name, a test's name
abbrev pub print_entry : ℕ
print_entry = 13

abbrev pub field_name : ℕ → ℕ
field_name g = 14 + 3 * g

abbrev pub field_entry : ℕ → ℕ
field_entry g = 16 + 3 * g

abbrev pub test_name : ℕ → ℕ → ℕ
test_name k i = 13 + 3 * group_count k + i

abbrev pub group_slots : ℕ → List (Option Entry)
group_slots g = Some (Utf8 (codes "f" ++ decimal g)) ∷ Some (NameAndType (field_name g) 6) ∷ Some (Field 2 (15 + 3 * g)) ∷ []

abbrev pub test_slot : ℕ → Option Entry
test_slot i = Some (Utf8 (codes "t" ++ decimal i))

abbrev pub slots : ℕ → List (Option Entry)
slots k = common_slots ++ (flat_map group_slots (range_with_len 0 (group_count k)) ++ map test_slot (range_with_len 1 k))

-- ---- the methods' code

abbrev pub op : ℕ → ℕ → List ℤ → RawOp
op pc opcode args = record { pc = pc; opcode = opcode; wide = false; args = args }

abbrev pub part_with : ℕ → ℕ → List RawOp → CodePart
part_with stack length ops = record { max_stack = stack; max_locals = 0; code = record { length = length; ops = ops }; handlers = []; map = None }

-- sipush i; putstatic; return
abbrev pub setting : ℕ → CodePart
setting i = part_with 1 7 (op 0 17 (pos i ∷ []) ∷ op 3 179 (pos (field_entry (group_of i)) ∷ []) ∷ op 6 177 [] ∷ [])

-- getstatic; invokestatic print; return
abbrev pub printing : ℕ → CodePart
printing i = part_with 1 7 (op 0 178 (pos (field_entry (group_of i)) ∷ []) ∷ op 3 184 (pos print_entry ∷ []) ∷ op 6 177 [] ∷ [])

-- getstatic; sipush i; iadd; putstatic; return
abbrev pub adding : ℕ → CodePart
adding i = part_with 2 11 (op 0 178 (pos (field_entry (group_of i)) ∷ []) ∷ op 3 17 (pos i ∷ []) ∷ op 6 96 []
    ∷ op 7 179 (pos (field_entry (group_of i)) ∷ []) ∷ op 10 177 [] ∷ [])

-- by the place of test i in its group
abbrev pub code_of : ℕ → CodePart
code_of i = if (i - 1) % 4 == 0 then setting i else if (i - 1) % 4 == 2 then adding i else printing i

-- ---- the class: version 52, public, below Object; its members are public and static

abbrev pub field_of : ℕ → MemberPart
field_of g = record { flags = 9; name = field_name g; descriptor = 6; constant = None; code = None }

abbrev pub method_of : ℕ → ℕ → MemberPart
method_of k i = record { flags = 9; name = test_name k i; descriptor = 7; constant = None; code = Some (code_of i) }

unfoldable pub generated_class : ℕ → ClassParts
generated_class k = record {
  minor = 0;
  major = 52;
  pool = slots k;
  flags = 33;
  this_class = 2;
  super_class = 4;
  interfaces = [];
  fields = map field_of (range_with_len 0 (group_count k));
  methods = map (method_of k) (range_with_len 1 k);
}
