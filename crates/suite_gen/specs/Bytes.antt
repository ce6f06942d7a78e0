-- The generated class as it is written, byte by byte (JVMS 4). Numbers stand high byte first.
use Rattle.std.specs.Prelude.{ℕ, ◌+◌, ◌-◌, ◌*◌, ◌%◌, List, [], ◌∷◌, ◌++◌, length, codes, decimal, ◌==◌, if◌then◌else◌}
use Rattle.std.specs.{Int.w16, Int.w32, Int.to_be_bytes, List.flat_map, List.range_with_len}
use Rattle.suite_gen.specs.Generated.{group_of, group_count, print_entry, field_name, field_entry, test_name}

abbrev pub short : ℕ → List ℕ
short n = to_be_bytes w16 n

-- ---- the constant pool

-- the entries that each generated suite has
abbrev pub common_bytes : List ℕ
common_bytes = 1 ∷ 0 ∷ 3 ∷ codes "Gen" ++ (7 ∷ 0 ∷ 1 ∷ 1 ∷ 0 ∷ 16 ∷ codes "java/lang/Object" ++ (7 ∷ 0 ∷ 3 ∷ 1 ∷ 0 ∷ 4 ∷ codes "Code"
    ++ (1 ∷ 0 ∷ 1 ∷ 73 ∷ 1 ∷ 0 ∷ 3 ∷ codes "()V" ++ (1 ∷ 0 ∷ 12 ∷ codes "electric/Env" ++ (7 ∷ 0 ∷ 8 ∷ 1 ∷ 0 ∷ 5 ∷ codes "print"
    ++ (1 ∷ 0 ∷ 4 ∷ codes "(I)V" ++ (12 ∷ 0 ∷ 10 ∷ 0 ∷ 11 ∷ 10 ∷ 0 ∷ 9 ∷ 0 ∷ 12 ∷ [])))))))

-- a letter and a number
abbrev pub name_bytes : ℕ → ℕ → List ℕ
name_bytes letter n = 1 ∷ short (length (letter ∷ decimal n)) ++ (letter ∷ decimal n)

abbrev pub twin : ℕ → ℕ → ℕ → List ℕ
twin tag a b = tag ∷ short a ++ short b

-- the name of a group's field (102 is `f`), its name and type, and the field
abbrev pub group_bytes : ℕ → List ℕ
group_bytes g = name_bytes 102 g ++ (twin 12 (field_name g) 6 ++ twin 9 2 (15 + 3 * g))

abbrev pub groups_bytes : ℕ → List ℕ
groups_bytes n = flat_map group_bytes (range_with_len 0 n)

-- the names of the tests; 116 is `t`
abbrev pub tests_bytes : ℕ → List ℕ
tests_bytes k = flat_map (name_bytes 116) (range_with_len 1 k)

abbrev pub pool_bytes : ℕ → List ℕ
pool_bytes k = short (14 + 3 * group_count k + k) ++ (common_bytes ++ (groups_bytes (group_count k) ++ tests_bytes k))

-- ---- code

-- an instruction with two bytes behind it
abbrev pub op_bytes : ℕ → ℕ → List ℕ
op_bytes opcode operand = opcode ∷ short operand

-- the stack's depth, no locals and the length of the instructions
abbrev pub limits : ℕ → ℕ → List ℕ
limits stack length = short stack ++ (short 0 ++ to_be_bytes w32 length)

-- return, no handlers and no attributes
abbrev pub end_bytes : List ℕ
end_bytes = 177 ∷ 0 ∷ 0 ∷ 0 ∷ 0 ∷ []

abbrev pub setting_bytes : ℕ → List ℕ
setting_bytes i = limits 1 7 ++ (op_bytes 17 i ++ (op_bytes 179 (field_entry (group_of i)) ++ end_bytes))

abbrev pub printing_bytes : ℕ → List ℕ
printing_bytes i = limits 1 7 ++ (op_bytes 178 (field_entry (group_of i)) ++ (op_bytes 184 print_entry ++ end_bytes))

abbrev pub adding_bytes : ℕ → List ℕ
adding_bytes i = limits 2 11 ++ (op_bytes 178 (field_entry (group_of i)) ++ (op_bytes 17 i ++ (96 ∷ (op_bytes 179 (field_entry (group_of i)) ++ end_bytes))))

-- behind its length
abbrev pub code_bytes : ℕ → List ℕ
code_bytes i = if (i - 1) % 4 == 0 then to_be_bytes w32 19 ++ setting_bytes i
    else if (i - 1) % 4 == 2 then to_be_bytes w32 23 ++ adding_bytes i else to_be_bytes w32 19 ++ printing_bytes i

-- ---- members

abbrev pub field_bytes : ℕ → List ℕ
field_bytes g = short 9 ++ (short (field_name g) ++ (short 6 ++ short 0))

abbrev pub fields_bytes : ℕ → List ℕ
fields_bytes n = short n ++ flat_map field_bytes (range_with_len 0 n)

-- one attribute, the code
abbrev pub method_bytes : ℕ → ℕ → List ℕ
method_bytes k i = short 9 ++ (short (test_name k i) ++ (short 7 ++ (short 1 ++ (short 5 ++ code_bytes i))))

abbrev pub methods_bytes : ℕ → List ℕ
methods_bytes k = short k ++ flat_map (method_bytes k) (range_with_len 1 k)

-- ---- the class: magic and version; flags, itself, its superclass and no interfaces behind the pool; and no attributes

unfoldable pub written_class : ℕ → List ℕ
written_class k = (202 ∷ 254 ∷ 186 ∷ 190 ∷ 0 ∷ 0 ∷ 0 ∷ 52 ∷ []) ++ (pool_bytes k ++ ((0 ∷ 33 ∷ 0 ∷ 2 ∷ 0 ∷ 4 ∷ 0 ∷ 0 ∷ []) ++ (fields_bytes (group_count k) ++ (methods_bytes k ++ short 0))))
