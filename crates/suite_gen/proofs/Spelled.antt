-- What is written spells the generated class.
use Rattle.std.proofs.Common.{◌≡◌, ℕ, zero, suc, ◌+◌, ◌-◌, ◌*◌, ◌%◌, ◌≤◌, List, [], ◌∷◌, ◌++◌, length, map, Bool, true, false, ◌==◌, if◌then◌else◌, Option, refl, sym, ap, ◌∙◌, arith}
use Rattle.std.specs.{Int.w16, Int.w32, Int.to_be_bytes, List.flat_map, List.range_with_len}
use Rattle.std.proofs.lemmas.{Grind.flat_map-append, List.length-append, List.Folds.flat_map-map, List.FromFn.length-map-range_with_len}
use Rattle.et_base.specs.Utf.{group}
use Rattle.class_pool.specs.{declared.pool.Entry.Entry, PoolGrammar.slot_bytes, PoolGrammar.pool_spelling}
use Rattle.code_decode.specs.Opcodes.{shape_of}
use Rattle.class_write.specs.declared.names.Names.{Names}
use Rattle.class_write.specs.Spelling as spelling
use Rattle.suite_gen.specs.Bytes as bytes
use Rattle.suite_gen.specs.Generated.{group_count, common_slots, group_slots, test_slot, slots, setting, adding, printing, field_of, method_of, generated_class}
use Rattle.suite_gen.proofs.{Names.name_entry, Ranges.each_same, Ranges.flat_twice}

-- ---- the constant pool

group_same : (g : ℕ) → g ≤ 1024 → flat_map slot_bytes (group_slots g) ≡ bytes.group_bytes g
group_same g few = ap (λ (l : List ℕ). l ++ (bytes.twin 12 (14 + 3 * g) 6 ++ bytes.twin 9 2 (15 + 3 * g))) (name_entry 102 g (omega arith) (omega arith) (omega (arith, few)))

test_same : (i : ℕ) → i ≤ 1024 → slot_bytes (test_slot i) ≡ bytes.name_bytes 116 i
test_same i few = name_entry 116 i (omega arith) (omega arith) (omega (arith, few))

pub group_slots_count : (a n : ℕ) → length (flat_map group_slots (range_with_len a n)) ≡ 3 * n
group_slots_count a zero = omega arith
group_slots_count a (suc n) = let h = group_slots_count (a + 1) n in omega arith

slots_count : (k : ℕ) → length (slots k) + 1 ≡ 14 + 3 * group_count k + k
slots_count k = omega (
  arith,
  length-append (flat_map group_slots (range_with_len 0 (group_count k))) (map test_slot (range_with_len 1 k)),
  group_slots_count 0 (group_count k),
  length-map-range_with_len test_slot 1 k,
)

later_same : (k : ℕ) → k ≤ 1024 → flat_map slot_bytes (flat_map group_slots (range_with_len 0 (group_count k)) ++ map test_slot (range_with_len 1 k))
    ≡ bytes.groups_bytes (group_count k) ++ bytes.tests_bytes k
later_same k few =
    let groups = flat_twice slot_bytes group_slots (range_with_len 0 (group_count k))
    ∙ each_same (λ g. flat_map slot_bytes (group_slots g)) bytes.group_bytes 1024 0 (group_count k) group_same (omega (arith, few)) in
    let tests = flat_map-map slot_bytes test_slot (range_with_len 1 k) ∙ each_same (λ i. slot_bytes (test_slot i)) (bytes.name_bytes 116) 1024 1 k test_same (omega (arith, few)) in
    flat_map-append slot_bytes (flat_map group_slots (range_with_len 0 (group_count k))) (map test_slot (range_with_len 1 k)) ∙ (λ i. groups i ++ tests i)

common_same : (later : List (Option Entry)) → flat_map slot_bytes (common_slots ++ later) ≡ bytes.common_bytes ++ flat_map slot_bytes later
unfolding group
common_same later = refl

pool_same : (k : ℕ) → k ≤ 1024 → bytes.pool_bytes k ≡ pool_spelling (slots k)
pool_same k few =
    let later = later_same k few in
    let all = common_same (flat_map group_slots (range_with_len 0 (group_count k)) ++ map test_slot (range_with_len 1 k)) ∙ ap (λ (l : List ℕ). bytes.common_bytes ++ l) later in
    λ i. to_be_bytes w16 (sym (slots_count k) i) ++ sym all i

-- ---- members

fields_same : (n : ℕ) (names : Names) → bytes.fields_bytes n ≡ spelling.listed_bytes (spelling.field_bytes names) (map field_of (range_with_len 0 n))
fields_same n names =
    let each = flat_map-map (spelling.field_bytes names) field_of (range_with_len 0 n) in
    λ i. to_be_bytes w16 (sym (length-map-range_with_len field_of 0 n) i) ++ sym each i

code_same : (names : Names) (i : ℕ) (first third : Bool) → spelling.sized_bytes (spelling.part_bytes names (if first then setting i else if third then adding i else printing i))
    ≡ (if first then to_be_bytes w32 19 ++ bytes.setting_bytes i else if third then to_be_bytes w32 23 ++ bytes.adding_bytes i else to_be_bytes w32 19 ++ bytes.printing_bytes i)
unfolding shape_of
code_same names i true third = refl
code_same names i false true = refl
code_same names i false false = refl

method_same : (k i : ℕ) → spelling.method_bytes (spelling.names_of (slots k)) (method_of k i) ≡ bytes.method_bytes k i
method_same k i = ap (λ (l : List ℕ). bytes.short 9 ++ (bytes.short (13 + 3 * group_count k + i) ++ (bytes.short 7 ++ (bytes.short 1 ++ (bytes.short 5 ++ l)))))
    (code_same (spelling.names_of (slots k)) i ((i - 1) % 4 == 0) ((i - 1) % 4 == 2))

methods_same : (k : ℕ) → k ≤ 1024 → bytes.methods_bytes k ≡ spelling.listed_bytes (spelling.method_bytes (spelling.names_of (slots k))) (map (method_of k) (range_with_len 1 k))
methods_same k few =
    let each = flat_map-map (spelling.method_bytes (spelling.names_of (slots k))) (method_of k) (range_with_len 1 k)
    ∙ each_same (λ i. spelling.method_bytes (spelling.names_of (slots k)) (method_of k i)) (bytes.method_bytes k) 1024 1 k (λ i _. method_same k i) (omega (arith, few)) in
    λ i. to_be_bytes w16 (sym (length-map-range_with_len (method_of k) 1 k) i) ++ sym each i

-- ---- the class

pub spelled : (k : ℕ) → k ≤ 1024 → bytes.written_class k ≡ spelling.class_spelling (generated_class k)
unfolding bytes.written_class generated_class
spelled k few =
    let pool = pool_same k few in
    let fields = fields_same (group_count k) (spelling.names_of (slots k)) in
    let methods = methods_same k few in
    λ i. (202 ∷ 254 ∷ 186 ∷ 190 ∷ 0 ∷ 0 ∷ 0 ∷ 52 ∷ []) ++ (pool i ++ ((0 ∷ 33 ∷ 0 ∷ 2 ∷ 0 ∷ 4 ∷ 0 ∷ 0 ∷ []) ++ (fields i ++ (methods i ++ bytes.short 0))))
