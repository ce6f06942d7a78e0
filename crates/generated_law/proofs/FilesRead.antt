-- The files of k tests are within their limits, and are read as what they say.
use Rattle.std.proofs.Common.{◌≡◌, ℕ, zero, suc, ◌+◌, ◌-◌, ◌*◌, ◌%◌, ◌≤◌, Bool, true, false, cond, eqb, List, [], ◌∷◌, ◌++◌, length, map, decimal, Option, Some, Ok, Err, refl, ap, ◌∙◌, arith}
use Rattle.std.specs.Prelude.{codes}
use Rattle.std.specs.List.{AllByRecursion, flat_map, range_with_len}
use Rattle.std.proofs.lemmas.{Bool.le-leb, Fmt.length-decimal-le, List.length-append}
use Rattle.outside.specs.Depot.{content}
use Rattle.class_pool.specs.{declared.pool.Entry.Entry, declared.pool.Entry.TheVariants.Utf8, PoolGrammar.slot_bytes}
use Rattle.code_decode.specs.Opcodes.{shape_of}
use Rattle.class_write.specs.declared.names.Names.{Names}
use Rattle.class_write.specs.Spelling.{short_bytes, listed_bytes, names_of, part_bytes, field_bytes, method_bytes, body_bytes, class_spelling}
use Rattle.suite_gen.specs.Generated.{suite_text, group_count, common_slots, group_slots, slots, setting, adding, printing, field_of, method_of, generated_class}
use Rattle.suite_gen.specs.Generated as generated
use Rattle.suite_load.specs.declared.load_fault.LoadFault.TheVariants as fault
use Rattle.suite_load.specs.SuiteForm.{suite_of}
use Rattle.suite_load.specs.Loading.{◌>>=◌, file_of, suite_answer, suite_in, class_answer, class_in, classes_in, read_in}
use Rattle.class_reader.specs.Faults.{class_of}
use Rattle.generated_law.specs.GeneratedSuite.{class_file, said_suite, suite_name, suite_files}
use Rattle.generated_law.specs.GeneratedLaw.{ReadLaw}
use Rattle.generated_law.proofs.{SuiteText.text_law, ClassBytes.class_law, Pool.each_slot, Pool.utf_short, Pool.slots_count}

-- ---- the suite text

decimal_short : (n : ℕ) → n ≤ 1025 → length (decimal n) ≤ 5
decimal_short n few = length-decimal-le 5 n (omega arith) (omega (arith, few)) (omega (arith, few))

lines_short : (a n : ℕ) → a + n ≤ 1025 → length (flat_map generated.test_line (range_with_len a n)) ≤ 20 * n
lines_short a zero few = omega arith
lines_short a (suc n) few = omega (
  arith,
  length-append (generated.test_line a) (flat_map generated.test_line (range_with_len (a + 1) n)),
  length-append (decimal a) (10 ∷ []),
  decimal_short a (omega (arith, few)),
  lines_short (a + 1) n (omega (arith, few)),
)

text_short : (k : ℕ) → k ≤ 1024 → length (suite_text k) ≤ 1048576
unfolding suite_text
text_short k few = omega (arith, few, length-append (flat_map generated.test_line (range_with_len 1 k)) (codes "end" ++ 10 ∷ []), lines_short 1 k (omega (arith, few)))

-- ---- the class

abbrev IsShort : Option Entry → Type 0
IsShort slot = length (slot_bytes slot) ≤ 303

unit_short : (us : List ℕ) → length us ≤ 100 → IsShort (Some (Utf8 us))
unit_short us short = omega (arith, utf_short us, short)

common_short : AllByRecursion IsShort common_slots
common_short = (unit_short (codes "Gen") (omega arith), (omega arith, (unit_short (codes "java/lang/Object") (omega arith), (omega arith, (unit_short (codes "Code") (omega arith), (unit_short (codes "I") (omega arith), (unit_short (codes "()V") (omega arith), (unit_short (codes "electric/Env") (omega arith), (omega arith, (unit_short (codes "print") (omega arith), (unit_short (codes "(I)V") (omega arith), (omega arith, (omega arith, tt)))))))))))))

name_short : (letter n : ℕ) → n ≤ 1025 → IsShort (Some (Utf8 (letter ∷ decimal n)))
name_short letter n few = unit_short (letter ∷ decimal n) (omega (arith, decimal_short n few))

group_short : (g : ℕ) → g ≤ 1025 → AllByRecursion IsShort (group_slots g)
group_short g few = (name_short 102 g few, (omega arith, (omega arith, tt)))

all_short : (xs : List (Option Entry)) → AllByRecursion IsShort xs → length (flat_map slot_bytes xs) ≤ 303 * length xs
all_short [] h = omega arith
all_short (x ∷ xs) h = omega (arith, h.0, length-append (slot_bytes x) (flat_map slot_bytes xs), all_short xs h.1)

pool_short : (k : ℕ) → k ≤ 1024 → length (flat_map slot_bytes (slots k)) ≤ 303 * (13 + 3 * group_count k + k)
pool_short k few =
    let each = each_slot IsShort k common_short (λ g less. group_short g (omega (arith, less, few))) (λ i low. name_short 116 i (omega (arith, low, few))) in
    omega (arith, all_short (slots k) each, slots_count k)

fields_short : (names : Names) (a n : ℕ) → length (flat_map (field_bytes names) (map field_of (range_with_len a n))) ≤ 8 * n
fields_short names a zero = omega arith
fields_short names a (suc n) = omega (arith, fields_short names (a + 1) n)

code_short : (names : Names) (i : ℕ) (first third : Bool) → length (part_bytes names (cond first (setting i) (cond third (adding i) (printing i)))) ≤ 60
unfolding shape_of
code_short names i true third = omega arith
code_short names i false true = omega arith
code_short names i false false = omega arith

method_short : (names : Names) (k i : ℕ) → length (method_bytes names (method_of k i)) ≤ 80
method_short names k i = omega (arith, code_short names i (eqb ((i - 1) % 4) 0) (eqb ((i - 1) % 4) 2))

methods_short : (names : Names) (k a n : ℕ) → length (flat_map (method_bytes names) (map (method_of k) (range_with_len a n))) ≤ 80 * n
methods_short names k a zero = omega arith
methods_short names k a (suc n) = omega (arith, length-append (method_bytes names (method_of k a)) (flat_map (method_bytes names) (map (method_of k) (range_with_len (a + 1) n))), method_short names k a, methods_short names k (a + 1) n)

class_short : (k : ℕ) → k ≤ 1024 → length (class_spelling (generated_class k)) ≤ 1048576
unfolding generated_class
class_short k few =
    let names = names_of (slots k) in
    let fields = flat_map (field_bytes names) (map field_of (range_with_len 0 (group_count k))) in
    let methods = flat_map (method_bytes names) (map (method_of k) (range_with_len 1 k)) in
    omega (
      arith,
      few,
      length-append (flat_map slot_bytes (slots k)) (body_bytes (generated_class k)),
      length-append fields (listed_bytes (method_bytes names) (map (method_of k) (range_with_len 1 k)) ++ short_bytes 0),
      length-append methods (short_bytes 0),
      pool_short k few,
      fields_short names 0 (group_count k),
      methods_short names k 1 k,
    )

-- ---- reading

suite_read : (k : ℕ) → k ≤ 1024 → suite_in (suite_files k) suite_name ≡ Ok (said_suite k)
unfolding suite_in file_of content
suite_read k few = ap (λ b. cond b (Ok (suite_text k)) (Err (fault.TooLarge suite_name)) >>= λ bytes. suite_answer (suite_of bytes)) (le-leb (length (suite_text k)) 1048576 (text_short k few)) ∙ ap suite_answer (text_law k few)

class_read : (k : ℕ) → k ≤ 1024 → class_in (suite_files k) 0 class_file ≡ Ok (generated_class k, 0 + length (class_spelling (generated_class k)))
unfolding class_in file_of content
class_read k few =
    let bytes = class_spelling (generated_class k) in
    let next = λ (b : List ℕ). class_answer class_file (class_of b) >>= λ c. Ok (c, 0 + length b) in
    ap (λ t. cond t (Ok bytes) (Err (fault.TooLarge class_file)) >>= next) (le-leb (length bytes) 1048576 (class_short k few)) ∙ ap (λ r. class_answer class_file r >>= λ c. Ok (c, 0 + length bytes)) (class_law k few)

pub read_law : ReadLaw
unfolding read_in classes_in said_suite
read_law k few = rw (suite_read k few) (rw (class_read k few) refl)
