-- The suite text of k tests is read as what it says.
use Rattle.std.proofs.Common.{◌≡◌, ℕ, zero, suc, ◌+◌, ◌-◌, ◌<◌, ◌≤◌, Bool, true, false, not, cond, eqb, nat_le, ◌&&◌, List, [], ◌∷◌, ◌++◌, length, map, get_or, take, drop, decimal, fold, pos, Some, None, Ok, refl, sym, ap, ◌∙◌, arith}
use Rattle.std.specs.Prelude.{codes}
use Rattle.std.specs.List.{list_all, list_any, flat_map, range_with_len, slice_split, suffix_len, position_or_len}
use Rattle.std.specs.Str.{bytes_eq}
use Rattle.std.proofs.lemmas.Bool.{and_from, le-ltb, lt-ltb, ne_eqb, le-leb}
use Rattle.std.proofs.lemmas.{Bool.Decides.nat_tests, List.FromFn.length-map-range_with_len, List.FromFn.map-range_with_len_more}
use Rattle.std.proofs.lemmas.List.{append_assoc, append-nil, length-map, Splits.slice_split_at, Splits.slice_split_none, Splits.length-slice_split}
use Rattle.std.proofs.lemmas.List.Sums.{fold-append, AllPass-from_list_all, position_or_len_is, suffix_len_is}
use Rattle.suite_gen.specs.Generated.{suite_text}
use Rattle.suite_gen.specs.Generated as generated
use Rattle.dep_record.specs.Fields.{is_printable, number_up_to, digits_up_to}
use Rattle.suite_load.specs.declared.suite_line.SuiteLine.{SuiteLine, TheVariants.Header, TheVariants.Class, TheVariants.Test, TheVariants.End}
use Rattle.suite_load.specs.{declared.suite_text.TestLine.TestLine, LineForms.Row, LineForms.rows, LineForms.rows_of_pieces, LineForms.cut}
use Rattle.suite_load.specs.{NumberForms.clock_of, NumberForms.seed_of, Reading.◌>>=◌}
use Rattle.suite_load.specs.NameForms.{is_word_byte, is_identifier, is_test_name, is_depot_name, is_segment}
use Rattle.suite_load.specs.SuiteForm.{added, empty_suite, suite_from, test_names, is_in_order, is_ended, is_end, place_of, first_word, line_of, fresh, placed, one_field, class_line, class_name, stream_fields, stream_of, test_from, test_class, test_method, test_of, test_line, end_line, later_line, first_line, next_line, lines_from, whole, suite_of}
use Rattle.generated_law.specs.GeneratedSuite.{test_name, method_name, said_test, class_file, said_suite}
use Rattle.generated_law.specs.GeneratedLaw.{TextLaw}
use Rattle.generated_law.proofs.Decimals.{decimal_passes, none_pass, decimals_differ}

-- ---- rows

abbrev newline : ℕ → Bool
newline b = eqb b 10

-- a line that a line feed ends
abbrev row_of : List ℕ → Row
row_of line = record { bytes = line; ended = true }

ended_first : (piece : List ℕ) (pieces : List (List ℕ)) → 0 < length pieces → rows_of_pieces (piece ∷ pieces) ≡ row_of piece ∷ rows_of_pieces pieces
ended_first piece [] some = absurd (omega (arith, some))
ended_first piece (next ∷ more) some = refl

first_row : (line more : List ℕ) → list_all (λ b. not (newline b)) line ≡ true → rows (line ++ 10 ∷ more) ≡ row_of line ∷ rows more
unfolding rows
first_row line more plain = ap rows_of_pieces (slice_split_at newline line 10 more (none_pass newline line plain) refl)
    ∙ ended_first line (slice_split newline more) (omega (arith, length-slice_split newline more))

test_plain : (i : ℕ) → i ≤ 1025 → list_all (λ b. not (newline b)) (codes "test " ++ test_name i) ≡ true
test_plain i few = decimal_passes (λ b. not (newline b)) (λ d low high. ap not (ne_eqb d 10 (λ e. omega (arith, low, e)))) i few

abbrev test_row : ℕ → Row
test_row i = row_of (codes "test " ++ test_name i)

-- a line between others
line_up : (front name others more : List ℕ) → ((front ++ (name ++ 10 ∷ [])) ++ others) ++ more ≡ (front ++ name) ++ 10 ∷ (others ++ more)
line_up front name others more =
    append_assoc (front ++ (name ++ 10 ∷ [])) others more ∙ (append_assoc front (name ++ 10 ∷ []) (others ++ more)
    ∙ (ap (λ (l : List ℕ). front ++ l) (append_assoc name (10 ∷ []) (others ++ more)) ∙ sym (append_assoc front name (10 ∷ (others ++ more)))))

test_rows : (a n : ℕ) (more : List ℕ) → a + n ≤ 1025 → rows (flat_map generated.test_line (range_with_len a n) ++ more) ≡ map test_row (range_with_len a n) ++ rows more
test_rows a zero more few = refl
test_rows a (suc n) more few =
    ap rows (line_up (codes "test Gen.t") (decimal a) (flat_map generated.test_line (range_with_len (a + 1) n)) more)
    ∙ (first_row (codes "test " ++ test_name a) (flat_map generated.test_line (range_with_len (a + 1) n) ++ more) (test_plain a (omega (arith, few)))
    ∙ ap (λ (rs : List Row). test_row a ∷ rs) (test_rows (a + 1) n more (omega (arith, few))))

none_left : rows [] ≡ []
unfolding rows
none_left = refl

suite_rows : (k : ℕ) → k ≤ 1024 → rows (suite_text k) ≡ row_of (codes "electric-suite 1") ∷ row_of (codes "class Gen.class") ∷ (map test_row (range_with_len 1 k) ++ row_of (codes "end") ∷ [])
unfolding suite_text
suite_rows k few =
    let last : rows (codes "end" ++ 10 ∷ []) ≡ row_of (codes "end") ∷ [] = first_row (codes "end") [] refl ∙ ap (λ (rs : List Row). row_of (codes "end") ∷ rs) none_left in
    let tests = test_rows 1 k (codes "end" ++ 10 ∷ []) (omega (arith, few)) ∙ ap (λ (rs : List Row). map test_row (range_with_len 1 k) ++ rs) last in
    let text = flat_map generated.test_line (range_with_len 1 k) ++ (codes "end" ++ 10 ∷ []) in
    first_row (codes "electric-suite 1") (codes "class Gen.class" ++ 10 ∷ text) refl
    ∙ ap (λ (rs : List Row). row_of (codes "electric-suite 1") ∷ rs) (first_row (codes "class Gen.class") text refl ∙ ap (λ (rs : List Row). row_of (codes "class Gen.class") ∷ rs) tests)

-- ---- the lines before a test

-- the lines of n tests, from test a on
abbrev tests_from : ℕ → ℕ → List SuiteLine
tests_from a n = map (λ i. Test (said_test i)) (range_with_len a n)

-- the lines before test n + 1
abbrev lines_to : ℕ → List SuiteLine
lines_to n = Header ∷ Class class_file ∷ tests_from 1 n

said_tests : (a n : ℕ) (classes : List (List ℕ)) (front : List TestLine) → fold added (record { budget = 1000000; classes = classes; files = []; tests = front }) (tests_from a n)
    ≡ record { budget = 1000000; classes = classes; files = []; tests = front ++ map said_test (range_with_len a n) }
said_tests a zero classes front = ap (λ (ts : List TestLine). record { budget = 1000000; classes = classes; files = []; tests = ts }) (sym (append-nil front))
said_tests a (suc n) classes front = said_tests (a + 1) n classes (front ++ said_test a ∷ [])
    ∙ ap (λ (ts : List TestLine). record { budget = 1000000; classes = classes; files = []; tests = ts }) (append_assoc front (said_test a ∷ []) (map said_test (range_with_len (a + 1) n)))

lines_say : (n : ℕ) → suite_from (lines_to n) ≡ said_suite n
unfolding suite_from said_suite
lines_say n = said_tests 1 n (class_file ∷ []) []

names_of : (n : ℕ) → test_names (lines_to n) ≡ map (λ t. t.name) (map said_test (range_with_len 1 n))
unfolding said_suite
names_of n = ap (λ suite. map (λ t. t.name) suite.tests) (lines_say n)

not_ended_from : (a n : ℕ) → list_any is_end (tests_from a n) ≡ false
not_ended_from a zero = refl
not_ended_from a (suc n) = not_ended_from (a + 1) n

not_ended : (n : ℕ) → is_ended (lines_to n) ≡ false
unfolding is_ended
not_ended n = not_ended_from 1 n

in_order_from : (a n : ℕ) → list_all (λ l. nat_le (place_of l) 4) (tests_from a n) ≡ true
in_order_from a zero = refl
in_order_from a (suc n) = in_order_from (a + 1) n

in_order : (n : ℕ) → is_in_order (lines_to n) 4 ≡ true
unfolding is_in_order
in_order n = in_order_from 1 n

new_name : (a n i : ℕ) → a + n ≤ i → i ≤ 1025 → list_any (bytes_eq (test_name i)) (map (λ t. t.name) (map said_test (range_with_len a n))) ≡ false
new_name a zero i before few = refl
new_name a (suc n) i before few = rw (decimals_differ a i (omega (arith, before)) few) (new_name (a + 1) n i (omega (arith, before)) few)

-- ---- a test's line

plain_name : (i : ℕ) → i ≤ 1025 → list_all (λ b. not (eqb b 32)) (test_name i) ≡ true
plain_name i few = decimal_passes (λ b. not (eqb b 32)) (λ d low high. ap not (ne_eqb d 32 (λ e. omega (arith, low, e)))) i few

-- a text without the separator
uncut : (separator : ℕ) (bytes : List ℕ) → list_all (λ b. not (eqb b separator)) bytes ≡ true → cut separator bytes ≡ (bytes, None)
unfolding cut
uncut separator bytes plain =
    let none = none_pass (λ b. eqb b separator) bytes plain in
    let at : position_or_len (λ b. eqb b separator) bytes ≡ length bytes = position_or_len_is (λ b. eqb b separator) bytes (length bytes) 0 (omega arith) (λ k lt. none k 0 lt) (λ lt. absurd (omega (arith, lt))) in
    rw at (rw (le-ltb (length bytes) (length bytes) (omega arith)) refl)

cut_test : (i : ℕ) → cut 32 (codes "test " ++ test_name i) ≡ (codes "test", Some (test_name i))
unfolding cut
cut_test i = rw (lt-ltb 4 (length (codes "test " ++ test_name i)) (omega arith)) refl

printable : (i : ℕ) → i ≤ 1025 → list_all is_printable (codes "test " ++ test_name i) ≡ true
printable i few = decimal_passes is_printable (λ d low high. and_from _ _ (le-leb 32 d (omega (arith, low))) (le-leb d 126 (omega (arith, high)))) i few

abbrev is_dot : ℕ → Bool
is_dot b = eqb b 46

word_digit : (d : ℕ) → 48 ≤ d → d ≤ 57 → is_word_byte d ≡ true
word_digit d low high = grind (arith, nat_tests)

no_dot : (i : ℕ) → i ≤ 1025 → list_all (λ b. not (is_dot b)) (method_name i) ≡ true
no_dot i few = decimal_passes (λ b. not (is_dot b)) (λ d low high. ap not (ne_eqb d 46 (λ e. omega (arith, low, e)))) i few

name_parts : (i : ℕ) → i ≤ 1025 → slice_split is_dot (test_name i) ≡ codes "Gen" ∷ method_name i ∷ []
name_parts i few = slice_split_at is_dot (codes "Gen") 46 (method_name i) (none_pass is_dot (codes "Gen") refl) refl
    ∙ ap (λ (ps : List (List ℕ)). codes "Gen" ∷ ps) (slice_split_none is_dot (method_name i) (none_pass is_dot (method_name i) (no_dot i few)))

identifier : (i : ℕ) → i ≤ 1025 → is_identifier (method_name i) ≡ true
unfolding is_identifier
identifier i few = and_from _ _ (ap not (ne_eqb (length (method_name i)) 0 (λ e. omega (arith, e)))) (decimal_passes is_word_byte word_digit i few)

named : (i : ℕ) → i ≤ 1025 → is_test_name (test_name i) ≡ true
unfolding is_test_name is_identifier
named i few = ap (λ parts. nat_le 2 (length parts) && list_all is_identifier parts) (name_parts i few) ∙ and_from (is_identifier (method_name i)) true (identifier i few) refl

-- behind the first four bytes, the last of which is a dot, is none
behind_dot : (a b c : ℕ) (name : List ℕ) → list_all (λ u. not (is_dot u)) name ≡ true → suffix_len (λ u. not (is_dot u)) (a ∷ b ∷ c ∷ 46 ∷ name) ≡ length name
behind_dot a b c name plain =
    suffix_len_is (λ u. not (is_dot u)) (a ∷ b ∷ c ∷ 46 ∷ name) 4 0 (omega arith) passes (λ _. refl) ∙ omega arith
  where
    passes : (k : ℕ) → 4 ≤ k → k < length (a ∷ b ∷ c ∷ 46 ∷ name) → not (is_dot (get_or (a ∷ b ∷ c ∷ 46 ∷ name) k 0)) ≡ true
    passes zero low lt = absurd (omega (arith, low))
    passes (suc zero) low lt = absurd (omega (arith, low))
    passes (suc (suc zero)) low lt = absurd (omega (arith, low))
    passes (suc (suc (suc zero))) low lt = absurd (omega (arith, low))
    passes (suc (suc (suc (suc j)))) low lt = AllPass-from_list_all (λ u. not (is_dot u)) name plain j 0 (omega (arith, lt))

method_is : (i : ℕ) → i ≤ 1025 → test_method (test_name i) ≡ method_name i
unfolding test_method
method_is i few =
    let e = behind_dot 71 101 110 (method_name i) (no_dot i few) in
    let four : length (test_name i) - length (method_name i) ≡ 4 = omega arith in
    ap (λ n. drop (length (test_name i) - n) (test_name i)) e ∙ ap (λ n. drop n (test_name i)) four

class_is : (i : ℕ) → i ≤ 1025 → test_class (test_name i) ≡ codes "Gen"
unfolding test_class
class_is i few =
    let e = behind_dot 71 101 110 (method_name i) (no_dot i few) in
    let three : length (test_name i) - length (method_name i) - 1 ≡ 3 = omega arith in
    ap (λ n. map (λ b. cond (eqb b 46) 47 b) (take (length (test_name i) - n - 1) (test_name i))) e ∙ ap (λ n. map (λ b. cond (eqb b 46) 47 b) (take n (test_name i))) three

stream_is : (before : List SuiteLine) → stream_of before (codes "0", codes "0") ≡ Ok (pos 0, 0)
unfolding stream_of clock_of seed_of number_up_to digits_up_to
stream_is before = refl

fresh_name : (n : ℕ) → n < 1024 → fresh (lines_to n) (test_names (lines_to n)) (test_name (n + 1)) ≡ Ok tt
unfolding fresh
fresh_name n few =
    let new = ap (list_any (bytes_eq (test_name (n + 1)))) (names_of n) ∙ new_name 1 n (n + 1) (omega arith) (omega (arith, few)) in
    let count : length (test_names (lines_to n)) ≡ n = ap length (names_of n) ∙ (length-map (map said_test (range_with_len 1 n)) (λ t. t.name) ∙ length-map-range_with_len said_test 1 n) in
    rw (new, count) (rw (lt-ltb n 1024 few) refl)

count_lines : (n : ℕ) → length (lines_to n) ≡ n + 2
count_lines n = omega (arith, length-map-range_with_len (λ i. Test (said_test i)) 1 n)

test_said : (n : ℕ) → n < 1024 → test_of (lines_to n) (test_name (n + 1)) (codes "0", codes "0") ≡ Ok (said_test (n + 1))
unfolding test_of placed test_from
test_said n few =
    let m : n + 1 ≤ 1025 = omega (arith, few) in
    let line : length (lines_to n) + 1 ≡ n + 1 + 2 = omega (arith, count_lines n) in
    rw (in_order n) (rw (named (n + 1) m) (rw (stream_is (lines_to n)) (rw (fresh_name n few) (rw (line, class_is (n + 1) m, method_is (n + 1) m) refl))))

later : (before : List SuiteLine) (row : Row) → 0 < length before → next_line before row ≡ later_line before row
unfolding next_line
later before row some = rw (ne_eqb (length before) 0 (λ e. omega (arith, some, e))) refl

test_later : (n : ℕ) → n < 1024 → later_line (lines_to n) (test_row (n + 1)) ≡ Ok (Test (said_test (n + 1)))
unfolding later_line first_word line_of test_line stream_fields
test_later n few =
    let m : n + 1 ≤ 1025 = omega (arith, few) in
    rw (not_ended n) (rw (printable (n + 1) m) (rw (cut_test (n + 1)) (rw (uncut 32 (test_name (n + 1)) (plain_name (n + 1) m)) (rw (test_said n few) refl))))

test_read : (n : ℕ) → n < 1024 → next_line (lines_to n) (test_row (n + 1)) ≡ Ok (Test (said_test (n + 1)))
test_read n few = later (lines_to n) (test_row (n + 1)) (omega arith) ∙ test_later n few

lines_more : (n : ℕ) → lines_to n ++ Test (said_test (n + 1)) ∷ [] ≡ lines_to (n + 1)
lines_more n = ap (λ (ls : List SuiteLine). Header ∷ Class class_file ∷ ls) (sym (map-range_with_len_more (λ i. Test (said_test i)) 1 n (n + 1) (omega arith)))

end_later : (n : ℕ) → later_line (lines_to n) (row_of (codes "end")) ≡ Ok End
unfolding later_line first_word line_of end_line cut
end_later n = rw (not_ended n) refl

end_read : (n : ℕ) → next_line (lines_to n) (row_of (codes "end")) ≡ Ok End
end_read n = later (lines_to n) (row_of (codes "end")) (omega arith) ∙ end_later n

ended_whole : (n : ℕ) → whole (lines_to n ++ End ∷ []) ≡ Ok (lines_to n ++ End ∷ [])
unfolding whole is_ended
ended_whole n = rw (ended_from 1 n) refl
  where
    ended_from : (a n : ℕ) → list_any is_end (tests_from a n ++ End ∷ []) ≡ true
    ended_from a zero = refl
    ended_from a (suc n) = ended_from (a + 1) n

tests_read : (n m : ℕ) → n + m ≤ 1024 → lines_from (lines_to n) (map test_row (range_with_len (n + 1) m) ++ row_of (codes "end") ∷ []) ≡ Ok (lines_to (n + m) ++ End ∷ [])
tests_read n zero few = rw (end_read n) (ended_whole n ∙ ap (λ j. Ok (lines_to j ++ End ∷ [])) (omega arith))
tests_read n (suc m) few = rw (test_read n (omega (arith, few))) (rw (lines_more n) (tests_read (n + 1) m (omega (arith, few)) ∙ ap (λ j. Ok (lines_to j ++ End ∷ [])) (omega arith)))

header_read : next_line [] (row_of (codes "electric-suite 1")) ≡ Ok Header
unfolding next_line first_line
header_read = refl

class_read : next_line (Header ∷ []) (row_of (codes "class Gen.class")) ≡ Ok (Class class_file)
unfolding next_line later_line first_word line_of class_line class_name one_field placed fresh is_depot_name is_segment is_in_order is_ended suite_from cut
class_read = refl

end_adds : (n : ℕ) → suite_from (lines_to n ++ End ∷ []) ≡ suite_from (lines_to n)
unfolding suite_from
end_adds n = fold-append added empty_suite (lines_to n) (End ∷ [])

pub text_law : TextLaw
unfolding suite_of
text_law k few =
    let tests = map test_row (range_with_len 1 k) ++ row_of (codes "end") ∷ [] in
    let start : 0 + k ≡ k = omega arith in
    let read : lines_from [] (row_of (codes "electric-suite 1") ∷ row_of (codes "class Gen.class") ∷ tests) ≡ Ok (lines_to k ++ End ∷ []) = rw header_read (rw class_read (tests_read 0 k (omega (arith, few)) ∙ ap (λ j. Ok (lines_to j ++ End ∷ [])) start)) in
    let all : lines_from [] (rows (suite_text k)) ≡ Ok (lines_to k ++ End ∷ []) = ap (lines_from []) (suite_rows k few) ∙ read in
    ap (λ r. r >>= λ lines. Ok (suite_from lines)) all ∙ ap Ok (end_adds k ∙ lines_say k)
