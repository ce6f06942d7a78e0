-- The text of what a field or a line says is read as that.
use Rattle.std.proofs.Common.{◌≡◌, ℕ, zero, suc, ◌/◌, ◌%◌, ◌<◌, ◌≤◌, ◌^◌, Bool, true, false, not, eqb, ◌&&◌, nat_le, nat_lt, List, [], ◌∷◌, ◌++◌, length, map, get_or, slice_index, Option, Some, None, refl, sym, ap, ◌∙◌, inl, inr, ◌⊎◌, arith}
use Rattle.std.specs.Prelude.{codes, decimal}
use Rattle.std.specs.{Option.option_and_then, List.list_all, Char.is_ascii_digit, Str.bytes_eq, Str.all_ascii_digits}
use Rattle.std.proofs.lemmas.Bool.{and_parts, and_from, and_left, or_from, false≢true, not-true, eqb-true, ne_eqb, le-leb, leb-true, ltb-true, not_from_false, cases_lt, agree_below_at}
use Rattle.std.proofs.lemmas.List.{append-nil}
use Rattle.std.proofs.{lemmas.List.Folds.list_all-append, lemmas.Slice.Eq.bytes_eq-Decides}
use Rattle.std.proofs.lemmas.Fmt.{decimal_digit, digits_decimal, digits_value-decimal, decimal_nonempty, first_decimal}
use Rattle.hex.specs.Hex.{encode_lower, encode_with, lower_digits, IsBytes}
use Rattle.hex.proofs.HexLemmas.{decode_sized-encode_lower}
use Rattle.order_law.specs.declared.edges.{Edge.Edge, EdgeKind.EdgeKind, EdgeKind.TheVariants.Raw, EdgeKind.TheVariants.Waw, EdgeKind.TheVariants.War}
use Rattle.order_law.specs.declared.records.Reach.{Reach}
use Rattle.order_law.specs.RecordForm.{is_edge, is_reach}
use Rattle.dep_record.specs.RecordText.{is_hash, worded, header_line, state_word, kind_word, numbers_text, more_numbers, class_line, units_line, reach_line, edge_fields, edge_line}
use Rattle.dep_record.specs.Fields.{cut, after, after_number, digits_up_to, number_up_to, number_of, numbers_of, numbers_in, hash_of, header_of, hash_after, number_after, class_of, units_of, state_of, reach_from, reach_of, kind_of, number_first, edge_of, follows, next_edge}
use Rattle.dep_record.proofs.FieldLaws.{own}
use Rattle.dep_record.proofs.CutLaws.{has_none, cut_first, parts_of, pieces_by, pieces_are}

same_text : (x : List ℕ) → bytes_eq x x ≡ true
same_text x = (bytes_eq-Decides x x).1 refl

-- ---- no separator

pub none_of_two : (s : ℕ) (a b : List ℕ) → has_none s a ≡ true → has_none s b ≡ true → has_none s (a ++ b) ≡ true
none_of_two s a b h g = list_all-append (λ x. not (eqb x s)) a b ∙ and_from _ _ h g

differ : (s b : ℕ) (hit : Bool) → eqb b s ≡ hit → is_ascii_digit s ≡ false → is_ascii_digit b ≡ true → not (eqb b s) ≡ true
differ s b true e n d = absurd (false≢true (sym n ∙ ap is_ascii_digit (sym (eqb-true b s e)) ∙ d))
differ s b false e n d = rw e refl

digits_have_none : (s : ℕ) (bs : List ℕ) → is_ascii_digit s ≡ false → all_ascii_digits bs ≡ true → has_none s bs ≡ true
digits_have_none s [] n h = refl
digits_have_none s (b ∷ bs) n h =
    let a = and_parts _ _ h in
    and_from _ _ (differ s b (eqb b s) refl n a.0) (digits_have_none s bs n a.1)

pub none_in_decimal : (s n : ℕ) → is_ascii_digit s ≡ false → n < 2 ^ 64 → has_none s (decimal n) ≡ true
none_in_decimal s n differs fits = digits_have_none s (decimal n) differs (digits_decimal own n fits)

cut_none : (s : ℕ) (bs : List ℕ) → has_none s bs ≡ true → cut s bs ≡ None
cut_none s [] h = refl
cut_none s (b ∷ bs) h =
    let a = and_parts _ _ h in
    let e : eqb b s ≡ false = not-true (eqb b s) a.0 in
    rw (e, cut_none s bs a.1) refl

pub one_piece : (s : ℕ) (bs : List ℕ) → has_none s bs ≡ true → parts_of s bs ≡ bs ∷ []
one_piece s bs h = pieces_are s bs ∙ ap (pieces_by s bs) (cut_none s bs h)

pub first_piece : (s : ℕ) (front rest : List ℕ) → has_none s front ≡ true → parts_of s (front ++ s ∷ rest) ≡ front ∷ parts_of s rest
first_piece s front rest h = pieces_are s (front ++ s ∷ rest) ∙ ap (pieces_by s (front ++ s ∷ rest)) (cut_first s front rest h)

-- ---- numbers

no_zero : (n : ℕ) → n < 2 ^ 64 → (0 < n) ⊎ (n ≤ 0) → (eqb (slice_index (decimal n) 0) 48 && not (eqb (length (decimal n)) 1)) ≡ false
no_zero n fits (inl some) =
    let first : 48 < get_or (decimal n) 0 0 = first_decimal n some fits in
    and_left _ _ (ne_eqb (slice_index (decimal n) 0) 48 (λ e. omega arith))
no_zero n fits (inr none) =
    let zero : n ≡ 0 = omega arith in
    let one : decimal n ≡ 48 ∷ [] = ap decimal zero ∙ decimal_digit 0 (omega arith) in
    rw one refl

pub number_given : (most n : ℕ) → n ≤ most → n < 2 ^ 64 → number_up_to most (decimal n) ≡ Some n
unfolding number_up_to digits_up_to
number_given most n le fits =
    let digits = digits_decimal own n fits in
    let value = digits_value-decimal own n fits in
    let some = decimal_nonempty n fits in
    let start = or_from _ _ (ne_eqb (length (decimal n)) 0 (λ e. omega arith)) (no_zero n fits (cases_lt 0 n)) in
    rw (start, digits, value, le-leb n most le) refl

abbrev pub is_small : ℕ → Bool
is_small n = nat_le n 4294967295

small_fits : (n : ℕ) → is_small n ≡ true → n < 2 ^ 64
small_fits n h = let le : n ≤ 4294967295 = leb-true n 4294967295 h in omega arith

pub number_of_given : (n : ℕ) → n ≤ 4294967295 → number_of (decimal n) ≡ Some n
number_of_given n le = number_given 4294967295 n le (omega arith)

numbers_of_given : (ns : List ℕ) → list_all is_small ns ≡ true → numbers_of (map decimal ns) ≡ Some ns
numbers_of_given [] h = refl
numbers_of_given (n ∷ ns) h =
    let a = and_parts _ _ h in
    rw (number_of_given n (leb-true _ _ a.0), numbers_of_given ns a.1) refl

split_more : (ns : List ℕ) (front : List ℕ) → list_all is_small ns ≡ true → has_none 44 front ≡ true → parts_of 44 (front ++ more_numbers ns) ≡ front ∷ map decimal ns
split_more [] front h f = one_piece 44 (front ++ []) (none_of_two 44 front [] f refl) ∙ ap (λ t. t ∷ []) (append-nil front)
split_more (n ∷ ns) front h f =
    let a = and_parts _ _ h in
    let d = none_in_decimal 44 n refl (small_fits n a.0) in
    first_piece 44 front (decimal n ++ more_numbers ns) f ∙ ap (λ t. front ∷ t) (split_more ns (decimal n) a.1 d)

numbers_given : (ns : List ℕ) → 1 ≤ length ns → list_all is_small ns ≡ true → numbers_in (numbers_text ns) ≡ Some ns
numbers_given [] some h = absurd (omega arith)
numbers_given (n ∷ ns) some h =
    let a = and_parts _ _ h in
    ap numbers_of (split_more ns (decimal n) a.1 (none_in_decimal 44 n refl (small_fits n a.0))) ∙ numbers_of_given (n ∷ ns) h

-- ---- words

pub after_given : (word rest : List ℕ) → has_none 32 word ≡ true → after word (worded word rest) ≡ Some rest
unfolding after
after_given word rest h = rw (cut_first 32 word rest h, same_text word) refl

after_number_given : (word : List ℕ) (n : ℕ) (rest : List ℕ) → has_none 32 word ≡ true → n < 2 ^ 64 → after_number word n (worded word (worded (decimal n) rest)) ≡ Some rest
after_number_given word n rest h fits = ap (option_and_then (after (decimal n))) (after_given word (worded (decimal n) rest) h) ∙ after_given (decimal n) rest (none_in_decimal 32 n refl fits)

pub header_given : (newer : Bool) → header_of (header_line newer) ≡ Some newer
unfolding header_of
header_given true = refl
header_given false = refl

state_given : (settled : Bool) → state_of (state_word settled) ≡ Some settled
unfolding state_of
state_given true = refl
state_given false = refl

-- no space in a word, and no line feed
state_none : (settled : Bool) → (has_none 32 (state_word settled) ≡ true) × (has_none 10 (state_word settled) ≡ true)
state_none true = (refl, refl)
state_none false = (refl, refl)

kind_given : (kind : EdgeKind) → kind_of (kind_word kind) ≡ Some kind
unfolding kind_of
kind_given Raw = refl
kind_given Waw = refl
kind_given War = refl

kind_none : (kind : EdgeKind) → (has_none 32 (kind_word kind) ≡ true) × (has_none 10 (kind_word kind) ≡ true)
kind_none Raw = (refl, refl)
kind_none Waw = (refl, refl)
kind_none War = (refl, refl)

-- ---- sums

pub record IsHash (hash : List ℕ) : Type 0 where
  pub size : length hash ≡ 32
  pub bytes : IsBytes hash

bytes_from : (bytes : List ℕ) → list_all (λ b. nat_lt b 256) bytes ≡ true → IsBytes bytes
bytes_from [] h i = omega arith
bytes_from (b ∷ bs) h zero = ltb-true b 256 (and_parts _ _ h).0
bytes_from (b ∷ bs) h (suc i) = bytes_from bs (and_parts _ _ h).1 i

pub hash_from : (hash : List ℕ) → is_hash hash ≡ true → IsHash hash
hash_from hash h = let a = and_parts _ _ h in record { size = eqb-true _ _ a.0; bytes = bytes_from hash a.1 }

hash_given : (hash : List ℕ) → IsHash hash → hash_of (encode_lower hash) ≡ Some hash
unfolding hash_of
hash_given hash h = rw (decode_sized-encode_lower hash 32 h.size h.bytes, same_text (encode_lower hash)) refl

pub hash_after_given : (word hash : List ℕ) → has_none 32 word ≡ true → IsHash hash → hash_after word (worded word (encode_lower hash)) ≡ Some hash
unfolding hash_after
hash_after_given word hash n h = ap (option_and_then hash_of) (after_given word (encode_lower hash) n) ∙ hash_given hash h

pub number_after_given : (word : List ℕ) (n : ℕ) → has_none 32 word ≡ true → n ≤ 1024 → number_after 1024 word (worded word (decimal n)) ≡ Some n
unfolding number_after
number_after_given word n h le = ap (option_and_then (number_up_to 1024)) (after_given word (decimal n) h) ∙ number_given 1024 n le (omega arith)

-- ---- lines

pub class_given : (j : ℕ) (hash : List ℕ) → j < 2 ^ 64 → is_hash hash ≡ true → class_of j (class_line j hash) ≡ Some hash
unfolding class_of
class_given j hash fits h = ap (option_and_then hash_of) (after_number_given (codes "class") j (encode_lower hash) refl fits) ∙ hash_given hash (hash_from hash h)

pub units_given : (i n : ℕ) → i < 2 ^ 64 → nat_le n (2 ^ 26) ≡ true → units_of i (units_line i n) ≡ Some n
unfolding units_of
units_given i n fits h =
    let le : n ≤ 2 ^ 26 = leb-true n (2 ^ 26) h in
    ap (option_and_then (number_up_to (2 ^ 26))) (after_number_given (codes "units") i (decimal n) refl fits) ∙ number_given (2 ^ 26) n le (omega arith)

small_within : (c : ℕ) (ns : List ℕ) → c ≤ 1024 → list_all (λ x. nat_le 1 x && nat_le x c) ns ≡ true → list_all is_small ns ≡ true
small_within c [] le h = refl
small_within c (n ∷ ns) le h =
    let a = and_parts _ _ h in
    let most : n ≤ c = leb-true n c (and_parts _ _ a.0).1 in
    and_from _ _ (le-leb n 4294967295 (omega arith)) (small_within c ns le a.1)

pub reach_given : (c i : ℕ) (r : Reach) → c ≤ 1024 → i < 2 ^ 64 → is_reach c r ≡ true → reach_of c i (reach_line i r) ≡ Some r
unfolding reach_of reach_from
reach_given c i r le fits h =
    let a = and_parts _ _ h in
    let b = and_parts _ _ a.1 in
    let classes = numbers_given r.classes (leb-true _ _ a.0) (small_within c r.classes le b.0) in
    ap (option_and_then (reach_from c)) (after_number_given (codes "reach") i (worded (state_word r.settled) (numbers_text r.classes)) refl fits)
    ∙ rw (cut_first 32 (state_word r.settled) (numbers_text r.classes) (state_none r.settled).0, state_given r.settled, classes, h) refl

number_first_given : (n : ℕ) (rest : List ℕ) → n ≤ 4294967295 → number_first (worded (decimal n) rest) ≡ Some (n, rest)
unfolding number_first
number_first_given n rest le = rw (cut_first 32 (decimal n) rest (none_in_decimal 32 n refl (omega arith)), number_of_given n le) refl

pub edge_given : (e : Edge) → e.earlier ≤ 4294967295 → e.later ≤ 4294967295 → e.count ≤ 4294967295 → edge_of (edge_line e) ≡ Some e
unfolding edge_of
edge_given e x y z =
    let first = number_first_given e.earlier (worded (decimal e.later) (worded (decimal e.count) e.first)) x in
    let second = number_first_given e.later (worded (decimal e.count) e.first) y in
    let third = number_first_given e.count e.first z in
    rw (cut_first 32 (kind_word e.kind) (edge_fields e) (kind_none e.kind).0, kind_given e.kind, first, second, third) refl

-- the numbers and the location of a conflict
record EdgeParts (tests : ℕ) (e : Edge) : Type 0 where
  below : e.earlier < e.later
  within : e.later ≤ tests
  counted : e.count ≤ 2 ^ 28
  printable : list_all (λ b. nat_le 32 b && nat_le b 126) e.first ≡ true

edge_parts : (tests : ℕ) (e : Edge) → is_edge tests e ≡ true → EdgeParts tests e
edge_parts tests e is =
    let a = and_parts _ _ is in
    let b = and_parts _ _ a.1 in
    let c = and_parts _ _ b.1 in
    let d = and_parts _ _ c.1 in
    let g = and_parts _ _ d.1 in
    let place = and_parts _ _ (and_parts _ _ g.1).1 in
    record {
      below = ltb-true e.earlier e.later b.0;
      within = leb-true e.later tests c.0;
      counted = leb-true e.count (2 ^ 28) g.0;
      printable = place.1;
    }

pub next_edge_given : (tests : ℕ) (before : Option Edge) (e : Edge) → tests ≤ 1024 → is_edge tests e ≡ true → follows before e ≡ true → next_edge tests before (edge_line e) ≡ Some e
unfolding next_edge
next_edge_given tests before e few is f =
    let parts = edge_parts tests e is in
    let below : e.earlier < e.later = parts.below in
    let within : e.later ≤ tests = parts.within in
    let counted : e.count ≤ 2 ^ 28 = parts.counted in
    rw (edge_given e (omega arith) (omega arith) (omega arith), is, f) refl

-- ---- no line feed, 10, in a line

abbrev pub clear : List ℕ → Bool
clear l = has_none 10 l

worded_clear : (word rest : List ℕ) → clear word ≡ true → clear rest ≡ true → clear (worded word rest) ≡ true
worded_clear word rest h g = none_of_two 10 word (32 ∷ rest) h g

decimal_clear : (n : ℕ) → n < 2 ^ 64 → clear (decimal n) ≡ true
decimal_clear n fits = none_in_decimal 10 n refl fits

digit_clear : (k : ℕ) → k < 16 → not (eqb (slice_index lower_digits k) 10) ≡ true
digit_clear k lt = agree_below_at (λ j. not (eqb (slice_index lower_digits j) 10)) (λ j. true) 16 k refl lt

pub hash_clear : (hash : List ℕ) → IsBytes hash → clear (encode_lower hash) ≡ true
unfolding encode_with
hash_clear [] h = refl
hash_clear (b ∷ bs) h =
    let small : b < 256 = h 0 in
    and_from _ _ (digit_clear (b / 16) (omega arith)) (and_from _ _ (digit_clear (b % 16) (omega arith)) (hash_clear bs (λ i. h (suc i))))

pub header_clear : (newer : Bool) → clear (header_line newer) ≡ true
header_clear true = refl
header_clear false = refl

pub hash_line_clear : (word hash : List ℕ) → clear word ≡ true → IsBytes hash → clear (worded word (encode_lower hash)) ≡ true
hash_line_clear word hash w h = worded_clear word (encode_lower hash) w (hash_clear hash h)

pub number_line_clear : (word : List ℕ) (n : ℕ) → clear word ≡ true → n < 2 ^ 64 → clear (worded word (decimal n)) ≡ true
number_line_clear word n w fits = worded_clear word (decimal n) w (decimal_clear n fits)

pub class_clear : (j : ℕ) (hash : List ℕ) → j < 2 ^ 64 → is_hash hash ≡ true → clear (class_line j hash) ≡ true
class_clear j hash fits h =
    let digits = encode_lower hash in
    worded_clear (codes "class") (worded (decimal j) digits) refl (worded_clear (decimal j) digits (decimal_clear j fits) (hash_clear hash (hash_from hash h).bytes))

pub units_clear : (i n : ℕ) → i < 2 ^ 64 → nat_le n (2 ^ 26) ≡ true → clear (units_line i n) ≡ true
units_clear i n fits h =
    let le : n ≤ 2 ^ 26 = leb-true n (2 ^ 26) h in
    worded_clear (codes "units") (worded (decimal i) (decimal n)) refl (worded_clear (decimal i) (decimal n) (decimal_clear i fits) (decimal_clear n (omega arith)))

more_clear : (ns : List ℕ) → list_all is_small ns ≡ true → clear (more_numbers ns) ≡ true
more_clear [] h = refl
more_clear (n ∷ ns) h =
    let a = and_parts _ _ h in
    none_of_two 10 (44 ∷ decimal n) (more_numbers ns) (decimal_clear n (small_fits n a.0)) (more_clear ns a.1)

numbers_clear : (ns : List ℕ) → list_all is_small ns ≡ true → clear (numbers_text ns) ≡ true
numbers_clear [] h = refl
numbers_clear (n ∷ ns) h =
    let a = and_parts _ _ h in
    none_of_two 10 (decimal n) (more_numbers ns) (decimal_clear n (small_fits n a.0)) (more_clear ns a.1)

pub reach_clear : (c i : ℕ) (r : Reach) → c ≤ 1024 → i < 2 ^ 64 → is_reach c r ≡ true → clear (reach_line i r) ≡ true
reach_clear c i r le fits h =
    let b = and_parts _ _ (and_parts _ _ h).1 in
    let list = numbers_text r.classes in
    let rest = worded (state_word r.settled) list in
    worded_clear (codes "reach") (worded (decimal i) rest) refl
    (worded_clear (decimal i) rest (decimal_clear i fits) (worded_clear (state_word r.settled) list (state_none r.settled).1 (numbers_clear r.classes (small_within c r.classes le b.0))))

printable_clear : (t : List ℕ) → list_all (λ b. nat_le 32 b && nat_le b 126) t ≡ true → clear t ≡ true
printable_clear [] h = refl
printable_clear (b ∷ t) h =
    let a = and_parts _ _ h in
    let low : 32 ≤ b = leb-true 32 b (and_parts _ _ a.0).0 in
    and_from _ _ (not_from_false _ (ne_eqb b 10 (λ e. omega arith))) (printable_clear t a.1)

pub edge_clear : (tests : ℕ) (e : Edge) → tests ≤ 1024 → is_edge tests e ≡ true → clear (edge_line e) ≡ true
edge_clear tests e few is =
    let parts = edge_parts tests e is in
    let below : e.earlier < e.later = parts.below in
    let within : e.later ≤ tests = parts.within in
    let counted : e.count ≤ 2 ^ 28 = parts.counted in
    let third = worded (decimal e.count) e.first in
    let second = worded (decimal e.later) third in
    worded_clear (kind_word e.kind) (edge_fields e) (kind_none e.kind).1 (worded_clear (decimal e.earlier) second (decimal_clear e.earlier (omega arith))
    (worded_clear (decimal e.later) third (decimal_clear e.later (omega arith)) (worded_clear (decimal e.count) e.first (decimal_clear e.count (omega arith)) (printable_clear e.first parts.printable))))
