-- The text of a record is short enough to be read.
use Rattle.std.proofs.Common.{◌≡◌, ℕ, zero, suc, ◌+◌, ◌-◌, ◌*◌, ◌^◌, ◌<◌, ◌≤◌, ◌&&◌, Bool, true, false, nat_le, List, [], ◌∷◌, ◌++◌, length, map, refl, sym, ap, ◌∙◌, subst, inl, inr, arith, Option, Some, None, codes, decimal}
use Rattle.std.specs.List.{list_all}
use Rattle.std.proofs.lemmas.Bool.{and_parts, or_cases, leb-true, ltb-true, eqb-true, cases_eq}
use Rattle.std.proofs.lemmas.{Fmt.length-decimal-le, Grind.flat_map-append, List.length-append, List.length-map}
use Rattle.hex.specs.Hex.{encode_lower, lower_digits}
use Rattle.hex.proofs.HexLemmas.{length-encode_with}
use Rattle.order_law.specs.declared.edges.{Edge.Edge, EdgeKind.EdgeKind, EdgeKind.TheVariants.Raw, EdgeKind.TheVariants.Waw, EdgeKind.TheVariants.War}
use Rattle.order_law.specs.declared.records.{More.More, Reach.Reach, Record.Record}
use Rattle.order_law.specs.RecordForm.{is_edge, edge_before, edges_ascend, kind_number, is_record_form, is_reach, is_reach_form, numbers_ascend}
use Rattle.dep_record.specs.RecordText.{ended, text_of, worded, header_line, digest_line, tests_line, class_line, units_line, reach_line, state_word, more_numbers, numbers_text, kind_word, edge_line, end_line, said, is_hash, more_hashes, has_hashes, numbered, file_lines, suite_lines, reach_lines, is_newer, head_lines, lines_of, record_text}

-- ---- edges are few

-- how many pairs there are of the first n tests
abbrev pairs_of : ℕ → ℕ
pairs_of zero = 0
pairs_of (suc n) = pairs_of n + n

pairs_up : (m n : ℕ) → m ≤ n → pairs_of m ≤ pairs_of n
pairs_up zero zero le = omega arith
pairs_up (suc m) zero le = absurd (omega arith)
pairs_up m (suc n) le = elim (cases_eq m (suc n)) [
  | inl same ↦ subst (λ (k : ℕ). pairs_of k ≤ pairs_of (suc n)) (sym same) (omega arith)
  | inr other ↦ let below = pairs_up m n (omega arith) in omega (arith, below)
]

pairs_pred : (l : ℕ) → 1 ≤ l → pairs_of l ≡ pairs_of (l - 1) + (l - 1)
pairs_pred zero h = absurd (omega arith)
pairs_pred (suc m) h = let e : suc m - 1 ≡ m = omega arith in ap (λ (k : ℕ). pairs_of k + k) (sym e)

-- the place of an edge among all that there may be
abbrev rank : Edge → ℕ
rank e = 3 * (pairs_of (e.later - 1) + (e.earlier - 1)) + kind_number e.kind

kind_low : (k : EdgeKind) → kind_number k ≤ 2
kind_low Raw = omega arith
kind_low Waw = omega arith
kind_low War = omega arith

-- an edge between two of n tests
record IsIn (n : ℕ) (e : Edge) : Type 0 where
  low : 1 ≤ e.earlier
  less : e.earlier < e.later
  high : e.later ≤ n
  count : e.count ≤ 268435456
  place : length e.first ≤ 203

is_in : (n : ℕ) (e : Edge) → is_edge n e ≡ true → IsIn n e
is_in n e h =
    let a = and_parts _ _ h in
    let b = and_parts _ _ a.1 in
    let c = and_parts _ _ b.1 in
    let d = and_parts _ _ c.1 in
    let f = and_parts _ _ d.1 in
    let g = and_parts _ _ f.1 in
    let k = and_parts _ _ g.1 in
    record {
      low = leb-true 1 e.earlier a.0;
      less = ltb-true e.earlier e.later b.0;
      high = leb-true e.later n c.0;
      count = leb-true e.count 268435456 f.0;
      place = leb-true (length e.first) 203 k.0;
    }

rank_high : (n : ℕ) (e : Edge) → IsIn n e → rank e < 3 * pairs_of n
rank_high n e h =
    let some : 1 ≤ e.later = omega (arith, h.low, h.less) in
    let here = pairs_pred e.later some in
    let up = pairs_up e.later n h.high in
    let kind = kind_low e.kind in
    omega (arith, h.low, h.less, here, up, kind)

rank_less : (n : ℕ) (e f : Edge) → IsIn n e → IsIn n f → edge_before e f ≡ true → rank e < rank f
rank_less n e f he hf h = elim (or_cases _ _ h) [
  | inl a ↦
      let later = ltb-true e.later f.later a in
      let below = rank_high e.later e (record { low = he.low; less = he.less; high = omega arith; count = he.count; place = he.place }) in
      let up = pairs_up e.later (f.later - 1) (omega (arith, later)) in
      omega (arith, below, up)
  | inr a ↦
      let b = and_parts _ _ a in
      let same : e.later ≡ f.later = eqb-true e.later f.later b.0 in
      let pairs : pairs_of (e.later - 1) ≡ pairs_of (f.later - 1) = ap (λ (k : ℕ). pairs_of (k - 1)) same in
      let kind = kind_low e.kind in
      elim (or_cases _ _ b.1) [
        | inl c ↦ let earlier = ltb-true e.earlier f.earlier c in omega (arith, pairs, kind, earlier, he.low)
        | inr c ↦
            let d = and_parts _ _ c in
            let both : e.earlier ≡ f.earlier = eqb-true e.earlier f.earlier d.0 in
            let less = ltb-true (kind_number e.kind) (kind_number f.kind) d.1 in
            omega (arith, pairs, both, less)
      ]
]

-- the first of these stands at this place or later
abbrev Begins : ℕ → List Edge → Type 0
Begins lo [] = Unit {0}
Begins lo (e ∷ es) = lo ≤ rank e

few_edges : (n lo : ℕ) (es : List Edge) → list_all (λ e. is_edge n e) es ≡ true → edges_ascend es ≡ true → Begins lo es → lo ≤ 3 * pairs_of n → lo + length es ≤ 3 * pairs_of n
few_edges n lo [] all up b le = omega (arith, le)
few_edges n lo (e ∷ []) all up b le = let a = and_parts _ _ all in let high = rank_high n e (is_in n e a.0) in omega (arith, high, b)
few_edges n lo (e ∷ f ∷ es) all up b le =
    let a = and_parts _ _ all in
    let c = and_parts _ _ a.1 in
    let u = and_parts _ _ up in
    let here = is_in n e a.0 in
    let high = rank_high n e here in
    let next = rank_less n e f here (is_in n f c.0) u.0 in
    let rest = few_edges n (rank e + 1) (f ∷ es) a.1 u.1 (omega (arith, next)) (omega (arith, high)) in
    omega (arith, rest, b)

-- ---- numbers that ascend are few

abbrev Starts : ℕ → List ℕ → Type 0
Starts lo [] = Unit {0}
Starts lo (x ∷ xs) = lo ≤ x

few_numbers : (c lo : ℕ) (ns : List ℕ) → list_all (λ x. nat_le 1 x && nat_le x c) ns ≡ true → numbers_ascend ns ≡ true → Starts lo ns → lo ≤ c + 1 → lo + length ns ≤ c + 1
few_numbers c lo [] all up b le = omega (arith, le)
few_numbers c lo (x ∷ []) all up b le =
    let a = and_parts _ _ all in
    let high : x ≤ c = leb-true x c (and_parts _ _ a.0).1 in
    omega (arith, high, b)
few_numbers c lo (x ∷ y ∷ ns) all up b le =
    let a = and_parts _ _ all in
    let u = and_parts _ _ up in
    let high : x ≤ c = leb-true x c (and_parts _ _ a.0).1 in
    let next = ltb-true x y u.0 in
    let rest = few_numbers c (x + 1) (y ∷ ns) a.1 u.1 (omega (arith, next)) (omega (arith, high)) in
    omega (arith, rest, b)

-- ---- lines

-- lines of at most so many bytes each
abbrev Within : ℕ → List (List ℕ) → Type 0
Within k [] = Unit {0}
Within k (l ∷ ls) = (length l ≤ k) × Within k ls

-- the room that so long lines take with their line feeds
abbrev room : ℕ → List (List ℕ) → ℕ
room k [] = 0
room k (l ∷ ls) = (k + 1) + room k ls

text_room : (k : ℕ) (lines : List (List ℕ)) → Within k lines → length (text_of lines) ≤ room k lines
text_room k [] h = omega arith
text_room k (l ∷ ls) h =
    let a = length-append (ended l) (text_of ls) in
    let b = length-append l (10 ∷ []) in
    let rest = text_room k ls h.1 in
    let here = h.0 in
    omega (arith, a, b, rest, here)

text_both : (xs ys : List (List ℕ)) → length (text_of (xs ++ ys)) ≡ length (text_of xs) + length (text_of ys)
text_both xs ys = ap (λ (z : List ℕ). length z) (flat_map-append ended xs ys) ∙ length-append (text_of xs) (text_of ys)

room_class : (ls : List (List ℕ)) → room 75 ls ≡ length ls * 76
room_class [] = omega arith
room_class (l ∷ ls) = let e = room_class ls in omega (arith, e)

room_units : (ls : List (List ℕ)) → room 19 ls ≡ length ls * 20
room_units [] = omega arith
room_units (l ∷ ls) = let e = room_units ls in omega (arith, e)

room_reach : (ls : List (List ℕ)) → room 5140 ls ≡ length ls * 5141
room_reach [] = omega arith
room_reach (l ∷ ls) = let e = room_reach ls in omega (arith, e)

room_edges : (ls : List (List ℕ)) → room 227 ls ≡ length ls * 228
room_edges [] = omega arith
room_edges (l ∷ ls) = let e = room_edges ls in omega (arith, e)

-- a number of at most four digits, and the other lengths
four_digits : (n : ℕ) → n < 10000 → length (decimal n) ≤ 4
four_digits n lt = length-decimal-le 4 n (omega arith) lt (omega (arith, lt))

worded_long : (w r : List ℕ) → length (worded w r) ≡ length w + 1 + length r
worded_long w r = let e = length-append w (32 ∷ r) in omega (arith, e)

hash_long : (h : List ℕ) → is_hash h ≡ true → length (encode_lower h) ≡ 64
hash_long h e =
    let a = and_parts _ _ e in
    let many : length h ≡ 32 = eqb-true (length h) 32 a.0 in
    let long = length-encode_with lower_digits h in
    omega (arith, many, long)

module _ {A : Type 0} (line : ℕ → A → List ℕ) (k top : ℕ) (is : A → Bool) (each : (i : ℕ) (x : A) → i < top → is x ≡ true → length (line i x) ≤ k) where
  within_numbered : (i : ℕ) (xs : List A) → i + length xs ≤ top → list_all is xs ≡ true → Within k (numbered line i xs)
  within_numbered i [] le all = tt
  within_numbered i (x ∷ xs) le all = let a = and_parts _ _ all in (each i x (omega (arith, le)) a.0, within_numbered (i + 1) xs (omega (arith, le)) a.1)

many_numbered : {A : Type 0} (line : ℕ → A → List ℕ) (i : ℕ) (xs : List A) → length (numbered line i xs) ≡ length xs
many_numbered line i [] = refl
many_numbered line i (x ∷ xs) = ap suc (many_numbered line (i + 1) xs)

units_short : (i u : ℕ) → i < 1025 → nat_le u (2 ^ 26) ≡ true → length (units_line i u) ≤ 19
units_short i u lt h =
    let small : u ≤ 67108864 = leb-true u 67108864 h in
    let a = worded_long (codes "units") (worded (decimal i) (decimal u)) in
    let b = worded_long (decimal i) (decimal u) in
    let c = four_digits i (omega (arith, lt)) in
    let d = length-decimal-le 8 u (omega arith) (omega (arith, small)) (omega (arith, small)) in
    omega (arith, a, b, c, d)

class_short : (i : ℕ) (h : List ℕ) → i < 1025 → is_hash h ≡ true → length (class_line i h) ≤ 75
class_short i h lt e =
    let a = worded_long (codes "class") (worded (decimal i) (encode_lower h)) in
    let b = worded_long (decimal i) (encode_lower h) in
    let c = four_digits i (omega (arith, lt)) in
    let d = hash_long h e in
    omega (arith, a, b, c, d)

numbers_short : (c : ℕ) (ns : List ℕ) → c ≤ 1024 → list_all (λ x. nat_le 1 x && nat_le x c) ns ≡ true → length (more_numbers ns) ≤ length ns * 5
numbers_short c [] le all = omega arith
numbers_short c (n ∷ ns) le all =
    let a = and_parts _ _ all in
    let high : n ≤ c = leb-true n c (and_parts _ _ a.0).1 in
    let here = four_digits n (omega (arith, high, le)) in
    let rest = numbers_short c ns le a.1 in
    let both = length-append (44 ∷ decimal n) (more_numbers ns) in
    omega (arith, here, rest, both)

classes_short : (c : ℕ) (ns : List ℕ) → c ≤ 1024 → list_all (λ x. nat_le 1 x && nat_le x c) ns ≡ true → numbers_ascend ns ≡ true → length (numbers_text ns) ≤ 5120
classes_short c [] le all up = omega arith
classes_short c (n ∷ ns) le all up =
    let a = and_parts _ _ all in
    let low : 1 ≤ n = leb-true 1 n (and_parts _ _ a.0).0 in
    let high : n ≤ c = leb-true n c (and_parts _ _ a.0).1 in
    let few = few_numbers c 1 (n ∷ ns) all up low (omega arith) in
    let here = four_digits n (omega (arith, high, le)) in
    let rest = numbers_short c ns le a.1 in
    let both = length-append (decimal n) (more_numbers ns) in
    omega (arith, few, here, rest, both, le)

state_short : (b : Bool) → length (state_word b) ≤ 7
state_short true = omega arith
state_short false = omega arith

reach_short : (c i : ℕ) (r : Reach) → c ≤ 1024 → i < 1025 → is_reach c r ≡ true → length (reach_line i r) ≤ 5140
reach_short c i r le lt h =
    let a = and_parts _ _ h in
    let b = and_parts _ _ a.1 in
    let state = state_short r.settled in
    let number = four_digits i (omega (arith, lt)) in
    let numbers = classes_short c r.classes le b.0 b.1 in
    let x = worded_long (codes "reach") (worded (decimal i) (worded (state_word r.settled) (numbers_text r.classes))) in
    let y = worded_long (decimal i) (worded (state_word r.settled) (numbers_text r.classes)) in
    let z = worded_long (state_word r.settled) (numbers_text r.classes) in
    omega (arith, state, number, numbers, x, y, z)

kind_short : (k : EdgeKind) → length (kind_word k) ≤ 3
kind_short Raw = omega arith
kind_short Waw = omega arith
kind_short War = omega arith

edge_short : (n : ℕ) (e : Edge) → n ≤ 1024 → IsIn n e → length (edge_line e) ≤ 227
edge_short n e le h =
    let kind = kind_short e.kind in
    let earlier = four_digits e.earlier (omega (arith, h.less, h.high, le)) in
    let later = four_digits e.later (omega (arith, h.high, le)) in
    let count = length-decimal-le 9 e.count (omega arith) (omega (arith, h.count)) (omega (arith, h.count)) in
    let x = worded_long (kind_word e.kind) (worded (decimal e.earlier) (worded (decimal e.later) (worded (decimal e.count) e.first))) in
    let y = worded_long (decimal e.earlier) (worded (decimal e.later) (worded (decimal e.count) e.first)) in
    let z = worded_long (decimal e.later) (worded (decimal e.count) e.first) in
    let w = worded_long (decimal e.count) e.first in
    omega (arith, kind, earlier, later, count, x, y, z, w, h.place)

edges_within : (n : ℕ) (es : List Edge) → n ≤ 1024 → list_all (λ e. is_edge n e) es ≡ true → Within 227 (map edge_line es)
edges_within n [] le all = tt
edges_within n (e ∷ es) le all = let a = and_parts _ _ all in (edge_short n e le (is_in n e a.0), edges_within n es le a.1)

-- ---- the text

edges_text : (units : List ℕ) (es : List Edge) → is_record_form units es ≡ true → length (text_of (map edge_line es)) ≤ 358262784
unfolding is_record_form
edges_text units es h =
    let a = and_parts _ _ h in
    let b = and_parts _ _ a.1 in
    let c = and_parts _ _ a.0 in
    let n = length units in
    let few : n ≤ 1024 = leb-true n 1024 c.0 in
    let begins : Begins 0 es = begins_low es in
    let many = few_edges n 0 es b.0 b.1 begins (omega arith) in
    let most = pairs_up n 1024 few in
    let top : pairs_of 1024 ≡ 523776 = refl in
    let within = text_room 227 (map edge_line es) (edges_within n es few b.0) in
    let space = room_edges (map edge_line es) in
    let same = length-map es edge_line in
    omega (arith, many, most, top, within, space, same)
  where
    begins_low : (es : List Edge) → Begins 0 es
    begins_low [] = tt
    begins_low (e ∷ es) = omega arith

units_text : (units : List ℕ) (es : List Edge) → is_record_form units es ≡ true → length (text_of (numbered units_line 1 units)) ≤ 20480
unfolding is_record_form
units_text units es h =
    let a = and_parts _ _ h in
    let c = and_parts _ _ a.0 in
    let few : length units ≤ 1024 = leb-true (length units) 1024 c.0 in
    let within = text_room 19 (numbered units_line 1 units) (within_numbered units_line 19 1025 (λ u. nat_le u (2 ^ 26)) (λ i u lt e. units_short i u lt e) 1 units (omega (arith, few)) c.1) in
    let space = room_units (numbered units_line 1 units) in
    let many = many_numbered units_line 1 units in
    omega (arith, few, within, space, many)

head_text : (units : List ℕ) (newer : Bool) (digest : List ℕ) → length units ≤ 1024 → is_hash digest ≡ true → length (text_of (header_line newer ∷ digest_line digest ∷ tests_line (length units) ∷ [])) ≤ 216
head_text units newer digest few h =
    let a = worded_long (codes "digest") (encode_lower digest) in
    let b = worded_long (codes "tests") (decimal (length units)) in
    let c = hash_long digest h in
    let d = four_digits (length units) (omega (arith, few)) in
    let first = header_short newer in
    text_room 71 (header_line newer ∷ digest_line digest ∷ tests_line (length units) ∷ []) (omega (arith, first), (omega (arith, a, c), (omega (arith, b, d), tt)))
  where
    header_short : (b : Bool) → length (header_line b) ≤ 17
    header_short true = omega arith
    header_short false = omega arith

suite_text : (units : List ℕ) (more : Option More) → is_reach_form units more ≡ true → more_hashes more ≡ true → length (text_of (suite_lines more)) ≤ 78000
unfolding is_reach_form
suite_text units None h x = omega arith
suite_text units (Some m) h x =
    let a = and_parts _ _ h in
    let few : length m.classes ≤ 1024 = leb-true (length m.classes) 1024 a.0 in
    let b = and_parts _ _ x in
    let suite = worded_long (codes "suite") (encode_lower m.suite) in
    let hash = hash_long m.suite b.0 in
    let classes = worded_long (codes "classes") (decimal (length m.classes)) in
    let number = four_digits (length m.classes) (omega (arith, few)) in
    let each = within_numbered class_line 75 1025 is_hash (λ i h lt e. class_short i h lt e) 1 m.classes (omega (arith, few)) b.1 in
    let within = text_room 75 (file_lines m) (omega (arith, suite, hash), (omega (arith, classes, number), each)) in
    let space = room_class (numbered class_line 1 m.classes) in
    let many = many_numbered class_line 1 m.classes in
    omega (arith, few, within, space, many)

reach_text : (units : List ℕ) (more : Option More) → length units ≤ 1024 → is_reach_form units more ≡ true → length (text_of (reach_lines more)) ≤ 5264384
unfolding is_reach_form
reach_text units None low h = omega arith
reach_text units (Some m) low h =
    let a = and_parts _ _ h in
    let few : length m.classes ≤ 1024 = leb-true (length m.classes) 1024 a.0 in
    let b = and_parts _ _ a.1 in
    let same : length m.reach ≡ length units = eqb-true (length m.reach) (length units) b.0 in
    let each = within_numbered reach_line 5140 1025 (is_reach (length m.classes)) (λ i r lt e. reach_short (length m.classes) i r few lt e) 1 m.reach (omega (arith, same, low)) b.1 in
    let within = text_room 5140 (numbered reach_line 1 m.reach) each in
    let space = room_reach (numbered reach_line 1 m.reach) in
    let many = many_numbered reach_line 1 m.reach in
    omega (arith, same, low, within, space, many)

few_units : (units : List ℕ) (es : List Edge) → is_record_form units es ≡ true → length units ≤ 1024
unfolding is_record_form
few_units units es h = leb-true (length units) 1024 (and_parts _ _ (and_parts _ _ h).0).0

pub record_short : (r : Record) → has_hashes (said r) ≡ true → length (record_text r) ≤ 536870912
unfolding lines_of
record_short r x =
    let hashes = and_parts _ _ x in
    let few = few_units r.units r.edges r.form in
    let a = head_text r.units (is_newer r.more) r.digest few hashes.0 in
    let b = suite_text r.units r.more r.more_form hashes.1 in
    let c = units_text r.units r.edges r.form in
    let d = reach_text r.units r.more few r.more_form in
    let e = edges_text r.units r.edges r.form in
    let behind = map edge_line r.edges ++ end_line ∷ [] in
    let after_reach = reach_lines r.more ++ behind in
    let after_units = numbered units_line 1 r.units ++ after_reach in
    let s = text_both (head_lines (said r)) (suite_lines r.more ++ after_units) in
    let t = text_both (suite_lines r.more) after_units in
    let u = text_both (numbered units_line 1 r.units) after_reach in
    let v = text_both (reach_lines r.more) behind in
    let w = text_both (map edge_line r.edges) (end_line ∷ []) in
    let last : length (text_of (end_line ∷ [])) ≤ 4 = omega arith in
    omega (arith, a, b, c, d, e, s, t, u, v, w, last)
