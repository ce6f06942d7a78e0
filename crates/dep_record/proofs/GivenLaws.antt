-- The text of a record is read as that record.
use Rattle.std.proofs.Common.{◌≡◌, ℕ, ◌+◌, ◌<◌, ◌≤◌, ◌^◌, Bool, true, false, cond, eqb, nat_le, List, [], ◌∷◌, ◌++◌, length, map, Option, Some, None, Result, Ok, refl, sym, ap, ◌∙◌, arith}
use Rattle.std.specs.Prelude.{codes}
use Rattle.std.specs.{List.list_all, Str.bytes_eq}
use Rattle.std.proofs.lemmas.Bool.{and_parts, and_from, leb-true, eqb-true}
use Rattle.std.proofs.lemmas.List.{append_assoc}
use Rattle.std.proofs.lemmas.List.Folds.{list_all-append}
use Rattle.order_law.specs.declared.edges.{Edge.Edge, EdgeKind.EdgeKind, EdgeKind.TheVariants.Raw, EdgeKind.TheVariants.Waw, EdgeKind.TheVariants.War}
use Rattle.order_law.specs.declared.records.More.{More}
use Rattle.order_law.specs.RecordForm.{is_edge, edge_before, edges_ascend, is_record_form, is_reach, is_reach_form}
use Rattle.dep_record.specs.RecordText.{Said, text_of, header_line, digest_line, tests_line, suite_line, classes_line, class_line, units_line, reach_line, kind_word, edge_fields, edge_line, end_line, numbered, file_lines, is_newer, lines_of, is_hash, more_hashes, has_hashes}
use Rattle.dep_record.specs.Fields.{header_of, hash_after, number_after, class_of, units_of, reach_of, follows}
use Rattle.dep_record.specs.RecordReading.{◌>>=◌, pieces, line_by, lines_by, edges_from, older_in, classes_in, newer_in, said_in}
use Rattle.dep_record.proofs.SaidLaws.{ascend_from}
use Rattle.dep_record.proofs.GivenFields.{clear, hash_from, first_piece, header_given, hash_after_given, number_after_given, class_given, units_given, reach_given, next_edge_given, header_clear, hash_line_clear, number_line_clear, class_clear, units_clear, reach_clear, edge_clear}
use Rattle.dep_record.proofs.FoundLaws.{later_lines, two_parts, four_parts}

abbrev all_clear : List (List ℕ) → Bool
all_clear ls = list_all clear ls

clear_both : (a b : List (List ℕ)) → all_clear a ≡ true → all_clear b ≡ true → all_clear (a ++ b) ≡ true
clear_both a b h g = list_all-append clear a b ∙ and_from _ _ h g

-- lines without a line feed are the pieces of their text
pub pieces_of_lines : (ls : List (List ℕ)) → all_clear ls ≡ true → pieces (text_of ls) ≡ ls ++ [] ∷ []
pieces_of_lines [] h = refl
pieces_of_lines (l ∷ ls) h =
    let a = and_parts _ _ h in
    ap pieces (append_assoc l (10 ∷ []) (text_of ls)) ∙ first_piece 10 l (text_of ls) a.0 ∙ ap (λ t. l ∷ t) (pieces_of_lines ls a.1)

-- ---- reading lines

-- something is left
abbrev some : List (List ℕ) → Type 0
some ls = eqb (length ls) 0 ≡ false

some_after : (ls rest : List (List ℕ)) → some rest → some (ls ++ rest)
some_after [] rest h = h
some_after (l ∷ ls) rest h = grind arith

line_given : {A : Type 0} (says : List ℕ → Option A) (n : ℕ) (line : List ℕ) (rest : List (List ℕ)) (x : A) → some rest → says line ≡ Some x → line_by says n (line ∷ rest) ≡ Ok (x, rest)
line_given says n line rest x s h = rw (s, h) refl

lines_given : {A : Type 0} (says : ℕ → List ℕ → Option A) (text : ℕ → A → List ℕ) (p : A → Bool) → ((i : ℕ) (x : A) → i < 2 ^ 64 → p x ≡ true → says i (text i x) ≡ Some x)
    → (xs : List A) (k i n : ℕ) (rest : List (List ℕ)) → k ≡ length xs → i + length xs < 2 ^ 64 → some rest → list_all p xs ≡ true → lines_by says k i n (numbered text i xs ++ rest) ≡ Ok (xs, rest)
lines_given says text p law [] k i n rest e fits s h = rw e refl
lines_given says text p law (x ∷ xs) k i n rest e fits s h =
    let a = and_parts _ _ h in
    let here = line_given (says i) n (text i x) (numbered text (i + 1) xs ++ rest) x (some_after (numbered text (i + 1) xs) rest s) (law i x (omega arith) a.0) in
    let more = lines_given says text p law xs (length xs) (i + 1) (n + 1) rest refl (omega arith) s a.1 in
    rw (e, here, more) refl

lines_clear : {A : Type 0} (text : ℕ → A → List ℕ) (p : A → Bool) → ((i : ℕ) (x : A) → i < 2 ^ 64 → p x ≡ true → clear (text i x) ≡ true) → (xs : List A) (i : ℕ) → i + length xs < 2 ^ 64 → list_all p xs ≡ true → all_clear (numbered text i xs) ≡ true
lines_clear text p law [] i fits h = refl
lines_clear text p law (x ∷ xs) i fits h =
    let a = and_parts _ _ h in
    and_from _ _ (law i x (omega arith) a.0) (lines_clear text p law xs (i + 1) (omega arith) a.1)

-- ---- conflicts

not_end_by : (kind : EdgeKind) (rest : List ℕ) → bytes_eq (kind_word kind ++ rest) (codes "end") ≡ false
not_end_by Raw rest = refl
not_end_by Waw rest = refl
not_end_by War rest = refl

not_end : (e : Edge) → bytes_eq (edge_line e) (codes "end") ≡ false
not_end e = not_end_by e.kind (32 ∷ edge_fields e)

ascended : (before : Option Edge) (e : Edge) (es : List Edge) → ascend_from before (e ∷ es) ≡ true → (follows before e ≡ true) × (ascend_from (Some e) es ≡ true)
ascended None e es h = (refl, h)
ascended (Some b) e es h = and_parts (edge_before b e) (edges_ascend (e ∷ es)) h

edges_given : (tests : ℕ) (before : Option Edge) (n : ℕ) (es : List Edge) → tests ≤ 1024 → list_all (is_edge tests) es ≡ true → ascend_from before es ≡ true → edges_from tests before n (map edge_line es ++ (end_line ∷ [] ∷ [])) ≡ Ok es
edges_given tests before n [] few h a = refl
edges_given tests before n (e ∷ es) few h a =
    let b = and_parts _ _ h in
    let c = ascended before e es a in
    let s = some_after (map edge_line es) (end_line ∷ [] ∷ []) refl in
    rw (s, not_end e, next_edge_given tests before e few b.0 c.0, edges_given tests (Some e) (n + 1) es few b.1 c.1) refl

edges_clear : (tests : ℕ) (es : List Edge) → tests ≤ 1024 → list_all (is_edge tests) es ≡ true → all_clear (map edge_line es) ≡ true
edges_clear tests [] few h = refl
edges_clear tests (e ∷ es) few h = let b = and_parts _ _ h in and_from _ _ (edge_clear tests e few b.0) (edges_clear tests es few b.1)

-- ---- the whole text

-- the units and conflicts of a record
record Parts (s : Said) : Type 0 where
  few : length s.units ≤ 1024
  units : list_all (λ u. nat_le u (2 ^ 26)) s.units ≡ true
  edges : list_all (is_edge (length s.units)) s.edges ≡ true
  order : edges_ascend s.edges ≡ true

parts_of_form : (s : Said) → is_record_form s.units s.edges ≡ true → Parts s
unfolding is_record_form
parts_of_form s h =
    let a = and_parts _ _ h in
    let b = and_parts _ _ a.0 in
    let c = and_parts _ _ a.1 in
    record { few = leb-true _ _ b.0; units = b.1; edges = c.0; order = c.1 }

-- what version 2 adds
record MoreParts (units : List ℕ) (m : More) : Type 0 where
  few : length m.classes ≤ 1024
  size : length m.reach ≡ length units
  each : list_all (is_reach (length m.classes)) m.reach ≡ true

parts_of_more : (units : List ℕ) (m : More) → is_reach_form units (Some m) ≡ true → MoreParts units m
unfolding is_reach_form
parts_of_more units m h =
    let a = and_parts _ _ h in
    let b = and_parts _ _ a.1 in
    record { few = leb-true _ _ a.0; size = eqb-true _ _ b.0; each = b.1 }

-- the lines after the third
older_given : (digest units : List ℕ) (es : List Edge) → Parts (record { digest = digest; units = units; edges = es; more = None })
    → older_in digest (length units) ((numbered units_line 1 units ++ (map edge_line es ++ end_line ∷ [])) ++ [] ∷ []) ≡ Ok (record { digest = digest; units = units; edges = es; more = None })
unfolding older_in
older_given digest units es h =
    let tests = length units in
    let left = map edge_line es ++ (end_line ∷ [] ∷ []) in
    let few : tests ≤ 1024 = h.few in
    let us = lines_given units_of units_line (λ u. nat_le u (2 ^ 26)) units_given units tests 1 4 left refl (omega arith) (some_after (map edge_line es) (end_line ∷ [] ∷ []) refl) h.units in
    let e = edges_given tests None (4 + tests) es few h.edges h.order in
    ap (older_in digest tests) (two_parts (numbered units_line 1 units) (map edge_line es)) ∙ rw (us, e) refl

classes_given : (digest units : List ℕ) (es : List Edge) (m : More) → Parts (record { digest = digest; units = units; edges = es; more = Some m }) → MoreParts units m → list_all is_hash m.classes ≡ true
    → classes_in digest (length units) m.suite (length m.classes) (numbered class_line 1 m.classes ++ (numbered units_line 1 units ++ (numbered reach_line 1 m.reach ++ (map edge_line es ++ (end_line ∷ [] ∷ [])))))
    ≡ Ok (record { digest = digest; units = units; edges = es; more = Some m })
unfolding classes_in
classes_given digest units es m h g hs =
    let tests = length units in
    let count = length m.classes in
    let few : tests ≤ 1024 = h.few in
    let fewer : count ≤ 1024 = g.few in
    let size : length m.reach ≡ tests = g.size in
    let last = map edge_line es ++ (end_line ∷ [] ∷ []) in
    let third = numbered reach_line 1 m.reach ++ last in
    let second = numbered units_line 1 units ++ third in
    let s1 = some_after (map edge_line es) (end_line ∷ [] ∷ []) refl in
    let s2 = some_after (numbered reach_line 1 m.reach) last s1 in
    let s3 = some_after (numbered units_line 1 units) third s2 in
    let cs = lines_given class_of class_line is_hash class_given m.classes count 1 6 second refl (omega arith) s3 hs in
    let us = lines_given units_of units_line (λ u. nat_le u (2 ^ 26)) units_given units tests 1 (6 + count) third refl (omega arith) s2 h.units in
    let rs = lines_given (reach_of count) reach_line (is_reach count) (λ i r fits is. reach_given count i r fewer fits is) m.reach tests 1 (6 + count + tests) last (sym size) (omega arith) s1 g.each in
    let e = edges_given tests None (6 + count + tests + tests) es few h.edges h.order in
    rw (cs, us, rs, e) refl

newer_given : (digest units : List ℕ) (es : List Edge) (m : More) → Parts (record { digest = digest; units = units; edges = es; more = Some m }) → MoreParts units m → is_hash m.suite ≡ true → list_all is_hash m.classes ≡ true
    → newer_in digest (length units) ((file_lines m ++ (numbered units_line 1 units ++ (numbered reach_line 1 m.reach ++ (map edge_line es ++ end_line ∷ [])))) ++ [] ∷ [])
    ≡ Ok (record { digest = digest; units = units; edges = es; more = Some m })
unfolding newer_in
newer_given digest units es m h g suite hs =
    let count = length m.classes in
    let last = map edge_line es ++ (end_line ∷ [] ∷ []) in
    let third = numbered reach_line 1 m.reach ++ last in
    let second = numbered units_line 1 units ++ third in
    let first = numbered class_line 1 m.classes ++ second in
    let s = some_after (numbered class_line 1 m.classes) second (some_after (numbered units_line 1 units) third (some_after (numbered reach_line 1 m.reach) last (some_after (map edge_line es) (end_line ∷ [] ∷ []) refl))) in
    let suited = line_given (hash_after (codes "suite")) 4 (suite_line m.suite) (classes_line count ∷ first) m.suite (some_after (classes_line count ∷ []) first s) (hash_after_given (codes "suite") m.suite refl (hash_from m.suite suite)) in
    let counted = line_given (number_after 1024 (codes "classes")) 5 (classes_line count) first count s (number_after_given (codes "classes") count refl g.few) in
    ap (λ t. newer_in digest (length units) (suite_line m.suite ∷ classes_line count ∷ t)) (four_parts (numbered class_line 1 m.classes) (numbered units_line 1 units) (numbered reach_line 1 m.reach) (map edge_line es))
    ∙ rw (suited, counted) (classes_given digest units es m h g hs)

later_given : (digest units : List ℕ) (es : List Edge) (more : Option More) → Parts (record { digest = digest; units = units; edges = es; more = more }) → is_reach_form units more ≡ true → more_hashes more ≡ true
    → cond (is_newer more) (newer_in digest (length units) (later_lines (record { digest = digest; units = units; edges = es; more = more }) ++ [] ∷ []))
    (older_in digest (length units) (later_lines (record { digest = digest; units = units; edges = es; more = more }) ++ [] ∷ [])) ≡ Ok (record { digest = digest; units = units; edges = es; more = more })
later_given digest units es None h g hs = older_given digest units es h
later_given digest units es (Some m) h g hs = let a = and_parts _ _ hs in newer_given digest units es m h (parts_of_more units m g) a.0 a.1

later_clear : (digest units : List ℕ) (es : List Edge) (more : Option More) → Parts (record { digest = digest; units = units; edges = es; more = more }) → is_reach_form units more ≡ true → more_hashes more ≡ true
    → all_clear (later_lines (record { digest = digest; units = units; edges = es; more = more })) ≡ true
later_clear digest units es None h g hs =
    let few : length units ≤ 1024 = h.few in
    clear_both (numbered units_line 1 units) (map edge_line es ++ end_line ∷ []) (lines_clear units_line (λ u. nat_le u (2 ^ 26)) units_clear units 1 (omega arith) h.units)
    (clear_both (map edge_line es) (end_line ∷ []) (edges_clear (length units) es few h.edges) refl)
later_clear digest units es (Some m) h g hs =
    let few : length units ≤ 1024 = h.few in
    let p = parts_of_more units m g in
    let fewer : length m.classes ≤ 1024 = p.few in
    let size : length m.reach ≡ length units = p.size in
    let a = and_parts _ _ hs in
    let files = and_from _ _ (hash_line_clear (codes "suite") m.suite refl (hash_from m.suite a.0).bytes) (and_from _ _ (number_line_clear (codes "classes") (length m.classes) refl (omega arith)) (lines_clear class_line is_hash class_clear m.classes 1 (omega arith) a.1)) in
    let last = map edge_line es ++ end_line ∷ [] in
    let third = numbered reach_line 1 m.reach ++ last in
    clear_both (file_lines m) (numbered units_line 1 units ++ third) files
    (clear_both (numbered units_line 1 units) third (lines_clear units_line (λ u. nat_le u (2 ^ 26)) units_clear units 1 (omega arith) h.units)
    (clear_both (numbered reach_line 1 m.reach) last (lines_clear reach_line (is_reach (length m.classes)) (λ i r fits is. reach_clear (length m.classes) i r fewer fits is) m.reach 1 (omega arith) p.each)
    (clear_both (map edge_line es) (end_line ∷ []) (edges_clear (length units) es few h.edges) refl)))

-- what pieces say
abbrev said_pieces : List (List ℕ) → Result Said ℕ
said_pieces left = line_by header_of 1 left >>= λ newer. line_by (hash_after (codes "digest")) 2 newer.1 >>= λ digest. line_by (number_after 1024 (codes "tests")) 3 digest.1 >>= λ tests.
    cond newer.0 (newer_in digest.0 tests.0 tests.1) (older_in digest.0 tests.0 tests.1)

some_lines : (s : Said) → some (later_lines s ++ [] ∷ [])
some_lines s = some_after (later_lines s) ([] ∷ []) refl

pub given_text : (s : Said) → is_record_form s.units s.edges ≡ true → is_reach_form s.units s.more ≡ true → has_hashes s ≡ true → said_in (text_of (lines_of s)) ≡ Ok s
unfolding said_in lines_of
given_text s h g hs =
    let a = and_parts _ _ hs in
    let p = parts_of_form s h in
    let few : length s.units ≤ 1024 = p.few in
    let digest = hash_from s.digest a.0 in
    let header = header_line (is_newer s.more) in
    let clean = and_from _ _ (header_clear (is_newer s.more)) (and_from _ _ (hash_line_clear (codes "digest") s.digest refl digest.bytes) (and_from _ _ (number_line_clear (codes "tests") (length s.units) refl (omega arith)) (later_clear s.digest s.units s.edges s.more p g a.1))) in
    let left = later_lines s ++ [] ∷ [] in
    let one = line_given header_of 1 header (digest_line s.digest ∷ tests_line (length s.units) ∷ left) (is_newer s.more) (some_after (digest_line s.digest ∷ tests_line (length s.units) ∷ []) left (some_lines s)) (header_given (is_newer s.more)) in
    let two = line_given (hash_after (codes "digest")) 2 (digest_line s.digest) (tests_line (length s.units) ∷ left) s.digest (some_after (tests_line (length s.units) ∷ []) left (some_lines s)) (hash_after_given (codes "digest") s.digest refl digest) in
    let three = line_given (number_after 1024 (codes "tests")) 3 (tests_line (length s.units)) left (length s.units) (some_lines s) (number_after_given (codes "tests") (length s.units) refl few) in
    ap said_pieces (pieces_of_lines (header ∷ digest_line s.digest ∷ tests_line (length s.units) ∷ later_lines s) clean)
    ∙ rw (one, two, three) (later_given s.digest s.units s.edges s.more p g a.1)
