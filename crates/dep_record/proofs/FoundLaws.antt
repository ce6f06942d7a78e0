-- The text of what was read is the text that was read.
use Rattle.std.proofs.Common.{◌≡◌, ℕ, ◌+◌, Bool, true, false, cond, List, [], ◌∷◌, ◌++◌, length, map, None, Ok, refl, sym, ap, ◌∙◌, subst}
use Rattle.std.specs.Prelude.{codes}
use Rattle.std.specs.List.{join_with_byte}
use Rattle.std.proofs.lemmas.List.{append_assoc, append-nil}
use Rattle.std.proofs.lemmas.List.Splits.{join_with_byte-slice_split}
use Rattle.dep_record.specs.RecordText.{Said, text_of, header_line, digest_line, tests_line, suite_line, classes_line, class_line, units_line, reach_line, edge_line, end_line, numbered, suite_lines, reach_lines, is_newer, lines_of}
use Rattle.dep_record.specs.Fields.{header_of, hash_after, number_after, class_of, units_of, reach_of}
use Rattle.dep_record.specs.RecordReading.{pieces, line_by, lines_by, edges_from, older_in, classes_in, newer_in, said_in}
use Rattle.dep_record.proofs.FieldLaws.{header_said, hash_after_said, number_after_said}
use Rattle.dep_record.proofs.SaidLaws.{went_on, same_Ok, line_said, units_from, classes_from, reach_from, edges_said}

-- ---- lines joined

join_lines : (ls : List (List ℕ)) → join_with_byte 10 (ls ++ [] ∷ []) ≡ text_of ls
join_lines [] = refl
join_lines (l ∷ []) = sym (append-nil (l ++ 10 ∷ []))
join_lines (l ∷ m ∷ ls) = ap (λ t. l ++ 10 ∷ t) (join_lines (m ∷ ls)) ∙ sym (append_assoc l (10 ∷ []) (text_of (m ∷ ls)))

pub text_is : (text : List ℕ) (ls : List (List ℕ)) → pieces text ≡ ls ++ [] ∷ [] → text_of ls ≡ text
text_is text ls h = sym (join_lines ls) ∙ ap (join_with_byte 10) (sym h) ∙ join_with_byte-slice_split 10 text

-- ---- the lines after the third

abbrev pub later_lines : Said → List (List ℕ)
later_lines s = suite_lines s.more ++ (numbered units_line 1 s.units ++ (reach_lines s.more ++ (map edge_line s.edges ++ end_line ∷ [])))

pub two_parts : (a b : List (List ℕ)) → (a ++ (b ++ end_line ∷ [])) ++ [] ∷ [] ≡ a ++ (b ++ (end_line ∷ [] ∷ []))
two_parts a b = simp append_assoc

pub four_parts : (a b c d : List (List ℕ)) → (a ++ (b ++ (c ++ (d ++ end_line ∷ [])))) ++ [] ∷ [] ≡ a ++ (b ++ (c ++ (d ++ (end_line ∷ [] ∷ []))))
four_parts a b c d = simp append_assoc

-- what the lines after the third say
pub record LaterSaid (digest : List ℕ) (tests : ℕ) (newer : Bool) (left : List (List ℕ)) (s : Said) : Type 0 where
  pub lines : left ≡ later_lines s ++ [] ∷ []
  pub same : s.digest ≡ digest
  pub count : length s.units ≡ tests
  pub version : is_newer s.more ≡ newer

older_said : (digest : List ℕ) (tests : ℕ) (left : List (List ℕ)) (s : Said) → older_in digest tests left ≡ Ok s → LaterSaid digest tests false left s
unfolding older_in
older_said digest tests left s h =
    let a = went_on (lines_by units_of tests 1 4 left) _ s h in
    let b = went_on (edges_from tests None (4 + tests) a.0.1) _ s a.2 in
    let u = units_from tests 1 4 left a.0 a.1 in
    let e = edges_said tests None (4 + tests) a.0.1 b.0 b.1 in
    subst (LaterSaid digest tests false left) (same_Ok _ s b.2) (record {
      lines = u.0 ∙ ap (λ t. numbered units_line 1 a.0.0 ++ t) e.lines ∙ sym (two_parts (numbered units_line 1 a.0.0) (map edge_line b.0));
      same = refl;
      count = u.1;
      version = refl;
    })

-- the lines of version 2 after the fifth, and the two before them
classes_said : (digest : List ℕ) (tests : ℕ) (suite : List ℕ) (count : ℕ) (left : List (List ℕ)) (s : Said) → classes_in digest tests suite count left ≡ Ok s
    → LaterSaid digest tests true (suite_line suite ∷ classes_line count ∷ left) s
unfolding classes_in
classes_said digest tests suite count left s h =
    let c = went_on (lines_by class_of count 1 6 left) _ s h in
    let u = went_on (lines_by units_of tests 1 (6 + count) c.0.1) _ s c.2 in
    let r = went_on (lines_by (reach_of count) tests 1 (6 + count + tests) u.0.1) _ s u.2 in
    let b = went_on (edges_from tests None (6 + count + tests + tests) r.0.1) _ s r.2 in
    let cs = classes_from count 1 6 left c.0 c.1 in
    let us = units_from tests 1 (6 + count) c.0.1 u.0 u.1 in
    let rs = reach_from count tests 1 (6 + count + tests) u.0.1 r.0 r.1 in
    let es = edges_said tests None (6 + count + tests + tests) r.0.1 b.0 b.1 in
    let front = numbered class_line 1 c.0.0 in
    let units = numbered units_line 1 u.0.0 in
    let reach = numbered reach_line 1 r.0.0 in
    subst (LaterSaid digest tests true (suite_line suite ∷ classes_line count ∷ left)) (same_Ok _ s b.2) (record {
      lines = ap (λ n. suite_line suite ∷ classes_line n ∷ left) (sym cs.1)
          ∙ ap (λ t. suite_line suite ∷ classes_line (length c.0.0) ∷ t)
          (cs.0 ∙ ap (λ t. front ++ t) (us.0 ∙ ap (λ t. units ++ t) (rs.0 ∙ ap (λ t. reach ++ t) es.lines)) ∙ sym (four_parts front units reach (map edge_line b.0)));
      same = refl;
      count = us.1;
      version = refl;
    })

newer_said : (digest : List ℕ) (tests : ℕ) (left : List (List ℕ)) (s : Said) → newer_in digest tests left ≡ Ok s → LaterSaid digest tests true left s
unfolding newer_in
newer_said digest tests left s h =
    let a = went_on (line_by (hash_after (codes "suite")) 4 left) _ s h in
    let b = went_on (line_by (number_after 1024 (codes "classes")) 5 a.0.1) _ s a.2 in
    let suite = line_said (hash_after (codes "suite")) 4 left a.0 a.1 in
    let count = line_said (number_after 1024 (codes "classes")) 5 a.0.1 b.0 b.1 in
    let lines : left ≡ suite_line a.0.0 ∷ classes_line b.0.0 ∷ b.0.1 =
    suite.1 ∙ ap (λ l. l ∷ a.0.1) (hash_after_said (codes "suite") suite.0 a.0.0 suite.2)
    ∙ ap (λ t. suite_line a.0.0 ∷ t) (count.1 ∙ ap (λ l. l ∷ b.0.1) (number_after_said (codes "classes") count.0 b.0.0 count.2).0) in
    subst (λ t. LaterSaid digest tests true t s) (sym lines) (classes_said digest tests a.0.0 b.0.0 b.0.1 s b.2)

-- ---- all lines

later_by : (newer : Bool) (digest : List ℕ) (tests : ℕ) (left : List (List ℕ)) (s : Said) → cond newer (newer_in digest tests left) (older_in digest tests left) ≡ Ok s → LaterSaid digest tests newer left s
later_by true digest tests left s h = newer_said digest tests left s h
later_by false digest tests left s h = older_said digest tests left s h

all_lines : (text : List ℕ) (s : Said) → said_in text ≡ Ok s → pieces text ≡ lines_of s ++ [] ∷ []
unfolding said_in lines_of
all_lines text s h =
    let a = went_on (line_by header_of 1 (pieces text)) _ s h in
    let b = went_on (line_by (hash_after (codes "digest")) 2 a.0.1) _ s a.2 in
    let c = went_on (line_by (number_after 1024 (codes "tests")) 3 b.0.1) _ s b.2 in
    let header = line_said header_of 1 (pieces text) a.0 a.1 in
    let digest = line_said (hash_after (codes "digest")) 2 a.0.1 b.0 b.1 in
    let tests = line_said (number_after 1024 (codes "tests")) 3 b.0.1 c.0 c.1 in
    let later = later_by a.0.0 b.0.0 c.0.0 c.0.1 s c.2 in
    header.1 ∙ ap (λ l. l ∷ a.0.1) (header_said header.0 a.0.0 header.2 ∙ ap header_line (sym later.version))
    ∙ ap (λ t. header_line (is_newer s.more) ∷ t) (digest.1 ∙ ap (λ l. l ∷ b.0.1) (hash_after_said (codes "digest") digest.0 b.0.0 digest.2 ∙ ap digest_line (sym later.same))
    ∙ ap (λ t. digest_line s.digest ∷ t) (tests.1 ∙ ap (λ l. l ∷ c.0.1) ((number_after_said (codes "tests") tests.0 c.0.0 tests.2).0 ∙ ap tests_line (sym later.count))
    ∙ ap (λ t. tests_line (length s.units) ∷ t) later.lines))

pub found_text : (text : List ℕ) (s : Said) → said_in text ≡ Ok s → text_of (lines_of s) ≡ text
found_text text s h = text_is text (lines_of s) (all_lines text s h)
