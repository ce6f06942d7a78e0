-- What reading a text gives is what the text says: the text of what was read is the text.
use Rattle.std.proofs.Common.{◌≡◌, ℕ, zero, suc, ◌+◌, ◌≤◌, ◌^◌, Bool, true, false, cond, eqb, nat_le, List, [], ◌∷◌, ◌++◌, length, map, Option, Some, None, Result, Ok, Err, refl, sym, ap, ◌∙◌, subst, arith}
use Rattle.std.specs.Prelude.{codes}
use Rattle.std.specs.{Option.ok_or, List.list_all, Str.bytes_eq}
use Rattle.std.proofs.lemmas.Bool.{and_from, le-leb, eq-eqb}
use Rattle.std.proofs.lemmas.Slice.Eq.{bytes_eq-Decides}
use Rattle.order_law.specs.declared.edges.Edge.{Edge}
use Rattle.order_law.specs.declared.records.Reach.{Reach}
use Rattle.order_law.specs.RecordForm.{is_edge, edge_before, edges_ascend, is_record_form, is_reach, is_reach_form}
use Rattle.dep_record.specs.RecordText.{class_line, units_line, reach_line, edge_line, end_line, numbered}
use Rattle.dep_record.specs.Fields.{class_of, units_of, reach_of, follows, next_edge}
use Rattle.dep_record.specs.RecordReading.{◌>>=◌, next_line, line_by, lines_by, is_over, edges_from}
use Rattle.dep_record.proofs.FieldLaws.{class_said, units_said, reach_said, next_edge_said}

-- ---- results

pub went_on : {A B F : Type 0} (r : Result A F) (f : A → Result B F) (y : B) → (r >>= f) ≡ Ok y → (x : A) × (r ≡ Ok x) × (f x ≡ Ok y)
went_on (Ok x) f y h = (x, refl, h)
went_on (Err e) f y h = absurd cc

pub was_some : {A F : Type 0} (o : Option A) (n : F) (x : A) → ok_or o n ≡ Ok x → o ≡ Some x
was_some None n x h = absurd cc
was_some (Some y) n x h = cc

pub same_Ok : {A : Type 0} (x y : A) → ◌≡◌ {A = Result A ℕ} (Ok x) (Ok y) → x ≡ y
same_Ok x y h = cc

-- ---- a line

line_was : (short : Bool) (n : ℕ) (line : List ℕ) (rest : List (List ℕ)) (x : List ℕ × List (List ℕ)) → cond short (Err n) (Ok (line, rest)) ≡ Ok x → line ∷ rest ≡ x.0 ∷ x.1
line_was true n line rest x h = absurd cc
line_was false n line rest x h = ap (λ (y : List ℕ × List (List ℕ)). y.0 ∷ y.1) (same_Ok (line, rest) x h)

next_was : (n : ℕ) (left : List (List ℕ)) (x : List ℕ × List (List ℕ)) → next_line n left ≡ Ok x → left ≡ x.0 ∷ x.1
next_was n [] x h = absurd cc
next_was n (line ∷ rest) x h = line_was (eqb (length rest) 0) n line rest x h

-- the line that says it, and what is left after it
pub line_said : {A : Type 0} (says : List ℕ → Option A) (n : ℕ) (left : List (List ℕ)) (y : A × List (List ℕ)) → line_by says n left ≡ Ok y → (line : List ℕ) × (left ≡ line ∷ y.1) × (says line ≡ Some y.0)
line_said says n left y h =
    let a = went_on (next_line n left) _ y h in
    let b = went_on (ok_or (says a.0.0) n) _ y a.2 in
    let same = same_Ok (b.0, a.0.1) y b.2 in
    (a.0.0, next_was n left a.0 a.1 ∙ ap (λ z. a.0.0 ∷ z.1) same, was_some (says a.0.0) n b.0 b.1 ∙ ap (λ z. Some z.0) same)

-- ---- several lines

pub lines_said : {A : Type 0} (says : ℕ → List ℕ → Option A) (text : ℕ → A → List ℕ) (p : A → Bool) → ((i : ℕ) (line : List ℕ) (x : A) → says i line ≡ Some x → (line ≡ text i x) × (p x ≡ true))
    → (k i n : ℕ) (left : List (List ℕ)) (y : List A × List (List ℕ)) → lines_by says k i n left ≡ Ok y → (left ≡ numbered text i y.0 ++ y.1) × (length y.0 ≡ k) × (list_all p y.0 ≡ true)
lines_said says text p law zero i n left y h =
    let same = same_Ok ([], left) y h in
    (ap (λ z. numbered text i z.0 ++ z.1) same, sym (ap (λ z. length z.0) same), sym (ap (λ z. list_all p z.0) same))
lines_said says text p law (suc k) i n left y h =
    let a = went_on (line_by (says i) n left) _ y h in
    let b = went_on (lines_by says k (i + 1) (n + 1) a.0.1) _ y a.2 in
    let same = same_Ok (a.0.0 ∷ b.0.0, b.0.1) y b.2 in
    let line = line_said (says i) n left a.0 a.1 in
    let here = law i line.0 a.0.0 line.2 in
    let more = lines_said says text p law k (i + 1) (n + 1) a.0.1 b.0 b.1 in (
      line.1 ∙ ap (λ l. l ∷ a.0.1) here.0 ∙ ap (λ ls. text i a.0.0 ∷ ls) more.0 ∙ ap (λ z. numbered text i z.0 ++ z.1) same,
      sym (ap (λ z. length z.0) same) ∙ ap suc more.1,
      sym (ap (λ z. list_all p z.0) same) ∙ and_from (p a.0.0) (list_all p b.0.0) here.1 more.2,
    )

-- ---- conflicts

-- they ascend, and from the one before
abbrev pub ascend_from : Option Edge → List Edge → Bool
ascend_from None es = edges_ascend es
ascend_from (Some e) es = edges_ascend (e ∷ es)

pub ascends : (before : Option Edge) (e : Edge) (es : List Edge) → follows before e ≡ true → ascend_from (Some e) es ≡ true → ascend_from before (e ∷ es) ≡ true
ascends None e es f h = h
ascends (Some b) e es f h = and_from (edge_before b e) (edges_ascend (e ∷ es)) f h

-- what conflicts from a place on say
pub record EdgesSaid (tests : ℕ) (before : Option Edge) (left : List (List ℕ)) (es : List Edge) : Type 0 where
  pub lines : left ≡ map edge_line es ++ (end_line ∷ [] ∷ [])
  pub each : list_all (is_edge tests) es ≡ true
  pub order : ascend_from before es ≡ true

over_said : (rest : List (List ℕ)) → is_over rest ≡ true → rest ≡ [] ∷ []
over_said [] h = absurd cc
over_said ([] ∷ []) h = refl
over_said ([] ∷ line ∷ more) h = absurd cc
over_said ((b ∷ bs) ∷ more) h = absurd cc

alone : (before : Option Edge) → ascend_from before [] ≡ true
alone None = refl
alone (Some e) = refl

end_said : (tests : ℕ) (before : Option Edge) (n : ℕ) (line : List ℕ) (rest : List (List ℕ)) (over : Bool) (es : List Edge) → bytes_eq line (codes "end") ≡ true → is_over rest ≡ over
    → cond over (Ok []) (Err (n + 1)) ≡ Ok es → EdgesSaid tests before (line ∷ rest) es
end_said tests before n line rest false es e o h = absurd cc
end_said tests before n line rest true es e o h =
    let same : [] ≡ es = same_Ok [] es h in
    subst (EdgesSaid tests before (line ∷ rest)) same (record {
      lines = ap (λ l. l ∷ rest) ((bytes_eq-Decides line (codes "end")).0 e) ∙ ap (λ ls. end_line ∷ ls) (over_said rest o);
      each = refl;
      order = alone before;
    })

edge_said : (tests : ℕ) (before : Option Edge) (n : ℕ) (line : List ℕ) (rest : List (List ℕ)) (es : List Edge) → ((e : Edge) (more : List Edge) → edges_from tests (Some e) (n + 1) rest ≡ Ok more → EdgesSaid tests (Some e) rest more)
    → (ok_or (next_edge tests before line) n >>= λ e. edges_from tests (Some e) (n + 1) rest >>= λ more. Ok (e ∷ more)) ≡ Ok es → EdgesSaid tests before (line ∷ rest) es
edge_said tests before n line rest es law h =
    let a = went_on (ok_or (next_edge tests before line) n) _ es h in
    let b = went_on (edges_from tests (Some a.0) (n + 1) rest) _ es a.2 in
    let same = same_Ok (a.0 ∷ b.0) es b.2 in
    let here = next_edge_said tests before line a.0 (was_some _ n a.0 a.1) in
    let more = law a.0 b.0 b.1 in
    subst (EdgesSaid tests before (line ∷ rest)) same (record {
      lines = ap (λ l. l ∷ rest) here.0 ∙ ap (λ ls. edge_line a.0 ∷ ls) more.lines;
      each = and_from (is_edge tests a.0) (list_all (is_edge tests) b.0) here.1 more.each;
      order = ascends before a.0 b.0 here.2 more.order;
    })

line_kind : (tests : ℕ) (before : Option Edge) (n : ℕ) (line : List ℕ) (rest : List (List ℕ)) (short ends : Bool) (es : List Edge) → ((e : Edge) (more : List Edge) → edges_from tests (Some e) (n + 1) rest ≡ Ok more → EdgesSaid tests (Some e) rest more)
    → bytes_eq line (codes "end") ≡ ends
    → cond short (Err n) (cond ends (cond (is_over rest) (Ok []) (Err (n + 1))) (ok_or (next_edge tests before line) n >>= λ e. edges_from tests (Some e) (n + 1) rest >>= λ more. Ok (e ∷ more))) ≡ Ok es
    → EdgesSaid tests before (line ∷ rest) es
line_kind tests before n line rest true ends es law e h = absurd cc
line_kind tests before n line rest false true es law e h = end_said tests before n line rest (is_over rest) es e refl h
line_kind tests before n line rest false false es law e h = edge_said tests before n line rest es law h

pub edges_said : (tests : ℕ) (before : Option Edge) (n : ℕ) (left : List (List ℕ)) (es : List Edge) → edges_from tests before n left ≡ Ok es → EdgesSaid tests before left es
edges_said tests before n [] es h = absurd cc
edges_said tests before n (line ∷ rest) es h =
    line_kind tests before n line rest (eqb (length rest) 0) (bytes_eq line (codes "end")) es (λ e more g. edges_said tests (Some e) (n + 1) rest more g) refl h

-- ---- the form of what was read

units_fit : (i : ℕ) (line : List ℕ) (n : ℕ) → units_of i line ≡ Some n → (line ≡ units_line i n) × (nat_le n (2 ^ 26) ≡ true)
units_fit i line n h = let a = units_said i line n h in (a.0, le-leb _ _ a.1)

class_fits : (j : ℕ) (line hash : List ℕ) → class_of j line ≡ Some hash → (line ≡ class_line j hash) × (true ≡ true)
class_fits j line hash h = (class_said j line hash h, refl)

pub units_from : (tests i n : ℕ) (left : List (List ℕ)) (y : List ℕ × List (List ℕ)) → lines_by units_of tests i n left ≡ Ok y → (left ≡ numbered units_line i y.0 ++ y.1) × (length y.0 ≡ tests) × (list_all (λ u. nat_le u (2 ^ 26)) y.0 ≡ true)
units_from tests i n left y h = lines_said units_of units_line (λ u. nat_le u (2 ^ 26)) units_fit tests i n left y h

pub classes_from : (count i n : ℕ) (left : List (List ℕ)) (y : List (List ℕ) × List (List ℕ)) → lines_by class_of count i n left ≡ Ok y → (left ≡ numbered class_line i y.0 ++ y.1) × (length y.0 ≡ count)
classes_from count i n left y h = let a = lines_said class_of class_line (λ x. true) class_fits count i n left y h in (a.0, a.1)

pub reach_from : (count tests i n : ℕ) (left : List (List ℕ)) (y : List Reach × List (List ℕ)) → lines_by (reach_of count) tests i n left ≡ Ok y → (left ≡ numbered reach_line i y.0 ++ y.1) × (length y.0 ≡ tests) × (list_all (is_reach count) y.0 ≡ true)
reach_from count tests i n left y h = lines_said (reach_of count) reach_line (is_reach count) (reach_said count) tests i n left y h

-- the units and conflicts that were read are those of a record
pub read_form : (tests n m : ℕ) (left rest : List (List ℕ)) (units : List ℕ) (es : List Edge) → tests ≤ 1024 → lines_by units_of tests 1 n left ≡ Ok (units, rest) → (after : List (List ℕ)) → edges_from tests None m after ≡ Ok es
    → is_record_form units es ≡ true
unfolding is_record_form
read_form tests n m left rest units es few u after e =
    let a = units_from tests 1 n left (units, rest) u in
    let b = edges_said tests None m after es e in
    and_from _ _ (and_from _ _ (le-leb _ _ (omega (arith, a.1))) a.2) (and_from _ _ (ap (λ k. list_all (is_edge k) es) a.1 ∙ b.each) b.order)

pub read_reach_form : (count tests n m k : ℕ) (units : List ℕ) (suite : List ℕ) (classes : List (List ℕ)) (reach : List Reach) (one two three four five six : List (List ℕ)) → count ≤ 1024
    → lines_by class_of count 1 n one ≡ Ok (classes, two) → lines_by units_of tests 1 m three ≡ Ok (units, four) → lines_by (reach_of count) tests 1 k five ≡ Ok (reach, six)
    → is_reach_form units (Some (record { suite = suite; classes = classes; reach = reach })) ≡ true
unfolding is_reach_form
read_reach_form count tests n m k units suite classes reach one two three four five six few c u r =
    let a = classes_from count 1 n one (classes, two) c in
    let b = units_from tests 1 m three (units, four) u in
    let d = reach_from count tests 1 k five (reach, six) r in
    and_from _ _ (le-leb _ _ (omega (arith, a.1))) (and_from _ _ (eq-eqb _ _ (d.1 ∙ sym b.1)) (ap (λ z. list_all (is_reach z) reach) a.1 ∙ d.2))
