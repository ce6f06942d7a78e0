-- The conflicts of a text, one by one.
use Rattle.std.proofs.Common.{◌≡◌, ℕ, ◌+◌, ◌-◌, Bool, true, false, cond, eqb, List, [], ◌∷◌, ◌++◌, length, slice_get, Option, Some, None, Result, Ok, Err, refl, sym, ap, ◌∙◌, arith}
use Rattle.std.specs.Prelude.{codes}
use Rattle.std.specs.{List.onto_first, Str.bytes_eq}
use Rattle.std.proofs.lemmas.{Bool.ne_eqb, List.append_assoc, List.append-nil, List.length_push}
use Rattle.et_base.specs.Answers.{Fails}
use Rattle.order_law.specs.declared.edges.Edge.{Edge}
use Rattle.dep_record.specs.Fields.{cut, next_edge}
use Rattle.dep_record.specs.RecordReading.{◌>>=◌, pieces, is_over, last_of, next_step, edges_from, names}
use Rattle.dep_record.specs.declared.refusal.{RecordRefusal.RecordRefusal, RecordRefusal.TheVariants.RecordFault, RecordRefusal.TheVariants.NoMemory}
use Rattle.dep_record.proofs.CutLaws.{pieces_by, pieces_are}

over_by : (b : ℕ) (bs : List ℕ) (hit : Bool) (parts : Option (List ℕ × List ℕ)) → is_over (cond hit ([] ∷ pieces_by 10 bs parts) (onto_first b (pieces_by 10 bs parts))) ≡ false
over_by b bs true None = refl
over_by b bs true (Some x) = refl
over_by b bs false None = refl
over_by b bs false (Some x) = refl

-- nothing follows where nothing is left
pub over_is : (text : List ℕ) → is_over (pieces text) ≡ eqb (length text) 0
over_is [] = refl
over_is (b ∷ bs) = ap (λ ps. is_over (cond (eqb b 10) ([] ∷ ps) (onto_first b ps))) (pieces_are 10 bs) ∙ over_by b bs (eqb b 10) (cut 10 bs) ∙ sym (ne_eqb (length (b ∷ bs)) 0 (λ e. omega arith))

-- what follows a step
abbrev after_step : ℕ → ℕ → Option (Edge × List (List ℕ)) → Result (List Edge) ℕ
after_step tests n None = Ok []
after_step tests n (Some x) = edges_from tests (Some x.0) (n + 1) x.1 >>= λ es. Ok (x.0 ∷ es)

step_by : (tests : ℕ) (before : Option Edge) (n : ℕ) (line : List ℕ) (rest : List (List ℕ)) (short ends over : Bool) (e : Option Edge)
    → eqb (length rest) 0 ≡ short → bytes_eq line (codes "end") ≡ ends → is_over rest ≡ over → next_edge tests before line ≡ e
    → edges_from tests before n (line ∷ rest) ≡ (next_step tests before n (line ∷ rest) >>= after_step tests n)
unfolding next_step
step_by tests before n line rest true ends over e a b c d = rw a refl
step_by tests before n line rest false true true e a b c d = rw (a, b, c) refl
step_by tests before n line rest false true false e a b c d = rw (a, b, c) refl
step_by tests before n line rest false false over None a b c d = rw (a, b, d) refl
step_by tests before n line rest false false over (Some e) a b c d = rw (a, b, d) refl

pub edges_by_step : (tests : ℕ) (before : Option Edge) (n : ℕ) (left : List (List ℕ)) → edges_from tests before n left ≡ (next_step tests before n left >>= after_step tests n)
unfolding next_step
edges_by_step tests before n [] = refl
edges_by_step tests before n (line ∷ rest) = step_by tests before n line rest (eqb (length rest) 0) (bytes_eq line (codes "end")) (is_over rest) (next_edge tests before line) refl refl refl refl

-- what was found before, and what was found after it
abbrev pub edges_front : List Edge → Result (List Edge) ℕ → Result (List Edge) ℕ
edges_front front found = found >>= λ es. Ok (front ++ es)

no_edges_before : (found : Result (List Edge) ℕ) → edges_front [] found ≡ found
no_edges_before (Ok es) = refl
no_edges_before (Err n) = refl

-- nothing was found yet
pub edges_begin : (tests : ℕ) (front : List Edge) (first n : ℕ) (left : List (List ℕ)) → front ≡ [] → n ≡ first → edges_front front (edges_from tests (last_of front) n left) ≡ edges_from tests None first left
edges_begin tests front first n left e en = rw (e, en) (no_edges_before (edges_from tests None first left))

one_more : (front : List Edge) (e : Edge) (found : Result (List Edge) ℕ) → edges_front front (found >>= λ es. Ok (e ∷ es)) ≡ edges_front (front ++ e ∷ []) found
one_more front e (Ok es) = ap Ok (sym (append_assoc front (e ∷ []) es))
one_more front e (Err n) = refl

pub last_pushed : (front : List Edge) (e : Edge) → last_of (front ++ e ∷ []) ≡ Some e
last_pushed front e = let s : length (front ++ e ∷ []) - 1 ≡ length front = omega (arith, length_push front e) in rw s (at_length front)
  where
    at_length : (es : List Edge) → slice_get (es ++ e ∷ []) (length es) ≡ Some e
    at_length [] = refl
    at_length (x ∷ es) = at_length es

-- a conflict more was found
pub edges_go_on : (tests : ℕ) (front : List Edge) (n n2 : ℕ) (left rest : List (List ℕ)) (e : Edge) (all : Result (List Edge) ℕ)
    → n2 ≡ n + 1 → next_step tests (last_of front) n left ≡ Ok (Some (e, rest)) → edges_front front (edges_from tests (last_of front) n left) ≡ all
    → edges_front (front ++ e ∷ []) (edges_from tests (last_of (front ++ e ∷ [])) n2 rest) ≡ all
edges_go_on tests front n n2 left rest e all en h same =
    rw (last_pushed front e, en) (sym (one_more front e (edges_from tests (Some e) (n + 1) rest))
    ∙ sym (ap (λ r. edges_front front (r >>= after_step tests n)) h) ∙ sym (ap (edges_front front) (edges_by_step tests (last_of front) n left)) ∙ same)

-- the end was found
pub edges_end : (tests : ℕ) (front : List Edge) (n : ℕ) (left : List (List ℕ)) (all : Result (List Edge) ℕ)
    → next_step tests (last_of front) n left ≡ Ok None → edges_front front (edges_from tests (last_of front) n left) ≡ all → all ≡ Ok front
edges_end tests front n left all h same =
    sym same ∙ ap (edges_front front) (edges_by_step tests (last_of front) n left) ∙ ap (λ r. edges_front front (r >>= after_step tests n)) h ∙ ap Ok (append-nil front)

-- a line was faulty
pub edges_fail : (tests : ℕ) (front : List Edge) (n : ℕ) (left : List (List ℕ)) (refusal : RecordRefusal) (all : Result (List Edge) ℕ)
    → Fails (names refusal) (next_step tests (last_of front) n left) → edges_front front (edges_from tests (last_of front) n left) ≡ all → Fails (names refusal) all
edges_fail tests front n left NoMemory all h same = tt
edges_fail tests front n left (RecordFault line) all h same =
    sym same ∙ ap (edges_front front) (edges_by_step tests (last_of front) n left) ∙ ap (λ r. edges_front front (r >>= after_step tests n)) h
