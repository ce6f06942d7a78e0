-- The lines of a text, one by one.
use Rattle.std.proofs.Common.{◌≡◌, ℕ, suc, ◌+◌, false, eqb, List, [], ◌∷◌, ◌++◌, length, Option, Some, None, Result, Ok, Err, refl, sym, ap, ◌∙◌, arith}
use Rattle.std.proofs.lemmas.List.{append_assoc, append-nil}
use Rattle.et_base.specs.Answers.{Fails}
use Rattle.dep_record.specs.Fields.{cut}
use Rattle.dep_record.specs.RecordReading.{◌>>=◌, pieces, next_line, line_by, lines_by, names}
use Rattle.dep_record.specs.declared.refusal.{RecordRefusal.RecordRefusal, RecordRefusal.TheVariants.RecordFault, RecordRefusal.TheVariants.NoMemory}
use Rattle.dep_record.proofs.CutLaws.{pieces_by, pieces_are}

-- a line by the first cut
abbrev line_cut : ℕ → Option (List ℕ × List ℕ) → Result (List ℕ × List (List ℕ)) ℕ
line_cut n None = Err n
line_cut n (Some x) = Ok (x.0, pieces x.1)

some_pieces : (text : List ℕ) → eqb (length (pieces text)) 0 ≡ false
some_pieces text = rw (pieces_are 10 text) (by (cut 10 text))
  where
    by : (parts : Option (List ℕ × List ℕ)) → eqb (length (pieces_by 10 text parts)) 0 ≡ false
    by None = refl
    by (Some x) = grind arith

by_cut : (n : ℕ) (text : List ℕ) (parts : Option (List ℕ × List ℕ)) → next_line n (pieces_by 10 text parts) ≡ line_cut n parts
by_cut n text None = refl
by_cut n text (Some x) = rw (some_pieces x.1) refl

pub next_line_is : (n : ℕ) (text : List ℕ) → next_line n (pieces text) ≡ line_cut n (cut 10 text)
next_line_is n text = ap (next_line n) (pieces_are 10 text) ∙ by_cut n text (cut 10 text)

-- ---- several lines

-- what was found before, and what was found after it
abbrev pub with_front : {A : Type 0} → List A → Result (List A × List (List ℕ)) ℕ → Result (List A × List (List ℕ)) ℕ
with_front front found = found >>= λ y. Ok (front ++ y.0, y.1)

none_before : {A : Type 0} (found : Result (List A × List (List ℕ)) ℕ) → with_front [] found ≡ found
none_before (Ok y) = refl
none_before (Err e) = refl

-- nothing was found yet
pub lines_begin : {A : Type 0} (says : ℕ → List ℕ → Option A) (front : List A) (k k2 n n2 : ℕ) (left : List (List ℕ)) → front ≡ [] → k2 ≡ k → n2 ≡ n → with_front front (lines_by says k2 1 n2 left) ≡ lines_by says k 1 n left
lines_begin says front k k2 n n2 left e ek en = rw (e, ek, en) (none_before (lines_by says k 1 n left))

one_more : {A : Type 0} (front : List A) (x : A) (found : Result (List A × List (List ℕ)) ℕ) → with_front front (found >>= λ y. Ok (x ∷ y.0, y.1)) ≡ with_front (front ++ x ∷ []) found
one_more front x (Ok y) = ap (λ xs. Ok (xs, y.1)) (sym (append_assoc front (x ∷ []) y.0))
one_more front x (Err e) = refl

-- a line more was found
pub lines_go_on : {A : Type 0} (says : ℕ → List ℕ → Option A) (front : List A) (k j i i2 n n2 : ℕ) (left rest : List (List ℕ)) (x : A) (all : Result (List A × List (List ℕ)) ℕ)
    → k ≡ suc j → i2 ≡ i + 1 → n2 ≡ n + 1 → line_by (says i) n left ≡ Ok (x, rest) → with_front front (lines_by says k i n left) ≡ all
    → with_front (front ++ x ∷ []) (lines_by says j i2 n2 rest) ≡ all
lines_go_on says front k j i i2 n n2 left rest x all ek ei en h e =
    rw (ei, en) (sym (one_more front x (lines_by says j (i + 1) (n + 1) rest)) ∙ sym (ap (λ r. with_front front (r >>= λ y. lines_by says j (i + 1) (n + 1) y.1 >>= λ more. Ok (y.0 ∷ more.0, more.1))) h) ∙ (rw ek at e))

-- a line was faulty
pub lines_fail : {A : Type 0} (says : ℕ → List ℕ → Option A) (front : List A) (k j i n : ℕ) (left : List (List ℕ)) (refusal : RecordRefusal) (all : Result (List A × List (List ℕ)) ℕ)
    → k ≡ suc j → Fails (names refusal) (line_by (says i) n left) → with_front front (lines_by says k i n left) ≡ all → Fails (names refusal) all
lines_fail says front k j i n left NoMemory all ek h e = tt
lines_fail says front k j i n left (RecordFault line) all ek h e =
    sym (rw ek at e) ∙ ap (λ r. with_front front (r >>= λ y. lines_by says j (i + 1) (n + 1) y.1 >>= λ more. Ok (y.0 ∷ more.0, more.1))) h

-- all lines were found
pub lines_done : {A : Type 0} (says : ℕ → List ℕ → Option A) (front : List A) (k i n : ℕ) (left : List (List ℕ)) (all : Result (List A × List (List ℕ)) ℕ)
    → k ≡ 0 → with_front front (lines_by says k i n left) ≡ all → all ≡ Ok (front, left)
lines_done says front k i n left all ek e = sym (rw ek at e) ∙ ap (λ xs. Ok (xs, left)) (append-nil front)
