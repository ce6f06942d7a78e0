-- Numbers that are joined by commas, one by one.
use Rattle.std.proofs.Common.{◌≡◌, ℕ, List, [], ◌∷◌, ◌++◌, Option, Some, None, refl, sym, ap, ◌∙◌}
use Rattle.std.specs.Option.{option_map, option_and_then}
use Rattle.std.proofs.lemmas.List.{append_assoc}
use Rattle.dep_record.specs.Fields.{cut, number_of, numbers_of, numbers_in}
use Rattle.dep_record.proofs.CutLaws.{pieces_by, pieces_are}

abbrev after : List ℕ → Option (List ℕ) → Option (List ℕ)
after front found = option_map (λ ns. front ++ ns) found

by_cut : (left : List ℕ) (parts : Option (List ℕ × List ℕ)) → cut 44 left ≡ parts → numbers_in left ≡ numbers_of (pieces_by 44 left parts)
by_cut left parts h = ap numbers_of (pieces_are 44 left ∙ ap (pieces_by 44 left) h)

abbrev with_number : Option (List ℕ) → Option ℕ → Option (List ℕ)
with_number more number = option_and_then (λ n. option_map (λ ns. n ∷ ns) more) number

onto_front : (front : List ℕ) (n : ℕ) (more : Option (List ℕ)) → after front (option_map (λ ns. n ∷ ns) more) ≡ after (front ++ n ∷ []) more
onto_front front n None = refl
onto_front front n (Some ns) = ap Some (sym (append_assoc front (n ∷ []) ns))

-- a number more was found
pub numbers_go_on : (front left piece rest : List ℕ) (n : ℕ) (all : Option (List ℕ)) → cut 44 left ≡ Some (piece, rest) → number_of piece ≡ Some n → after front (numbers_in left) ≡ all → after (front ++ n ∷ []) (numbers_in rest) ≡ all
numbers_go_on front left piece rest n all h g e =
    sym (onto_front front n (numbers_in rest)) ∙ sym (ap (λ o. after front (with_number (numbers_in rest) o)) g) ∙ sym (ap (after front) (by_cut left (Some (piece, rest)) h)) ∙ e

-- a piece was no number
pub numbers_stop : (front left piece rest : List ℕ) (all : Option (List ℕ)) → cut 44 left ≡ Some (piece, rest) → number_of piece ≡ None → after front (numbers_in left) ≡ all → None ≡ all
numbers_stop front left piece rest all h g e =
    sym (ap (λ o. after front (with_number (numbers_in rest) o)) g) ∙ sym (ap (after front) (by_cut left (Some (piece, rest)) h)) ∙ e

-- the last piece
pub numbers_last : (front left : List ℕ) (n : ℕ) (all : Option (List ℕ)) → cut 44 left ≡ None → number_of left ≡ Some n → after front (numbers_in left) ≡ all → Some (front ++ n ∷ []) ≡ all
numbers_last front left n all h g e =
    sym (ap (λ o. after front (with_number (Some []) o)) g) ∙ sym (ap (after front) (by_cut left None h)) ∙ e

pub numbers_none : (front left : List ℕ) (all : Option (List ℕ)) → cut 44 left ≡ None → number_of left ≡ None → after front (numbers_in left) ≡ all → None ≡ all
numbers_none front left all h g e =
    sym (ap (λ o. after front (with_number (Some []) o)) g) ∙ sym (ap (after front) (by_cut left None h)) ∙ e
