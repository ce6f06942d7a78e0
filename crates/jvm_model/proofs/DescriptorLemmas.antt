-- A descriptor's first type, and what comes after it.
use Rattle.std.proofs.Common.{◌≡◌, ◌≢◌, ℕ, zero, suc, ◌<◌, ◌≤◌, List, [], ◌∷◌, length, take, drop, Bool, true, false, nat_eq, refl, ap, ◌∙◌, arith, length-drop}
use Rattle.std.proofs.lemmas.Bool.{false_from_ne_true, eqb-true}
use Rattle.jvm_model.specs.Descriptors.{Scan, at_type, in_array, in_name, onto_first, types_in, past_types}
use Rattle.jvm_model.specs.Scanning.{type_length, SplitsType}

-- the types from a unit on that is a bracket, an L or neither
abbrev types_by : Bool → Bool → ℕ → List ℕ → List (List ℕ)
types_by b c v us = elim b [ true ↦ onto_first v (types_in in_array us) | false ↦ elim c [ true ↦ onto_first v (types_in in_name us) | false ↦ (v ∷ []) ∷ types_in at_type us ] ]

abbrev length_by : Bool → Bool → List ℕ → ℕ
length_by b c us = elim b [ true ↦ suc (type_length false us) | false ↦ elim c [ true ↦ suc (type_length true us) | false ↦ suc zero ] ]

abbrev scan_by : Bool → Bool → Scan
scan_by b c = elim b [ true ↦ in_array | false ↦ elim c [ true ↦ in_name | false ↦ at_type ] ]

-- what a type that has begun takes, and what comes after it
abbrev Begun : ℕ → List (List ℕ) → ℕ → List ℕ → Type 0
Begun u ts n us = onto_first u ts ≡ (u ∷ take n us) ∷ types_in at_type (drop n us)

begun_by : (b c : Bool) (u v : ℕ) (us : List ℕ) → Begun v (types_in in_array us) (type_length false us) us → Begun v (types_in in_name us) (type_length true us) us → Begun u (types_by b c v us) (length_by b c us) (v ∷ us)
begun_by true c u v us a n = ap (onto_first u) a
begun_by false true u v us a n = ap (onto_first u) n
begun_by false false u v us a n = refl

named_by : (b : Bool) (u v : ℕ) (us : List ℕ) → Begun v (types_in in_name us) (type_length true us) us
    → Begun u (elim b [ true ↦ (v ∷ []) ∷ types_in at_type us | false ↦ onto_first v (types_in in_name us) ]) (elim b [ true ↦ suc zero | false ↦ suc (type_length true us) ]) (v ∷ us)
named_by true u v us n = refl
named_by false u v us n = ap (onto_first u) n

begun_name : (u : ℕ) (us : List ℕ) → Begun u (types_in in_name us) (type_length true us) us
begun_name u [] = refl
begun_name u (v ∷ us) = named_by (nat_eq v 59) u v us (begun_name v us)

begun_array : (u : ℕ) (us : List ℕ) → Begun u (types_in in_array us) (type_length false us) us
begun_array u [] = refl
begun_array u (v ∷ us) = begun_by (nat_eq v 91) (nat_eq v 76) u v us (begun_array v us) (begun_name v us)

first_by : (b c : Bool) (v : ℕ) (us : List ℕ) → types_by b c v us ≡ take (length_by b c us) (v ∷ us) ∷ types_in at_type (drop (length_by b c us) (v ∷ us))
first_by true c v us = begun_array v us
first_by false true v us = begun_name v us
first_by false false v us = refl

-- what comes after a type, for what comes after the parameters
abbrev Past : List ℕ → ℕ → List ℕ → Type 0
Past rest n us = rest ≡ past_types at_type (drop n us)

named_past : (b : Bool) (v : ℕ) (us : List ℕ) → Past (past_types in_name us) (type_length true us) us → Past (past_types (elim b [ true ↦ at_type | false ↦ in_name ]) us) (elim b [ true ↦ suc zero | false ↦ suc (type_length true us) ]) (v ∷ us)
named_past true v us n = refl
named_past false v us n = n

past_name : (us : List ℕ) → Past (past_types in_name us) (type_length true us) us
past_name [] = refl
past_name (v ∷ us) = named_past (nat_eq v 59) v us (past_name us)

past_by : (b c : Bool) (v : ℕ) (us : List ℕ) → Past (past_types in_array us) (type_length false us) us → Past (past_types (scan_by b c) us) (length_by b c us) (v ∷ us)
past_by true c v us a = a
past_by false true v us a = past_name us
past_by false false v us a = refl

past_array : (us : List ℕ) → Past (past_types in_array us) (type_length false us) us
past_array [] = refl
past_array (v ∷ us) = past_by (nat_eq v 91) (nat_eq v 76) v us (past_array us)

-- where the parameters haven't ended, a type stands first
open_types : (b : Bool) (x y : List (List ℕ)) → b ≡ false → elim b [ true ↦ x | false ↦ y ] ≡ y
open_types b x y e = rw e refl

open_past : (b : Bool) (x y : List ℕ) → b ≡ false → elim b [ true ↦ x | false ↦ y ] ≡ y
open_past b x y e = rw e refl

within_by : (b c : Bool) (us : List ℕ) → type_length false us ≤ length us → type_length true us ≤ length us → length_by b c us ≤ suc (length us)
within_by true c us h k = omega arith
within_by false true us h k = omega arith
within_by false false us h k = omega arith

within_named : (b : Bool) (us : List ℕ) → type_length true us ≤ length us → elim b [ true ↦ suc zero | false ↦ suc (type_length true us) ] ≤ suc (length us)
within_named true us k = omega arith
within_named false us k = omega arith

within_name : (us : List ℕ) → type_length true us ≤ length us
within_name [] = omega arith
within_name (v ∷ us) = within_named (nat_eq v 59) us (within_name us)

pub type_within : (us : List ℕ) → type_length false us ≤ length us
type_within [] = omega arith
type_within (v ∷ us) = within_by (nat_eq v 91) (nat_eq v 76) us (type_within us) (within_name us)

some_by : (b c : Bool) (us : List ℕ) → 0 < length_by b c us
some_by true c us = omega arith
some_by false true us = omega arith
some_by false false us = omega arith

shorter : (us : List ℕ) (n : ℕ) → 0 < n → n ≤ length us → length (drop n us) < length us
shorter us n h k = omega (arith, length-drop n us)

splits_open : (u : ℕ) (us : List ℕ) → nat_eq u 41 ≡ false → SplitsType (u ∷ us) (take (type_length false (u ∷ us)) (u ∷ us)) (drop (type_length false (u ∷ us)) (u ∷ us))
splits_open u us e = record {
  types = open_types (nat_eq u 41) _ _ e ∙ first_by (nat_eq u 91) (nat_eq u 76) u us;
  past = open_past (nat_eq u 41) _ _ e ∙ past_by (nat_eq u 91) (nat_eq u 76) u us (past_array us);
  shorter = shorter (u ∷ us) (type_length false (u ∷ us)) (some_by (nat_eq u 91) (nat_eq u 76) us) (type_within (u ∷ us));
}

pub splits : (us : List ℕ) (u : ℕ) (rest : List ℕ) → us ≡ u ∷ rest → u ≢ 41 → SplitsType us (take (type_length false us) us) (drop (type_length false us) us)
splits us u rest is n = rw is (splits_open u rest (false_from_ne_true (nat_eq u 41) (λ t. n (eqb-true u 41 t))))
