-- The operands of instructions, item by item.
use Rattle.std.proofs.Common.{◌≡◌, ℕ, zero, suc, ◌+◌, ◌-◌, ◌*◌, ◌/◌, ◌<◌, ◌≤◌, List, [], ◌∷◌, ◌++◌, length, take, drop, replicate, get_or, refl, sym, ap, ◌∙◌, append_assoc, arith}
use Rattle.std.specs.Prelude.{ℤ}
use Rattle.std.specs.{List.flat_map, Int.w32, Int.to_be_bytes}
use Rattle.code_decode.specs.Switches.{padding}
use Rattle.code_decode.specs.Spelling.{signed_bytes, offset_bytes, pair_bytes, two_bytes, table_bytes, lookup_bytes}

pub padded : (k : ℕ) → k < 4 → take {A = ℕ} (3 - k) (drop {A = ℕ} k (0 ∷ 0 ∷ 0 ∷ [])) ≡ replicate (3 - k) 0
padded zero lt = refl
padded (suc zero) lt = refl
padded (suc (suc zero)) lt = refl
padded (suc (suc (suc zero))) lt = refl
padded (suc (suc (suc (suc k)))) lt = absurd (omega (arith, lt))

pub two_is : (first second : ℤ → List ℕ) (args : List ℤ) (d e : ℤ) → 2 ≤ length args → length args < 3 → two_bytes first second args ≡ first (get_or args 0 d) ++ second (get_or args 1 e)
two_is first second [] d e some few = absurd (omega (arith, some))
two_is first second (a ∷ []) d e some few = absurd (omega (arith, some))
two_is first second (a ∷ b ∷ []) d e some few = refl
two_is first second (a ∷ b ∷ c ∷ args) d e some few = absurd (omega (arith, few))

abbrev pub other_bytes : ℕ → ℤ → List ℕ
other_bytes pc other = replicate (padding pc) 0 ++ offset_bytes w32 pc other

pub table_is : (pc : ℕ) (args : List ℤ) (d e f : ℤ) → 3 ≤ length args
    → table_bytes pc args ≡ other_bytes pc (get_or args 0 d) ++ ((signed_bytes w32 (get_or args 1 e) ++ signed_bytes w32 (get_or args 2 f)) ++ flat_map (offset_bytes w32 pc) (drop 3 args))
table_is pc [] d e f some = absurd (omega (arith, some))
table_is pc (a ∷ []) d e f some = absurd (omega (arith, some))
table_is pc (a ∷ b ∷ []) d e f some = absurd (omega (arith, some))
table_is pc (a ∷ b ∷ c ∷ args) d e f some = refl

pub lookup_is : (pc : ℕ) (args : List ℤ) (d : ℤ) → 1 ≤ length args → lookup_bytes pc args ≡ other_bytes pc (get_or args 0 d) ++ (to_be_bytes w32 (length (drop 1 args) / 2) ++ pair_bytes pc (drop 1 args))
lookup_is pc [] d some = absurd (omega (arith, some))
lookup_is pc (a ∷ args) d some = refl

pairs_at : (pc : ℕ) (pairs : List ℤ) (k : ℕ) (d e : ℤ) → k + 1 < length pairs
    → pair_bytes pc (drop k pairs) ≡ signed_bytes w32 (get_or pairs k d) ++ (offset_bytes w32 pc (get_or pairs (suc k) e) ++ pair_bytes pc (drop (suc (suc k)) pairs))
pairs_at pc [] k d e lt = absurd (omega (arith, lt))
pairs_at pc (a ∷ []) zero d e lt = absurd (omega (arith, lt))
pairs_at pc (a ∷ b ∷ pairs) zero d e lt = refl
pairs_at pc (a ∷ pairs) (suc k) d e lt = pairs_at pc pairs k d e (omega (arith, lt))

-- one more key and its place
pub pairs_next : (pc : ℕ) (pairs : List ℤ) (i : ℕ) (d e : ℤ) → i < length pairs / 2
    → pair_bytes pc (drop (2 * i) pairs) ≡ signed_bytes w32 (get_or pairs (2 * i) d) ++ (offset_bytes w32 pc (get_or pairs (2 * i + 1) e) ++ pair_bytes pc (drop (2 * (i + 1)) pairs))
pairs_next pc pairs i d e lt = let two : 2 * (i + 1) ≡ suc (suc (2 * i)) = omega arith in let one : 2 * i + 1 ≡ suc (2 * i) = omega arith in rw (two, one) (pairs_at pc pairs (2 * i) d e (omega (arith, lt)))

pairs_end : (pc : ℕ) (pairs : List ℤ) (k : ℕ) → length pairs ≤ k + 1 → pair_bytes pc (drop k pairs) ≡ []
pairs_end pc [] zero le = refl
pairs_end pc [] (suc k) le = refl
pairs_end pc (a ∷ []) zero le = refl
pairs_end pc (a ∷ b ∷ pairs) zero le = absurd (omega (arith, le))
pairs_end pc (a ∷ pairs) (suc k) le = pairs_end pc pairs k (omega (arith, le))

-- behind all of them
pub pairs_done : (pc : ℕ) (pairs : List ℤ) (i : ℕ) → length pairs / 2 ≤ i → pair_bytes pc (drop (2 * i) pairs) ≡ []
pairs_done pc pairs i le = pairs_end pc pairs (2 * i) (omega (arith, le))

-- two pieces behind what is written
pub behind : (out one two after : List ℕ) → ((out ++ one) ++ two) ++ after ≡ out ++ (one ++ (two ++ after))
behind out one two after = append_assoc (out ++ one) two after ∙ append_assoc out one (two ++ after)

-- four pieces behind what is written
pub behind_four : (out one two three after : List ℕ) → (((out ++ one) ++ two) ++ three) ++ after ≡ out ++ (one ++ ((two ++ three) ++ after))
behind_four out one two three after = append_assoc ((out ++ one) ++ two) three after ∙ behind out one two (three ++ after) ∙ ap (λ x. out ++ (one ++ x)) (sym (append_assoc two three after))
