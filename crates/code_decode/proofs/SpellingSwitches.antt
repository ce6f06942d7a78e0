-- The spelling of switches.
use Rattle.std.proofs.lemmas.{Bool.and_parts, List.append-nil, List.length-append, List.length-replicate, Bool.Decides.nat_tests}
use Rattle.std.proofs.Common.{◌≡◌, ℕ, zero, suc, ◌+◌, ◌/◌, ◌%◌, ◌≤◌, Bool, true, not, ◌||◌, List, [], ◌∷◌, ◌++◌, length, replicate, Some, refl, sym, ap, subst, ◌∙◌, append_assoc, arith}
use Rattle.std.specs.Prelude.{ℤ}
use Rattle.std.specs.{List.flat_map, List.list_all, List.enumerate_from, Int.w32, Int.to_be_bytes}
use Rattle.class_pool.specs.Grammar.{IsBytes, Nothing, Then, Tested, Counted, Joined, Chain}
use Rattle.code_decode.specs.{declared.opcodes.Shape.Shape, Targets.is_place, Targets.leads, Switches.padding, Switches.span, Switches.keys_rise}
use Rattle.code_decode.specs.declared.opcodes.Shape.TheVariants as shape
use Rattle.code_decode.specs.CodeGrammar.{WordText, PlaceText, OtherText, EndsText, TableText, CountText, PairText, PairsText, LookupText}
use Rattle.code_decode.specs.Spelling.{signed_bytes, offset_bytes, pair_bytes, table_bytes, lookup_bytes}
use Rattle.code_decode.proofs.SpellingLaw.{turns32, is_inside, signed_same, offset_same}

-- Another text that spells the same, and is as long.
pub record Respelled {A : Type 0} (S : List ℕ → A → Type 0) (text now : List ℕ) (x : A) : Type 0 where
  pub spelled : S now x
  pub len : length now ≡ length text

-- the same text
pub respelled_same : {A : Type 0} (S : List ℕ → A → Type 0) (text now : List ℕ) (x : A) → S text x → text ≡ now → Respelled S text now x
respelled_same S text now x s e = record { spelled = subst (λ t. S t x) e s; len = ap length (sym e) }

-- the first part spelled again, and the second as it was
pub respelled_then : {A B : Type 0} (S : List ℕ → A → Type 0) (T : A → List ℕ → B → Type 0) (one more first second : List ℕ) (x : A) (y : B) → Respelled S one first x → T x more y → more ≡ second → Respelled (Then S T) (one ++ more) (first ++ second) y
respelled_then S T one more first second x y r t e = record {
  spelled = (x, first, second, refl, r.spelled, subst (λ m. T x m y) e t);
  len = length-append first second ∙ ap (λ n. n + length second) r.len ∙ ap (λ n. length one + n) (ap length (sym e)) ∙ sym (length-append one more);
}

pub zeros_fit : (n : ℕ) → IsBytes (replicate n 0)
zeros_fit zero i = omega arith
zeros_fit (suc n) zero = omega arith
zeros_fit (suc n) (suc i) = zeros_fit n i

place_same : (total pc : ℕ) (text : List ℕ) (z : ℤ) → PlaceText total pc text z → is_inside z ≡ true → text ≡ offset_bytes w32 pc z
place_same total pc text z (n, s, e) inside = s.0 ∙ offset_same w32 total pc n z turns32 s.1 e inside

word_same : (text : List ℕ) (z : ℤ) → WordText text z → text ≡ signed_bytes w32 z
word_same text z (n, s, e) = s.0 ∙ signed_same w32 n turns32 s.1 ∙ ap (signed_bytes w32) (sym e)

other_again : (total pc : ℕ) (text : List ℕ) (z : ℤ) → OtherText total pc text z → is_inside z ≡ true → Respelled (OtherText total pc) text (replicate (padding pc) 0 ++ offset_bytes w32 pc z) z
other_again total pc text z (run, pad, rest, e, r, t) inside =
    let same : rest ≡ offset_bytes w32 pc z = place_same total pc rest z t inside in
    let zeros : List ℕ = replicate (padding pc) 0 in
    let long : length zeros ≡ length pad = length-replicate (padding pc) 0 ∙ sym (ap length r.0 ∙ r.1) in
    record {
      spelled = (zeros, zeros, offset_bytes w32 pc z, refl, (refl, length-replicate (padding pc) 0, zeros_fit (padding pc)), subst (λ t. PlaceText total pc t z) same t);
      len = length-append zeros (offset_bytes w32 pc z) ∙ ap (λ n. n + length (offset_bytes w32 pc z)) long ∙ ap (λ n. length pad + n) (ap length (sym same)) ∙ sym (length-append pad rest) ∙ ap length (sym e);
    }

-- ---- tableswitch

abbrev pub inside_from : Shape → ℕ → List ℤ → Bool
inside_from form i args = list_all (λ p. not (is_place (Some form) p.0) || is_inside p.1) (enumerate_from i args)

row_place : (i : ℕ) (b : Bool) → 3 ≤ i → (not (is_place (Some shape.Table) i) || b) ≡ true → b ≡ true
row_place i b le h = grind (arith, nat_tests)

rows_same : (total pc : ℕ) (xs before : List ℤ) (text : List ℕ) (i : ℕ) → 3 ≤ i → Joined (λ _ _. PlaceText total pc) before text xs → inside_from shape.Table i xs ≡ true → text ≡ flat_map (offset_bytes w32 pc) xs
rows_same total pc [] before text i le s h = s
rows_same total pc (x ∷ xs) before text i le (one, more, e, s, others) h =
    let p = and_parts _ _ h in
    let first : one ≡ offset_bytes w32 pc x = place_same total pc one x s (row_place i (is_inside x) le p.0) in
    e ∙ ap (λ o. o ++ more) first ∙ ap (λ m. offset_bytes w32 pc x ++ m) (rows_same total pc xs (before ++ x ∷ []) more (i + 1) (omega arith) others p.1)

ends_same : (text : List ℕ) (ends : ℤ × ℤ) → EndsText text ends → text ≡ signed_bytes w32 ends.0 ++ signed_bytes w32 ends.1
ends_same text ends (low, one, more, e, s, (high, two, rest, f, t, (right, (none, is)))) =
    e ∙ ap (λ o. o ++ more) (word_same one low s) ∙ ap (λ m. signed_bytes w32 low ++ m) (f ∙ ap (λ m. two ++ m) none ∙ append-nil two ∙ word_same two high t)
    ∙ ap (λ (p : ℤ × ℤ). signed_bytes w32 p.0 ++ signed_bytes w32 p.1) (sym is)

pub table_again : (total pc : ℕ) (text : List ℕ) (args : List ℤ) → TableText total pc text args → leads (Some shape.Table) is_inside args ≡ true → Respelled (TableText total pc) text (table_bytes pc args) args
table_again total pc text args (other, one, more, e, s, (ends, two, rows, f, t, (xs, is, len, joined))) inside =
    let made : List ℤ = other ∷ ends.0 ∷ ends.1 ∷ xs in
    let h : leads (Some shape.Table) is_inside made ≡ true = ap (leads (Some shape.Table) is_inside) (sym is) ∙ inside in
    let p = and_parts (is_inside other) (inside_from shape.Table 3 xs) h in
    let second : more ≡ (signed_bytes w32 ends.0 ++ signed_bytes w32 ends.1) ++ flat_map (offset_bytes w32 pc) xs =
    f ∙ ap (λ o. o ++ rows) (ends_same two ends t) ∙ ap (λ m. (signed_bytes w32 ends.0 ++ signed_bytes w32 ends.1) ++ m) (rows_same total pc xs (other ∷ ends.0 ∷ ends.1 ∷ []) rows 3 (omega arith) joined p.1) in
    let whole : Respelled (TableText total pc) (one ++ more) (table_bytes pc made) args =
    respelled_then (OtherText total pc) (λ other. Then EndsText (λ ends. Counted (λ _ _. PlaceText total pc) (other ∷ ends.0 ∷ ends.1 ∷ []) (span ends.0 ends.1))) one more _ _ other args (other_again total pc one other s p.0) (ends, two, rows, f, t, (xs, is, len, joined)) second in
    subst (λ b. Respelled (TableText total pc) b (table_bytes pc args) args) (sym e) (subst (λ a. Respelled (TableText total pc) (one ++ more) (table_bytes pc a) args) (sym is) whole)

-- ---- lookupswitch

-- the pairs that steps add, and their bytes, when they begin at an odd place
pub record Pairs (pc : ℕ) (before : List ℤ) (n : ℕ) (text : List ℕ) (args : List ℤ) : Type 0 where
  pub pairs : List ℤ
  pub all : args ≡ before ++ pairs
  pub len : length pairs ≡ n + n
  pub same : (i : ℕ) → i % 2 ≡ 1 → inside_from shape.Lookup i pairs ≡ true → text ≡ pair_bytes pc pairs

lookup_place : (i : ℕ) (b : Bool) → i % 2 ≡ 1 → (not (is_place (Some shape.Lookup) (i + 1)) || b) ≡ true → b ≡ true
lookup_place i b odd h = let even : (i + 1) % 2 ≡ 0 = omega arith in grind (arith, nat_tests)

pairs_of : (total pc n : ℕ) (before : List ℤ) (text : List ℕ) (args : List ℤ) → Chain (PairText total pc) before n text args → Pairs pc before n text args
pairs_of total pc zero before text args (none, is) = record { pairs = []; all = is ∙ sym (append-nil before); len = refl; same = λ i odd h. none }
pairs_of total pc (suc n) before text args (mid, one, more, e, (key, two, rest, f, s, (to, t, is)), others) =
    let made : Chain (PairText total pc) (before ++ key ∷ to ∷ []) n more args = subst (λ m. Chain (PairText total pc) m n more args) is others in
    let r = pairs_of total pc n (before ++ key ∷ to ∷ []) more args made in
    record {
      pairs = key ∷ to ∷ r.pairs;
      all = r.all ∙ append_assoc before (key ∷ to ∷ []) r.pairs;
      len = omega (arith, r.len);
      same = λ i odd h.
          let p = and_parts (not (is_place (Some shape.Lookup) i) || is_inside key) _ h in
          let q = and_parts (not (is_place (Some shape.Lookup) (i + 1)) || is_inside to) _ p.1 in
          let first : two ≡ signed_bytes w32 key = word_same two key s in
          let second : rest ≡ offset_bytes w32 pc to = place_same total pc rest to t (lookup_place i (is_inside to) odd q.0) in
          let third : more ≡ pair_bytes pc r.pairs = r.same (i + 1 + 1) (omega arith) q.1 in
          e ∙ ap (λ o. o ++ more) (f ∙ ap (λ o. o ++ rest) first ∙ ap (λ m. signed_bytes w32 key ++ m) second) ∙ append_assoc (signed_bytes w32 key) (offset_bytes w32 pc to) more
          ∙ ap (λ m. signed_bytes w32 key ++ offset_bytes w32 pc to ++ m) third;
    }

count_same : (text : List ℕ) (n : ℕ) → CountText text n → text ≡ to_be_bytes w32 n
count_same text n (k, one, more, e, s, (few, (none, is))) = e ∙ ap (λ m. one ++ m) none ∙ append-nil one ∙ s.0 ∙ ap (to_be_bytes w32) (sym is)

half : (n m : ℕ) → m ≡ n + n → n ≡ m / 2
half n m e = omega arith

pub lookup_again : (total pc : ℕ) (text : List ℕ) (args : List ℤ) → LookupText total pc text args → leads (Some shape.Lookup) is_inside args ≡ true → Respelled (LookupText total pc) text (lookup_bytes pc args) args
lookup_again total pc text args (other, one, more, e, s, (listed, two, rest, f, (n, three, four, g, t, chain), (rise, (none, is)))) inside =
    let r = pairs_of total pc n (other ∷ []) four listed chain in
    let all : args ≡ other ∷ r.pairs = is ∙ r.all in
    let h : leads (Some shape.Lookup) is_inside (other ∷ r.pairs) ≡ true = ap (leads (Some shape.Lookup) is_inside) (sym all) ∙ inside in
    let p = and_parts (is_inside other) (inside_from shape.Lookup 1 r.pairs) h in
    let second : more ≡ to_be_bytes w32 (length r.pairs / 2) ++ pair_bytes pc r.pairs =
    f ∙ ap (λ m. two ++ m) none ∙ append-nil two ∙ g ∙ ap (λ o. o ++ four) (count_same three n t ∙ ap (to_be_bytes w32) (half n (length r.pairs) r.len))
    ∙ ap (λ m. to_be_bytes w32 (length r.pairs / 2) ++ m) (r.same 1 refl p.1) in
    let whole : Respelled (LookupText total pc) (one ++ more) (lookup_bytes pc (other ∷ r.pairs)) args =
    respelled_then (OtherText total pc) (λ other. Then (PairsText total pc other) (λ args. Tested (keys_rise args) (Nothing args))) one more _ _ other args (other_again total pc one other s p.0) (listed, two, rest, f, (n, three, four, g, t, chain), (rise, (none, is))) second in
    subst (λ b. Respelled (LookupText total pc) b (lookup_bytes pc args) args) (sym e) (subst (λ a. Respelled (LookupText total pc) (one ++ more) (lookup_bytes pc a) args) (sym all) whole)
