-- Different texts seen as a list, with their places.
use Rattle.std.proofs.Common.{◌≡◌, ◌+◌, ◌<◌, ℕ, suc, Bool, true, false, ◌||◌, cond, List, [], ◌∷◌, ◌++◌, length, position, Option, Some, None, is_some, refl, sym, ap, ◌∙◌, arith, add-zero, IfSome}
use Rattle.std.specs.{declared.vec.Vec.Vec, declared.alloc.Global.Global, List.list_any, List.position_from, Ordering.nat_cmp, Cmp.Lexicographic.slice_cmp}
use Rattle.std.specs.{Map.KeepsOthers, Str.bytes_eq, BTreeMap.BTreeMap, BTreeMap.Updates, BTreeMap.is_at, BTreeMap.IsEmpty}
use Rattle.std.proofs.lemmas.{Bool.or_parts, List.length-append, Cmp.nat_list_cmp_total, Cmp.nat_list_eq_equiv, Cmp.eq_by_cmp_equiv}
use Rattle.std.proofs.lemmas.{Iterator.Adapters.position_from-zero, List.Quantifiers.position-Some, Map.Text.is_eq-slice_cmp, Slice.Eq.bytes_eq-Decides}
use Rattle.class_link.specs.{Literals.noted, Placed.number_in, Placed.IsPlaced}

-- ---- places

some_from : (p : List ℕ → Bool) (i : ℕ) (texts : List (List ℕ)) → is_some (position_from p i texts) ≡ list_any p texts
some_from p i [] = refl
some_from p i (t ∷ ts) = elim (p t) as (λ b. is_some (cond b (Some i) (position_from p (i + 1) ts)) ≡ (b || list_any p ts)) [ true ↦ refl | false ↦ some_from p (i + 1) ts ]

-- a text is among those that have a place
placed_among : (text : List ℕ) (texts : List (List ℕ)) → is_some (position (bytes_eq text) texts) ≡ list_any (bytes_eq text) texts
placed_among text texts = ap is_some (position_from-zero (bytes_eq text) texts) ∙ some_from (bytes_eq text) 0 texts

-- one more text, which isn't among them, has the last place
from_last : (text q : List ℕ) (i : ℕ) (texts : List (List ℕ)) → list_any (bytes_eq text) texts ≡ false
    → position_from (bytes_eq q) i (texts ++ text ∷ []) ≡ cond (bytes_eq text q) (Some (i + length texts)) (position_from (bytes_eq q) i texts)
from_last text q i [] new = rw (nat_list_eq_equiv.symm q text, add-zero) refl
from_last text q i (t ∷ ts) new =
    let n : (i + 1) + length ts ≡ i + suc (length ts) = omega arith in
    let apart = or_parts (bytes_eq text t) (list_any (bytes_eq text) ts) new in
    elim (bytes_eq q t) as (λ b. bytes_eq q t ≡ b → cond b (Some i) (position_from (bytes_eq q) (i + 1) (ts ++ text ∷ [])) ≡ cond (bytes_eq text q) (Some (i + suc (length ts))) (cond b (Some i) (position_from (bytes_eq q) (i + 1) ts))) [
      | true ↦ λ same. rw (ap (bytes_eq text) ((bytes_eq-Decides q t).0 same) ∙ apart.0) refl
      | false ↦ λ _. from_last text q (i + 1) ts apart.1 ∙ ap (λ m. cond (bytes_eq text q) (Some m) (position_from (bytes_eq q) (i + 1) ts)) n
    ] refl

position_last : (text q : List ℕ) (texts : List (List ℕ)) → list_any (bytes_eq text) texts ≡ false
    → position (bytes_eq q) (texts ++ text ∷ []) ≡ cond (bytes_eq text q) (Some (length texts)) (position (bytes_eq q) texts)
position_last text q texts new =
    let n : 0 + length texts ≡ length texts = omega arith in
    position_from-zero (bytes_eq q) (texts ++ text ∷ []) ∙ from_last text q 0 texts new ∙ ap (λ m. cond (bytes_eq text q) (Some m) (position_from (bytes_eq q) 0 texts)) n ∙ ap (cond (bytes_eq text q) (Some (length texts))) (sym (position_from-zero (bytes_eq q) texts))

-- ---- the map

-- a key that is put into the map has its number, and each other text what it had
number_after : (key : Vec ℕ Global) (n : ℕ) (old new : BTreeMap (Vec ℕ Global) ℕ) → Updates (λ a b. slice_cmp nat_cmp a.items b.items) old new key (Some n)
    → (q : List ℕ) → number_in new q ≡ cond (bytes_eq key.items q) (Some n) (number_in old q)
unfolding KeepsOthers
number_after key n old new updates q =
    let apart : bytes_eq key.items q ≡ false → (k : Vec ℕ Global) → is_at (λ k. slice_cmp nat_cmp key.items k.items) k ≡ true → is_at (λ k. slice_cmp nat_cmp q k.items) k ≡ false = λ e k at.
    let same : key.items ≡ k.items = (bytes_eq-Decides key.items k.items).0 (sym (is_eq-slice_cmp key.items k.items) ∙ at) in
    is_eq-slice_cmp q k.items ∙ nat_list_eq_equiv.symm q k.items ∙ ap (λ t. bytes_eq t q) (sym same) ∙ e in
    elim (bytes_eq key.items q) as (λ b. bytes_eq key.items q ≡ b → number_in new q ≡ cond b (Some n) (number_in old q)) [
      | true ↦ λ e. ap (number_in new) (sym ((bytes_eq-Decides key.items q).0 e)) ∙ updates.1
      | false ↦ λ e. updates.3 _ (λ x y. (eq_by_cmp_equiv nat_list_cmp_total).congr q x.items y.items) (apart e)
    ] refl

pub none_placed : (places : BTreeMap (Vec ℕ Global) ℕ) → IsEmpty places → IsPlaced [] places
none_placed places none = record { few = omega arith; at = λ q. rw none refl }

-- the map has a text that is among them
pub text_among : (texts : List (List ℕ)) (places : BTreeMap (Vec ℕ Global) ℕ) (text : List ℕ) → IsPlaced texts places → is_some (number_in places text) ≡ list_any (bytes_eq text) texts
text_among texts places text placed = ap is_some (placed.at text) ∙ placed_among text texts

-- the place of a text is a number of 32 bits, and so is the next one
pub place_below : (texts : List (List ℕ)) (places : BTreeMap (Vec ℕ Global) ℕ) (text : List ℕ) (found : Option ℕ) → IsPlaced texts places → found ≡ number_in places text → IfSome found (λ place. place + 1 < 4294967296)
place_below texts places text None placed is = tt
place_below texts places text (Some place) placed is =
    let below = (position-Some (bytes_eq text) texts place text (sym (is ∙ placed.at text))).0 in
    omega (arith, below, placed.few)

-- one more text, which isn't among them, with its place
pub placed_more : (texts more : List (List ℕ)) (text : List ℕ) (key : Vec ℕ Global) (n : ℕ) (old new : BTreeMap (Vec ℕ Global) ℕ) → IsPlaced texts old → list_any (bytes_eq text) texts ≡ false → key.items ≡ text → n ≡ length texts
    → length texts + 1 < 4294967295 → Updates (λ a b. slice_cmp nat_cmp a.items b.items) old new key (Some n) → more ≡ texts ++ text ∷ [] → IsPlaced more new
placed_more texts more text key n old new placed absent is last few updates longer = rw longer (record {
  few = rw (length-append texts (text ∷ [])) few;
  at = λ q. number_after key n old new updates q ∙ ap (λ t. cond (bytes_eq t q) (Some n) (number_in old q)) is ∙ ap (λ m. cond (bytes_eq text q) (Some m) (number_in old q)) last
      ∙ ap (cond (bytes_eq text q) (Some (length texts))) (placed.at q) ∙ sym (position_last text q texts absent);
})

-- texts that are noted one after another
pub noted_append : (seen xs ys : List (List ℕ)) → noted seen (xs ++ ys) ≡ noted (noted seen xs) ys
noted_append seen [] ys = refl
noted_append seen (x ∷ xs) ys = noted_append (cond (list_any (bytes_eq x) seen) seen (seen ++ x ∷ [])) xs ys
