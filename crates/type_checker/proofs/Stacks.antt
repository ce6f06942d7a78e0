-- Lists seen from their ends.
use Rattle.std.proofs.Common.{◌≡◌, ℕ, zero, suc, List, [], ◌∷◌, ◌++◌, ◌<◌, ◌≤◌, ◌-◌, ◌+◌, ◌⊎◌, inl, inr, length, reverse, take, drop, map, get_or, refl, ap, sym, ◌∙◌, arith}
use Rattle.std.proofs.lemmas.Bool.{cases_lt}
use Rattle.std.proofs.lemmas.List.{map-append, get_or-reverse, get_or_past, length-reverse, length-drop, reverse-append, take-append-drop, drop_all}
use Rattle.type_frames.specs.declared.vtype.VType.{VType}
use Rattle.type_frames.specs.declared.stack_effect.{Substitution.Substitution, Substitution.TheVariants.Keep, Substitution.TheVariants.All}
use Rattle.type_frames.specs.Rules.{turned, turned_one}

pub from_top : (s : List VType) (n : ℕ) (d : VType) → n < length s → get_or s (length s - 1 - n) d ≡ get_or (reverse s) n d
from_top s n d lt = sym (get_or-reverse s n d lt)

pub from_top_past : (s : List VType) (n : ℕ) (d : VType) → length s ≤ n → d ≡ get_or (reverse s) n d
from_top_past s n d le = let q : length (reverse s) ≤ n = omega (arith, length-reverse s) in sym (get_or_past (reverse s) n d q)

drop-all-append : (n : ℕ) (a b : List VType) → length a ≡ n → drop n (a ++ b) ≡ b
drop-all-append zero [] b e = refl
drop-all-append zero (x ∷ a) b e = cc
drop-all-append (suc n) [] b e = cc
drop-all-append (suc n) (x ∷ a) b e = let q : length a ≡ n = omega arith in drop-all-append n a b q

-- what is left of a stack when places are taken off, if there are so many
rest_within : (s : List VType) (n : ℕ) → n ≤ length s → reverse (take (length s - n) s) ≡ drop n (reverse s)
rest_within s n h =
    let a = take (length s - n) s in
    let b = drop (length s - n) s in
    let e : reverse s ≡ reverse b ++ reverse a = ap reverse (sym (take-append-drop (length s - n) s)) ∙ reverse-append a b in
    let l : length (reverse b) ≡ n = length-reverse b ∙ omega (arith, length-drop (length s - n) s) in
    sym (ap (drop n) e ∙ drop-all-append n (reverse b) (reverse a) l)

pub reverse_rest : (s : List VType) (n : ℕ) → reverse (take (length s - n) s) ≡ drop n (reverse s)
reverse_rest s n = go (cases_lt (length s) n)
  where
    go : (length s < n) ⊎ (n ≤ length s) → reverse (take (length s - n) s) ≡ drop n (reverse s)
    go (inl lt) =
        let e : length s - n ≡ 0 = omega arith in
        let q : length (reverse s) ≤ n = omega (arith, length-reverse s) in
        ap (λ k. reverse (take k s)) e ∙ sym (drop_all n (reverse s) q)
    go (inr le) = rest_within s n le

map-reverse : (f : VType → VType) (s : List VType) → reverse (map f s) ≡ map f (reverse s)
map-reverse f [] = refl
map-reverse f (x ∷ s) = reverse-append (f x ∷ []) (map f s) ∙ ap (λ l. l ++ f x ∷ []) (map-reverse f s) ∙ sym (ap (map f) (reverse-append (x ∷ []) s) ∙ map-append f (reverse s) (x ∷ []))

pub reverse_turned : (t : Substitution) (s : List VType) → reverse (turned t s) ≡ turned t (reverse s)
reverse_turned Keep s = refl
reverse_turned (All a b) s = map-reverse (turned_one a b) s

pub length_reverse : (s : List VType) → length (reverse s) ≡ length s
length_reverse s = length-reverse s
