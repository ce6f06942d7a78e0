-- Lists of flags by the numbers of classes.
use Rattle.std.proofs.Common.{◌≡◌, ℕ, ◌+◌, ◌≤◌, List, [], ◌∷◌, ◌++◌, length, get_or, map, filter, Bool, true, false, cond, nat_eq, nat_lt, refl, sym, ◌∙◌, ap, inl, inr, arith}
use Rattle.std.specs.List.{range_with_len}
use Rattle.std.proofs.lemmas.Bool.{and_parts, cases_Bool, cases_lt, lt-ltb, le-ltb, eq-eqb}
use Rattle.std.proofs.lemmas.List.{get_or_past}
use Rattle.std.proofs.lemmas.List.FromFn.{get_or-map-range_with_len, length-map-range_with_len, map-range_with_len_more, fill_by_all, filter_of_map_range_with_len_more}
use Rattle.jvm_model.specs.{declared.program.ClassRec.ClassRec, declared.program.Program.Program, Classes.no_class}
use Rattle.quiet_init.specs.{Quiet.is_still_start, Quiet.starts_still, Quiet.is_quiet, Quiet.quiet_classes, Starts.AreStill}

-- the number below the next one
pub below_next : (d c : ℕ) → nat_eq d c ≡ false → nat_lt d (c + 1) ≡ nat_lt d c
below_next d c q = elim (cases_lt d c) [
  | inl h ↦ lt-ltb d (c + 1) (omega arith) ∙ sym (lt-ltb d c h)
  | inr h ↦ le-ltb d (c + 1) (apart h) ∙ sym (le-ltb d c h)
]
  where
    apart : c ≤ d → c + 1 ≤ d
    apart h = elim (cases_lt c d) [ inl k ↦ omega arith | inr k ↦ absurd (let z : true ≡ false = sym (eq-eqb d c (omega arith)) ∙ q in cc) ]

-- a list of what a function says of the first numbers, where it says no of all others
flag_is : (f : ℕ → Bool) (n : ℕ) → ((c : ℕ) → n ≤ c → f c ≡ false) → (c : ℕ) → get_or (map f (range_with_len 0 n)) c false ≡ f c
flag_is f n h c = elim (cases_lt c n) [
  | inl l ↦ get_or-map-range_with_len f 0 n c c false l (omega arith)
  | inr l ↦ get_or_past (map f (range_with_len 0 n)) c false (let e = length-map-range_with_len f 0 n in omega arith) ∙ sym (h c l)
]

-- one more
pub pushed : (f : ℕ → Bool) (xs ys : List Bool) (n : ℕ) (b : Bool) → ys ≡ xs ++ b ∷ [] → b ≡ f n → xs ≡ map f (range_with_len 0 n) → ys ≡ map f (range_with_len 0 (n + 1))
pushed f xs ys n b h e k = h ∙ ((λ i. k i ++ e i ∷ []) ∙ sym (map-range_with_len_more f 0 n n (omega arith)))

pub flag_more : (flags : List Bool) (xs ys : List ℕ) (n : ℕ) (b : Bool) → ys ≡ xs ++ cond b (n ∷ []) [] → b ≡ get_or flags n false → xs ≡ filter (λ c. get_or flags c false) (range_with_len 0 n) → ys ≡ filter (λ c. get_or flags c false) (range_with_len 0 (n + 1))
flag_more flags xs ys n b h e k = h ∙ ((λ i. k i ++ cond (e i) (n ∷ []) []) ∙ sym more)
  where
    same : (xs : List ℕ) → map (λ (c : ℕ). c) xs ≡ xs
    same [] = refl
    same (x ∷ xs) = ap (λ (ys : List ℕ). x ∷ ys) (same xs)

    more : filter (λ c. get_or flags c false) (range_with_len 0 (n + 1)) ≡ filter (λ c. get_or flags c false) (range_with_len 0 n) ++ cond (get_or flags n false) (n ∷ []) []
    more = ap (λ (ys : List ℕ). filter (λ c. get_or flags c false) ys) (sym (same (range_with_len 0 (n + 1))))
        ∙ (filter_of_map_range_with_len_more (λ c. get_or flags c false) (λ (c : ℕ). c) 0 n n (omega arith)
        ∙ ap (λ (ys : List ℕ). filter (λ c. get_or flags c false) ys ++ cond (get_or flags n false) (n ∷ []) []) (same (range_with_len 0 n)))

-- the items below n of a list have been set, by their places
pub record AreSet (X : Type 0) (d : X) (g : ℕ → X) (old : List X) (n : ℕ) (xs : List X) : Type 0 where
  pub long : length xs ≡ length old
  pub items : (k : ℕ) → get_or xs k d ≡ cond (nat_lt k n) (g k) (get_or old k d)

module _ {X : Type 0} (d : X) (g : ℕ → X) (old : List X) where
  pub all_set : (n : ℕ) (xs : List X) → length old ≤ n → AreSet X d g old n xs → xs ≡ map g (range_with_len 0 (length old))
  all_set n xs e a = fill_by_all g xs (length old) d a.long (λ k l. a.items k ∙ ap (λ (b : Bool). cond b (g k) (get_or old k d)) (lt-ltb k n (omega arith)))

module _ (p : Program) where
  no_start : (c : ℕ) → length p.classes ≤ c → is_still_start p c ≡ false
  no_start c h = ap (λ (x : ClassRec). starts_still p c x.initialiser) (get_or_past p.classes c no_class h)

  pub starts_listed : (starts : List Bool) → starts ≡ map (is_still_start p) (range_with_len 0 (length p.classes)) → AreStill p starts
  starts_listed starts e c = ap (λ (xs : List Bool). get_or xs c false) e ∙ flag_is (is_still_start p) (length p.classes) no_start c

  not_quiet : (c : ℕ) → length p.classes ≤ c → is_quiet p c ≡ false
  unfolding is_quiet
  not_quiet c h = elim (cases_Bool (is_quiet p c)) [
    | inr q ↦ q
    | inl q ↦ absurd (let z : true ≡ false = sym (and_parts (is_still_start p c) _ q).0 ∙ no_start c h in cc)
  ]

  pub quiet_listed : (flags : List Bool) → flags ≡ map (is_quiet p) (range_with_len 0 (length p.classes)) → (c : ℕ) → get_or flags c false ≡ is_quiet p c
  quiet_listed flags e c = ap (λ (xs : List Bool). get_or xs c false) e ∙ flag_is (is_quiet p) (length p.classes) not_quiet c

  pub as_many : (flags : List Bool) → flags ≡ map (is_quiet p) (range_with_len 0 (length p.classes)) → length flags ≡ length p.classes
  as_many flags e = ap (λ (xs : List Bool). length xs) e ∙ length-map-range_with_len (is_quiet p) 0 (length p.classes)

  pub quiet_numbers : (flags : List Bool) (cs : List ℕ) → flags ≡ map (is_quiet p) (range_with_len 0 (length p.classes)) → cs ≡ filter (λ c. get_or flags c false) (range_with_len 0 (length flags)) → cs ≡ quiet_classes p
  unfolding quiet_classes
  quiet_numbers flags cs e h = h ∙ (λ i. filter (λ c. quiet_listed flags e c i) (range_with_len 0 (as_many flags e i)))
