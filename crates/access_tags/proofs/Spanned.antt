-- The parts of intervals, one more at a time.
use Rattle.std.proofs.Common.{◌≡◌, ℕ, zero, suc, ◌+◌, ◌-◌, ◌<◌, ◌≤◌, Bool, true, false, ◌&&◌, nat_eq, List, [], ◌∷◌, ◌++◌, length, get_or, set, take, map, flat_map, sym, ◌∙◌, ap, subst, arith}
use Rattle.std.specs.List.{range_with_len, list_all}
use Rattle.std.proofs.lemmas.{Bool.eqb-true, Bool.and_parts, Grind.flat_map-append}
use Rattle.std.proofs.lemmas.List.{append-nil, append_assoc, take_more}
use Rattle.std.proofs.{lemmas.List.Concat.get_or-flat_map, Math.Bool.and-true, Math.Bool.and-false, Math.Seq.take-length}
use Rattle.std.proofs.lemmas.List.Folds.{length-flat_map-take, list_all-append, list_all_at}
use Rattle.std.proofs.lemmas.List.FromFn.{get_or-map-range_with_len, length-map-range_with_len, map-range_with_len_more}
use Rattle.access_tags.specs.declared.cells.Cells.{Cells}
use Rattle.access_tags.specs.declared.conflict.{LocationKey.LocationKey, Touched.Touched}
use Rattle.access_tags.specs.declared.conflict.LocationKey.TheVariants as spot
use Rattle.access_tags.specs.declared.interval.{Sort.Sort, Interval.Interval}
use Rattle.access_tags.specs.Intervals.{part_at, parts_to, parts_of, parts, spot_in}
use Rattle.access_tags.specs.Within.{room, AreWithin}

pub to_more : (s : Interval) (i : ℕ) → s.first ≤ i → parts_to s (i + 1) ≡ parts_to s i ++ part_at s i ∷ []
to_more s i h = let e : (i + 1) - s.first ≡ (i - s.first) + 1 = omega arith in
    ap (λ (n : ℕ). map (λ i. part_at s i) (range_with_len s.first n)) e ∙ map-range_with_len_more (λ i. part_at s i) s.first (i - s.first) i (omega arith)

abbrev interval : Sort → ℕ → ℕ → ℕ → ℕ → Interval
interval k o a b n = record { sort = k; object = o; first = a; end = b; at = n }

same_part : (y : LocationKey) (m : ℕ) (x : Touched) → y ≡ x.spot → m ≡ x.at → record { spot = y; at = m } ≡ x
same_part y m x e f = ap (λ (z : LocationKey). record { spot = z; at = m }) e ∙ ap (λ (j : ℕ). record { spot = x.spot; at = j }) f

pub with_part : (s : Interval) (b : ℕ) (x : Touched) → s.first ≤ s.end → b ≡ s.end + 1 → part_at s s.end ≡ x → parts_of (interval s.sort s.object s.first b s.at) ≡ parts_of s ++ x ∷ []
with_part s b x h e f = ap (λ (i : ℕ). parts_to s i) e ∙ (to_more s s.end h ∙ ap (λ (y : Touched). parts_of s ++ y ∷ []) f)

pub next_part : (s : Interval) (x : Touched) → spot_in s.sort s.object s.end ≡ x.spot → x.at ≡ s.at + (s.end - s.first) → part_at s s.end ≡ x
next_part s x e f = same_part (spot_in s.sort s.object s.end) (s.at + (s.end - s.first)) x e (sym f)

-- the part with the index at the end
pub same_static : (e f : ℕ) → nat_eq f e ≡ true → spot.Static e ≡ spot.Static f
same_static e f q = ap (λ (i : ℕ). spot.Static i) (sym (eqb-true f e q))

pub same_init : (e c : ℕ) → nat_eq c e ≡ true → spot.Init e ≡ spot.Init c
same_init e c q = ap (λ (i : ℕ). spot.Init i) (sym (eqb-true c e q))

pub same_name : (e k : ℕ) → nat_eq k e ≡ true → spot.Named e ≡ spot.Named k
same_name e k q = ap (λ (i : ℕ). spot.Named i) (sym (eqb-true k e q))

pub same_field : (o e p f : ℕ) → (nat_eq p o && nat_eq f e) ≡ true → spot.Field o e ≡ spot.Field p f
same_field o e p f q = let h = and_parts (nat_eq p o) (nat_eq f e) q in
    ap (λ (i : ℕ). spot.Field i e) (sym (eqb-true p o h.0)) ∙ ap (λ (i : ℕ). spot.Field p i) (sym (eqb-true f e h.1))

pub same_elem : (o e p f : ℕ) → (nat_eq p o && nat_eq f e) ≡ true → spot.Elem o e ≡ spot.Elem p f
same_elem o e p f q = let h = and_parts (nat_eq p o) (nat_eq f e) q in
    ap (λ (i : ℕ). spot.Elem i e) (sym (eqb-true p o h.0)) ∙ ap (λ (i : ℕ). spot.Elem p i) (sym (eqb-true f e h.1))

pub all_to : (f : Touched → Bool) (s : Interval) (i : ℕ) → s.first ≤ i → list_all f (parts_to s (i + 1)) ≡ (list_all f (parts_to s i) && f (part_at s i))
all_to f s i h = ap (λ (ys : List Touched). list_all f ys) (to_more s i h) ∙ (list_all-append f (parts_to s i) (part_at s i ∷ []) ∙ ap (λ (b : Bool). list_all f (parts_to s i) && b) (and-true (f (part_at s i))))

-- the parts of all
pub parts_more : (ss : List Interval) (i : ℕ) (d : Interval) → i < length ss → parts (take (i + 1) ss) ≡ parts (take i ss) ++ parts_of (get_or ss i d)
parts_more ss i d h = ap parts (take_more ss i d h) ∙ (flat_map-append (λ s. parts_of s) (take i ss) (get_or ss i d ∷ []) ∙ ap (λ (ys : List Touched). parts (take i ss) ++ ys) (append-nil (parts_of (get_or ss i d))))

pub parts_all : (ss : List Interval) (i : ℕ) → i ≡ length ss → parts (take i ss) ≡ parts ss
parts_all ss i e = ap parts (ap (λ (j : ℕ). take j ss) e ∙ take-length ss)

pub parts_longer : (ss : List Interval) (i : ℕ) (d s : Interval) (x : Touched) → i + 1 ≡ length ss → parts_of s ≡ parts_of (get_or ss i d) ++ x ∷ [] → parts (set ss i s) ≡ parts ss ++ x ∷ []
parts_longer (y ∷ []) zero d s x h e = append-nil (parts_of s) ∙ (e ∙ ap (λ (ys : List Touched). ys ++ x ∷ []) (sym (append-nil (parts_of y))))
parts_longer (y ∷ ss) (suc i) d s x h e = ap (λ (ys : List Touched). parts_of y ++ ys) (parts_longer ss i d s x (omega arith) e) ∙ sym (append_assoc (parts_of y) (parts ss) (x ∷ []))
parts_longer _ _ d s x h e = absurd (omega arith)

less_than : (i n m : ℕ) → i < n → m ≡ n → i < m
less_than i n m h e = omega arith

pub all_fails : (f : Touched → Bool) (ss : List Interval) (i : ℕ) (d : Interval) → i < length ss → list_all f (parts_of (get_or ss i d)) ≡ false → list_all f (parts ss) ≡ false
all_fails f [] i d h e = absurd (omega arith)
all_fails f (s ∷ ss) zero d h e = list_all-append f (parts_of s) (parts ss) ∙ ap (λ (b : Bool). b && list_all f (parts ss)) e
all_fails f (s ∷ ss) (suc i) d h e = list_all-append f (parts_of s) (parts ss) ∙ (ap (λ (b : Bool). list_all f (parts_of s) && b) (all_fails f ss i d (omega arith) e) ∙ and-false (list_all f (parts_of s)))

pub one_fails : (f : Touched → Bool) (s : Interval) (i : ℕ) → s.first ≤ i → i < s.end → f (part_at s i) ≡ false → list_all f (parts_of s) ≡ false
one_fails f s i h l e =
    let g : i - s.first < s.end - s.first = omega arith in
    let n : length (parts_of s) ≡ s.end - s.first = length-map-range_with_len (λ i. part_at s i) s.first (s.end - s.first) in
    let q = get_or-map-range_with_len (λ i. part_at s i) s.first (s.end - s.first) (i - s.first) i (part_at s i) g (omega arith) in
    list_all_at f (parts_of s) (i - s.first) (part_at s i) (less_than (i - s.first) (s.end - s.first) (length (parts_of s)) g n) (ap f q ∙ e)

-- their numbers
sum_below : (a b c k : ℕ) → a + b ≤ c → k < b → a + k < c
sum_below a b c k h l = omega arith

module _ (c d : Cells) where
  pub within_interval : (ss : List Interval) (i : ℕ) (s : Interval) → AreWithin c d (parts ss) → i < length ss → AreWithin c d (parts_of (get_or ss i s))
  within_interval ss i s a h k e l =
      let n = length (flat_map (λ s. parts_of s) (take i ss)) in
      subst (λ (x : Touched). x.at < room c d x.spot) (get_or-flat_map (λ s. parts_of s) ss i k s e h l)
      (a (n + k) e (sum_below n (length (parts_of (get_or ss i s))) (length (parts ss)) k (length-flat_map-take (λ s. parts_of s) ss i s h) l))

  pub within_part : (s : Interval) (i : ℕ) → AreWithin c d (parts_of s) → s.first ≤ i → i < s.end → (part_at s i).at < room c d (part_at s i).spot
  within_part s i a h l =
      let g : i - s.first < s.end - s.first = omega arith in
      subst (λ (x : Touched). x.at < room c d x.spot) (get_or-map-range_with_len (λ i. part_at s i) s.first (s.end - s.first) (i - s.first) i (part_at s i) g (omega arith))
      (a (i - s.first) (part_at s i) (less_than (i - s.first) (s.end - s.first) (length (parts_of s)) g (length-map-range_with_len (λ i. part_at s i) s.first (s.end - s.first))))
