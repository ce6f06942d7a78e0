-- Rows by the conflicts, one conflict more at a time.
use Rattle.std.proofs.Common.{◌≡◌, ℕ, zero, suc, ◌+◌, ◌*◌, ◌-◌, ◌<◌, ◌≤◌, Bool, true, false, ◌&&◌, cond, List, [], ◌∷◌, ◌++◌, length, get_or, set, map, filter, flat_map, refl, sym, ◌∙◌, ap, subst, arith, nat_eq, inl, inr}
use Rattle.std.specs.List.{range_with_len}
use Rattle.std.proofs.lemmas.Bool.{cases_Bool, cases_lt, eqb-true, eq-eqb, eqb-false, ne_eqb}
use Rattle.std.proofs.lemmas.List.{get_or-set_other, length-append, length-set, append-nil, append_assoc, map-append, map-id, flat_map_more}
use Rattle.std.proofs.{lemmas.List.Elements.filter-append, lemmas.List.FromFn.map-range_with_len_more}
use Rattle.std.proofs.lemmas.Grind.{get_or-set_at}
use Rattle.order_law.specs.declared.edges.{EdgeKind.EdgeKind, EdgeKind.TheVariants.Raw, EdgeKind.TheVariants.Waw, EdgeKind.TheVariants.War}
use Rattle.access_tags.specs.declared.conflict.{Conflict.Conflict, LocationKey.LocationKey}
use Rattle.access_tags.specs.declared.rows.Row.{Row}
use Rattle.access_tags.specs.Tag.{found, is_conflict, same_kind, kind_number}
use Rattle.access_tags.specs.Rows.{key, row_with, rows_between, HasRows, IsTable}

-- one conflict more
same_three : (u v a : ℕ) → nat_eq (3 * u + a) (3 * v + a) ≡ nat_eq u v
same_three u v a = elim (cases_Bool (nat_eq u v)) [
  | inl e ↦ let g = eqb-true u v e in eq-eqb (3 * u + a) (3 * v + a) (omega arith) ∙ sym e
  | inr e ↦ let d = eqb-false u v e in ne_eqb (3 * u + a) (3 * v + a) (λ q. absurd (d (omega arith))) ∙ sym e
]

same_key : (k j : EdgeKind) (u v : ℕ) → nat_eq (key k u) (key j v) ≡ (same_kind k j && nat_eq u v)
same_key Raw Raw u v = same_three u v 0
same_key Waw Waw u v = same_three u v 1
same_key War War u v = same_three u v 2
same_key Raw Waw u v = ne_eqb (3 * u + 0) (3 * v + 1) (λ q. absurd (omega arith))
same_key Raw War u v = ne_eqb (3 * u + 0) (3 * v + 2) (λ q. absurd (omega arith))
same_key Waw Raw u v = ne_eqb (3 * u + 1) (3 * v + 0) (λ q. absurd (omega arith))
same_key Waw War u v = ne_eqb (3 * u + 1) (3 * v + 2) (λ q. absurd (omega arith))
same_key War Raw u v = ne_eqb (3 * u + 2) (3 * v + 0) (λ q. absurd (omega arith))
same_key War Waw u v = ne_eqb (3 * u + 2) (3 * v + 1) (λ q. absurd (omega arith))

found_more : (k : EdgeKind) (u : ℕ) (hs : List (Conflict LocationKey)) (x : Conflict LocationKey) → found k u (hs ++ x ∷ []) ≡ found k u hs ++ cond (nat_eq (key k u) (key x.kind x.earlier)) (x.place ∷ []) []
found_more k u hs x =
    ap (λ (ys : List (Conflict LocationKey)). map (λ (y : Conflict LocationKey). y.place) ys) (filter-append (is_conflict k u) hs (x ∷ []))
    ∙ (map-append (λ (y : Conflict LocationKey). y.place) (filter (is_conflict k u) hs) (filter (is_conflict k u) (x ∷ []))
    ∙ ap (λ (ys : List LocationKey). found k u hs ++ ys) (one (is_conflict k u x) ∙ ap (λ (b : Bool). cond b (x.place ∷ []) []) (sym (same_key k x.kind u x.earlier))))
  where
    one : (b : Bool) → map (λ (y : Conflict LocationKey). y.place) (cond b (x ∷ []) []) ≡ cond b (x.place ∷ []) []
    one true = refl
    one false = refl

kind_below : (k : EdgeKind) → kind_number k < 3
kind_below Raw = omega arith
kind_below _ = omega arith

pub key_within : (k : EdgeKind) (u t n : ℕ) → u < t → n ≡ 3 * t → 3 * u + kind_number k < n
key_within k u t n h e = let b = kind_below k in omega arith

pub tally_in : (t : ℕ) (hs : List (Conflict LocationKey)) (x : Conflict LocationKey) (rows : List Row) (o r : Row) → length rows ≡ 3 * t → IsTable t hs rows → x.earlier < t →
    o ≡ get_or rows (key x.kind x.earlier) o → ((k : EdgeKind) (u : ℕ) (xs : List LocationKey) → o ≡ row_with k u xs → r ≡ row_with k u (xs ++ x.place ∷ [])) →
    IsTable t (hs ++ x ∷ []) (set rows (key x.kind x.earlier) r)
tally_in t hs x rows o r l f low q g k u e b = let at = key x.kind x.earlier in elim (cases_Bool (nat_eq (key k u) at)) [
  | inl y ↦ let z = eqb-true (key k u) at y in
      let w : o ≡ row_with k u (found k u hs) = q ∙ (ap (λ (j : ℕ). get_or rows j o) (sym z) ∙ f k u o b) in
      get_or-set_at rows at (key k u) r e z (key_within x.kind x.earlier t (length rows) low l)
      ∙ (g k u (found k u hs) w ∙ ap (λ (ys : List LocationKey). row_with k u ys) (sym (found_more k u hs x ∙ rw y refl)))
  | inr y ↦ get_or-set_other rows at (key k u) r e (eqb-false (key k u) at y)
      ∙ (f k u e b ∙ ap (λ (ys : List LocationKey). row_with k u ys) (sym (found_more k u hs x ∙ rw y (append-nil (found k u hs)))))
]

-- a table of no conflicts, with the rows of one test more
table_more : (t : ℕ) (rows : List Row) → length rows ≡ 3 * t → IsTable t [] rows → IsTable (t + 1) [] (rows ++ row_with Raw t [] ∷ row_with Waw t [] ∷ row_with War t [] ∷ [])
table_more t rows l f k u d h = elim (cases_lt u t) [
  | inl g ↦ get_or-left rows _ (key k u) d (key_within k u t (length rows) g l) ∙ f k u d g
  | inr g ↦ let e : u ≡ t = omega arith in ap (λ (i : ℕ). get_or (rows ++ row_with Raw t [] ∷ row_with Waw t [] ∷ row_with War t [] ∷ []) i d) (three k (omega arith)) ∙ (at_end rows k d ∙ ap (λ (v : ℕ). row_with k v []) (sym e))
]
  where
    three : (k : EdgeKind) → u ≡ t → key k u ≡ length rows + kind_number k
    three k e = omega (arith, l)

    get_or-left : (xs ys : List Row) (i : ℕ) (d : Row) → i < length xs → get_or (xs ++ ys) i d ≡ get_or xs i d
    get_or-left [] ys i d h = absurd (omega arith)
    get_or-left (x ∷ xs) ys zero d h = refl
    get_or-left (x ∷ xs) ys (suc i) d h = get_or-left xs ys i d (omega arith)

    last : (k : EdgeKind) (d : Row) → get_or (row_with Raw t [] ∷ row_with Waw t [] ∷ row_with War t [] ∷ []) (kind_number k) d ≡ row_with k t []
    last Raw d = refl
    last _ d = refl

    at_end : (xs : List Row) (k : EdgeKind) (d : Row) → get_or (xs ++ row_with Raw t [] ∷ row_with Waw t [] ∷ row_with War t [] ∷ []) (length xs + kind_number k) d ≡ row_with k t []
    at_end [] k d = ap (λ (i : ℕ). get_or (row_with Raw t [] ∷ row_with Waw t [] ∷ row_with War t [] ∷ []) i d) (omega arith) ∙ last k d
    at_end (x ∷ xs) k d = let e : length (x ∷ xs) + kind_number k ≡ suc (length xs + kind_number k) = omega arith in rw e (at_end xs k d)

pub table_grown : (t : ℕ) (rows : List Row) (a b c : Row) → length rows ≡ 3 * t → IsTable t [] rows → a ≡ row_with Raw t [] → b ≡ row_with Waw t [] → c ≡ row_with War t [] →
    IsTable (t + 1) [] (((rows ++ a ∷ []) ++ b ∷ []) ++ c ∷ [])
table_grown t rows a b c l f p q r = subst (λ (ys : List Row). IsTable (t + 1) [] ys) (sym (append_assoc (rows ++ a ∷ []) (b ∷ []) (c ∷ []) ∙ (append_assoc rows (a ∷ []) (b ∷ c ∷ []) ∙ (rw p (rw q (rw r refl)))))) (table_more t rows l f)

pub three_longer : (rows : List Row) (a b c : Row) → length (((rows ++ a ∷ []) ++ b ∷ []) ++ c ∷ []) ≡ length rows + 3
three_longer rows a b c = let e = length-append ((rows ++ a ∷ []) ++ b ∷ []) (c ∷ []) in let f = length-append (rows ++ a ∷ []) (b ∷ []) in let g = length-append rows (a ∷ []) in omega arith

-- the rows of a test, each read before it is replaced
pub three_read : (u : ℕ) (hs : List (Conflict LocationKey)) (rows : List Row) (x y a b c : Row) → HasRows u hs rows →
    a ≡ get_or rows (3 * u) a → b ≡ get_or (set rows (3 * u) x) (3 * u + 1) b → c ≡ get_or (set (set rows (3 * u) x) (3 * u + 1) y) (3 * u + 2) c →
    (a ≡ row_with Raw u (found Raw u hs)) × (b ≡ row_with Waw u (found Waw u hs)) × (c ≡ row_with War u (found War u hs))
three_read u hs rows x y a b c h e f g = (
  e ∙ (ap (λ (i : ℕ). get_or rows i a) (omega arith) ∙ h Raw a),
  f ∙ (get_or-set_other rows (3 * u) (3 * u + 1) x b (λ q. absurd (omega (arith, q))) ∙ h Waw b),
  g ∙ (get_or-set_other (set rows (3 * u) x) (3 * u + 1) (3 * u + 2) y c (λ q. absurd (omega (arith, q))) ∙ (get_or-set_other rows (3 * u) (3 * u + 2) x c (λ q. absurd (omega (arith, q))) ∙ h War c)),
)

-- the rows of a test, each replaced by one of no conflicts
pub three_none : (u : ℕ) (rows : List Row) (x y z : Row) → 3 * u + 2 < length rows → x ≡ row_with Raw u [] → y ≡ row_with Waw u [] → z ≡ row_with War u [] →
    HasRows u [] (set (set (set rows (3 * u) x) (3 * u + 1) y) (3 * u + 2) z)
three_none u rows x y z l e f g = by
  where
    first : List Row
    first = set rows (3 * u) x

    second : List Row
    second = set first (3 * u + 1) y

    by : HasRows u [] (set second (3 * u + 2) z)
    by Raw d = get_or-set_other second (3 * u + 2) (key Raw u) z d (λ q. absurd (omega (arith, q)))
        ∙ (get_or-set_other first (3 * u + 1) (key Raw u) y d (λ q. absurd (omega (arith, q))) ∙ (get_or-set_at rows (3 * u) (key Raw u) x d (omega arith) (omega arith) ∙ e))
    by Waw d = get_or-set_other second (3 * u + 2) (key Waw u) z d (λ q. absurd (omega (arith, q)))
        ∙ (get_or-set_at first (3 * u + 1) (key Waw u) y d (omega arith) (omega (arith, length-set rows (3 * u) x)) ∙ f)
    by War d = get_or-set_at second (3 * u + 2) (key War u) z d (omega arith) (omega (arith, length-set rows (3 * u) x, length-set first (3 * u + 1) y)) ∙ g

-- no conflicts with the tests from 1 and before this one, nor with this one
pub none_more : (t : ℕ) (rows news : List Row) → ((i : ℕ) (d : Row) → i < 3 * t → get_or news i d ≡ get_or rows i d) → HasRows t [] news →
    ((u : ℕ) → 1 ≤ u → u < t → HasRows u [] rows) → (u : ℕ) → 1 ≤ u → u < t + 1 → HasRows u [] news
none_more t rows news f g h u o l k d = elim (cases_lt u t) [
  | inl b ↦ f (key k u) d (key_within k u t (3 * t) b refl) ∙ h u o b k d
  | inr b ↦ let e : u ≡ t = omega arith in subst (λ (v : ℕ). get_or news (key k v) d ≡ row_with k v []) (sym e) (g k d)
]

-- nor with the one that has the number 0
pub none_at_all : (t : ℕ) (rows news : List Row) → ((i : ℕ) (d : Row) → 3 ≤ i → get_or news i d ≡ get_or rows i d) → HasRows 0 [] news →
    ((u : ℕ) → 1 ≤ u → u < t → HasRows u [] rows) → IsTable t [] news
none_at_all t rows news f g h k zero d l = g k d
none_at_all t rows news f g h k (suc u) d l = f (key k (suc u)) d (omega arith) ∙ h (suc u) (omega arith) l k d

pub three_rows : (o p q r u v w : List Row) → p ≡ o ++ u → q ≡ p ++ v → r ≡ q ++ w → r ≡ o ++ (u ++ (v ++ w))
three_rows o p q r u v w e f g = g ∙ (ap (λ (x : List Row). x ++ w) (f ∙ ap (λ (x : List Row). x ++ v) e) ∙ (append_assoc (o ++ u) v w ∙ append_assoc o u (v ++ w)))

range_more : (a n : ℕ) → range_with_len a (n + 1) ≡ range_with_len a n ++ (a + n) ∷ []
range_more a n = sym (map-id (range_with_len a (n + 1))) ∙ (map-range_with_len_more (λ (x : ℕ). x) a n (a + n) refl ∙ ap (λ (xs : List ℕ). xs ++ (a + n) ∷ []) (map-id (range_with_len a n)))

pub rows_more : (n : ℕ) (hs : List (Conflict LocationKey)) (bs cs es : List Row) → 1 ≤ n → cs ≡ bs ++ flat_map (λ (u : ℕ). rows_between u hs) (range_with_len 1 (n - 1)) → es ≡ cs ++ rows_between n hs →
    es ≡ bs ++ flat_map (λ (u : ℕ). rows_between u hs) (range_with_len 1 (n + 1 - 1))
rows_more n hs bs cs es o e f = let q : n + 1 - 1 ≡ (n - 1) + 1 = omega arith in let r : 1 + (n - 1) ≡ n = omega arith in
    f ∙ (ap (λ (ys : List Row). ys ++ rows_between n hs) e ∙ (flat_map_more (λ (u : ℕ). rows_between u hs) bs (range_with_len 1 (n - 1)) n
    ∙ ap (λ (xs : List ℕ). bs ++ flat_map (λ (u : ℕ). rows_between u hs) xs) (sym (ap (λ (m : ℕ). range_with_len 1 m) q ∙ (range_more 1 (n - 1) ∙ ap (λ (m : ℕ). range_with_len 1 (n - 1) ++ m ∷ []) r)))))
