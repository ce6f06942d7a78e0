-- A book with one piece more, and the pieces that are left of it.
use Rattle.std.proofs.Common.{◌≡◌, ℕ, zero, suc, ◌+◌, ◌<◌, ◌≤◌, ◌^◌, List, [], ◌∷◌, ◌++◌, length, get_or, set, sum_by, All, Bool, true, false, is_some, Option, Some, None, refl, sym, ◌∙◌, ap, subst, inl, inr, arith}
use Rattle.std.proofs.lemmas.List.{get_or-set_same, get_or-set_other, get_or_default, get_or_read, length-set}
use Rattle.std.proofs.lemmas.{List.Sums.sum_by-append, List.Sums.sum_by-cons, List.Sums.sum_by-le, List.Sums.sum_by-set, Bool.cases_eq}
use Rattle.jvm_model.specs.declared.program.Program.{Program}
use Rattle.order_law.specs.declared.edges.Edge.{Edge}
use Rattle.test_run.specs.Running.{Posted}
use Rattle.cone_run.specs.{Cones.IsCone, Cones.cone_units, Runs.IsPieceOf, Books.IsBook, Books.IsPosted, Books.AreLeft, Books.posted_units}
use Rattle.cone_run.proofs.ConeLists.{cone_piece}

-- pieces that aren't there have no units
pub none_sum : (p : Program) (pieces : List (Option Posted)) → ((i : ℕ) → i < length pieces → get_or pieces i None ≡ None) → sum_by (posted_units p) pieces ≡ 0
none_sum p [] h = refl
none_sum p (x ∷ xs) h =
    let r = none_sum p xs (λ i l. h (suc i) (omega arith)) in
    let e = sum_by-cons (posted_units p) x xs in
    let f : posted_units p x ≡ 0 = ap (λ (z : Option Posted). posted_units p z) (h zero (omega arith)) in
    omega arith

module _ (p : Program) (R : List Edge) (sel : List ℕ) where
  -- a book with no piece
  pub book_begun : (claimed : List Bool) (pieces : List (Option Posted)) (n : ℕ) → n ≡ length sel → n ≤ 1024 → length claimed ≡ n → length pieces ≡ n →
      ((i : ℕ) → get_or pieces i None ≡ None) → IsBook p R sel claimed pieces 0
  book_begun claimed pieces n e few c k none = record {
    few = (omega arith);
    claims = c ∙ e;
    places = k ∙ e;
    each = λ i x h. (let z : None ≡ Some x = sym (none i) ∙ h in absurd (cc));
    sum = sym (none_sum p pieces (λ i l. none i));
  }

  -- each piece has few units
  few_at : (o : Option Posted) (t : ℕ) → ((x : Posted) → o ≡ Some x → IsPosted p R t x) → posted_units p o ≤ 2 ^ 36
  few_at None t h = omega arith
  few_at (Some x) t h = (h x refl).few

  few_each : (pieces : List (Option Posted)) → ((i : ℕ) (x : Posted) → get_or pieces i None ≡ Some x → IsPosted p R (get_or sel i 0) x) → All (λ o. posted_units p o ≤ 2 ^ 36) pieces
  few_each pieces each k d h =
      subst (λ (z : Option Posted). posted_units p z ≤ 2 ^ 36) (get_or_default pieces k None d h) (few_at (get_or pieces k None) (get_or sel k 0) (each k))

  -- so there is room for one more
  pub room : (claimed : List Bool) (pieces : List (Option Posted)) (units n : ℕ) → IsBook p R sel claimed pieces units → n ≤ 2 ^ 36 → units + n < 2 ^ 64
  room claimed pieces units n b low =
      let a = sum_by-le (posted_units p) (2 ^ 36) pieces (few_each pieces b.each) in
      let e = b.places in
      let f = b.few in
      let s = b.sum in
      omega arith

  module _ (pieces : List (Option Posted)) (place : ℕ) (x : Posted) (lt : place < length pieces) where
    -- what stands at the places when a piece is put down
    put_each : ((i : ℕ) (y : Posted) → get_or pieces i None ≡ Some y → IsPosted p R (get_or sel i 0) y) → IsPosted p R (get_or sel place 0) x →
        (i : ℕ) (y : Posted) → get_or (set pieces place (Some x)) i None ≡ Some y → IsPosted p R (get_or sel i 0) y
    put_each each h i y e = elim (cases_eq i place) [
      | inl q ↦
          let f : get_or (set pieces place (Some x)) i None ≡ Some x = ap (λ k. get_or (set pieces place (Some x)) k None) q ∙ get_or-set_same pieces place (Some x) None lt in
          let g : Some x ≡ Some y = sym f ∙ e in
          let same : x ≡ y = cc in
          subst (λ (z : Posted). IsPosted p R (get_or sel i 0) z) same (subst (λ k. IsPosted p R (get_or sel k 0) x) (sym q) h)
      | inr ne ↦ each i y (sym (get_or-set_other pieces place i (Some x) None ne) ∙ e)
    ]

    pub book_more : (claimed : List Bool) (units n : ℕ) → IsBook p R sel claimed pieces units → get_or pieces place None ≡ None → IsPosted p R (get_or sel place 0) x → n ≡ cone_units p x.list →
        IsBook p R sel claimed (set pieces place (Some x)) (units + n)
    book_more claimed units n b none h e = record {
      few = b.few;
      claims = b.claims;
      places = length-set pieces place (Some x) ∙ b.places;
      each = put_each b.each h;
      sum = (let a = sum_by-set (posted_units p) pieces place (Some x) None lt in
          let c : posted_units p (get_or pieces place None) ≡ 0 = ap (λ (z : Option Posted). posted_units p z) none in
          let s = b.sum in
          omega arith);
    }

  pub left_next : (pieces : List (Option Posted)) (place : ℕ) → place < length sel → AreLeft p R sel place pieces → AreLeft p R sel (place + 1) (set pieces place None)
  left_next pieces place lt a =
      let e = a.places in
      let at = get_or-set_same pieces place None None (omega arith) in
      record {
        places = length-set pieces place None ∙ e;
        gone = λ i h. elim (cases_eq i place) [
          | inl q ↦ ap (λ k. get_or (set pieces place None) k None) q ∙ at
          | inr ne ↦ get_or-set_other pieces place i None None ne ∙ a.gone i (omega arith)
        ];
        each = λ i x h. elim (cases_eq i place) [
          | inl q ↦ let z : None ≡ Some x = sym at ∙ (ap (λ k. get_or (set pieces place None) k None) (sym q) ∙ h) in absurd (cc)
          | inr ne ↦ a.each i x (sym (get_or-set_other pieces place i None None ne) ∙ h)
        ];
      }

  -- the piece that is taken out, and the units of the others
  pub taken_units : (pieces : List (Option Posted)) (place : ℕ) → place < length pieces → sum_by (posted_units p) (set pieces place None) + posted_units p (get_or pieces place None) ≡ sum_by (posted_units p) pieces
  taken_units pieces place lt = let a = sum_by-set (posted_units p) pieces place None None lt in omega arith

  -- at the end nothing is left
  pub left_none : (pieces : List (Option Posted)) (place : ℕ) → length sel ≤ place → AreLeft p R sel place pieces → sum_by (posted_units p) pieces ≡ 0
  left_none pieces place h a = let e = a.places in none_sum p pieces (λ i l. a.gone i (omega arith))

-- no piece was read at a place
pub none_read : (pieces : List (Option Posted)) (place : ℕ) (o : Option Posted) (b : Bool) → place < length pieces → o ≡ get_or pieces place o → b ≡ is_some o → b ≡ false → get_or pieces place None ≡ None
none_read pieces place None b lt e f g = sym (get_or_read pieces place None lt e None)
none_read pieces place (Some x) b lt e f g = let z : true ≡ false = sym f ∙ g in absurd (cc)

-- what is counted, before the first place and at each
pub counted_first : (p : Program) (xs : List Posted) (pieces : List (Option Posted)) (begun now units : ℕ) → xs ≡ [] → now ≡ begun + units → units ≡ sum_by (posted_units p) pieces →
    now ≡ begun + (sum_by (λ x. cone_units p x.list) xs + sum_by (posted_units p) pieces)
counted_first p xs pieces begun now units e f g = let z : sum_by (λ (x : Posted). cone_units p x.list) xs ≡ 0 = ap (λ (ys : List Posted). sum_by (λ (x : Posted). cone_units p x.list) ys) e in omega arith

pub counted_next : (p : Program) (xs new : List Posted) (pieces rest : List (Option Posted)) (place : ℕ) (x : Posted) (o : Option Posted) (begun now then : ℕ) → place < length pieces → new ≡ xs ++ (x ∷ []) → rest ≡ set pieces place None → o ≡ get_or pieces place None →
    now ≡ begun + (sum_by (λ x. cone_units p x.list) xs + sum_by (posted_units p) pieces) → then + posted_units p o ≡ now + cone_units p x.list →
    then ≡ begun + (sum_by (λ x. cone_units p x.list) new + sum_by (posted_units p) rest)
counted_next p xs new pieces rest place x o begun now then lt e f g h k =
    let a = taken_units p [] [] pieces place lt in
    let b : sum_by (λ (y : Posted). cone_units p y.list) new ≡ sum_by (λ (y : Posted). cone_units p y.list) xs + cone_units p x.list =
    ap (λ (ys : List Posted). sum_by (λ (y : Posted). cone_units p y.list) ys) e ∙ (sum_by-append (λ (y : Posted). cone_units p y.list) xs (x ∷ []) ∙ ap (λ n. sum_by (λ (y : Posted). cone_units p y.list) xs + n) (sum_by-one x)) in
    let c : sum_by (posted_units p) rest ≡ sum_by (posted_units p) (set pieces place None) = ap (λ (ys : List (Option Posted)). sum_by (posted_units p) ys) f in
    let d : posted_units p o ≡ posted_units p (get_or pieces place None) = ap (λ (z : Option Posted). posted_units p z) g in
    omega arith
  where
    sum_by-one : (y : Posted) → sum_by (λ (z : Posted). cone_units p z.list) (y ∷ []) ≡ cone_units p y.list
    sum_by-one y = let a = sum_by-cons (λ (z : Posted). cone_units p z.list) y [] in omega arith

pub counted_last : (p : Program) (R : List Edge) (sel : List ℕ) (xs : List Posted) (pieces : List (Option Posted)) (place begun now : ℕ) → length sel ≤ place → AreLeft p R sel place pieces →
    now ≡ begun + (sum_by (λ x. cone_units p x.list) xs + sum_by (posted_units p) pieces) → now ≡ begun + sum_by (λ x. cone_units p x.list) xs
counted_last p R sel xs pieces place begun now h a e = let z = left_none p R sel pieces place h a in omega arith

-- what the run of a cone gave can be posted
pub posted_of : (p : Program) (R : List Edge) (t : ℕ) (l : List ℕ) (x : Posted) (units : ℕ) → IsCone R t l → IsPieceOf p l x → units ≡ cone_units p l → units ≤ 2 ^ 36 → IsPosted p R t x
posted_of p R t l x units c k e low = record {
  of = cone_piece p R t l x c k;
  few = (let f : cone_units p x.list ≡ cone_units p l = ap (λ (z : List ℕ). cone_units p z) k.list in omega arith);
}
