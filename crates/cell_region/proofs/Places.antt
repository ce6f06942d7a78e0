-- The cell at a place of the chunks joined together.
use Rattle.std.proofs.Common.{◌≡◌, ◌≢◌, inl, inr, ℕ, zero, suc, ◌+◌, ◌-◌, ◌*◌, ◌/◌, ◌%◌, ◌<◌, ◌≤◌, List, [], ◌∷◌, ◌++◌, length, get_or, set, take, replicate, refl, sym, ◌∙◌, ap, arith, length-append, append_assoc}
use Rattle.std.proofs.Math.Seq.{take-set-lt}
use Rattle.std.proofs.lemmas.Bool.{cases_eq, cases_lt}
use Rattle.std.proofs.lemmas.List.{get_or_default, take_more_set, get_or-take, length-take-le, get_or_append_left, get_or-append-add, set-append_left, set-append_right, take-append-le, length-set, length-replicate, get_or-replicate, get_or-set_same, get_or-set_other, get_or_past, same_lists}
use Rattle.cell_region.specs.Chunks.{AreLong, IsFilled, IsRun, joined, chunk_size}

pub joined-append : {X : Type 0} (cs ds : List (List X)) → joined (cs ++ ds) ≡ joined cs ++ joined ds
joined-append [] ds = refl
joined-append (c ∷ cs) ds = ap (λ x. c ++ x) (joined-append cs ds) ∙ sym (append_assoc c (joined cs) (joined ds))

pub length-joined : {X : Type 0} (cs : List (List X)) → AreLong cs → length (joined cs) ≡ chunk_size * length cs
length-joined [] h = refl
length-joined (c ∷ cs) h = let e = length-joined cs h.1 in let l = h.0 in rw (length-append c (joined cs)) (omega arith)

get_in : {X : Type 0} (cs : List (List X)) (q r : ℕ) (d : X) → AreLong cs → r < chunk_size → q < length cs → get_or (joined cs) (q * chunk_size + r) d ≡ get_or (get_or cs q []) r d
get_in [] q r d h w u = absurd (omega arith)
get_in (c ∷ cs) zero r d h w u = let l = h.0 in let v : r < length c = omega arith in let e : zero * chunk_size + r ≡ r = omega arith in rw e (get_or_append_left c (joined cs) d r v)
get_in (c ∷ cs) (suc q) r d h w u =
    let l = h.0 in let e : suc q * chunk_size + r ≡ length c + (q * chunk_size + r) = omega arith in
    rw e (get_or-append-add c (joined cs) (q * chunk_size + r) d ∙ get_in cs q r d h.1 w (omega arith))

set_in : {X : Type 0} (cs : List (List X)) (q r : ℕ) (v : X) → AreLong cs → r < chunk_size → q < length cs → set (joined cs) (q * chunk_size + r) v ≡ joined (set cs q (set (get_or cs q []) r v))
set_in [] q r v h w u = absurd (omega arith)
set_in (c ∷ cs) zero r v h w u = let l = h.0 in let m : r < length c = omega arith in let e : zero * chunk_size + r ≡ r = omega arith in rw e (set-append_left c (joined cs) r v m)
set_in (c ∷ cs) (suc q) r v h w u =
    let l = h.0 in let e : suc q * chunk_size + r ≡ chunk_size + (q * chunk_size + r) = omega arith in
    let s : chunk_size ≤ chunk_size + (q * chunk_size + r) = omega arith in
    let b : (chunk_size + (q * chunk_size + r)) - chunk_size ≡ q * chunk_size + r = omega arith in
    rw e (set-append_right c (joined cs) chunk_size _ v l s ∙ rw b (ap (λ x. c ++ x) (set_in cs q r v h.1 w (omega arith))))

-- the chunk of a cell
pub chunk_there : (i n : ℕ) → i < chunk_size * n → i / chunk_size < n
chunk_there i n h = omega arith

pub get_joined : {X : Type 0} (cs : List (List X)) (i : ℕ) (d : X) → AreLong cs → i < chunk_size * length cs → get_or (joined cs) i d ≡ get_or (get_or cs (i / chunk_size) []) (i % chunk_size) d
get_joined cs i d h w =
    let e : i ≡ (i / chunk_size) * chunk_size + i % chunk_size = omega arith in
    ap (λ k. get_or (joined cs) k d) e ∙ get_in cs (i / chunk_size) (i % chunk_size) d h (omega arith) (omega arith)

pub set_joined : {X : Type 0} (cs : List (List X)) (i : ℕ) (v : X) → AreLong cs → i < chunk_size * length cs → set (joined cs) i v ≡ joined (set cs (i / chunk_size) (set (get_or cs (i / chunk_size) []) (i % chunk_size) v))
set_joined cs i v h w =
    let e : i ≡ (i / chunk_size) * chunk_size + i % chunk_size = omega arith in
    ap (λ k. set (joined cs) k v) e ∙ set_in cs (i / chunk_size) (i % chunk_size) v h (omega arith) (omega arith)

pub long_at : {X : Type 0} (cs : List (List X)) (q : ℕ) (d : List X) → AreLong cs → q < length cs → length (get_or cs q d) ≡ chunk_size
long_at [] q d h w = absurd (omega arith)
long_at (c ∷ cs) zero d h w = h.0
long_at (c ∷ cs) (suc q) d h w = long_at cs q d h.1 (omega arith)

pub long_set : {X : Type 0} (cs : List (List X)) (q : ℕ) (c : List X) → AreLong cs → length c ≡ chunk_size → AreLong (set cs q c)
long_set [] q c h e = tt
long_set (b ∷ cs) zero c h e = (e, h.1)
long_set (b ∷ cs) (suc q) c h e = (h.0, long_set cs q c h.1 e)

pub long_push : {X : Type 0} (cs : List (List X)) (c : List X) → AreLong cs → length c ≡ chunk_size → AreLong (cs ++ c ∷ [])
long_push [] c h e = (e, tt)
long_push (b ∷ cs) c h e = (h.0, long_push cs c h.1 e)

-- a region's length, and what stands at its places: n cells of the chunks cs are the list v
pub view_length : {X : Type 0} (cs : List (List X)) (n : ℕ) (v : List X) → AreLong cs → n ≤ chunk_size * length cs → take n (joined cs) ≡ v → n ≡ length v
view_length cs n v h w e = let l = length-joined cs h in let m : n ≤ length (joined cs) = omega arith in sym (ap length (sym e) ∙ length-take-le n (joined cs) m)

pub view_get : {X : Type 0} (cs : List (List X)) (n i : ℕ) (v c : List X) (r : X) → AreLong cs → n ≤ chunk_size * length cs → take n (joined cs) ≡ v → i < length v →
    c ≡ get_or cs (i / chunk_size) c → r ≡ get_or c (i % chunk_size) r → r ≡ get_or v i r
view_get cs n i v c r h w e u a b =
    let m = view_length cs n v h w e in let k : i < n = omega arith in let t : i < chunk_size * length cs = omega arith in
    b ∙ ap (λ x. get_or x (i % chunk_size) r) (a ∙ get_or_default cs (i / chunk_size) c [] (chunk_there i (length cs) t))
    ∙ sym (get_joined cs i r h t) ∙ sym (get_or-take n (joined cs) i r k) ∙ ap (λ x. get_or x i r) e

pub view_set : {X : Type 0} (cs ds : List (List X)) (n i : ℕ) (v : List X) (x : X) → take n (joined cs) ≡ v → i < n → joined ds ≡ set (joined cs) i x → take n (joined ds) ≡ set v i x
view_set cs ds n i v x e k a = ap (take n) a ∙ take-set-lt n (joined cs) i x k ∙ ap (λ t. set t i x) e

-- one chunk with another content
pub stored : {X : Type 0} (cs : List (List X)) (i : ℕ) (c d : List X) (x : X) → AreLong cs → i < chunk_size * length cs → c ≡ get_or cs (i / chunk_size) c → d ≡ set c (i % chunk_size) x →
    AreLong (set cs (i / chunk_size) d) × (joined (set cs (i / chunk_size) d) ≡ set (joined cs) i x)
stored cs i c d x h w a b =
    let q : i / chunk_size < length cs = omega arith in
    let f = a ∙ get_or_default cs (i / chunk_size) c [] q in
    let l = long_at cs (i / chunk_size) [] h q in (
      long_set cs (i / chunk_size) d h (ap length (b ∙ ap (λ t. set t (i % chunk_size) x) f) ∙ length-set (get_or cs (i / chunk_size) []) (i % chunk_size) x ∙ l),
      sym (set_joined cs i x h w ∙ ap (λ t. joined (set cs (i / chunk_size) t)) (ap (λ t. set t (i % chunk_size) x) (sym f) ∙ sym b)),
    )

-- what a further chunk leaves
pub kept_more : {X : Type 0} (cs ds : List (List X)) (c : List X) (n : ℕ) → AreLong ds → n ≤ chunk_size * length ds → take n (joined ds) ≡ take n (joined cs) → take n (joined (ds ++ c ∷ [])) ≡ take n (joined cs)
kept_more cs ds c n h w e = let l = length-joined ds h in let m : n ≤ length (joined ds) = omega arith in ap (take n) (joined-append ds (c ∷ [])) ∙ take-append-le n (joined ds) (joined (c ∷ [])) m ∙ e

-- one more cell
pub pushed : {X : Type 0} (cs ds : List (List X)) (n : ℕ) (v : List X) (x : X) → AreLong cs → n < chunk_size * length cs → take n (joined cs) ≡ v → joined ds ≡ set (joined cs) n x → take (n + 1) (joined ds) ≡ v ++ x ∷ []
pushed cs ds n v x h w e a =
    let l = length-joined cs h in let k : n < length (joined cs) = omega arith in
    ap (take (n + 1)) a ∙ take_more_set (joined cs) n x k ∙ ap (λ t. t ++ x ∷ []) e

-- no place filled, one more, and further ones
pub filled_none : {X : Type 0} (xs : List X) (start : ℕ) (x : X) → IsFilled xs xs start start x
filled_none xs start x = record { length = refl; inside = λ i d a b. absurd (omega arith); outside = λ i d o. refl }

pub filled_one : {X : Type 0} (xs ys : List X) (start i : ℕ) (x : X) → start ≤ i → i < length ys → IsFilled xs ys start i x → IsFilled xs (set ys i x) start (i + 1) x
filled_one xs ys start i x h w f = record {
  length = length-set ys i x ∙ f.length;
  inside = λ k d a b. elim (cases_eq k i) [
    | inl e ↦ rw e (get_or-set_same ys i x d w)
    | inr e ↦ get_or-set_other ys i k x d e ∙ f.inside k d a (omega arith)
  ];
  outside = λ k d o. elim o [
    | inl a ↦ get_or-set_other ys i k x d (λ e. omega arith) ∙ f.outside k d (inl a)
    | inr a ↦ get_or-set_other ys i k x d (λ e. omega arith) ∙ f.outside k d (inr (omega arith))
  ];
}

pub filled_on : {X : Type 0} (xs ys zs : List X) (start mid end : ℕ) (x : X) → start ≤ mid → mid ≤ end → IsFilled xs ys start mid x → IsFilled ys zs mid end x → IsFilled xs zs start end x
filled_on xs ys zs start mid end x h w f g = record {
  length = g.length ∙ f.length;
  inside = λ k d a b. elim (cases_lt k mid) [
    | inl l ↦ g.outside k d (inl l) ∙ f.inside k d a l
    | inr l ↦ g.inside k d l b
  ];
  outside = λ k d o. elim o [
    | inl a ↦ g.outside k d (inl (omega arith)) ∙ f.outside k d (inl a)
    | inr a ↦ g.outside k d (inr a) ∙ f.outside k d (inr (omega arith))
  ];
}

-- one chunk filled, from the cell on that stands at `start`
pub filled_in : {X : Type 0} (cs : List (List X)) (start count : ℕ) (c d : List X) (x : X) → AreLong cs → start < chunk_size * length cs → start % chunk_size + count ≤ chunk_size → c ≡ get_or cs (start / chunk_size) c
    → IsFilled c d (start % chunk_size) (start % chunk_size + count) x → AreLong (set cs (start / chunk_size) d) × IsFilled (joined cs) (joined (set cs (start / chunk_size) d)) start (start + count) x
filled_in {X = X} cs start count c d x h w r a f =
    let q = start / chunk_size in
    let there : q < length cs = omega arith in
    let e : c ≡ get_or cs q [] = a ∙ get_or_default cs q c [] there in
    let l = long_at cs q [] h there in
    let long : length d ≡ chunk_size = f.length ∙ ap length e ∙ l in
    let ds = set cs q d in
    let more : AreLong ds = long_set cs q d h long in
    let many : length ds ≡ length cs = length-set cs q d in
    let all : length (joined cs) ≡ chunk_size * length cs = length-joined cs h in
    let alls : length (joined ds) ≡ chunk_size * length ds = length-joined ds more in
    let old : (i : ℕ) (v : X) → i < chunk_size * length cs → i / chunk_size ≡ q → get_or (joined cs) i v ≡ get_or c (i % chunk_size) v = λ i v k j. get_joined cs i v h k ∙ ap (λ (n : ℕ). get_or (get_or cs n []) (i % chunk_size) v) j ∙ ap (λ (z : List X). get_or z (i % chunk_size) v) (sym e) in
    let new : (i : ℕ) (v : X) → i < chunk_size * length cs → i / chunk_size ≡ q → get_or (joined ds) i v ≡ get_or d (i % chunk_size) v = λ i v k j.
    get_joined ds i v more (omega arith) ∙ ap (λ (n : ℕ). get_or (get_or ds n []) (i % chunk_size) v) j ∙ ap (λ (z : List X). get_or z (i % chunk_size) v) (get_or-set_same cs q d [] there) in
    let apart : (i : ℕ) (v : X) → i < chunk_size * length cs → i / chunk_size ≢ q → get_or (joined ds) i v ≡ get_or (joined cs) i v = λ i v k j.
    get_joined ds i v more (omega arith) ∙ ap (λ (z : List X). get_or z (i % chunk_size) v) (get_or-set_other cs q (i / chunk_size) d [] j) ∙ sym (get_joined cs i v h k) in (
      more,
      record {
        length = alls ∙ ap (λ (n : ℕ). chunk_size * n) many ∙ sym all;
        inside = λ i v b k. let j : i / chunk_size ≡ q = omega arith in new i v (omega arith) j ∙ f.inside (i % chunk_size) v (omega arith) (omega arith);
        outside = λ i v o. elim (cases_lt i (chunk_size * length cs)) [
          | inl k ↦ elim (cases_eq (i / chunk_size) q) [
            | inl j ↦ new i v k j ∙ f.outside (i % chunk_size) v (elim o [ inl b ↦ inl (omega arith) | inr b ↦ inr (omega arith) ]) ∙ sym (old i v k j)
            | inr j ↦ apart i v k j
          ]
          | inr k ↦ get_or_past (joined ds) i v (omega (arith, alls)) ∙ sym (get_or_past (joined cs) i v (omega (arith, all)))
        ];
      },
    )

-- the cells that a list had, and as many more
pub grown_cells : {X : Type 0} (xs ys zs : List X) (start end : ℕ) (x : X) → start ≤ end → end ≤ length xs → take start xs ≡ ys → IsFilled xs zs start end x → take end zs ≡ ys ++ replicate (end - start) x
grown_cells {X = X} xs ys zs start end x h w e f =
    let a : length (take end zs) ≡ end = length-take-le end zs (omega (arith, f.length)) in
    let b : length (take start xs) ≡ start = length-take-le start xs (omega arith) in
    let c : length ys ≡ start = ap length (sym e) ∙ b in
    let d = length-append ys (replicate (end - start) x) in
    let r = length-replicate (end - start) x in
    same_lists (take end zs) (ys ++ replicate (end - start) x) (omega arith) (λ k v l. get_or-take end zs k v (omega arith) ∙ elim (cases_lt k start) [
      | inl m ↦ f.outside k v (inl m) ∙ sym (get_or-take start xs k v m) ∙ ap (λ (z : List X). get_or z k v) e ∙ sym (get_or_append_left ys (replicate (end - start) x) v k (omega arith))
      | inr m ↦
          let n : k ≡ length ys + (k - start) = omega arith in
          f.inside k v m (omega arith) ∙ sym (get_or-replicate (end - start) (k - start) x v (omega arith)) ∙ sym (ap (λ (i : ℕ). get_or (ys ++ replicate (end - start) x) i v) n ∙ get_or-append-add ys (replicate (end - start) x) (k - start) v)
    ])

-- the cells of chunks that have room for them
pub grown_in : {X : Type 0} (bs zs : List (List X)) (start n end : ℕ) (x : X) (ys : List X) → AreLong bs → end ≤ chunk_size * length bs → end ≡ start + n → take start (joined bs) ≡ ys → IsFilled (joined bs) (joined zs) start end x → take end (joined zs) ≡ ys ++ replicate n x
grown_in bs zs start n end x ys h w e s f =
    let l = length-joined bs h in
    let m : end - start ≡ n = omega arith in
    grown_cells (joined bs) ys (joined zs) start end x (omega arith) (omega arith) s f ∙ ap (λ (k : ℕ). ys ++ replicate k x) m

-- what a region sees of it
pub filled_view : {X : Type 0} (xs zs v : List X) (len start end : ℕ) (x : X) → len ≤ length xs → end ≤ length v → take len xs ≡ v → IsFilled xs zs start end x → IsFilled v (take len zs) start end x
filled_view {X = X} xs zs v len start end x w h e f =
    let a : length (take len zs) ≡ len = length-take-le len zs (omega (arith, f.length)) in
    let b : length v ≡ len = ap length (sym e) ∙ length-take-le len xs w in
    record {
      length = a ∙ sym b;
      inside = λ i d l r. get_or-take len zs i d (omega arith) ∙ f.inside i d l r;
      outside = λ i d o. elim (cases_lt i len) [
        | inl l ↦ get_or-take len zs i d l ∙ f.outside i d o ∙ sym (get_or-take len xs i d l) ∙ ap (λ (z : List X). get_or z i d) e
        | inr l ↦ get_or_past (take len zs) i d (omega (arith, a)) ∙ sym (get_or_past v i d (omega (arith, b)))
      ];
    }

-- cells of one chunk beside one another
pub run_in : {X : Type 0} (cs : List (List X)) (v : List X) (len start count : ℕ) (c run : List X) → AreLong cs → len ≤ chunk_size * length cs → take len (joined cs) ≡ v → start + count ≤ length v → start % chunk_size + count ≤ chunk_size → 0 < count
    → c ≡ get_or cs (start / chunk_size) c → IsRun c (start % chunk_size) count run → IsRun v start count run
run_in {X = X} cs v len start count c run h w e s r some a f =
    let b : len ≡ length v = view_length cs len v h w e in
    let q = start / chunk_size in
    let there : q < length cs = omega arith in
    record {
      length = f.length;
      cells = λ i d l.
          let j : (start + i) / chunk_size ≡ q = omega arith in
          let k : (start + i) % chunk_size ≡ start % chunk_size + i = omega arith in
          f.cells i d l ∙ ap (λ (n : ℕ). get_or c n d) (sym k) ∙ ap (λ (z : List X). get_or z ((start + i) % chunk_size) d) (a ∙ get_or_default cs q c [] there)
          ∙ ap (λ (n : ℕ). get_or (get_or cs n []) ((start + i) % chunk_size) d) (sym j)
          ∙ sym (get_joined cs (start + i) d h (omega arith)) ∙ sym (get_or-take len (joined cs) (start + i) d (omega arith)) ∙ ap (λ (z : List X). get_or z (start + i) d) e;
    }
