-- What the calls on the top entry leave.
use Rattle.std.proofs.Common.{◌≡◌, ◌≢◌, ℕ, zero, suc, ◌<◌, ◌≤◌, ◌-◌, ◌+◌, List, [], ◌∷◌, length, get_or, set, take, map, reverse, slice_get, Some, refl, sym, ap, ◌∙◌, arith, subst, get_or-set_other, get_or-set_same, length-set}
use Rattle.std.proofs.lemmas.List.{take-set-le}
use Rattle.jvm_model.specs.declared.values.{Value.Value, Value.TheVariants.Null}
use Rattle.jvm_model.specs.declared.state.{EntryKind.EntryKind, EntryKind.TheVariants.Absent, EntryKind.TheVariants.InMethod, EntryKind.TheVariants.InClass}
use Rattle.jvm_model.specs.{Entries.Entries, Entries.with_stack, RowsMoves.with_local}
use Rattle.vm_frames.specs.{declared.extent.Extent.Extent, Stack.operand_limit, Stack.dup_below, Stack.HasRoom}
use Rattle.vm_frames.specs.Extents.{downwards, upwards, entry_of, entries_at, IsStanding}
use Rattle.vm_frames.proofs.Lower.{downwards_same, upwards_same, below_same}

pub length_upwards : (xs : List Value) (b n : ℕ) → length (upwards xs b n) ≡ n
length_upwards xs b zero = refl
length_upwards xs b (suc n) = rw (length_upwards xs (suc b) n) refl

pub upwards_get : (xs : List Value) (b n i : ℕ) → i < n → slice_get (upwards xs b n) i ≡ Some (get_or xs (b + i) Null)
upwards_get xs b zero i h = let none : ⊥ = omega arith in absurd none
upwards_get xs b (suc n) zero h = let here : b + 0 ≡ b = omega arith in rw here refl
upwards_get xs b (suc n) (suc i) h = let there : b + suc i ≡ suc b + i = omega arith in rw (there, upwards_get xs (suc b) n i (omega arith)) refl

pub length_downwards : (xs : List Value) (t n : ℕ) → n ≤ t → length (downwards xs t n) ≡ n
length_downwards xs t zero h = refl
length_downwards xs zero (suc n) h = let none : ⊥ = omega arith in absurd none
length_downwards xs (suc t) (suc n) h = rw (length_downwards xs t n (omega arith)) refl

pub downwards_get : (xs : List Value) (t n k : ℕ) → n ≤ t → k < n → slice_get (downwards xs t n) k ≡ Some (get_or xs (t - 1 - k) Null)
downwards_get xs t zero k g h = let none : ⊥ = omega arith in absurd none
downwards_get xs zero (suc n) k g h = let none : ⊥ = omega arith in absurd none
downwards_get xs (suc t) (suc n) zero g h = let here : suc t - 1 - 0 ≡ t = omega arith in rw here refl
downwards_get xs (suc t) (suc n) (suc k) g h =
    let there : suc t - 1 - suc k ≡ t - 1 - k = omega arith in
    rw (there, downwards_get xs t n k (omega arith) (omega arith)) refl

pub upwards_set_before : (xs : List Value) (i : ℕ) (v : Value) (b n : ℕ) → i < b → upwards (set xs i v) b n ≡ upwards xs b n
upwards_set_before xs i v b zero h = refl
upwards_set_before xs i v b (suc n) h =
    let apart : b ≢ i = omega arith in
    rw (get_or-set_other xs i b v Null apart, upwards_set_before xs i v (suc b) n (omega arith)) refl

pub upwards_set_at : (xs : List Value) (b n i j : ℕ) (v : Value) → j ≡ b + i → i < n → b + n ≤ length xs → upwards (set xs j v) b n ≡ set (upwards xs b n) i v
upwards_set_at xs b zero i j v e h k = let none : ⊥ = omega arith in absurd none
upwards_set_at xs b (suc n) zero j v e h k =
    let here : j ≡ b = omega arith in
    let first : get_or (set xs b v) b Null ≡ v = get_or-set_same xs b v Null (omega arith) in
    let rest : upwards (set xs b v) (suc b) n ≡ upwards xs (suc b) n = upwards_set_before xs b v (suc b) n (omega arith) in
    let both : get_or (set xs b v) b Null ∷ upwards (set xs b v) (suc b) n ≡ v ∷ upwards xs (suc b) n = rw (first, rest) refl in
    subst (λ (q : ℕ). upwards (set xs q v) b (suc n) ≡ set (upwards xs b (suc n)) 0 v) (sym here) both
upwards_set_at xs b (suc n) (suc i) j v e h k =
    let apart : b ≢ j = omega arith in
    let first : get_or (set xs j v) b Null ≡ get_or xs b Null = get_or-set_other xs j b v Null apart in
    let rest : upwards (set xs j v) (suc b) n ≡ set (upwards xs (suc b) n) i v = upwards_set_at xs (suc b) n i j v (omega arith) (omega arith) (omega arith) in
    let both : get_or (set xs j v) b Null ∷ upwards (set xs j v) (suc b) n ≡ get_or xs b Null ∷ set (upwards xs (suc b) n) i v = rw (first, rest) refl in
    both

pub downwards_set_below : (xs : List Value) (i : ℕ) (v : Value) (t n : ℕ) → i + n < t → downwards (set xs i v) t n ≡ downwards xs t n
downwards_set_below xs i v t zero h = refl
downwards_set_below xs i v zero (suc n) h = refl
downwards_set_below xs i v (suc t) (suc n) h =
    let apart : t ≢ i = omega arith in
    rw (get_or-set_other xs i t v Null apart, downwards_set_below xs i v t n (omega arith)) refl

pub downwards_none : (xs : List Value) (t : ℕ) → downwards xs t (t - t) ≡ []
downwards_none xs t = let none : t - t ≡ 0 = omega arith in rw none refl

pub downwards_more : (xs : List Value) (f t : ℕ) → f ≤ t → downwards xs (suc t) (suc t - f) ≡ get_or xs t Null ∷ downwards xs t (t - f)
downwards_more xs f t h = let count : suc t - f ≡ suc (t - f) = omega arith in rw count refl

pub take_set : (xs : List Value) (b i : ℕ) (v : Value) → b ≤ i → take b xs ≡ take b (set xs i v)
take_set xs b i v h = sym (take-set-le b xs i v h)

-- a push
pub entries-push : (xs : List Value) (e : Extent) (saved : List Extent) (n : ℕ) (v : Value) → IsStanding n e saved → e.top < length xs
    → entries_at (set xs e.top v) (record e { top = e.top + 1 }) saved ≡ with_stack (entries_at xs e saved) (v ∷ downwards xs e.top (e.top - e.first))
entries-push xs e saved n v w h =
    let next : e.top + 1 ≡ suc e.top = omega arith in
    let same : downwards (set xs e.top v) e.top (e.top - e.first) ≡ downwards xs e.top (e.top - e.first) = sym (downwards_same xs (set xs e.top v) e.top e.top (e.top - e.first) (take_set xs e.top e.top v (omega arith)) (omega arith)) in
    let more : downwards (set xs e.top v) (e.top + 1) (e.top + 1 - e.first) ≡ v ∷ downwards xs e.top (e.top - e.first) = rw (next, downwards_more (set xs e.top v) e.first e.top (omega (arith, w.here)), get_or-set_same xs e.top v Null h, same) refl in
    let locals : upwards (set xs e.top v) e.base (e.first - e.base) ≡ upwards xs e.base (e.first - e.base) = sym (upwards_same xs (set xs e.top v) e.first e.base (e.first - e.base) (take_set xs e.first e.top v (omega (arith, w.here))) (omega (arith, w.here))) in
    let below : map (entry_of (set xs e.top v)) (reverse saved) ≡ map (entry_of xs) (reverse saved) = sym (below_same xs (set xs e.top v) n e.base (reverse saved) (take_set xs e.base e.top v (omega (arith, w.here))) w.below) in
    rw (more, locals, below) refl

-- a pop
pub entries-pop : (xs : List Value) (e : Extent) (saved : List Extent) (n : ℕ) (v : Value) → IsStanding n e saved → n ≡ length xs → 0 < length (downwards xs e.top (e.top - e.first)) → v ≡ get_or xs (e.top - 1) Null
    → entries_at xs e saved ≡ with_stack (entries_at xs (record e { top = e.top - 1 }) saved) (v ∷ downwards xs (e.top - 1) (e.top - 1 - e.first))
entries-pop xs e saved n v w q h r =
    let some : e.first < e.top = omega (arith, length_downwards xs e.top (e.top - e.first) (omega arith)) in
    let next : suc (e.top - 1) ≡ e.top = omega arith in
    let step : downwards xs (suc (e.top - 1)) (suc (e.top - 1) - e.first) ≡ get_or xs (e.top - 1) Null ∷ downwards xs (e.top - 1) (e.top - 1 - e.first) = downwards_more xs e.first (e.top - 1) (omega arith) in
    let more : downwards xs e.top (e.top - e.first) ≡ v ∷ downwards xs (e.top - 1) (e.top - 1 - e.first) = (rw next at step) ∙ ap (λ (x : Value). x ∷ downwards xs (e.top - 1) (e.top - 1 - e.first)) (sym r) in
    rw more refl

-- a write of a local
pub entries-set : (xs : List Value) (e : Extent) (saved : List Extent) (n i : ℕ) (v : Value) → IsStanding n e saved → e.base + i < e.first → n ≡ length xs
    → entries_at (set xs (e.base + i) v) e saved ≡ with_local (entries_at xs e saved) i v
entries-set xs e saved n i v w h q =
    let stack : downwards (set xs (e.base + i) v) e.top (e.top - e.first) ≡ downwards xs e.top (e.top - e.first) = downwards_set_below xs (e.base + i) v e.top (e.top - e.first) (omega (arith, w.here)) in
    let locals : upwards (set xs (e.base + i) v) e.base (e.first - e.base) ≡ set (upwards xs e.base (e.first - e.base)) i v = upwards_set_at xs e.base (e.first - e.base) i (e.base + i) v refl (omega arith) (omega (arith, w.here)) in
    let below : map (entry_of (set xs (e.base + i) v)) (reverse saved) ≡ map (entry_of xs) (reverse saved) = sym (below_same xs (set xs (e.base + i) v) n e.base (reverse saved) (take_set xs e.base (e.base + i) v (omega arith)) w.below) in
    rw (stack, locals, below) refl

-- the top of the operands moves within its limit
pub standing-move : (n t : ℕ) (e : Extent) (saved : List Extent) → IsStanding n e saved → e.first ≤ t → t ≤ e.first + operand_limit e.kind → IsStanding n (record e { top = t }) saved
standing-move n t e saved w low high = record {
  here = record { locals = w.here.locals; operands = low; limited = high; room = w.here.room; under = omega (arith, w.here) };
  below = w.below;
  depth = w.depth;
  few = w.few;
}

-- a write keeps how many slots there are
pub standing-set : (xs : List Value) (i : ℕ) (v : Value) (e : Extent) (saved : List Extent) → IsStanding (length xs) e saved → IsStanding (length (set xs i v)) e saved
standing-set xs i v e saved w = rw (length-set xs i v) w

-- both
pub standing-push : (xs : List Value) (i t : ℕ) (v : Value) (e : Extent) (saved : List Extent) → IsStanding (length xs) e saved → e.first ≤ t → t ≤ e.first + operand_limit e.kind → IsStanding (length (set xs i v)) (record e { top = t }) saved
standing-push xs i t v e saved w low high = standing-set xs i v (record e { top = t }) saved (standing-move (length xs) t e saved w low high)

-- what room for one more operand means in the slots
pub room_above : (xs : List Value) (e : Extent) (saved : List Extent) (s : Entries) → IsStanding (length xs) e saved → entries_at xs e saved ≡ s → HasRoom 1 s → e.top + 1 ≤ e.first + operand_limit e.kind
room_above xs e saved s w q h =
    let room : HasRoom 1 (entries_at xs e saved) = subst (λ (t : Entries). HasRoom 1 t) (sym q) h in
    omega (arith, room, length_downwards xs e.top (e.top - e.first) (omega arith), w.here)

-- one more operand stands
pub standing-raised : (xs : List Value) (i : ℕ) (v : Value) (e : Extent) (saved : List Extent) (s : Entries) → IsStanding (length xs) e saved → entries_at xs e saved ≡ s → HasRoom 1 s
    → IsStanding (length (set xs i v)) (record e { top = e.top + 1 }) saved
standing-raised xs i v e saved s w q h =
    standing-push xs i (e.top + 1) v e saved w (omega (arith, w.here)) (room_above xs e saved s w q h)

-- what stands at the place of a local or an operand
pub local_is : (xs : List Value) (b n i : ℕ) → i < n → get_or (upwards xs b n) i Null ≡ get_or xs (b + i) Null
local_is xs b zero i h = absurd (omega arith)
local_is xs b (suc n) zero h = let here : b + 0 ≡ b = omega arith in rw here refl
local_is xs b (suc n) (suc i) h = let there : b + suc i ≡ suc b + i = omega arith in rw (there, local_is xs (suc b) n i (omega arith)) refl

pub operand_is : (xs : List Value) (t n k : ℕ) → n ≤ t → k < n → get_or (downwards xs t n) k Null ≡ get_or xs (t - 1 - k) Null
operand_is xs t zero k g h = absurd (omega arith)
operand_is xs zero (suc n) k g h = absurd (omega arith)
operand_is xs (suc t) (suc n) zero g h = let here : suc t - 1 - 0 ≡ t = omega arith in rw here refl
operand_is xs (suc t) (suc n) (suc k) g h =
    let there : suc t - 1 - suc k ≡ t - 1 - k = omega arith in
    rw (there, operand_is xs t n k (omega arith) (omega arith)) refl

pub top_is : (xs : List Value) (t n : ℕ) → n ≤ t → 0 < n → get_or (downwards xs t n) 0 Null ≡ get_or xs (t - 1) Null
top_is xs t n g h = let here : t - 1 - 0 ≡ t - 1 = omega arith in operand_is xs t n 0 g h ∙ rw here refl

pub ruleset tops = (length_upwards, upwards_get, length_downwards, downwards_get, downwards_none, entries-push, entries-pop, entries-set, standing-move, standing-set, standing-push, local_is, operand_is, top_is)

pub limit_most : (k : EntryKind) → operand_limit k ≤ 65535
limit_most Absent = omega arith
limit_most InMethod = omega arith
limit_most (InClass b) = omega arith

-- the top operand is put below the one under it as well, by three copies
module _ (xs : List Value) (t : ℕ) where
  abbrev pub raised : List Value
  raised = set xs t (get_or xs (t - 1) Null)

  abbrev pub shifted : List Value
  shifted = set raised (t - 1) (get_or raised (t - 2) Null)

  abbrev pub put_below : List Value
  put_below = set shifted (t - 2) (get_or shifted t Null)

  module _ (two : 1 < t) (h : t < length xs) where
    raised_top : get_or shifted t Null ≡ get_or xs (t - 1) Null
    raised_top =
        let apart : t ≢ t - 1 = omega arith in
        get_or-set_other raised (t - 1) t (get_or raised (t - 2) Null) Null apart ∙ get_or-set_same xs t (get_or xs (t - 1) Null) Null h

    first_is : get_or put_below t Null ≡ get_or xs (t - 1) Null
    first_is = let apart : t ≢ t - 2 = omega arith in get_or-set_other shifted (t - 2) t (get_or shifted t Null) Null apart ∙ raised_top

    second_is : get_or put_below (t - 1) Null ≡ get_or xs (t - 2) Null
    second_is =
        let apart : t - 1 ≢ t - 2 = omega arith in
        let other : t - 2 ≢ t = omega arith in
        let many : length raised ≡ length xs = length-set xs t (get_or xs (t - 1) Null) in
        get_or-set_other shifted (t - 2) (t - 1) (get_or shifted t Null) Null apart
        ∙ get_or-set_same raised (t - 1) (get_or raised (t - 2) Null) Null (omega arith)
        ∙ get_or-set_other xs t (t - 2) (get_or xs (t - 1) Null) Null other

    third_is : get_or put_below (t - 2) Null ≡ get_or xs (t - 1) Null
    third_is =
        let many : length raised ≡ length xs = length-set xs t (get_or xs (t - 1) Null) in
        let same : length shifted ≡ length raised = length-set raised (t - 1) (get_or raised (t - 2) Null) in
        get_or-set_same shifted (t - 2) (get_or shifted t Null) Null (omega arith) ∙ raised_top

    pub put_below_take : (b : ℕ) → b ≤ t - 2 → take b xs ≡ take b put_below
    put_below_take b k =
        take_set xs b t (get_or xs (t - 1) Null) (omega arith) ∙ take_set raised b (t - 1) (get_or raised (t - 2) Null) (omega arith)
        ∙ take_set shifted b (t - 2) (get_or shifted t Null) k

    three_more : (ys : List Value) (f : ℕ) → f ≤ t - 2 → downwards ys (t + 1) (t + 1 - f) ≡ get_or ys t Null ∷ get_or ys (t - 1) Null ∷ get_or ys (t - 2) Null ∷ downwards ys (t - 2) (t - 2 - f)
    three_more ys f k =
        let a : t + 1 ≡ suc t = omega arith in
        let b : suc (t - 1) ≡ t = omega arith in
        let c : suc (t - 2) ≡ t - 1 = omega arith in
        let one = downwards_more ys f t (omega arith) in
        let next = rw b at (downwards_more ys f (t - 1) (omega arith)) in
        let last = rw c at (downwards_more ys f (t - 2) k) in
        rw (a, one, next, last) refl

pub entries-dup_x1 : (xs : List Value) (e : Extent) (saved : List Extent) (n : ℕ) → IsStanding n e saved → e.top < length xs → 1 < length (downwards xs e.top (e.top - e.first))
    → entries_at (put_below xs e.top) (record e { top = e.top + 1 }) saved ≡ with_stack (entries_at xs e saved) (dup_below (downwards xs e.top (e.top - e.first)))
entries-dup_x1 xs e saved n w h two =
    let t = e.top in
    let ys = put_below xs t in
    let many = length_downwards xs t (t - e.first) (omega arith) in
    let low : e.first ≤ t - 2 = omega (arith, w.here) in
    let more : 1 < t = omega arith in
    let b : suc (t - 1) ≡ t = omega arith in
    let c : suc (t - 2) ≡ t - 1 = omega arith in
    let next = rw b at (downwards_more xs e.first (t - 1) (omega arith)) in
    let last = rw c at (downwards_more xs e.first (t - 2) low) in
    let rest : downwards ys (t - 2) (t - 2 - e.first) ≡ downwards xs (t - 2) (t - 2 - e.first) = sym (downwards_same xs ys (t - 2) (t - 2) (t - 2 - e.first) (put_below_take xs t more h (t - 2) (omega arith)) (omega arith)) in
    let old : dup_below (downwards xs t (t - e.first)) ≡ get_or xs (t - 1) Null ∷ get_or xs (t - 2) Null ∷ get_or xs (t - 1) Null ∷ downwards xs (t - 2) (t - 2 - e.first) = rw (next, last) refl in
    let stack : downwards ys (t + 1) (t + 1 - e.first) ≡ dup_below (downwards xs t (t - e.first)) =
    three_more xs t more h ys e.first low ∙ rw (first_is xs t more h, second_is xs t more h, third_is xs t more h, rest) refl ∙ sym old in
    let locals : upwards ys e.base (e.first - e.base) ≡ upwards xs e.base (e.first - e.base) = sym (upwards_same xs ys e.first e.base (e.first - e.base) (put_below_take xs t more h e.first low) (omega (arith, w.here))) in
    let below : map (entry_of ys) (reverse saved) ≡ map (entry_of xs) (reverse saved) = sym (below_same xs ys n e.base (reverse saved) (put_below_take xs t more h e.base (omega (arith, w.here))) w.below) in
    rw (stack, locals, below) refl
