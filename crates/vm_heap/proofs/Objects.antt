-- Objects whose cells stand one after the other: what one of them is, and what a change of a cell or a text changes.
use Rattle.std.proofs.Common.{◌≡◌, ℕ, zero, suc, ◌+◌, ◌<◌, ◌≤◌, List, [], ◌∷◌, ◌++◌, length, get_or, set, take, drop, map, Option, refl, sym, ap, ◌∙◌, arith, length-append, add_assoc}
use Rattle.std.proofs.lemmas.List.{drop-drop, drop-set-lt, drop-set-add, take-set-le, take-append-le, drop-append-le, length-set, nil_from_length, length-drop}
use Rattle.std.proofs.Math.Seq.{take-set-lt, take-length}
use Rattle.jvm_model.specs.{declared.program.Program.Program, declared.values.Value.Value, World.Object}
use Rattle.vm_heap.specs.Entries.{Entry, header_of}
use Rattle.vm_heap.specs.Objects.{cell_count, object_of, objects_of, total, AreBeside, IsWhole}

-- how many cells stand before those of an object
abbrev pub before : Program → List Entry → ℕ → ℕ
before p [] o = 0
before p (x ∷ xs) zero = 0
before p (x ∷ xs) (suc o) = cell_count p x.head + before p xs o

-- an object's own cells
abbrev pub own_cells : Program → Entry → ℕ → List Value → List Value
own_cells p x n cs = take (cell_count p x.head) (drop n cs)

pub length-objects_of : (p : Program) (xs : List Entry) (cs : List Value) → length (objects_of p xs cs) ≡ length xs
length-objects_of p [] cs = refl
length-objects_of p (x ∷ xs) cs = ap suc (length-objects_of p xs (drop (cell_count p x.head) cs))

start_from : (p : Program) (n : ℕ) (xs : List Entry) (o : ℕ) (d : Entry) → AreBeside p n xs → o < length xs → (get_or xs o d).start ≡ n + before p xs o
start_from p n [] o d h w = absurd (omega arith)
start_from p n (x ∷ xs) zero d h w = let e = h.0 in omega arith
start_from p n (x ∷ xs) (suc o) d h w = let e = start_from p (n + cell_count p x.head) xs o d h.1 (omega arith) in omega arith

room_at : (p : Program) (xs : List Entry) (o : ℕ) (d : Entry) → o < length xs → before p xs o + cell_count p (get_or xs o d).head ≤ total p xs
room_at p [] o d w = absurd (omega arith)
room_at p (x ∷ xs) zero d w = omega arith
room_at p (x ∷ xs) (suc o) d w = let e = room_at p xs o d (omega arith) in omega arith

pub object_there : (p : Program) (xs : List Entry) (cs : List Value) (o : ℕ) (d : Entry) (e : Object) → o < length xs → get_or (objects_of p xs cs) o e ≡ object_of p (get_or xs o d) (own_cells p (get_or xs o d) (before p xs o) cs)
object_there p [] cs o d e w = absurd (omega arith)
object_there p (x ∷ xs) cs zero d e w = refl
object_there p (x ∷ xs) cs (suc o) d e w =
    object_there p xs (drop (cell_count p x.head) cs) o d e (omega arith)
    ∙ ap (λ t. object_of p (get_or xs o d) (take (cell_count p (get_or xs o d).head) t)) (drop-drop (before p xs o) (cell_count p x.head) cs)

pub cell_set : (p : Program) (xs : List Entry) (cs : List Value) (o k : ℕ) (d : Entry) (v : Value) → o < length xs → k < cell_count p (get_or xs o d).head →
    objects_of p xs (set cs (before p xs o + k) v) ≡ set (objects_of p xs cs) o (object_of p (get_or xs o d) (set (own_cells p (get_or xs o d) (before p xs o) cs) k v))
cell_set p [] cs o k d v w h = absurd (omega arith)
cell_set p (x ∷ xs) cs zero k d v w h =
    let z : 0 + k ≡ k = omega arith in
    rw (z, take-set-lt (cell_count p x.head) cs k v h, drop-set-lt (cell_count p x.head) cs k v h) refl
cell_set p (x ∷ xs) cs (suc o) k d v w h =
    let c = cell_count p x.head in
    let z : c + before p xs o + k ≡ c + (before p xs o + k) = add_assoc c (before p xs o) k in
    let n : c ≤ c + (before p xs o + k) = omega arith in
    let t : take c (set cs (c + (before p xs o + k)) v) ≡ take c cs = take-set-le c cs (c + (before p xs o + k)) v n in
    let r : drop c (set cs (c + (before p xs o + k)) v) ≡ set (drop c cs) (before p xs o + k) v = drop-set-add c cs (before p xs o + k) v in
    let i = cell_set p xs (drop c cs) o k d v (omega arith) h in
    let q : own_cells p (get_or xs o d) (before p xs o) (drop c cs) ≡ own_cells p (get_or xs o d) (c + before p xs o) cs = ap (take (cell_count p (get_or xs o d).head)) (drop-drop (before p xs o) c cs) in
    ap (λ m. objects_of p (x ∷ xs) (set cs m v)) z ∙ ap (λ y. object_of p x y ∷ objects_of p xs (drop c (set cs (c + (before p xs o + k)) v))) t
    ∙ ap (λ y. object_of p x (take c cs) ∷ objects_of p xs y) r ∙ ap (λ y. object_of p x (take c cs) ∷ y) (i ∙ ap (λ y. set (objects_of p xs (drop c cs)) o (object_of p (get_or xs o d) (set y k v))) q)

-- one more object
pub made_last : (p : Program) (xs : List Entry) (x : Entry) (cs new : List Value) → length cs ≡ total p xs → length new ≡ cell_count p x.head →
    objects_of p (xs ++ x ∷ []) (cs ++ new) ≡ objects_of p xs cs ++ object_of p x new ∷ []
made_last p [] x cs new h n =
    let e : cs ≡ [] = nil_from_length cs h in
    rw e (ap (λ m. object_of p x (take m new) ∷ []) (sym n) ∙ ap (λ t. object_of p x t ∷ []) (take-length new))
made_last p (y ∷ ys) x cs new h n =
    let w : cell_count p y.head ≤ length cs = omega arith in
    let r : length (drop (cell_count p y.head) cs) ≡ total p ys = length-drop (cell_count p y.head) cs ∙ omega arith in
    rw (take-append-le (cell_count p y.head) cs new w, drop-append-le (cell_count p y.head) cs new w) (ap (λ t. object_of p y (take (cell_count p y.head) cs) ∷ t) (made_last p ys x (drop (cell_count p y.head) cs) new r n))

beside_last : (p : Program) (n : ℕ) (xs : List Entry) (x : Entry) → AreBeside p n xs → x.start ≡ n + total p xs → AreBeside p n (xs ++ x ∷ [])
beside_last p n [] x h e = (omega arith, tt)
beside_last p n (y ∷ ys) x h e = (h.0, beside_last p (n + cell_count p y.head) ys x h.1 (omega arith))

total_last : (p : Program) (xs : List Entry) (x : Entry) → total p (xs ++ x ∷ []) ≡ total p xs + cell_count p x.head
total_last p [] x = omega arith
total_last p (y ∷ ys) x = let e = total_last p ys x in omega arith

pub whole_last : (p : Program) (xs : List Entry) (x : Entry) (cs new : List Value) → IsWhole p xs cs → x.start ≡ length cs → length new ≡ cell_count p x.head → IsWhole p (xs ++ x ∷ []) (cs ++ new)
whole_last p xs x cs new h s n = record {
  beside = let f = h.full in beside_last p 0 xs x h.beside (omega arith);
  full = let f = h.full in length-append cs new ∙ (let t = total_last p xs x in omega arith);
}

-- an object with another text
abbrev pub with_text : Entry → Option (List ℕ) → Entry
with_text x t = record x { text = t }

pub text_set : (p : Program) (xs : List Entry) (cs : List Value) (o : ℕ) (d : Entry) (e : Object) (t : Option (List ℕ)) → o < length xs →
    objects_of p (set xs o (with_text (get_or xs o d) t)) cs ≡ set (objects_of p xs cs) o (record (get_or (objects_of p xs cs) o e) { text = t })
text_set p [] cs o d e t w = absurd (omega arith)
text_set p (x ∷ xs) cs zero d e t w = refl
text_set p (x ∷ xs) cs (suc o) d e t w = ap (λ y. object_of p x (take (cell_count p x.head) cs) ∷ y) (text_set p xs (drop (cell_count p x.head) cs) o d e t (omega arith))

-- headers tell where the cells are, whatever the texts
beside_same : (p : Program) (n : ℕ) (xs ys : List Entry) → map header_of ys ≡ map header_of xs → AreBeside p n xs → AreBeside p n ys
beside_same p n [] [] e h = tt
beside_same p n [] (y ∷ ys) e h = absurd (cc)
beside_same p n (x ∷ xs) [] e h = absurd (cc)
beside_same p n (x ∷ xs) (y ∷ ys) e h =
    let a : header_of y ≡ header_of x = cc in
    let b : map header_of ys ≡ map header_of xs = cc in
    let k : cell_count p y.head ≡ cell_count p x.head = ap (λ z. cell_count p z.head) a in
    (ap (λ z. z.start) a ∙ h.0, rw k (beside_same p (n + cell_count p x.head) xs ys b h.1))

total_same : (p : Program) (xs ys : List Entry) → map header_of ys ≡ map header_of xs → total p ys ≡ total p xs
total_same p [] [] e = refl
total_same p [] (y ∷ ys) e = absurd (cc)
total_same p (x ∷ xs) [] e = absurd (cc)
total_same p (x ∷ xs) (y ∷ ys) e =
    let a : header_of y ≡ header_of x = cc in
    let b : map header_of ys ≡ map header_of xs = cc in
    let k : cell_count p y.head ≡ cell_count p x.head = ap (λ z. cell_count p z.head) a in
    let i = total_same p xs ys b in
    omega arith

pub whole_same : (p : Program) (xs ys : List Entry) (cs : List Value) → map header_of ys ≡ map header_of xs → IsWhole p xs cs → IsWhole p ys cs
whole_same p xs ys cs e h = record { beside = beside_same p 0 xs ys e h.beside; full = h.full ∙ sym (total_same p xs ys e) }

pub whole_set : (p : Program) (xs : List Entry) (cs : List Value) (i : ℕ) (v : Value) → IsWhole p xs cs → IsWhole p xs (set cs i v)
whole_set p xs cs i v h = record { beside = h.beside; full = length-set cs i v ∙ h.full }

pub start_at : (p : Program) (xs : List Entry) (cs : List Value) (o : ℕ) (d : Entry) → IsWhole p xs cs → o < length xs → (get_or xs o d).start ≡ before p xs o
start_at p xs cs o d h w = let e = start_from p 0 xs o d h.beside w in omega arith

pub cells_within : (p : Program) (xs : List Entry) (cs : List Value) (o : ℕ) (d : Entry) → IsWhole p xs cs → o < length xs → before p xs o + cell_count p (get_or xs o d).head ≤ length cs
cells_within p xs cs o d h w = let e = room_at p xs o d w in let f = h.full in omega arith
