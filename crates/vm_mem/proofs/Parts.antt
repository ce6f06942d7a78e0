-- Lists that are made part by part.
use Rattle.std.proofs.Common.{◌≡◌, ◌≢◌, ℕ, suc, ◌+◌, ◌<◌, List, [], ◌∷◌, ◌++◌, length, get_or, take, drop, map, false, Option, Some, refl, sym, ap, ◌∙◌, arith, add-one, drop-cons, append_assoc}
use Rattle.std.specs.Str.{bytes_eq}
use Rattle.std.proofs.lemmas.{Bool.false_from_ne_true, Slice.Eq.bytes_eq-Decides}
use Rattle.std.proofs.lemmas.List.{get_or_default, get_or-take, length-take-le, take_more, map-append}
use Rattle.sim_store.specs.Stored.{Stored}
use Rattle.jvm_model.specs.{declared.values.Value.Value, declared.program.Program.Program, Linked.IsDistinct, World.keep, Access.elems_made, Access.write_of}
use Rattle.jvm_model.specs.declared.values.Location.TheVariants as place
use Rattle.vm_mem.specs.Noting.{noted_by}

-- a part is done, the rest is to come
pub rest_more : {A : Type 0} (a b c part r s : List A) → b ≡ a ++ part → r ≡ part ++ s → a ++ r ≡ c → b ++ s ≡ c
rest_more a b c part r s e f h = ap (λ t. t ++ s) e ∙ append_assoc a part s ∙ ap (λ t. a ++ t) (sym f) ∙ h

pub elems_made_rest : (t o : ℕ) (xs : List Value) (i : ℕ) (d : Value) → i < length xs →
    map (noted_by t) (elems_made o i (drop i xs)) ≡ (noted_by t (write_of (place.Elem o i)) ∷ []) ++ map (noted_by t) (elems_made o (i + 1) (drop (i + 1) xs))
elems_made_rest t o xs i d h = rw (drop-cons xs i d h, add-one) refl

-- a name that isn't there goes last
keep_last : (xs : List (List ℕ × List ℕ)) (n : List ℕ) (v : Option (List ℕ)) → ((j : ℕ) → j < length xs → (get_or xs j ([], [])).0 ≢ n) →
    keep bytes_eq (map (λ x. (x.0, Some x.1)) xs) n v ≡ map (λ x. (x.0, Some x.1)) xs ++ (n, v) ∷ []
keep_last [] n v h = refl
keep_last (x ∷ xs) n v h =
    let e : bytes_eq n x.0 ≡ false = false_from_ne_true (bytes_eq n x.0) (λ t. h 0 (omega arith) (sym ((bytes_eq-Decides n x.0).0 t))) in
    let k = keep_last xs n v (λ j w. h (suc j) (omega arith)) in
    rw e (ap (λ t. (x.0, Some x.1) ∷ t) k)

abbrev pub only_files : List (List ℕ × Option (List ℕ)) → Stored
only_files xs = record { files = xs; props = [] }

abbrev pub kept_file : Stored → List ℕ → Option (List ℕ) → Stored
kept_file s n v = record s { files = keep bytes_eq s.files n v }

-- one more file
pub files_more : (p : Program) (xs : List (List ℕ × List ℕ)) (i : ℕ) (x : List ℕ × List ℕ) (s t : Stored) (n u : List ℕ) → IsDistinct p → xs ≡ p.files → i < length xs → x ≡ get_or xs i x → n ≡ x.0 → u ≡ x.1 →
    s ≡ only_files (map (λ x. (x.0, Some x.1)) (take i xs)) → t ≡ kept_file s n (Some u) → t ≡ only_files (map (λ x. (x.0, Some x.1)) (take (i + 1) xs))
files_more p xs i x s t n u d e w a b c f g =
    let q : x ≡ get_or xs i ([], []) = a ∙ get_or_default xs i x ([], []) w in
    let m : length (take i xs) ≡ i = length-take-le i xs (omega arith) in
    let differ : (j : ℕ) → j < length (take i xs) → (get_or (take i xs) j ([], [])).0 ≢ n =
    λ j h k. let l : j < i = omega arith in
    let v : (get_or xs j ([], [])).0 ≡ (get_or xs i ([], [])).0 = ap (λ y. y.0) (sym (get_or-take i xs j ([], []) l)) ∙ k ∙ b ∙ ap (λ y. y.0) q in
    let z = rw (← e) at (d.files j i) in
    let r = z (omega arith) w v in omega arith in
    let k = keep_last (take i xs) n (Some u) differ in
    let y : (n, Some u) ≡ (x.0, Some x.1) = ap (λ z. (z, Some u)) b ∙ ap (λ z. (x.0, Some z)) c in
    let l : map (λ x. (x.0, Some x.1)) (take (i + 1) xs) ≡ map (λ x. (x.0, Some x.1)) (take i xs) ++ (x.0, Some x.1) ∷ [] = ap (map (λ x. (x.0, Some x.1))) (take_more xs i x w ∙ ap (λ z. take i xs ++ z ∷ []) (sym a)) ∙ map-append (λ x. (x.0, Some x.1)) (take i xs) (x ∷ []) in
    g ∙ ap (λ z. kept_file z n (Some u)) f ∙ ap only_files (k ∙ ap (λ z. map (λ x. (x.0, Some x.1)) (take i xs) ++ z ∷ []) y ∙ sym l)
