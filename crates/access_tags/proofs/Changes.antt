-- The numbers of locations after a write and after an object was made.
use Rattle.std.proofs.Common.{◌≡◌, ℕ, zero, suc, ◌+◌, ◌<◌, true, List, [], ◌∷◌, ◌++◌, length, get_or, set, map, refl, sym, ◌∙◌, ap, arith, nat_eq, inl, inr, Some, length-append, append_assoc}
use Rattle.std.specs.List.{range_with_len}
use Rattle.std.proofs.lemmas.{Bool.cases_Bool, List.length-map, List.append-nil}
use Rattle.jvm_model.specs.declared.values.{Location.Location, Value.Value}
use Rattle.jvm_model.specs.declared.values.Location.TheVariants as place
use Rattle.jvm_model.specs.World.{Object, World, Content, put, put_at, keep, object_at, no_object, size, make_object}
use Rattle.jvm_model.specs.{Classes.member, View.keys, View.Exists}
use Rattle.jvm_model.proofs.Ranges.{length_put_at}
use Rattle.access_tags.specs.Worlds.{parts, all_parts, statics_of, states_of, cells_of, width, bases, bases_of, ChangesLaw}
use Rattle.access_tags.proofs.Spread.{length-parts, length-statics, length-states}

-- objects with the same fields and as many elements
record AsWide (x y : Object) : Type 0 where
  fields : keys x.fields ≡ keys y.fields
  elems : length x.elems ≡ length y.elems

same_parts : (o : ℕ) (x y : Object) → AsWide x y → parts o x ≡ parts o y
same_parts o x y s = ap (λ (ks : List ℕ). place.Head o ∷ (place.Text o ∷ (map (λ f. place.Field o f) ks ++ map (λ i. place.Elem o i) (range_with_len 0 (length x.elems))))) s.fields
    ∙ ap (λ (n : ℕ). place.Head o ∷ (place.Text o ∷ (map (λ f. place.Field o f) (keys y.fields) ++ map (λ i. place.Elem o i) (range_with_len 0 n)))) s.elems

same_width : (x y : Object) → AsWide x y → width x ≡ width y
same_width x y s = let a = ap (λ (ks : List ℕ). length ks) s.fields in let b = length-map x.fields (λ (z : ℕ × Value). z.0) in let c = length-map y.fields (λ (z : ℕ × Value). z.0) in let d = s.elems in omega arith

parts_set : (a : ℕ) (xs : List Object) (o : ℕ) (y : Object) → o < length xs → AsWide y (get_or xs o no_object) → all_parts a (set xs o y) ≡ all_parts a xs
parts_set a [] o y h s = absurd (omega arith)
parts_set a (x ∷ xs) zero y h s = ap (λ ls. ls ++ all_parts (suc a) xs) (same_parts a y x s)
parts_set a (x ∷ xs) (suc o) y h s = ap (λ ls. parts a x ++ ls) (parts_set (suc a) xs o y (omega arith) s)

bases_set : (b : ℕ) (xs : List Object) (o : ℕ) (y : Object) → o < length xs → AsWide y (get_or xs o no_object) → bases b (set xs o y) ≡ bases b xs
bases_set b [] o y h s = absurd (omega arith)
bases_set b (x ∷ xs) zero y h s = rw (same_width y x s) refl
bases_set b (x ∷ xs) (suc o) y h s = ap (λ ns. b ∷ ns) (bases_set (b + width x) xs o y (omega arith) s)

pub keys_kept : (xs : List (ℕ × Value)) (f : ℕ) (v : Value) → member f (keys xs) ≡ true → keys (keep nat_eq xs f v) ≡ keys xs
keys_kept [] f v h = absurd (cc)
keys_kept (x ∷ xs) f v h = elim (cases_Bool (nat_eq f x.0)) [
  | inl e ↦ rw e refl
  | inr e ↦ rw e (ap (λ (ks : List ℕ). x.0 ∷ ks) (keys_kept xs f v (rw e at h)))
]

-- the locations by how many statics and states there are, and the objects
abbrev by_counts : ℕ → ℕ → List Object → List Location
by_counts n m xs = map (λ f. place.Static f) (range_with_len 0 n) ++ (map (λ c. place.Init c) (range_with_len 0 m) ++ all_parts 0 xs)

pub put_cells : (w : World) (L : Location) (v : Content L) → Exists w L → cells_of (put w L v) ≡ cells_of w
put_cells w (place.Static f) v h = ap (λ (n : ℕ). by_counts n (length w.states) w.objects) (length_put_at _ w.statics f v h)
put_cells w (place.Init c) v h = ap (λ (n : ℕ). by_counts (length w.statics) n w.objects) (length_put_at _ w.states c v h)
put_cells w (place.Head o) v h = ap (λ ls. statics_of w ++ (states_of w ++ ls)) (parts_set 0 w.objects o (record (object_at w o) { head = v }) h (record { fields = refl; elems = refl }))
put_cells w (place.Field o f) v h = ap (λ ls. statics_of w ++ (states_of w ++ ls)) (parts_set 0 w.objects o (record (object_at w o) { fields = keep nat_eq (object_at w o).fields f v }) h.0 (record { fields = keys_kept (object_at w o).fields f v h.1; elems = refl }))
put_cells w (place.Elem o i) v h = ap (λ ls. statics_of w ++ (states_of w ++ ls)) (parts_set 0 w.objects o (record (object_at w o) { elems = put_at _ (object_at w o).elems i v }) h.0 (record { fields = refl; elems = length_put_at _ (object_at w o).elems i v h.1 }))
put_cells w (place.Text o) v h = ap (λ ls. statics_of w ++ (states_of w ++ ls)) (parts_set 0 w.objects o (record (object_at w o) { text = Some v }) h (record { fields = refl; elems = refl }))
put_cells w _ v h = refl

pub put_bases : (w : World) (L : Location) (v : Content L) → Exists w L → bases_of (put w L v) ≡ bases_of w
put_bases w (place.Static f) v h = ap (λ (n : ℕ). bases (n + length w.states) w.objects) (length_put_at _ w.statics f v h)
put_bases w (place.Init c) v h = ap (λ (n : ℕ). bases (length w.statics + n) w.objects) (length_put_at _ w.states c v h)
put_bases w (place.Head o) v h = bases_set (length w.statics + length w.states) w.objects o (record (object_at w o) { head = v }) h (record { fields = refl; elems = refl })
put_bases w (place.Field o f) v h = bases_set (length w.statics + length w.states) w.objects o (record (object_at w o) { fields = keep nat_eq (object_at w o).fields f v }) h.0 (record { fields = keys_kept (object_at w o).fields f v h.1; elems = refl })
put_bases w (place.Elem o i) v h = bases_set (length w.statics + length w.states) w.objects o (record (object_at w o) { elems = put_at _ (object_at w o).elems i v }) h.0 (record { fields = refl; elems = length_put_at _ (object_at w o).elems i v h.1 })
put_bases w (place.Text o) v h = bases_set (length w.statics + length w.states) w.objects o (record (object_at w o) { text = Some v }) h (record { fields = refl; elems = refl })
put_bases w _ v h = refl

-- one object more
all_parts_more : (a : ℕ) (xs : List Object) (x : Object) → all_parts a (xs ++ x ∷ []) ≡ all_parts a xs ++ parts (a + length xs) x
all_parts_more a [] x = let e : a + 0 ≡ a = omega arith in append-nil (parts a x) ∙ ap (λ (o : ℕ). parts o x) (sym e)
all_parts_more a (y ∷ xs) x = let e : suc a + length xs ≡ a + length (y ∷ xs) = omega arith in
    ap (λ ls. parts a y ++ ls) (all_parts_more (suc a) xs x ∙ ap (λ (o : ℕ). all_parts (suc a) xs ++ parts o x) e) ∙ sym (append_assoc (parts a y) (all_parts (suc a) xs) (parts (a + length (y ∷ xs)) x))

bases_more : (a b : ℕ) (xs : List Object) (x : Object) → bases b (xs ++ x ∷ []) ≡ bases b xs ++ (b + length (all_parts a xs)) ∷ []
bases_more a b [] x = let e : b ≡ b + 0 = omega arith in ap (λ (n : ℕ). n ∷ []) e
bases_more a b (y ∷ xs) x = let l = length-append (parts a y) (all_parts (suc a) xs) in let k = length-parts a y in
    let e : (b + width y) + length (all_parts (suc a) xs) ≡ b + length (all_parts a (y ∷ xs)) = omega arith in
    ap (λ ns. b ∷ ns) (bases_more (suc a) (b + width y) xs x ∙ ap (λ (n : ℕ). bases (b + width y) xs ++ n ∷ []) e)

pub made_cells : (w : World) (x : Object) → cells_of (make_object w x) ≡ cells_of w ++ parts (size w) x
made_cells w x = let e : 0 + size w ≡ size w = omega arith in
    ap (λ ls. statics_of w ++ (states_of w ++ ls)) (all_parts_more 0 w.objects x ∙ ap (λ (o : ℕ). all_parts 0 w.objects ++ parts o x) e)
    ∙ (ap (λ ls. statics_of w ++ ls) (sym (append_assoc (states_of w) (all_parts 0 w.objects) (parts (size w) x))) ∙ sym (append_assoc (statics_of w) (states_of w ++ all_parts 0 w.objects) (parts (size w) x)))

pub made_bases : (w : World) (x : Object) → bases_of (make_object w x) ≡ bases_of w ++ length (cells_of w) ∷ []
made_bases w x = let l = length-append (statics_of w) (states_of w ++ all_parts 0 w.objects) in let k = length-append (states_of w) (all_parts 0 w.objects) in
    let i = length-statics w in let j = length-states w in
    let e : (length w.statics + length w.states) + length (all_parts 0 w.objects) ≡ length (cells_of w) = omega arith in
    bases_more 0 (length w.statics + length w.states) w.objects x ∙ ap (λ (n : ℕ). bases_of w ++ n ∷ []) e

pub changes_law : ChangesLaw
changes_law = record { put_cells = put_cells; put_bases = put_bases; made_cells = made_cells; made_bases = made_bases }
