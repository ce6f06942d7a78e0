-- Instructions by their index in the code, where the places ascend.
use Rattle.std.proofs.Common.{◌≡◌, ℕ, zero, suc, ◌+◌, ◌<◌, ◌≤◌, List, [], ◌∷◌, length, get_or, true, false, nat_eq, refl, sym, ◌∙◌, inl, inr, arith, Some}
use Rattle.std.proofs.lemmas.Bool.{cases_Bool, eqb-true, eq-eqb, false_from_ne_true}
use Rattle.jvm_model.specs.{declared.program.Placed.Placed, declared.program.Program.Program, declared.program.Body.Body, Linked.Ascends, Linked.place_listed}
use Rattle.jvm_model.specs.Classes.{place_after, found_in, found_of, method_at, form_at, next_place}

-- the place of the instruction after the one at an index, or the code's end
abbrev pub place_beyond : List Placed → ℕ → ℕ → ℕ
place_beyond [] end i = end
place_beyond (x ∷ xs) end zero = place_after xs end
place_beyond (x ∷ xs) end (suc i) = place_beyond xs end i

-- each place is at or past the first
pub places_from : (xs : List Placed) (n i : ℕ) (d : Placed) → Ascends n xs → i < length xs → n ≤ (get_or xs i d).pc
places_from [] n i d a h = absurd (omega arith)
places_from (x ∷ xs) n zero d a h = a.0
places_from (x ∷ xs) n (suc i) d a h = let q = places_from xs (x.pc + 1) i d a.1 (omega arith) in let r = a.0 in omega arith

-- the instruction at an index is the one that is found at its place
pub found_index : (xs : List Placed) (end n i : ℕ) (d : Placed) → Ascends n xs → i < length xs →
    found_in xs end (get_or xs i d).pc ≡ Some (record { form = (get_or xs i d).form; after = place_beyond xs end i })
found_index [] end n i d a h = absurd (omega arith)
found_index (x ∷ xs) end n zero d a h = rw (found_in, eq-eqb x.pc x.pc refl) refl
found_index (x ∷ xs) end n (suc i) d a h =
    let q = places_from xs (x.pc + 1) i d a.1 (omega arith) in
    let e : nat_eq x.pc (get_or xs i d).pc ≡ false = false_from_ne_true (nat_eq x.pc (get_or xs i d).pc) (λ t. let k = eqb-true x.pc (get_or xs i d).pc t in omega arith) in
    rw (found_in, e) (found_index xs end (x.pc + 1) i d a.1 (omega arith))

-- A place has an index.
pub record Index (xs : List Placed) (n : ℕ) (d : Placed) : Type 0 where
  pub index : ℕ
  pub within : index < length xs
  pub place : (get_or xs index d).pc ≡ n

pub index_of : (xs : List Placed) (n : ℕ) (d : Placed) → place_listed n xs ≡ true → Index xs n d
index_of [] n d h = absurd (cc)
index_of (x ∷ xs) n d h = elim (cases_Bool (nat_eq n x.pc)) [
  | inl e ↦ record { index = 0; within = omega arith; place = sym (eqb-true n x.pc e) }
  | inr e ↦ let i = index_of xs n d (rw e at h) in let w = i.within in record { index = suc i.index; within = omega arith; place = i.place }
]

-- the next place and the form at an index of a method's code
pub next_place_index : (p : Program) (m : ℕ) (b : Body) (i : ℕ) (d : Placed) → (method_at p m).body ≡ Some b → Ascends 0 b.code → i < length b.code →
    next_place p m (get_or b.code i d).pc ≡ place_beyond b.code b.length i
unfolding next_place
next_place_index p m b i d e a h = let f = found_index b.code b.length 0 i d a h in rw (next_place, found_of, e) (rw f refl)

pub form_at_index : (p : Program) (m : ℕ) (b : Body) (i : ℕ) (d : Placed) → (method_at p m).body ≡ Some b → Ascends 0 b.code → i < length b.code →
    form_at p m (get_or b.code i d).pc ≡ Some (get_or b.code i d).form
unfolding form_at
form_at_index p m b i d e a h = let f = found_index b.code b.length 0 i d a h in rw (form_at, found_of, e) (rw f refl)

pub place_beyond_next : (xs : List Placed) (end i : ℕ) (d : Placed) → i + 1 < length xs → place_beyond xs end i ≡ (get_or xs (i + 1) d).pc
place_beyond_next [] end i d h = absurd (omega arith)
place_beyond_next (x ∷ []) end i d h = absurd (omega arith)
place_beyond_next (x ∷ y ∷ ys) end zero d h = refl
place_beyond_next (x ∷ y ∷ ys) end (suc i) d h = place_beyond_next (y ∷ ys) end i d (omega arith) ∙ (let e : suc i + 1 ≡ suc (i + 1) = omega arith in rw e refl)

pub place_beyond_last : (xs : List Placed) (end i : ℕ) → length xs ≤ i + 1 → place_beyond xs end i ≡ end
place_beyond_last [] end i h = refl
place_beyond_last (x ∷ []) end zero h = refl
place_beyond_last (x ∷ y ∷ ys) end zero h = absurd (omega arith)
place_beyond_last (x ∷ xs) end (suc i) h = place_beyond_last xs end i (omega arith)
