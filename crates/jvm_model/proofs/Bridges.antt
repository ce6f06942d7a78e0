-- The code's view of a program of accesses is its run.
use Rattle.std.proofs.Common.{◌≡◌, ℕ, List, [], ◌∷◌, ◌++◌, ◌+◌, ◌-◌, true, nat_le, if◌then◌else◌, refl, ap, sym, ◌∙◌, arith, append_assoc, append-nil, inl, inr}
use Rattle.std.proofs.lemmas.Bool.{cases_Bool, and_from}
use Rattle.jvm_model.specs.declared.values.{Touch.Touch, Location.Location}
use Rattle.jvm_model.specs.declared.values.Location.TheVariants as place
use Rattle.jvm_model.specs.World.{World, at, put, size, make_object, has}
use Rattle.jvm_model.specs.Access.{Access, done, read, write, make, spend, bind, made, read_of, write_of, Ran, run}
use Rattle.jvm_model.specs.View.{Counted, over, ended, counted, touched, Exists, IsSafe}

-- what a run comes to under a number of units
abbrev pub compared : {A : Type 0} → Ran A → ℕ → Counted A
compared r left = if nat_le r.units left then ended r.value r.world (left - r.units) else over

sums_within : {A : Type 0} (n u left : ℕ) (a : A) (w : World) →
    (if nat_le n left then (if nat_le u (left - n) then ended a w (left - n - u) else over) else over) ≡ (if nat_le (n + u) left then ended a w (left - (n + u)) else over)
sums_within n u left a w = grind arith

-- counting down is comparing the sum
pub counted_is : {A : Type 0} (t : Access A) (w : World) (left : ℕ) → counted t w left ≡ compared (run t w) left
counted_is (done a) w left = grind arith
counted_is (read l k) w left = counted_is (k (at w l)) w left
counted_is (write l c rest) w left = counted_is rest (put w l c) left
counted_is (make x k) w left = counted_is (k (size w)) (make_object w x) left
counted_is (spend n rest) w left = let r = run rest w in
    ap (λ x. if nat_le n left then x else over) (counted_is rest w (left - n)) ∙ sums_within n r.units left r.value r.world

-- threading the list is adding the run's touches at its end
pub touched_is : {A : Type 0} (t : Access A) (w : World) (ts : List Touch) → touched t w ts ≡ ts ++ (run t w).touches
touched_is (done a) w ts = sym (append-nil ts)
touched_is (read l k) w ts = touched_is (k (at w l)) w (ts ++ (read_of l (at w l) ∷ [])) ∙ append_assoc ts (read_of l (at w l) ∷ []) (run (k (at w l)) w).touches
touched_is (write l c rest) w ts = touched_is rest (put w l c) (ts ++ (write_of l ∷ [])) ∙ append_assoc ts (write_of l ∷ []) (run rest (put w l c)).touches
touched_is (make x k) w ts = touched_is (k (size w)) (make_object w x) (ts ++ made (size w) x) ∙ append_assoc ts (made (size w) x) (run (k (size w)) (make_object w x)).touches
touched_is (spend n rest) w ts = touched_is rest w ts

pub exists_has : (w : World) (l : Location) → Exists w l → has w l ≡ true
exists_has w (place.Static f) h = refl
exists_has w (place.Init c) h = refl
exists_has w (place.Head o) h = grind arith
exists_has w (place.Field o f) h = let q = h.0 in grind arith
exists_has w (place.Elem o i) h = let q = h.0 in grind arith
exists_has w (place.Text o) h = grind arith
exists_has w (place.File n) h = refl
exists_has w (place.Prop n) h = refl

-- a safe program meets only locations that stand
pub safe_sound : {A : Type 0} (G : A → Type 0) (t : Access A) (w : World) → IsSafe G t w → (run t w).sound ≡ true
safe_sound G (done a) w h = refl
safe_sound G (read l k) w h = and_from (has w l) _ (exists_has w l h.0) (safe_sound G (k (at w l)) w h.1)
safe_sound G (write l c rest) w h = and_from (has w l) _ (exists_has w l h.0) (safe_sound G rest (put w l c) h.1)
safe_sound G (make x k) w h = safe_sound G (k (size w)) (make_object w x) h
safe_sound G (spend n rest) w h = safe_sound G rest w h

swapped : {A : Type 0} (n m left : ℕ) (x : ℕ → Counted A) → nat_le m left ≡ true →
    (if nat_le n left then (if nat_le m (left - n) then x (left - n - m) else over) else over) ≡ (if nat_le n (left - m) then x (left - m - n) else over)
swapped n m left x h = let e : left - n - m ≡ left - m - n = omega arith in rw e (grind arith)

-- a cost may be counted after a part that has ended
pub spent_later : {A B : Type 0} (n : ℕ) (t : Access A) (f : A → Access B) (w : World) (left : ℕ) (a : A) (w' : World) (left' : ℕ) → counted t w left ≡ ended a w' left' → counted (spend n (bind t f)) w left ≡ counted (spend n (f a)) w' left'
spent_later n (done b) f w left a w' left' e = cc
spent_later n (read l k) f w left a w' left' e = spent_later n (k (at w l)) f w left a w' left' e
spent_later n (write l c rest) f w left a w' left' e = spent_later n rest f (put w l c) left a w' left' e
spent_later n (make x k) f w left a w' left' e = spent_later n (k (size w)) f (make_object w x) left a w' left' e
spent_later n (spend m rest) f w left a w' left' e = elim (cases_Bool (nat_le m left)) [
  | inl h ↦
      let g : counted rest w (left - m) ≡ ended a w' left' = sym (rw h refl) ∙ e in
      swapped n m left (λ u. counted (bind rest f) w u) h ∙ spent_later n rest f w (left - m) a w' left' g
  | inr h ↦ let g : over ≡ ended a w' left' = sym (rw h refl) ∙ e in absurd (cc)
]
