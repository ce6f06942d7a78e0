-- What a program of accesses does that is put together by bind.
use Rattle.std.proofs.Common.{◌≡◌, ℕ, List, ◌++◌, ◌+◌, ◌-◌, Bool, true, false, ◌&&◌, nat_le, if◌then◌else◌, refl, ap, sym, ◌∙◌, subst, arith, append_assoc}
use Rattle.std.proofs.Math.Bool.{and_assoc}
use Rattle.jvm_model.specs.declared.values.Touch.{Touch}
use Rattle.jvm_model.specs.World.{World, at, put, size, make_object, has}
use Rattle.jvm_model.specs.Access.{Access, done, read, write, make, spend, bind, made, run}
use Rattle.jvm_model.specs.View.{Counted, over, ended, counted, and_then, touched, IsSafe, Any}

-- the run of one program after another
pub run_bind : {A B : Type 0} (a : Access A) (f : A → Access B) (w : World) →
    run (bind a f) w ≡ (let r = run a w in let s = run (f r.value) r.world in record { sound = r.sound && s.sound; value = s.value; world = s.world; touches = r.touches ++ s.touches; units = r.units + s.units })
run_bind (done a) f w = let e : 0 + (run (f a) w).units ≡ (run (f a) w).units = omega arith in rw e
run_bind (read l k) f w = let r = run (k (at w l)) w in rw (run_bind (k (at w l)) f w, ← and_assoc (has w l) r.sound (run (f r.value) r.world).sound)
run_bind (write l c rest) f w = let r = run rest (put w l c) in rw (run_bind rest f (put w l c), ← and_assoc (has w l) r.sound (run (f r.value) r.world).sound)
run_bind (make x k) f w = let r = run (k (size w)) (make_object w x) in rw (run_bind (k (size w)) f (make_object w x), ← append_assoc (made (size w) x) r.touches (run (f r.value) r.world).touches)
run_bind (spend n rest) f w = let r = run rest w in let e : n + (r.units + (run (f r.value) r.world).units) ≡ (n + r.units) + (run (f r.value) r.world).units = omega arith in rw (run_bind rest f w, e)

over_either : {A B : Type 0} (b : Bool) (x : Counted A) (k : A → Access B) → and_then (if b then x else over) k ≡ (if b then and_then x k else over)
over_either true x k = refl
over_either false x k = refl

pub counted_bind : {A B : Type 0} (t : Access A) (k : A → Access B) (w : World) (left : ℕ) → counted (bind t k) w left ≡ and_then (counted t w left) k
counted_bind (done a) k w left = refl
counted_bind (read l next) k w left = counted_bind (next _) k w left
counted_bind (write l c rest) k w left = counted_bind rest k _ left
counted_bind (make x next) k w left = counted_bind (next _) k _ left
counted_bind (spend n rest) k w left =
    ap (λ x. if nat_le n left then x else over) (counted_bind rest k w (left - n)) ∙ sym (over_either (nat_le n left) (counted rest w (left - n)) k)

-- where the cost did not end it, the rest ended so
pub spent : {A : Type 0} {P : Type 0} (q : Bool) (x : Counted A) {a : A} {w : World} {left : ℕ} → (x ≡ ended a w left → P) → (if q then x else over) ≡ ended a w left → P
spent true x k h = k h
spent false x k h = absurd (cc)

-- where the first part ended, the touches of the second follow on its own
pub touched_bind : {A B : Type 0} (t : Access A) (k : A → Access B) (w : World) (left : ℕ) (a : A) (w' : World) (left' : ℕ) → counted t w left ≡ ended a w' left' → (ts : List Touch) → touched (bind t k) w ts ≡ touched (k a) w' (touched t w ts)
touched_bind (done a) k w left b w' left' e ts = cc
touched_bind (read l next) k w left b w' left' e ts = touched_bind (next _) k w left b w' left' e _
touched_bind (write l c rest) k w left b w' left' e ts = touched_bind rest k _ left b w' left' e _
touched_bind (make x next) k w left b w' left' e ts = touched_bind (next _) k _ left b w' left' e _
touched_bind (spend n rest) k w left b w' left' e ts =
    spent (nat_le n left) _ (λ h. touched_bind rest k w (left - n) b w' left' h ts) e

-- where the whole is safe, so is its first part, with what the second part asks of its answer
pub safe_first : {A B : Type 0} (G : A → Type 0) (H : B → Type 0) (t : Access A) (k : A → Access B) (w : World) → ((a : A) (v : World) → IsSafe H (k a) v → G a) → IsSafe H (bind t k) w → IsSafe G t w
safe_first G H (done a) k w g h = g a w h
safe_first G H (read l next) k w g h = (h.0, safe_first G H (next _) k w g h.1)
safe_first G H (write l c rest) k w g h = (h.0, safe_first G H rest k _ g h.1)
safe_first G H (make x next) k w g h = safe_first G H (next _) k _ g h
safe_first G H (spend n rest) k w g h = safe_first G H rest k w g h

pub safe_begins : {A B : Type 0} (H : B → Type 0) (t : Access A) (k : A → Access B) (w : World) → IsSafe H (bind t k) w → IsSafe Any t w
safe_begins H t k w h = safe_first Any H t k w (λ a v x. tt) h

same_end : {A B : Type 0} (H : B → Type 0) (k : A → Access B) (a b : A) (w w' : World) {left left' : ℕ} → ended a w left ≡ ended b w' left' → IsSafe H (k a) w → IsSafe H (k b) w'
same_end H k a b w w' e h =
    let p : a ≡ b = cc in
    let q : w ≡ w' = cc in
    subst (λ x. IsSafe H (k b) x) q (subst (λ x. IsSafe H (k x) w) p h)

-- and its second part, where the first has ended
pub safe_rest : {A B : Type 0} (H : B → Type 0) (t : Access A) (k : A → Access B) (w : World) (left : ℕ) (a : A) (w' : World) (left' : ℕ) → counted t w left ≡ ended a w' left' → IsSafe H (bind t k) w → IsSafe H (k a) w'
safe_rest H (done a) k w left b w' left' e h = same_end H k a b w w' e h
safe_rest H (read l next) k w left b w' left' e h = safe_rest H (next _) k w left b w' left' e h.1
safe_rest H (write l c rest) k w left b w' left' e h = safe_rest H rest k _ left b w' left' e h.1
safe_rest H (make x next) k w left b w' left' e h = safe_rest H (next _) k _ left b w' left' e h
safe_rest H (spend n rest) k w left b w' left' e h =
    spent (nat_le n left) _ (λ g. safe_rest H rest k w (left - n) b w' left' g h) e
