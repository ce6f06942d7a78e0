-- How many objects a run makes, by its touches; and that the objects that it touches stand.
use Rattle.std.proofs.Common.{◌≡◌, ℕ, suc, ◌<◌, ◌≤◌, List, [], ◌∷◌, ◌++◌, true, nat_lt, Option, Some, None, refl, sym, ◌∙◌, ap, inl, inr, arith}
use Rattle.std.proofs.lemmas.Bool.{and_parts, ltb-true}
use Rattle.jvm_model.specs.declared.values.{Value.Value, Location.Location, Touch.Touch}
use Rattle.jvm_model.specs.declared.values.Location.TheVariants as place
use Rattle.jvm_model.specs.World.{Object, World, size, at, put, make_object, has, place_of}
use Rattle.jvm_model.specs.Access.{Access, done, read, write, make, spend, run, made, fields_made, elems_made, text_made}
use Rattle.jvm_model.proofs.Locations.{size_put, size_make}
use Rattle.order_law.specs.Conflicts.{Member}
use Rattle.order_law.proofs.Frame.{grows}
use Rattle.access_tags.specs.Ran.{with_head, size_after}
use Rattle.access_tags.proofs.Following.{size_append, size_made}

-- a location that is there is of an object that stands
place_stands : (w : World) (L : Location) (o : ℕ) → has w L ≡ true → place_of L ≡ Some o → o < size w
place_stands w L o h e = ltb-true o (size w) (sym (ap (λ (z : Option ℕ). elim z [ None ↦ true | Some x ↦ nat_lt x (size w) ]) e) ∙ h)

-- a write there makes none
with_head_there : (w : World) (L : Location) → has w L ≡ true → with_head (size w) L ≡ size w
with_head_there w (place.Head o) h = let k = ltb-true o (size w) h in omega arith
with_head_there w (place.Static f) h = refl
with_head_there w (place.Init c) h = refl
with_head_there w (place.Field o f) h = refl
with_head_there w (place.Elem o i) h = refl
with_head_there w (place.Text o) h = refl
with_head_there w (place.File n) h = refl
with_head_there w (place.Prop n) h = refl

-- what making an object writes, and touches after it
made_size : (n : ℕ) (x : Object) (ts : List Touch) → size_after n (made n x ++ ts) ≡ size_after (suc n) ts
made_size n x ts = size_append n (made n x) ts ∙ ap (λ (k : ℕ). size_after k ts) (size_made n x)

pub run_size : {A : Type 0} (a : Access A) (w : World) → (run a w).sound ≡ true → size (run a w).world ≡ size_after (size w) (run a w).touches
run_size (done a) w h = refl
run_size (read l k) w h = run_size (k (at w l)) w (and_parts (has w l) _ h).1
run_size (write l c rest) w h =
    let q = and_parts (has w l) _ h in
    run_size rest (put w l c) q.1 ∙ ap (λ (n : ℕ). size_after n (run rest (put w l c)).touches) (size_put w l c ∙ sym (with_head_there w l q.0))
run_size (make x k) w h =
    let ts = (run (k (size w)) (make_object w x)).touches in
    run_size (k (size w)) (make_object w x) h ∙ ap (λ (n : ℕ). size_after n ts) (size_make w x) ∙ sym (made_size (size w) x ts)
run_size (spend n rest) w h = run_size rest w h

-- each touched object is one of the first n
abbrev pub AllStand : ℕ → List Touch → Type 0
AllStand n [] = Unit {0}
AllStand n (x ∷ ts) = ((o : ℕ) → place_of x.location ≡ Some o → o < n) × AllStand n ts

pub stands_at : (n : ℕ) (ts : List Touch) (y : Touch) (o : ℕ) → AllStand n ts → Member y ts → place_of y.location ≡ Some o → o < n
stands_at n [] y o a i e = absurd i
stands_at n (x ∷ ts) y o a (inl h) e = a.0 o (ap (λ (z : Touch). place_of z.location) (sym h) ∙ e)
stands_at n (x ∷ ts) y o a (inr i) e = stands_at n ts y o a.1 i e

stand_append : (n : ℕ) (ts us : List Touch) → AllStand n ts → AllStand n us → AllStand n (ts ++ us)
stand_append n [] us a b = b
stand_append n (x ∷ ts) us a b = (a.0, stand_append n ts us a.1 b)

own_place : {a b n : ℕ} → a < n → Some a ≡ Some b → b < n
own_place {a} {b} {n} h e = let g : a ≡ b = cc in omega arith

fields_stand : (n o : ℕ) (xs : List (ℕ × Value)) → o < n → AllStand n (fields_made o xs)
fields_stand n o [] h = tt
fields_stand n o (x ∷ xs) h = (λ a e. own_place h e, fields_stand n o xs h)

elems_stand : (n o i : ℕ) (xs : List Value) → o < n → AllStand n (elems_made o i xs)
elems_stand n o i [] h = tt
elems_stand n o i (x ∷ xs) h = (λ a e. own_place h e, elems_stand n o (suc i) xs h)

text_stands : (n o : ℕ) (x : Option (List ℕ)) → o < n → AllStand n (text_made o x)
text_stands n o None h = tt
text_stands n o (Some x) h = (λ a e. own_place h e, tt)

made_stand : (n o : ℕ) (x : Object) → o < n → AllStand n (made o x)
made_stand n o x h = (λ a e. own_place h e, stand_append n (fields_made o x.fields) _ (fields_stand n o x.fields h) (stand_append n (elems_made o 0 x.elems) _ (elems_stand n o 0 x.elems h) (text_stands n o x.text h)))

pub run_stands : {A : Type 0} (a : Access A) (w : World) (n : ℕ) → (run a w).sound ≡ true → size (run a w).world ≤ n → AllStand n (run a w).touches
run_stands (done a) w n h low = tt
run_stands (read l k) w n h low =
    let q = and_parts (has w l) _ h in
    let g = grows (k (at w l)) w in
    (λ o e. let s = place_stands w l o q.0 e in omega arith, run_stands (k (at w l)) w n q.1 low)
run_stands (write l c rest) w n h low =
    let q = and_parts (has w l) _ h in
    let g = grows rest (put w l c) in
    let z = size_put w l c in
    (λ o e. let s = place_stands w l o q.0 e in omega arith, run_stands rest (put w l c) n q.1 low)
run_stands (make x k) w n h low =
    let g = grows (k (size w)) (make_object w x) in
    let z = size_make w x in
    stand_append n (made (size w) x) _ (made_stand n (size w) x (omega arith)) (run_stands (k (size w)) (make_object w x) n h low)
run_stands (spend m rest) w n h low = run_stands rest w n h low
