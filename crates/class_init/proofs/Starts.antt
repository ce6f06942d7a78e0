-- What is left of an initialisation's row once no part is to be looked at, and prices above what is left.
use Rattle.std.proofs.Common.{◌≡◌, ◌<◌, ◌≤◌, ℕ, List, [], ◌∷◌, ◌+◌, ◌-◌, Bool, true, false, cond, nat_le, if◌then◌else◌, Option, Some, None, IsSome, map, refl, sym, subst, arith}
use Rattle.jvm_model.specs.declared.values.InitState.{InitState, TheVariants.Idle, TheVariants.Running, TheVariants.Done, TheVariants.Erroneous}
use Rattle.jvm_model.specs.{declared.values.Touch.Touch, declared.program.Body.Body, declared.program.Program.Program, World.World, World.at}
use Rattle.jvm_model.specs.declared.values.Location.TheVariants as place
use Rattle.jvm_model.specs.{Access.Access, Access.spend, Classes.class_at, Classes.method_at, Entries.Entries, Entries.is_full, Rows.Answer}
use Rattle.jvm_model.specs.Initialise.{Part, looks, looked_at, starts, starts_body}
use Rattle.jvm_model.specs.View.{Counted, over, counted, touched, IsSafe, IsRow}
use Rattle.vm_tables.specs.{declared.init_plan.Part.Part as Looked, Starts.part_of}
use Rattle.class_init.specs.Starting.{HasStart}

body_there : (b : Option Body) (m n : ℕ) (s : Entries) (w : World) → IsSafe IsRow (starts_body b m n s) w → IsSome b
body_there None m n s w h = absurd h
body_there (Some b) m n s w h = refl

pub start_there : (p : Program) (i : Option ℕ) (n : ℕ) (s : Entries) (w : World) → IsSafe IsRow (starts p i n s) w → HasStart p i
start_there p None n s w h = tt
start_there p (Some m) n s w h = body_there (method_at p m).body m n s w h

pub either_untouched : {A : Type 0} (b : Bool) (t u : Access A) (w : World) (ts : List Touch) → touched t w ts ≡ ts → touched u w ts ≡ ts → touched (cond b t u) w ts ≡ ts
either_untouched true t u w ts g h = g
either_untouched false t u w ts g h = h

body_touches : (b : Option Body) (m n : ℕ) (s : Entries) (w : World) (ts : List Touch) → touched (starts_body b m n s) w ts ≡ ts
body_touches None m n s w ts = refl
body_touches (Some b) m n s w ts = either_untouched (is_full s) _ _ w ts refl refl

pub start_touches : (p : Program) (i : Option ℕ) (n : ℕ) (s : Entries) (w : World) (ts : List Touch) → touched (starts p i n s) w ts ≡ ts
start_touches p None n s w ts = refl
start_touches p (Some m) n s w ts = body_touches (method_at p m).body m n s w ts

cut : {A : Type 0} (n left : ℕ) (x : Counted A) → left < n → (if nat_le n left then x else over) ≡ over
cut n left x h = grind arith

either_over : {A : Type 0} (b : Bool) (t u : Access A) (w : World) (left : ℕ) → counted t w left ≡ over → counted u w left ≡ over → counted (cond b t u) w left ≡ over
either_over true t u w left g h = g
either_over false t u w left g h = h

module _ (p : Program) (s : Entries) (w : World) (left : ℕ) where
  body_dear : (b : Option Body) (m n : ℕ) → IsSafe IsRow (starts_body b m n s) w → left < n → counted (starts_body b m n s) w left ≡ over
  body_dear None m n k h = absurd k
  body_dear (Some b) m n k h = either_over (is_full s) _ _ w left (cut n left _ h) (let g : left < n + (b.max_stack + b.max_locals) = omega arith in cut _ left _ g)

  start_dear : (i : Option ℕ) (n : ℕ) → IsSafe IsRow (starts p i n s) w → left < n → counted (starts p i n s) w left ≡ over
  start_dear None n k h = cut n left _ h
  start_dear (Some m) n k h = body_dear (method_at p m).body m n k h

  state_dear : (c n : ℕ) (rest : Access (Answer Entries)) (st : InitState) → IsSafe IsRow (looked_at c n s rest st) w → left < n → (IsSafe IsRow rest w → counted rest w left ≡ over) → counted (looked_at c n s rest st) w left ≡ over
  state_dear c n rest Idle k h e = either_over (is_full s) _ _ w left (cut n left _ h) (cut n left _ h)
  state_dear c n rest Running k h e = e k
  state_dear c n rest Done k h e = e k
  state_dear c n rest Erroneous k h e = cut n left _ h

  parts_dear : (xs : List Part) (n : ℕ) → IsSafe IsRow (looks p xs n s) w → left < n → counted (looks p xs n s) w left ≡ over
  parts_dear [] n k h = start_dear (class_at p s.top.number).initialiser n k h
  parts_dear (x ∷ xs) n k h =
      let g : left < n + x.price = omega arith in
      state_dear x.class (n + x.price) _ (at w (place.Init x.class)) k.1 g (λ j. parts_dear xs (n + x.price) j g)

either_way : {A : Type 0} (b : Bool) (x : Counted A) → x ≡ over → (if b then x else over) ≡ over
either_way true x e = e
either_way false x e = refl

-- the price of a part with those before it is above what is left
too_dear : (p : Program) (x : Part) (xs : List Part) (n : ℕ) (s : Entries) (w : World) (left : ℕ) → IsSafe IsRow (looks p (x ∷ xs) n s) w → left < n + x.price → counted (spend 1 (looks p (x ∷ xs) n s)) w left ≡ over
too_dear p x xs n s w left k h =
    let g : left - 1 < n + x.price = omega arith in
    either_way (nat_le 1 left) _ (state_dear p s w (left - 1) x.class (n + x.price) _ (at w (place.Init x.class)) k.1 g (λ j. parts_dear p s w (left - 1) xs (n + x.price) j g))

-- the same where that price is above what the prices before it have left over
pub too_dear_at : (p : Program) (ps : List Looked) (x : Looked) (xs : List Looked) (spare : ℕ) (s : Entries) (w : World) (left : ℕ) → ps ≡ x ∷ xs → spare ≤ left → spare < x.price → IsSafe IsRow (looks p (map part_of ps) (left - spare) s) w → counted (spend 1 (looks p (map part_of ps) (left - spare) s)) w left ≡ over
too_dear_at p ps x xs spare s w left e within dear k =
    let above : left < (left - spare) + x.price = omega arith in
    subst (λ ys. IsSafe IsRow (looks p (map part_of ys) (left - spare) s) w → counted (spend 1 (looks p (map part_of ys) (left - spare) s)) w left ≡ over) (sym e) (λ j. too_dear p (part_of x) (map part_of xs) (left - spare) s w left j above) k
