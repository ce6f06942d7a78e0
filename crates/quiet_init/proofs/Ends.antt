-- Code with its last instruction apart.
use Rattle.std.proofs.Common.{◌≡◌, List, [], ◌∷◌, ◌++◌, ℕ, Bool, true, false, ◌&&◌, ◌||◌, refl, sym, ◌∙◌, ap}
use Rattle.std.specs.List.{list_all}
use Rattle.std.proofs.lemmas.Bool.{and_parts}
use Rattle.jvm_model.specs.{declared.program.Placed.Placed, declared.program.Program.Program, World.World, Access.run, Entries.Entries, Step.row}
use Rattle.quiet_init.specs.Leaving.{before_end}
use Rattle.quiet_init.specs.Quiet.{is_calm, is_own, is_end, is_still, goes_with, left_after}
use Rattle.quiet_init.proofs.Still.{end_world}

and_same : (a b c : Bool) → (a && (b && c)) ≡ (b && (a && c))
and_same true b c = refl
and_same false true c = refl
and_same false false c = refl

-- still code by its instructions before the last one, and that
pub still_parts : (p : Program) (c : ℕ) (xs : List Placed) (x : Placed) → is_still p c (xs ++ x ∷ []) ≡ is_end x.form && list_all (λ y. is_calm y.form || is_own p c y.form) xs
still_parts p c [] x = by (is_end x.form)
  where
    by : (b : Bool) → b ≡ (b && true)
    by true = refl
    by false = refl
still_parts p c (y ∷ []) x = ap (λ (b : Bool). (is_calm y.form || is_own p c y.form) && b) (still_parts p c [] x) ∙ and_same (is_calm y.form || is_own p c y.form) (is_end x.form) true
still_parts p c (y ∷ z ∷ zs) x =
    let g = is_calm y.form || is_own p c y.form in
    ap (λ (b : Bool). g && b) (still_parts p c (z ∷ zs) x) ∙ and_same g (is_end x.form) (list_all (λ y. is_calm y.form || is_own p c y.form) (z ∷ zs))

pub still_by : (p : Program) (c : ℕ) (code before : List Placed) (x : Placed) (a b : Bool) → code ≡ before ++ x ∷ [] → a ≡ is_end x.form → b ≡ list_all (λ y. is_calm y.form || is_own p c y.form) before → a ≡ true → b ≡ is_still p c code
still_by p c code before x a b e ea eb t = eb ∙ sym (ap (λ (ys : List Placed). is_still p c ys) e ∙ (still_parts p c before x
    ∙ ap (λ (z : Bool). z && list_all (λ y. is_calm y.form || is_own p c y.form) before) (sym ea ∙ t)))

pub still_not : (p : Program) (c : ℕ) (code before : List Placed) (x : Placed) (a : Bool) → code ≡ before ++ x ∷ [] → a ≡ is_end x.form → a ≡ false → a ≡ is_still p c code
still_not p c code before x a e ea f = f ∙ sym (ap (λ (ys : List Placed). is_still p c ys) e ∙ (still_parts p c before x
    ∙ ap (λ (z : Bool). z && list_all (λ y. is_calm y.form || is_own p c y.form) before) (sym ea ∙ f)))

pub before_is : (xs : List Placed) (x : Placed) → before_end (xs ++ x ∷ []) ≡ xs
before_is [] x = refl
before_is (y ∷ []) x = refl
before_is (y ∷ z ∷ zs) x = ap (λ (ys : List Placed). y ∷ ys) (before_is (z ∷ zs) x)

-- the return at the end leaves the world as it was
pub left_before : (p : Program) (c : ℕ) (xs : List Placed) (s : Entries) (w : World) → is_still p c xs ≡ true → left_after p (before_end xs) s w ≡ left_after p xs s w
left_before p c [] s w h = refl
left_before p c (x ∷ []) s w h = sym (end_world p x.form s w h)
left_before p c (x ∷ y ∷ ys) s w h = let r = run (row p x.form s) w in left_before p c (y ∷ ys) (goes_with s r.value) r.world (and_parts (is_calm x.form || is_own p c x.form) (is_still p c (y ∷ ys)) h).1
