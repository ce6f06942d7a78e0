-- The parts of a class without quiet initialisers: those that were, the hushed ones left out.
use Rattle.std.proofs.Common.{◌≡◌, ℕ, List, [], ◌∷◌, ◌++◌, map, filter, Bool, true, false, not, cond, Option, refl, sym, ◌∙◌, ap}
use Rattle.std.proofs.lemmas.Bool.{not-false}
use Rattle.jvm_model.specs.{declared.program.Program.Program, Classes.class_at, Classes.is_interface, Classes.is_trivial, Classes.default_interfaces}
use Rattle.jvm_model.specs.Initialise.{Part, superclass_part, parts_of}
use Rattle.quiet_init.specs.Quiet.{quiet}
use Rattle.quiet_init.proofs.{Parts.flags_kept, Parts.above_kept, Parts.defaults_kept, Trivials.trivial_kept}

filter_twice : {A : Type 0} (f g : A → Bool) (xs : List A) → ((x : A) → g x ≡ false → f x ≡ false) → filter f (filter g xs) ≡ filter f xs
filter_twice f g [] h = refl
filter_twice {A = A} f g (x ∷ xs) h = by (g x) refl (filter_twice f g xs h)
  where
    front : (b : Bool) → filter f (filter g xs) ≡ filter f xs → cond b (x ∷ filter f (filter g xs)) (filter f (filter g xs)) ≡ cond b (x ∷ filter f xs) (filter f xs)
    front true e = ap (λ (ys : List A). x ∷ ys) e
    front false e = e

    by : (b : Bool) → g x ≡ b → filter f (filter g xs) ≡ filter f xs → filter f (cond b (x ∷ filter g xs) (filter g xs)) ≡ cond (f x) (x ∷ filter f xs) (filter f xs)
    by true q e = front (f x) e
    by false q e = e ∙ sym (ap (λ (b : Bool). cond b (x ∷ filter f xs) (filter f xs)) (h x q))

module _ (p : Program) where
  -- what is left out before is left out now
  apart : (c : ℕ) → not (is_trivial p c) ≡ false → not (is_trivial (quiet p) c) ≡ false
  apart c e = ap not (trivial_kept p c (not-false (is_trivial p c) e))

  abbrev started : Program → List Part → List Part
  started q xs = filter (λ x. not (is_trivial q x.class)) xs

  abbrev named : Program → ℕ → List Part
  named q c = superclass_part (class_at q c).superclass ++ map (λ i. record { class = i; price = 1 }) (default_interfaces q c)

  named_kept : (c : ℕ) → named (quiet p) c ≡ named p c
  named_kept c = ap (λ (o : Option ℕ). superclass_part o ++ map (λ i. record { class = i; price = 1 }) (default_interfaces (quiet p) c)) (above_kept p c)
      ∙ ap (λ (is : List ℕ). superclass_part (class_at p c).superclass ++ map (λ i. record { class = i; price = 1 }) is) (defaults_kept p c)

  pub parts_kept : (c : ℕ) → parts_of (quiet p) c ≡ filter (λ x. not (is_trivial (quiet p) x.class)) (parts_of p c)
  unfolding parts_of
  parts_kept c =
      ap (λ (b : Bool). cond b [] (started (quiet p) (named (quiet p) c))) (ap is_interface (flags_kept p c))
      ∙ (ap (λ (xs : List Part). cond (is_interface (class_at p c).flags) [] (started (quiet p) xs)) (named_kept c)
      ∙ by (is_interface (class_at p c).flags))
    where
      by : (b : Bool) → cond b [] (started (quiet p) (named p c)) ≡ started (quiet p) (cond b [] (started p (named p c)))
      by true = refl
      by false = sym (filter_twice (λ (x : Part). not (is_trivial (quiet p) x.class)) (λ (x : Part). not (is_trivial p x.class)) (named p c) (λ x. apart x.class))
