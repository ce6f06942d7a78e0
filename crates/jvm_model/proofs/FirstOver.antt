-- A list of tests gives nothing exactly where one of its tests doesn't.
use Rattle.std.proofs.Common.{◌≡◌, ℕ, List, [], ◌∷◌, Option, Some, None, refl, ◌∙◌}
use Rattle.std.specs.Prelude.{is_some, is_none}
use Rattle.jvm_model.specs.{declared.program.Program.Program, World.World, State.test_at}
use Rattle.jvm_model.specs.Suite.{one_test, with_first, runs, runs_on, opening, first_over, first_over_on}

with_first_none : {A : Type 0} (x : A) (o : Option (List A)) → is_none (with_first x o) ≡ is_none o
with_first_none x None = refl
with_first_none x (Some xs) = refl

first_on : (p : Program) (w : World) (l : List ℕ) → is_none (runs_on p w l) ≡ is_some (first_over_on p w l)
first_on p w [] = refl
first_on p w (t ∷ l) =
    elim (one_test p w t (test_at p t).budget) as (λ o. is_none (elim o [ None ↦ None | Some x ↦ with_first x (runs_on p x.world l) ]) ≡ is_some (elim o [ None ↦ Some t | Some x ↦ first_over_on p x.world l ])) [
      | None ↦ refl
      | Some x ↦ with_first_none x (runs_on p x.world l) ∙ first_on p x.world l
    ]

-- there is a first test that gives nothing exactly where the list gives nothing
pub first_over_none : (p : Program) (l : List ℕ) → is_none (runs p l) ≡ is_some (first_over p l)
unfolding runs first_over
first_over_none p l = first_on p (opening p) l
