-- One test, and lists of tests on one heap.
use Rattle.std.specs.Prelude.{ℕ, zero, suc, ◌+◌, ◌-◌, List, [], ◌∷◌, map, length, slice_get, Bool, true, false, cond, nat_le, min, Option, Some, None}
use Rattle.std.specs.List.{range_with_len}
use Rattle.jvm_model.specs.declared.{values.InitState.TheVariants.Idle, values.Touch.Touch, outcome.Outcome.Outcome, outcome.Verdict.Verdict}
use Rattle.jvm_model.specs.{declared.program.Program.Program, World.World, Step.step, Access.Access, Access.done, Access.bind, Access.run}
use Rattle.jvm_model.specs.State.{State, Turn, next, ended, stuck_turn, test_at, started}

-- the world before the first test: no objects, the statics' opening values, no class initialised, the suite's files
unfoldable pub opening : Program → World
opening p = record {
  objects = [];
  statics = map (λ f. f.opening) p.fields;
  states = map (λ c. Idle) p.classes;
  files = map (λ x. (x.0, Some x.1)) p.files;
  props = [];
}

-- How the steps of a test end.
pub data End : Type 0 where
  finished : Verdict → List ℕ → End
  stuck : End
  out_of_steps : End

abbrev pub after_step : (State → Access End) → Turn → Access End
after_step k (next s) = k s
after_step k (ended v output) = done (finished v output)
after_step k stuck_turn = done stuck

-- up to n steps from a state
abbrev pub whole : Program → ℕ → State → Access End
whole p zero s = done out_of_steps
whole p (suc n) s = bind (step p s) (after_step (λ t. whole p n t))

-- The steps of test t under the budget b. Each step costs at least 1, so b steps decide it.
unfoldable pub tree : Program → ℕ → ℕ → Access End
tree p t b = whole p (suc b) (started p t)

-- What one test gives: its outcome, the world afterwards and all its touches.
pub record Given : Type 0 where
  pub outcome : Outcome
  pub world : World
  pub touches : List Touch

-- a run gives an outcome where each access was of a location that stands, an end was reached, and the units are at most
-- the budget
abbrev pub given_at : ℕ → Bool → End → World → List Touch → ℕ → Option Given
given_at b true (finished v output) w ts units =
    cond (nat_le units b) (Some (record { outcome = record { verdict = v; output = output; units = units }; world = w; touches = ts })) None
given_at b true stuck w ts units = None
given_at b true out_of_steps w ts units = None
given_at b false e w ts units = None

-- test t in a world under a budget
unfoldable pub one_test : Program → World → ℕ → ℕ → Option Given
one_test p w t b = let r = run (tree p t b) w in given_at b r.sound r.value r.world r.touches r.units

abbrev pub with_first : {A : Type 0} → A → Option (List A) → Option (List A)
with_first x None = None
with_first x (Some xs) = Some (x ∷ xs)

-- the tests of a list one after the other, each with its own budget; none where one of them gives none
abbrev pub runs_on : Program → World → List ℕ → Option (List Given)
runs_on p w [] = Some []
runs_on p w (t ∷ l) = elim (one_test p w t (test_at p t).budget) [ None ↦ None | Some x ↦ with_first x (runs_on p x.world l) ]

-- the tests of a list on one heap, from the opening world
unfoldable pub runs : Program → List ℕ → Option (List Given)
runs p l = runs_on p (opening p) l

-- the first test of a list, begun in w, that gives nothing after those before it
abbrev pub first_over_on : Program → World → List ℕ → Option ℕ
first_over_on p w [] = None
first_over_on p w (t ∷ l) = elim (one_test p w t (test_at p t).budget) [ None ↦ Some t | Some x ↦ first_over_on p x.world l ]

-- the same of a list on one heap, from the opening world
unfoldable pub first_over : Program → List ℕ → Option ℕ
first_over p l = first_over_on p (opening p) l

-- the whole suite in order
abbrev pub all_tests : Program → List ℕ
all_tests p = range_with_len 1 (length p.tests)

-- the last of a list that there is
abbrev pub last_in : {A : Type 0} → Option (List A) → Option A
last_in None = None
last_in (Some []) = None
last_in (Some (x ∷ [])) = Some x
last_in (Some (x ∷ y ∷ ys)) = last_in (Some (y ∷ ys))

abbrev pub outcome_in : Option Given → Option Outcome
outcome_in None = None
outcome_in (Some x) = Some x.outcome

-- the outcome of a list's last test
unfoldable pub last_outcome : Program → List ℕ → Option Outcome
last_outcome p l = outcome_in (last_in (runs p l))

abbrev pub given_by_test : Option (List Given) → ℕ → Option Given
given_by_test None t = None
given_by_test (Some xs) t = slice_get xs (t - 1)

-- what test t gives when the whole suite is run in order
unfoldable pub seq : Program → ℕ → Option Outcome
seq p t = outcome_in (given_by_test (runs p (all_tests p)) t)

abbrev pub units_of : List Given → ℕ
units_of [] = 0
units_of (x ∷ xs) = x.outcome.units + units_of xs

-- the most units of a detection run
unfoldable pub suite_limit : ℕ
suite_limit = 67108864

abbrev pub within_limit : Option (List Given) → Bool
within_limit None = false
within_limit (Some xs) = nat_le (units_of xs) suite_limit

-- whether the suite in its own order ends within the limit
unfoldable pub is_detected : Program → Bool
is_detected p = within_limit (runs p (all_tests p))

-- Why a detection run is refused: a test passes its own budget, or the rest of the suite's limit.
pub data SuiteFault : Type 0 where
  over_budget : ℕ → ℕ → SuiteFault
  over_suite : ℕ → SuiteFault

-- Test t under the rest r of the limit: the budget is named where it is at most r.
abbrev pub fault_of : Program → ℕ → ℕ → SuiteFault
fault_of p t r = cond (nat_le (test_at p t).budget r) (over_budget t (test_at p t).budget) (over_suite t)

-- the first refusal of a list of tests with the rest r of the limit
abbrev pub fault_on : Program → World → ℕ → List ℕ → Option SuiteFault
fault_on p w r [] = None
fault_on p w r (t ∷ l) = elim (one_test p w t (min (test_at p t).budget r)) [
  | None ↦ Some (fault_of p t r)
  | Some x ↦ fault_on p x.world (r - x.outcome.units) l
]

-- the first refusal of a detection run
unfoldable pub suite_fault : Program → Option SuiteFault
suite_fault p = fault_on p (opening p) suite_limit (all_tests p)

-- the world after the tests of a list that began in w
abbrev pub world_after : World → List Given → World
world_after w [] = w
world_after w (x ∷ xs) = world_after x.world xs
