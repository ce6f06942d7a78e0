-- The run of a whole suite in order, test by test: its story, its worlds and its outcomes.
use Rattle.std.proofs.Common.{◌≡◌, ℕ, zero, suc, ◌+◌, ◌-◌, ◌<◌, List, [], ◌∷◌, map, length, slice_get, true, Option, Some, refl, sym, ◌∙◌, ap, subst, arith}
use Rattle.std.specs.List.{range_with_len}
use Rattle.jvm_model.specs.declared.values.Touch.{Touch}
use Rattle.jvm_model.specs.declared.program.Program.{Program}
use Rattle.jvm_model.specs.{State.test_at, World.World, Access.Ran}
use Rattle.jvm_model.specs.Suite.{End, opening, Given, one_test, runs, runs_on, all_tests, world_after, seq, given_by_test, outcome_in}
use Rattle.jvm_model.proofs.Runs.{split}
use Rattle.order_law.specs.{Conflicts.down, Reach.units_in}
use Rattle.order_law.specs.Histories.{ran, after_history, touches_of}
use Rattle.order_law.proofs.FrameLaw.{ran_as}
use Rattle.vm_mem.specs.Trace.{Trace}
use Rattle.test_run.specs.Lists.{trace_after}
use Rattle.access_tags.specs.Ran.{trace_to, touched_by}

-- the world after the first i tests, and what the next one gives there
abbrev pub world_at : Program → ℕ → World
world_at p i = after_history p (down (suc i))

abbrev pub gives_at : Program → ℕ → Option Given
gives_at p i = one_test p (world_at p i) (suc i) (test_at p (suc i)).budget

-- what a test gives is of its run
pub record OfRun (r : Ran End) (x : Given) : Type 0 where
  pub sound : r.sound ≡ true
  pub world : r.world ≡ x.world
  pub touches : r.touches ≡ x.touches
  pub units : r.units ≡ x.outcome.units

pub of_run : (p : Program) (i : ℕ) (x : Given) → gives_at p i ≡ Some x → OfRun (ran p (suc i) (world_at p i)) x
of_run p i x e =
    let f = ran_as p (world_at p i) (suc i) (test_at p (suc i)).budget x e in
    record { sound = f.sound; world = ap (λ (z : Given). z.world) f.is; touches = ap (λ (z : Given). z.touches) f.is; units = ap (λ (z : Given). z.outcome.units) f.is }

-- n tests after the first i gave these
abbrev pub GaveFrom : Program → ℕ → ℕ → List Given → Type 0
GaveFrom p i zero xs = xs ≡ []
GaveFrom p i (suc n) xs = (x : Given) × (ys : List Given) × (xs ≡ x ∷ ys) × (gives_at p i ≡ Some x) × GaveFrom p (suc i) n ys

gave_from : (p : Program) (n i : ℕ) (w : World) (xs : List Given) → w ≡ world_at p i → runs_on p w (range_with_len (suc i) n) ≡ Some xs → GaveFrom p i n xs
gave_from p zero i w xs e r = cc
gave_from p (suc n) i w xs e r =
    let s = split p w (suc i) _ xs r in
    let g : gives_at p i ≡ Some s.first = ap (λ (z : World). one_test p z (suc i) (test_at p (suc i)).budget) (sym e) ∙ s.first_is in
    let k : suc i + 1 ≡ suc (suc i) = omega arith in
    (s.first, s.others, s.whole, g, gave_from p n (suc i) s.first.world s.others (sym (of_run p i s.first g).world) (ap (λ (z : ℕ). runs_on p s.first.world (range_with_len z n)) (sym k) ∙ s.others_are))

pub gave_all : (p : Program) (xs : List Given) → runs p (all_tests p) ≡ Some xs → GaveFrom p 0 (length p.tests) xs
unfolding runs
gave_all p xs e = gave_from p (length p.tests) 0 (opening p) xs refl e

-- how many they are
pub gave_length : (p : Program) (n i : ℕ) (xs : List Given) → GaveFrom p i n xs → length xs ≡ n
gave_length p zero i xs g = ap length g
gave_length p (suc n) i xs g = ap length g.2 ∙ ap suc (gave_length p n (suc i) g.1 g.4)

-- each of them
pub record GaveAt (p : Program) (xs : List Given) (j i : ℕ) : Type 0 where
  pub given : Given
  pub listed : slice_get xs j ≡ Some given
  pub gives : gives_at p i ≡ Some given

pub gave_at : (p : Program) (n i j : ℕ) (xs : List Given) → GaveFrom p i n xs → j < n → GaveAt p xs j (i + j)
gave_at p zero i j xs g h = absurd (omega arith)
gave_at p (suc n) i zero xs g h =
    let z : i ≡ i + 0 = omega arith in
    subst (λ (k : ℕ). GaveAt p xs 0 k) z (record { given = g.0; listed = ap (λ (ys : List Given). slice_get ys 0) g.2; gives = g.3 })
gave_at p (suc n) i (suc j) xs g h =
    let a = gave_at p n (suc i) j g.1 g.4 (omega arith) in
    let z : suc i + j ≡ i + suc j = omega arith in
    subst (λ (k : ℕ). GaveAt p xs (suc j) k) z (record { given = a.given; listed = ap (λ (ys : List Given). slice_get ys (suc j)) g.2 ∙ a.listed; gives = a.gives })

-- a memory that followed the tests so far follows them all
pub trace_all : (p : Program) (n i : ℕ) (xs : List Given) → GaveFrom p i n xs →
    trace_after (trace_to (touches_of p) i, touched_by (touches_of p) i) (range_with_len (suc i) n) xs ≡ (trace_to (touches_of p) (i + n), touched_by (touches_of p) (i + n))
trace_all p zero i xs g = let z : i ≡ i + 0 = omega arith in ap {B = Trace × List Touch} (λ (k : ℕ). (trace_to (touches_of p) k, touched_by (touches_of p) k)) z
trace_all p (suc n) i xs g =
    let T = touches_of p in
    let x = g.0 in
    let ys = g.1 in
    let k : suc i + 1 ≡ suc (suc i) = omega arith in
    let z : suc i + n ≡ i + suc n = omega arith in
    ap (λ (zs : List Given). trace_after (trace_to T i, touched_by T i) (suc i ∷ range_with_len (suc i + 1) n) zs) g.2
    ∙ ap (λ (ts : List Touch). trace_after (trace_to T (suc i), ts) (range_with_len (suc i + 1) n) ys) (sym (of_run p i x g.3).touches)
    ∙ ap (λ (a : ℕ). trace_after (trace_to T (suc i), touched_by T (suc i)) (range_with_len a n) ys) k
    ∙ trace_all p n (suc i) ys g.4
    ∙ ap {B = Trace × List Touch} (λ (a : ℕ). (trace_to T a, touched_by T a)) z

-- the world after them
pub world_last : (p : Program) (n i : ℕ) (w : World) (xs : List Given) → w ≡ world_at p i → GaveFrom p i n xs → world_after w xs ≡ world_at p (i + n)
world_last p zero i w xs e g = let z : i ≡ i + 0 = omega arith in ap (world_after w) g ∙ e ∙ ap (world_at p) z
world_last p (suc n) i w xs e g =
    let z : suc i + n ≡ i + suc n = omega arith in
    ap (world_after w) g.2 ∙ world_last p n (suc i) g.0.world g.1 (sym (of_run p i g.0 g.3).world) g.4 ∙ ap (world_at p) z

-- their units, by the suite's own order
abbrev units_at : List Given → ℕ → ℕ
units_at xs t = units_in (outcome_in (given_by_test (Some xs) t))

units_from : (zs : List Given) (n i : ℕ) (xs : List Given) → length xs ≡ n → ((j : ℕ) → j < n → slice_get zs (i + j) ≡ slice_get xs j) →
    map (λ (x : Given). x.outcome.units) xs ≡ map (units_at zs) (range_with_len (suc i) n)
units_from zs zero i [] e f = refl
units_from zs zero i (x ∷ xs) e f = absurd (omega arith)
units_from zs (suc n) i [] e f = absurd (omega arith)
units_from zs (suc n) i (x ∷ xs) e f =
    let a : suc i - 1 ≡ i + 0 = omega arith in
    let here : units_at zs (suc i) ≡ x.outcome.units = ap (λ (k : ℕ). units_in (outcome_in (slice_get zs k))) a ∙ ap (λ (o : Option Given). units_in (outcome_in o)) (f 0 (omega arith)) in
    let k : suc i + 1 ≡ suc (suc i) = omega arith in
    let rest = units_from zs n (suc i) xs (omega arith) (λ j h. let b : suc i + j ≡ i + suc j = omega arith in ap (slice_get zs) b ∙ f (suc j) (omega arith)) in
    ap (λ (u : ℕ). u ∷ map (λ (y : Given). y.outcome.units) xs) (sym here)
    ∙ ap (λ (us : List ℕ). units_at zs (suc i) ∷ us) (rest ∙ ap (λ (b : ℕ). map (units_at zs) (range_with_len b n)) (sym k))

pub units_listed : (p : Program) (xs : List Given) → runs p (all_tests p) ≡ Some xs → map (λ (x : Given). x.outcome.units) xs ≡ map (λ t. units_in (seq p t)) (all_tests p)
unfolding seq
units_listed p xs e =
    units_from xs (length p.tests) 0 xs (gave_length p (length p.tests) 0 xs (gave_all p xs e)) (λ j h. let z : 0 + j ≡ j = omega arith in ap (slice_get xs) z)
    ∙ ap (λ (o : Option (List Given)). map (λ t. units_in (outcome_in (given_by_test o t))) (all_tests p)) (sym e)
