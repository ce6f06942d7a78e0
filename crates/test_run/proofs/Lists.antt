-- The run of a list, test by test.
use Rattle.std.proofs.Common.{◌≡◌, ℕ, ◌+◌, List, [], ◌∷◌, ◌++◌, length, Option, Some, None, refl, sym, subst, ap, ◌∙◌, append_assoc, arith}
use Rattle.std.proofs.lemmas.List.{map-append, length-append}
use Rattle.jvm_model.specs.{declared.outcome.Outcome.Outcome, declared.program.Program.Program, declared.values.Touch.Touch, State.test_at, World.World}
use Rattle.jvm_model.specs.Suite.{Given, first_over_on, one_test, runs_on, units_of, with_first, world_after}
use Rattle.jvm_model.proofs.Runs.{runs_after, runs_more, with_last, split}
use Rattle.vm_mem.specs.Trace.{Trace, next_test}
use Rattle.test_run.specs.declared.run_fault.RunFault.{RunFault}
use Rattle.test_run.specs.declared.run_fault.RunFault.TheVariants as fault
use Rattle.test_run.specs.Lists.{AreLeft, IsListRefused, RanBefore, RanList, RanNext, trace_after}
use Rattle.test_run.specs.{Running.IsRefused, Running.Machined, Outcomes.given_in, Outcomes.touches_of, Outcomes.TracesOne}
use Rattle.test_run.proofs.After.{world_both, world_more}

units_both : (xs ys : List Given) → units_of (xs ++ ys) ≡ units_of xs + units_of ys
units_both [] ys = omega arith
units_both (x ∷ xs) ys = let e = units_both xs ys in omega arith

units_more : (xs : List Given) (x : Given) → units_of (xs ++ (x ∷ [])) ≡ units_of xs + x.outcome.units
units_more xs x = let e = units_both xs (x ∷ []) in omega arith

-- two lists, one after the other
runs_both : (p : Program) (w : World) (l k : List ℕ) (xs ys : List Given) → runs_on p w l ≡ Some xs → runs_on p (world_after w xs) k ≡ Some ys → runs_on p w (l ++ k) ≡ Some (xs ++ ys)
runs_both p w [] k xs ys e f =
    let q : xs ≡ [] = cc in
    subst (λ (z : List Given). runs_on p (world_after w z) k ≡ Some ys) q f ∙ ap (λ (z : List Given). Some (z ++ ys)) (sym q)
runs_both p w (t ∷ l) k xs ys e f =
    let s = split p w t l xs e in
    ap (λ (z : Option Given). runs_after p (l ++ k) z) s.first_is
    ∙ ap (λ (z : Option (List Given)). with_first s.first z) (runs_both p s.first.world l k s.others ys s.others_are (subst (λ (z : List Given). runs_on p (world_after w z) k ≡ Some ys) s.whole f))
    ∙ ap (λ (z : List Given). Some (z ++ ys)) (sym s.whole)

trace_more : (s : Trace × List Touch) (l : List ℕ) (xs : List Given) (t : ℕ) (x : Given) → length xs ≡ length l →
    trace_after s (l ++ (t ∷ [])) (xs ++ (x ∷ [])) ≡ (next_test (trace_after s l xs).0 (trace_after s l xs).1 t, x.touches)
trace_more s [] [] t x e = refl
trace_more s [] (y ∷ ys) t x e = absurd (omega arith)
trace_more s (u ∷ l) [] t x e = absurd (omega arith)
trace_more s (u ∷ l) (y ∷ ys) t x e = trace_more (next_test s.0 s.1 u, y.touches) l ys t x (omega arith)

-- the first test of a list that gives nothing
pub over_at : (p : Program) (w : World) (l : List ℕ) (t : ℕ) (r : List ℕ) (xs : List Given) → runs_on p w l ≡ Some xs → one_test p (world_after w xs) t (test_at p t).budget ≡ None → first_over_on p w (l ++ (t ∷ r)) ≡ Some t
over_at p w [] t r xs e h =
    let q : xs ≡ [] = cc in
    let k : one_test p w t (test_at p t).budget ≡ None = subst (λ (z : List Given). one_test p (world_after w z) t (test_at p t).budget ≡ None) q h in
    ap (λ (o : Option Given). elim o [ None ↦ Some t | Some x ↦ first_over_on p x.world r ]) k
over_at p w (u ∷ l) t r xs e h =
    let s = split p w u l xs e in
    ap (λ (o : Option Given). elim o [ None ↦ Some u | Some x ↦ first_over_on p x.world (l ++ (t ∷ r)) ]) s.first_is
    ∙ over_at p s.first.world l t r s.others s.others_are (subst (λ (z : List Given). one_test p (world_after w z) t (test_at p t).budget ≡ None) s.whole h)

-- more tests behind those that are left
left_before : (p : Program) (w : World) (f : RunFault) (l r : List ℕ) → AreLeft p w f l → AreLeft p w f (l ++ r)
left_before p w (fault.OverBudget u) [] r h = absurd h
left_before p w (fault.OverBudget u) (t ∷ l) r h = h
left_before p w fault.NoMemory l r h = tt

-- a list of one test, refused before the test ended
pub none_before : (p : Program) (w : World) (t begun now : ℕ) (f : RunFault) → now ≡ begun → IsRefused p w t (test_at p t).budget f → RanBefore p w (t ∷ []) begun now f
none_before p w t begun now f e h = record {
  before = [];
  after = t ∷ [];
  given = [];
  list = refl;
  ran = refl;
  counted = omega arith;
  left = left_alone f h;
}
  where
    left_alone : (f : RunFault) → IsRefused p w t (test_at p t).budget f → AreLeft p w f (t ∷ [])
    left_alone (fault.OverBudget u) h = h
    left_alone fault.NoMemory h = tt

-- and after it ended, where memory was refused
pub one_before : (p : Program) (w : World) (t begun now : ℕ) (x : Given) → one_test p w t (test_at p t).budget ≡ Some x → now ≡ begun + x.outcome.units → RanBefore p w (t ∷ []) begun now fault.NoMemory
one_before p w t begun now x e h = record {
  before = t ∷ [];
  after = [];
  given = x ∷ [];
  list = refl;
  ran = ap (λ (z : Option Given). runs_after p [] z) e;
  counted = omega arith;
  left = tt;
}

-- one test within its own budget
pub ran_next : {M : Type 0} (world : M → World) (follows : M → Trace → List Touch → Type 0) (p : Program) (old new : M) (t b : ℕ) (x : Outcome) (os more : List Outcome) (begun now : ℕ) →
    b ≡ (test_at p t).budget → one_test p (world old) t b ≡ given_in p t (world old) b (Some x) (world new) → more ≡ os ++ (x ∷ []) → TracesOne p t (world old) b follows old new → now ≡ begun + x.units →
    RanNext world follows p old new t os more begun now
ran_next world follows p old new t b x os more begun now e f g h k = record {
  given = record { outcome = x; world = world new; touches = touches_of p t (world old) b };
  gives = ap (λ (z : ℕ). one_test p (world old) t z) (sym e) ∙ f;
  outcomes = g;
  left = refl;
  told = h;
  counted = k;
}

module _ {M : Type 0} (world : M → World) (follows : M → Trace → List Touch → Type 0) (p : Program) where
  pub ran_first : (m : M) (begun : ℕ) → RanList world follows p m m [] [] begun begun
  ran_first m begun = record { given = []; ran = refl; each = refl; outcomes = refl; left = refl; told = λ h ts k. k; counted = omega arith }

  module _ (old m new : M) (l : List ℕ) (t : ℕ) (os more : List Outcome) (begun now then : ℕ) (a : RanList world follows p old m l os begun now) where
    here : (o : Option Given) → one_test p (world m) t (test_at p t).budget ≡ o → one_test p (world_after (world old) a.given) t (test_at p t).budget ≡ o
    here o e = ap (λ (z : World). one_test p z t (test_at p t).budget) (sym a.left) ∙ e

    ran_over : (r : List ℕ) → one_test p (world m) t (test_at p t).budget ≡ None → first_over_on p (world old) (l ++ (t ∷ r)) ≡ Some t
    ran_over r e = over_at p (world old) l t r a.given a.ran (here None e)

    -- a refusal of the test after them refuses the list
    pub refused_at : (r whole : List ℕ) (f : RunFault) → whole ≡ l ++ (t ∷ r) → IsRefused p (world m) t (test_at p t).budget f → IsListRefused p (world old) whole f
    refused_at r whole (fault.OverBudget u) e h = ap (λ (z : List ℕ). first_over_on p (world old) z) e ∙ ran_over r h.1 ∙ ap (λ (z : ℕ). Some z) (sym h.0)
    refused_at r whole fault.NoMemory e h = tt

    -- and so many units were counted before it
    pub before_at : (r whole : List ℕ) (f : RunFault) → whole ≡ l ++ (t ∷ r) → RanBefore p (world m) (t ∷ []) now then f → RanBefore p (world old) whole begun then f
    before_at r whole f e b =
        let from = ap (λ (z : World). world_after z b.given) a.left ∙ sym (world_both (world old) a.given b.given) in
        record {
          before = l ++ b.before;
          after = b.after ++ r;
          given = a.given ++ b.given;
          list = e ∙ ap (λ (z : List ℕ). l ++ z) (ap (λ (z : List ℕ). z ++ r) b.list ∙ append_assoc b.before b.after r) ∙ sym (append_assoc l b.before (b.after ++ r));
          ran = runs_both p (world old) l b.before a.given b.given a.ran (subst (λ (z : World). runs_on p z b.before ≡ Some b.given) a.left b.ran);
          counted = (let e = units_both a.given b.given in let f = a.counted in let g = b.counted in omega arith);
          left = left_before p (world_after (world old) (a.given ++ b.given)) f b.after r (subst (λ (z : World). AreLeft p z f b.after) from b.left);
        }

    module _ (b : RanNext world follows p m new t os more now then) where
      pub ran_more : RanList world follows p old new (l ++ (t ∷ [])) more begun then
      ran_more = record {
        given = a.given ++ (b.given ∷ []);
        ran = runs_more p (world old) l t a.given a.ran ∙ ap (λ (z : Option Given). with_last a.given z) (here (Some b.given) b.gives);
        each = length-append a.given (b.given ∷ []) ∙ (let e = a.each in let f : length a.given + 1 ≡ length l + 1 = omega arith in f) ∙ sym (length-append l (t ∷ []));
        outcomes = b.outcomes ∙ ap (λ (z : List Outcome). z ++ (b.given.outcome ∷ [])) a.outcomes ∙ sym (map-append (λ x. x.outcome) a.given (b.given ∷ []));
        left = b.left ∙ sym (world_more (world old) a.given b.given);
        told = λ h ts k. subst (λ (z : Trace × List Touch). follows new z.0 z.1) (sym (trace_more (h, ts) l a.given t b.given a.each)) (b.told (trace_after (h, ts) l a.given).0 (trace_after (h, ts) l a.given).1 (a.told h ts k));
        counted = (let e = units_more a.given b.given in let f = a.counted in let g = b.counted in omega arith);
      }

-- a machine that ran tests is of the same program
pub same_program : {M : Type 0} (old now : Machined M) (l : List ℕ) → now ≡ record old { list = old.list ++ l; memory = now.memory } → now.program ≡ old.program
same_program {M} old now l e = ap (λ (z : Machined M). z.program) e

-- a machine that ran one test more
pub longer : {M : Type 0} (old now new : Machined M) (l k : List ℕ) (t : ℕ) → now ≡ record old { list = old.list ++ l; memory = now.memory } → new ≡ record now { list = now.list ++ (t ∷ []); memory = new.memory } → k ≡ l ++ (t ∷ []) →
    new ≡ record old { list = old.list ++ k; memory = new.memory }
longer {M} old now new l k t e f g =
    f ∙ ap (λ (z : Machined M). record z { list = z.list ++ (t ∷ []); memory = new.memory }) e
    ∙ ap (λ (z : List ℕ). record old { list = z; memory = new.memory }) (append_assoc old.list l (t ∷ []) ∙ ap (λ (z : List ℕ). old.list ++ z) (sym g))
