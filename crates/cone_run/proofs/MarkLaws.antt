-- The marks of one test more.
use Rattle.std.proofs.Common.{◌≡◌, ℕ, suc, ◌+◌, ◌<◌, ◌≤◌, List, [], ◌∷◌, ◌++◌, length, sum_by, nat_eq, Bool, true, false, Option, Some, refl, sym, ◌∙◌, subst, inl, inr, arith}
use Rattle.std.proofs.lemmas.{Bool.cases_eq, Bool.eqb-true, List.nil_from_length}
use Rattle.jvm_model.specs.{declared.outcome.Outcome.Outcome, declared.program.Program.Program, Suite.last_outcome}
use Rattle.order_law.specs.declared.edges.{Edge.Edge, EdgeKind.TheVariants.Raw}
use Rattle.order_law.specs.{Conflicts.Member, Conflicts.HasEdge, Pairing.no_more, Pairing.one_more, Plan.Ascending}
use Rattle.order_law.proofs.Members.{member_left, member_right, member_either}
use Rattle.dep_graph.specs.Graphs.{GoUp, AreWriters}
use Rattle.test_run.specs.declared.run_fault.RunFault.{RunFault}
use Rattle.test_run.specs.declared.run_fault.RunFault.TheVariants as fault
use Rattle.cone_run.specs.declared.marks.{Effect.TheVariants.Over, Mark.Mark}
use Rattle.cone_run.specs.{Cones.IsCone, Cones.GivesCone, Cones.IsConeFault, Cones.cone_units, Runs.IsListFault}
use Rattle.cone_run.specs.Marks.{AreMarks, AreUnits, HasWriter, InRecordOrder, IsBefore, IsEffect, IsMark, Marks, without}
use Rattle.cone_run.proofs.Units.{nothing_last}
use Rattle.cone_run.specs.Marking.{AreMarksIn, AreMarksTo, HasMarks, IsMarked, IsMarkIn, IsTestFault, IsTestMarked}

-- lists in the order of a record, one behind the other
in_order : (ms ns : List Mark) → InRecordOrder ms → InRecordOrder ns → ((m n : Mark) → Member m ms → Member n ns → IsBefore m n) → InRecordOrder (ms ++ ns)
in_order [] ns a b h = b
in_order (m ∷ ms) ns a b h = (
  λ n i. elim (member_either ms ns n i) [ inl j ↦ a.0 n j | inr j ↦ h m n (inl refl) j ],
  in_order ms ns a.1 b (λ x n i j. h x n (inr i) j),
)

module _ (p : Program) (cone : List ℕ) (o : Outcome) (t : ℕ) where
  -- each mark of a test is of one of its writers
  mark_of : (us : List ℕ) (ms : List Mark) → AreMarksIn p cone o t us ms → (m : Mark) → Member m ms → Member m.writer us × IsMarkIn p cone o t m.writer m
  mark_of [] [] no_more m i = absurd i
  mark_of [] (n ∷ ns) r m i = elim r [ ]
  mark_of (u ∷ us) [] r m i = elim r [ ]
  mark_of (u ∷ us) (n ∷ ns) (one_more r rs) m (inl e) =
      let k : IsMarkIn p cone o t u m = subst (λ (z : Mark). IsMarkIn p cone o t u z) (sym e) r in
      (inl k.writer, subst (λ (z : ℕ). IsMarkIn p cone o t z m) (sym k.writer) k)
  mark_of (u ∷ us) (n ∷ ns) (one_more r rs) m (inr i) = let k = mark_of us ns rs m i in (inr k.0, k.1)

  -- and each writer has one
  of_writer : (us : List ℕ) (ms : List Mark) → AreMarksIn p cone o t us ms → (u : ℕ) → Member u us → Marks ms u t
  of_writer [] [] no_more u i = absurd i
  of_writer [] (n ∷ ns) r u i = elim r [ ]
  of_writer (v ∷ us) [] r u i = elim r [ ]
  of_writer (v ∷ us) (n ∷ ns) (one_more r rs) u (inl e) = (n, inl refl, r.writer ∙ sym e, r.test)
  of_writer (v ∷ us) (n ∷ ns) (one_more r rs) u (inr i) = let k = of_writer us ns rs u i in (k.0, inr k.1, k.2, k.3)

  -- they ascend as the writers do
  ascend : (us : List ℕ) (ms : List Mark) → AreMarksIn p cone o t us ms → Ascending us → InRecordOrder ms
  ascend [] [] no_more a = tt
  ascend [] (n ∷ ns) r a = elim r [ ]
  ascend (u ∷ us) [] r a = elim r [ ]
  ascend (u ∷ us) (n ∷ ns) (one_more r rs) a = (
    λ m i. (let k = mark_of us ns rs m i in
        let lt : u < m.writer = a.0 m.writer k.0 in
        let e = r.writer in
        inr (r.test ∙ sym k.1.test, omega arith)),
    ascend us ns rs a.1,
  )

module _ (p : Program) (R : List Edge) (n : ℕ) (ms : List Mark) where
  -- no test, no mark
  pub marks_begun : GoUp (length p.tests) R → AreMarksTo p R 0 []
  marks_begun up = record {
    each = λ m i. absurd i;
    every = λ u t h e. (let a = (up Raw u t e).1 in absurd (omega arith));
    ordered = tt;
    gives = λ t h w. (let a = (up Raw w.0 t w.1).1 in absurd (omega arith));
  }

  module _ (a : AreMarksTo p R n ms) (ns : List Mark) where
    of_old : (u t : ℕ) → Marks ms u t → Marks (ms ++ ns) u t
    of_old u t k = (k.0, member_left ms ns k.0 k.1, k.2, k.3)

    of_new : (u t : ℕ) → Marks ns u t → Marks (ms ++ ns) u t
    of_new u t k = (k.0, member_right ms ns k.0 k.1, k.2, k.3)

    -- a test without writers
    more_none : (us : List ℕ) → AreWriters R (suc n) us → us ≡ [] → ns ≡ [] → AreMarksTo p R (suc n) (ms ++ ns)
    more_none us are none empty =
        let no : (u : ℕ) → HasEdge R Raw u (suc n) → ⊥ = λ u e. subst (λ (z : List ℕ). Member u z) none ((are.exact u).1 e) in
        record {
          each = λ m i. elim (member_either ms ns m i) [ inl j ↦ ((a.each m j).0, (let h = (a.each m j).1 in omega arith)) | inr j ↦ absurd (subst (λ (z : List Mark). Member m z) empty j) ];
          every = λ u t h e. elim (cases_eq t (suc n)) [
            | inl q ↦ absurd (no u (subst (λ (z : ℕ). HasEdge R Raw u z) q e))
            | inr ne ↦ of_old u t (a.every u t (omega arith) e)
          ];
          ordered = in_order ms ns a.ordered (subst (λ (z : List Mark). InRecordOrder z) (sym empty) tt) (λ m k i j. absurd (subst (λ (z : List Mark). Member k z) empty j));
          gives = λ t h w. elim (cases_eq t (suc n)) [
            | inl q ↦ absurd (no w.0 (subst (λ (z : ℕ). HasEdge R Raw w.0 z) q w.1))
            | inr ne ↦ a.gives t (omega arith) w
          ];
        }

    -- a test with writers
    more_some : (us : List ℕ) → AreWriters R (suc n) us → (list : List ℕ) → IsCone R (suc n) list → (o : Outcome) → last_outcome p list ≡ Some o → AreMarksIn p list o (suc n) us ns → AreMarksTo p R (suc n) (ms ++ ns)
    more_some us are list cone o gives marks =
        let new : (m : Mark) → Member m ns → IsMark p R m × (m.test ≤ suc n) = λ m i. (
        let k = mark_of p list o (suc n) us ns marks m i in
        let at = k.1.test in (
          record {
            edge = subst (λ (z : ℕ). HasEdge R Raw m.writer z) (sym at) ((are.exact m.writer).0 k.0);
            list = list;
            cone = subst (λ (z : ℕ). IsCone R z list) (sym at) cone;
            outcome = o;
            gives = gives;
            effect = k.1.effect;
          },
          omega arith,
        )) in
        record {
          each = λ m i. elim (member_either ms ns m i) [ inl j ↦ ((a.each m j).0, (let h = (a.each m j).1 in omega arith)) | inr j ↦ new m j ];
          every = λ u t h e. elim (cases_eq t (suc n)) [
            | inl q ↦ of_new u t (subst (λ (z : ℕ). Marks ns u z) (sym q) (of_writer p list o (suc n) us ns marks u ((are.exact u).1 (subst (λ (z : ℕ). HasEdge R Raw u z) q e))))
            | inr ne ↦ of_old u t (a.every u t (omega arith) e)
          ];
          ordered = in_order ms ns a.ordered (ascend p list o (suc n) us ns marks are.ascending) (λ m k i j. inl (let h = (a.each m i).1 in let e = (mark_of p list o (suc n) us ns marks k j).1.test in omega arith));
          gives = λ t h w. elim (cases_eq t (suc n)) [
            | inl q ↦ subst (λ (z : ℕ). GivesCone p R z) (sym q) (record { list = list; cone = cone; outcome = o; gives = gives })
            | inr ne ↦ a.gives t (omega arith) w
          ];
        }

    pub marks_more : (begun now : ℕ) → HasMarks p R (suc n) ns begun now → AreMarksTo p R (suc n) (ms ++ ns)
    marks_more begun now h = by h.writers refl h.marked
      where
        by : (us : List ℕ) → h.writers ≡ us → IsTestMarked p R (suc n) us ns begun now → AreMarksTo p R (suc n) (ms ++ ns)
        by [] e k = more_none h.writers h.are e k.0
        by (u ∷ us) e k = more_some (u ∷ us) (subst (λ (z : List ℕ). AreWriters R (suc n) z) e h.are) k.list k.cone k.outcome k.gives k.marks

  -- all tests
  pub marks_all : length p.tests ≤ n → GoUp (length p.tests) R → AreMarksTo p R n ms → AreMarks p R ms
  marks_all h up a = record {
    each = λ m i. (a.each m i).0;
    every = λ u t e. a.every u t (let k = (up Raw u t e).2 in omega arith) e;
    ordered = a.ordered;
  }

  -- the first test with writers whose cone gives nothing
  pub marks_fault : (e : RunFault) → AreMarksTo p R n ms → IsTestFault p R (suc n) e → IsConeFault p R (HasWriter R) e
  marks_fault (fault.OverBudget u) a f = record {
    test = suc n;
    within = f.writer;
    list = f.list;
    cone = f.cone;
    over = f.over;
    before = λ t w lt. a.gives t (omega arith) w;
  }
  marks_fault fault.NoMemory a f = tt

-- the units of one test more
pub units_more : (p : Program) (R : List Edge) (n : ℕ) (ns : List Mark) (units first begun now : ℕ) → AreUnits p R n units → begun ≡ first + units → HasMarks p R (suc n) ns begun now →
    (more : ℕ) × AreUnits p R (suc n) more × (now ≡ first + more)
units_more p R n ns units first begun now a e h = by h.writers refl h.marked
  where
    by : (us : List ℕ) → h.writers ≡ us → IsTestMarked p R (suc n) us ns begun now → (more : ℕ) × AreUnits p R (suc n) more × (now ≡ first + more)
    by [] q k = (units, (units, 0, a, record { writers = []; are = subst (λ (z : List ℕ). AreWriters R (suc n) z) q h.are; sum = refl }, omega arith), (let x = k.1 in omega arith))
    by (u ∷ us) q k =
        let own = cone_units p k.list + sum_by (λ v. cone_units p (without v k.list)) (u ∷ us) in
        (units + own, (units, own, a, record { writers = u ∷ us; are = subst (λ (z : List ℕ). AreWriters R (suc n) z) q h.are; sum = (k.list, k.cone, refl) }, refl), (let x = k.sum in omega arith))

-- a run that passes some budget
pub over_effect : (p : Program) (l : List ℕ) (x : Outcome) (begun now u : ℕ) (e : RunFault) → e ≡ fault.OverBudget u → IsListFault p l begun now e → IsEffect x (last_outcome p l) Over
over_effect p l x begun now u e q f =
    let h : IsListFault p l begun now (fault.OverBudget u) = subst (λ (z : RunFault). IsListFault p l begun now z) q f in
    subst (λ (z : Option Outcome). IsEffect x z Over) (sym (nothing_last p l u h.0)) tt

-- a test with a list of its writers that isn't empty
pub not_empty : (us : List ℕ) (b : Bool) → b ≡ nat_eq (length us) 0 → b ≡ false → 0 < length us
not_empty [] b e f = let z : true ≡ false = sym e ∙ f in absurd (cc)
not_empty (u ∷ us) b e f = omega arith

pub is_empty : (us : List ℕ) (b : Bool) → b ≡ nat_eq (length us) 0 → b ≡ true → us ≡ []
is_empty us b e f = nil_from_length us (eqb-true (length us) 0 (sym e ∙ f))

has_writer : (R : List Edge) (t : ℕ) (us : List ℕ) → AreWriters R t us → 0 < length us → HasWriter R t
has_writer R t [] a h = absurd (omega arith)
has_writer R t (u ∷ us) a h = (u, (a.exact u).0 (inl refl))

pub writers_low : (R : List Edge) (n t : ℕ) (us : List ℕ) → GoUp n R → AreWriters R t us → (u : ℕ) → Member u us → u < t
writers_low R n t us up a u m = (up Raw u t ((a.exact u).0 m)).1

-- the refusal of its cone
pub test_fault : (p : Program) (R : List Edge) (t : ℕ) (us l : List ℕ) (begun now : ℕ) (e : RunFault) → AreWriters R t us → 0 < length us → IsCone R t l → IsListFault p l begun now e → IsTestFault p R t e
test_fault p R t us l begun now (fault.OverBudget u) a h c f = record { writer = has_writer R t us a h; list = l; cone = c; over = f.0 }
test_fault p R t us l begun now fault.NoMemory a h c f = tt

-- its marks: none where it has no writers
pub no_marks : (p : Program) (R : List Edge) (t : ℕ) (us : List ℕ) (ms : List Mark) (units : ℕ) → AreWriters R t us → us ≡ [] → ms ≡ [] → HasMarks p R t ms units units
no_marks p R t us ms units a none empty = record { writers = []; are = subst (λ (z : List ℕ). AreWriters R t z) none a; marked = (empty, refl) }

pub has_marks : (p : Program) (R : List Edge) (t : ℕ) (us : List ℕ) (ms : List Mark) (begun now : ℕ) → AreWriters R t us → 0 < length us → IsMarked p R t us ms begun now → HasMarks p R t ms begun now
has_marks p R t [] ms begun now a h k = absurd (omega arith)
has_marks p R t (u ∷ us) ms begun now a h k = record { writers = u ∷ us; are = a; marked = k }

pub added : (begun now then a b : ℕ) → now ≡ begun + a → then ≡ now + b → then ≡ begun + (a + b)
added begun now then a b e f = omega arith
