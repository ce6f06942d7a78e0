-- A cone is lawful.
use Rattle.std.proofs.Common.{◌≡◌, ℕ, ◌<◌, ◌≤◌, List, [], ◌∷◌, ◌++◌, length, Option, Some, sym, ◌∙◌, ap, subst, arith}
use Rattle.jvm_model.specs.declared.{program.Program.Program, values.Location.Location}
use Rattle.jvm_model.specs.Suite.{Given, last_outcome, last_in, outcome_in, seq}
use Rattle.order_law.specs.declared.edges.{Edge.Edge, EdgeKind.EdgeKind, EdgeKind.TheVariants.Raw, EdgeKind.TheVariants.Waw, EdgeKind.TheVariants.War}
use Rattle.order_law.specs.Conflicts.{Tests, Conflict, Member, InOrder, source}
use Rattle.order_law.specs.Histories.{AreSequential, IsTestNumber, writes_of, exposed_of, touches_of}
use Rattle.order_law.specs.{OwnRecord.edges_of, OwnRecord.owner, Plan.Ascending}
use Rattle.order_law.proofs.{Members.before_up, Posts.ascending_distinct, OwnRecord.own_law, OwnRecord.is_record}
use Rattle.dep_graph.specs.Graphs.{GoUp}
use Rattle.cone_run.specs.ConeLaw.{ConeLaw, OwnConeLaw}
use Rattle.cone_run.proofs.{Closures.cone_low, Closures.cone_positive, Closures.cone_own, Closures.last_is, Units.none_over}

in_order : (R : List Edge) (n : ℕ) → GoUp n R → (l : List ℕ) → Ascending l → InOrder R l
in_order R n up [] a = tt
in_order R n up (t ∷ l) a = ((λ u m b. let x = before_up R (λ k v s h. (up k v s h).1) b in let y = a.0 u m in omega arith), in_order R n up l a.1)

pub cone_law : ConeLaw
cone_law R n t l up c =
    let e = last_is t l c.ascending (cone_own R n up t l c) (cone_low R n up t l c) in
    record {
      lawful = record { distinct = ascending_distinct l c.ascending; closed = λ u x m h. (c.exact u).1 (source ((c.exact x).0 m) h); in_order = in_order R n up l c.ascending };
      before = e.0;
      ends = e.1;
    }

-- the last of outcomes that are those of the suite's order
last_own : (p : Program) (t : ℕ) (l : List ℕ) (xs : List Given) → AreSequential p (l ++ (t ∷ [])) xs → outcome_in (last_in (Some xs)) ≡ seq p t
last_own p t [] [] a = absurd a
last_own p t [] (x ∷ []) a = sym a.0
last_own p t [] (x ∷ y ∷ xs) a = absurd a.1
last_own p t (u ∷ l) [] a = absurd a
last_own p t (u ∷ []) (x ∷ []) a = absurd a.1
last_own p t (u ∷ v ∷ l) (x ∷ []) a = absurd a.1
last_own p t (u ∷ l) (x ∷ y ∷ xs) a = last_own p t l (y ∷ xs) a.1

-- the edges of a program's own record lead to later tests
rises : (W E : Tests) (k : EdgeKind) (u t n : ℕ) → (0 < u) × (t ≤ n) × (L : Location) × Conflict W E k u t L → (0 < u) × (u < t) × (t ≤ n)
rises W E Raw u t n x = (x.0, x.3.0, x.1)
rises W E Waw u t n x = (x.0, x.3.0, x.1)
rises W E War u t n x = (x.0, x.3.0, x.1)

own_up : (p : Program) → GoUp (length p.tests) (edges_of p)
own_up p k u t h = rises (writes_of p) (exposed_of p) k u t (length p.tests) ((is_record p (touches_of p) (owner p) k u t).0 h)

pub own_cone_law : OwnConeLaw
unfolding last_outcome
own_cone_law p t l linked detected test c =
    let up = own_up p in
    let e = cone_law (edges_of p) (length p.tests) t l up c in
    let tests : (u : ℕ) → Member u l → IsTestNumber p u = λ u m. let x = cone_low (edges_of p) (length p.tests) up t l c u m in let y : t ≤ length p.tests = test.1 in (cone_positive (edges_of p) (length p.tests) up t l c test.0 u m, omega arith) in
    let r = own_law p l linked detected tests e.lawful in (
      none_over p l r.0 r.1,
      ap (λ (z : Option (List Given)). outcome_in (last_in z)) r.1 ∙ last_own p t e.before r.0 (subst (λ (z : List ℕ). AreSequential p z r.0) e.ends r.2),
    )
