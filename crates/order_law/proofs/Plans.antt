-- Each worker's list is a lawful history.
use Rattle.std.proofs.Common.{◌≡◌, ℕ, ◌<◌, Bool, true, false, cond, nat_eq, List, [], ◌∷◌, ◌++◌, reverse, refl, sym, ◌∙◌, ap, subst, inl, inr, arith, Option, Some}
use Rattle.std.proofs.lemmas.Bool.{eqb-true}
use Rattle.jvm_model.specs.{declared.outcome.Outcome.Outcome, declared.program.Program.Program, World.World, State.test_at, Linked.Linked}
use Rattle.jvm_model.specs.Suite.{Given, opening, one_test, runs_on, runs, outcome_in, last_outcome, world_after, seq, is_detected}
use Rattle.jvm_model.proofs.Runs.{with_last, runs_more, last_outcome_is}
use Rattle.order_law.specs.declared.edges.{Edge.Edge, EdgeKind.EdgeKind, EdgeKind.TheVariants.Raw, EdgeKind.TheVariants.Waw, EdgeKind.TheVariants.War}
use Rattle.order_law.specs.Conflicts.{Member, HasEdge, Before, edge, Fits, History, ClosedUnderRaw, itself, forth, back}
use Rattle.order_law.specs.Histories.{after_history, RecordOf, IsTestNumber}
use Rattle.order_law.specs.Plan.{NextOf, PostsSequential, chain_at, Ascending, AreChainsOf, Event, claim, post, claims, posts, Posted, list_of, Legal, LawOfInterleavings}
use Rattle.order_law.proofs.{Members.before_up, Histories.Holds, Histories.holds_first, Histories.next_test}
use Rattle.order_law.proofs.Posts.{reversed, member_mid, below_mid, posts_more, in_posts, legal_once, posted_where, one_claimer}

-- `Before` leads to a higher number
module _ (p : Program) (R : List Edge) (is_record : RecordOf p R) where
  edge_rises : (k : EdgeKind) (u t : ℕ) → HasEdge R k u t → u < t
  edge_rises Raw u t i = ((is_record Raw u t).0 i).3.0
  edge_rises k u t i = ((is_record k u t).0 i).3.0

  pub before_rises : {u t : ℕ} → Before R u t → u < t
  before_rises b = before_up R edge_rises b

module _ (p : Program) (R : List Edge) (is_record : RecordOf p R) (S : ℕ → Type 0) (C : List (List ℕ)) (n : ℕ)
    (raw_closed : ClosedUnderRaw R S) (cs : AreChainsOf R S C) where
  prefix_posted : (es : List Event) (w x i y : ℕ) → Legal p C n es → Member x (posts es w) → Member x (chain_at C i) → Member y (chain_at C i) → y < x → Posted es y
  prefix_posted [] w x i y l h a b lt = absurd h
  prefix_posted (claim v c ∷ es) w x i y l h a b lt = let q = prefix_posted es w x i y l.1 h a b lt in (q.0, posts_more (claim v c) es q.0 y q.1)
  prefix_posted (post v ls t r ∷ es) w x i y l h a b lt = elim (in_posts es v ls t w x r h) [
    | inl e ↦
        let m = l.0 in
        let there : Member t (chain_at C m.0) = rw m.3.split (member_mid m.3.front t m.3.rest) in
        let same_chain : i ≡ m.0 = cs.apart i m.0 t (subst (λ (z : ℕ). Member z (chain_at C i)) e.1 a) there in
        let yin : Member y (m.3.front ++ (t ∷ m.3.rest)) = subst (λ (z : List ℕ). Member y z) m.3.split (subst (λ (z : ℕ). Member y (chain_at C z)) same_chain b) in
        let asc : Ascending (m.3.front ++ (t ∷ m.3.rest)) = subst (λ (z : List ℕ). Ascending z) m.3.split (cs.ascending m.0) in
        let eq = e.1 in
        let q = m.3.posted y (below_mid m.3.front t m.3.rest asc y yin (omega arith)) in
        (q.0, posts_more (post v ls t r) es q.0 y q.1)
    | inr k ↦ let q = prefix_posted es w x i y l.1 k a b lt in (q.0, posts_more (post v ls t r) es q.0 y q.1)
  ]

  fits_post : (es : List Event) (w t : ℕ) → Legal p C n es → (m : (i : ℕ) × (rest : List ℕ) × (claims es w ≡ i ∷ rest) × NextOf es (chain_at C i) t) → Fits R (posts es w) t
  fits_post es w t l m =
      let there : Member t (chain_at C m.0) = rw m.3.split (member_mid m.3.front t m.3.rest) in
      let st : S t = cs.within m.0 t there in
      let mine : Member m.0 (claims es w) = rw m.2 (inl refl) in
      record {
        is_new = λ i. m.3.open_yet (w, i);
        closed = λ u e.
            let su : S u = raw_closed u t st e in
            let ui : Member u (chain_at C m.0) = cs.joined m.0 t u there (back (itself st) su (edge Raw e)) in
            let asc : Ascending (m.3.front ++ (t ∷ m.3.rest)) = subst (λ (z : List ℕ). Ascending z) m.3.split (cs.ascending m.0) in
            let q = m.3.posted u (below_mid m.3.front t m.3.rest asc u (subst (λ (z : List ℕ). Member u z) m.3.split ui) (edge_rises p R is_record Raw u t e)) in
            let j = posted_where p C n es q.0 u l q.1 in
            let same_chain : j.0 ≡ m.0 = cs.apart j.0 m.0 u j.2 ui in
            subst (λ (z : ℕ). Member u (posts es z)) (one_claimer p C n es q.0 w m.0 l (subst (λ (z : ℕ). Member z (claims es q.0)) same_chain j.1) mine) q.1;
        in_order = λ x i b.
            let j = posted_where p C n es w x l i in
            let xi : Member x (chain_at C m.0) = cs.joined m.0 t x there (forth (itself st) (cs.within j.0 x j.2) b) in
            m.3.open_yet (prefix_posted es w x m.0 t l i xi there (before_rises p R is_record b));
      }

  own_post : (es : List Event) (v w t : ℕ) → Fits R (posts es v) t → History R (posts es w) → (b : Bool) → nat_eq v w ≡ b → History R (cond b (t ∷ posts es w) (posts es w))
  own_post es v w t f hs true e = (subst (λ (z : ℕ). Fits R (posts es z) t) (eqb-true v w e) f, hs)
  own_post es v w t f hs false e = hs

  worker_lawful : (es : List Event) (w : ℕ) → Legal p C n es → History R (posts es w)
  worker_lawful [] w l = tt
  worker_lawful (claim v c ∷ es) w l = worker_lawful es w l.1
  worker_lawful (post v ls t r ∷ es) w l = own_post es v w t (fits_post es v t l.1 (l.0.0, l.0.1, l.0.2, l.0.3)) (worker_lawful es w l.1) (nat_eq v w) refl

-- a lawful history holds, and its tests run on one heap
module _ (p : Program) (linked : Linked p) (R : List Edge) (is_record : RecordOf p R) (detected : is_detected p ≡ true) where
  history_holds : (D : List ℕ) → History R D → ((x : ℕ) → Member x D → IsTestNumber p x) → Holds p linked D
  history_holds [] hs al = holds_first p linked
  history_holds (t ∷ D) hs al = (next_test p linked R is_record detected D t (history_holds D hs.1 (λ x i. al x (inr i))) hs.1 hs.0 (al t (inl refl)) (λ x i. al x (inr i))).holds

  after_more : (w : World) (xs : List Given) (x : Given) → world_after w (xs ++ (x ∷ [])) ≡ x.world
  after_more w [] x = refl
  after_more w (y ∷ ys) x = after_more y.world ys x

  -- the history's tests in order, on one heap
  record RunsTo (D : List ℕ) : Type 0 where
    given : List Given
    is : runs p (reverse D) ≡ Some given
    world : world_after (opening p) given ≡ after_history p D

  history_runs : (D : List ℕ) → History R D → ((x : ℕ) → Member x D → IsTestNumber p x) → RunsTo D
  unfolding runs
  history_runs [] hs al = record { given = []; is = refl; world = refl }
  history_runs (t ∷ D) hs al =
      let r = history_runs D hs.1 (λ x i. al x (inr i)) in
      let n = next_test p linked R is_record detected D t (history_holds D hs.1 (λ x i. al x (inr i))) hs.1 hs.0 (al t (inl refl)) (λ x i. al x (inr i)) in
      record {
        given = r.given ++ (n.here.given ∷ []);
        is = ap (λ (l : List ℕ). runs_on p (opening p) l) (reversed t D) ∙ runs_more p (opening p) (reverse D) t r.given r.is
            ∙ ap (λ (w : World). with_last r.given (one_test p w t (test_at p t).budget)) r.world ∙ ap (λ (o : Option Given). with_last r.given o) n.here.is;
        world = after_more (opening p) r.given n.here.given ∙ n.here.world;
      }

  -- what the next test of a history gives
  pub next_outcome : (D : List ℕ) (t : ℕ) → History R D → Fits R D t → IsTestNumber p t → ((x : ℕ) → Member x D → IsTestNumber p x) →
      (o : Outcome) × (last_outcome p (reverse (t ∷ D)) ≡ Some o) × (seq p t ≡ Some o)
  next_outcome D t hs fits low al =
      let r = history_runs D hs al in
      let n = next_test p linked R is_record detected D t (history_holds D hs al) hs fits low al in (
        n.first.given.outcome,
        ap (λ (l : List ℕ). last_outcome p l) (reversed t D) ∙ last_outcome_is p (reverse D) t r.given r.is ∙ ap (λ (w : World). outcome_in (one_test p w t (test_at p t).budget)) r.world
            ∙ ap outcome_in n.here.is ∙ ap (λ (o : Outcome). Some o) n.here.outcome,
        n.first.outcome,
      )

  module _ (set : List ℕ) (C : List (List ℕ)) (k : ℕ) (low : (t : ℕ) → Member t set → IsTestNumber p t) (closed : ClosedUnderRaw R (λ t. Member t set)) (cs : AreChainsOf R (λ t. Member t set) C) where
    -- what a worker runs next has the outcome of the suite's own order, so it meets no budget
    next_result : (es : List Event) (w t i : ℕ) (rest : List ℕ) → Legal p C k es → claims es w ≡ i ∷ rest → NextOf es (chain_at C i) t → (o : Outcome) × (last_outcome p (list_of es w t) ≡ Some o) × (seq p t ≡ Some o)
    next_result es w t i rest l e next =
        let S = (λ (x : ℕ). Member x set) in
        next_outcome (posts es w) t (worker_lawful p R is_record S C k closed cs es w l) (fits_post p R is_record S C k closed cs es w t l (i, rest, e, next))
        (low t (cs.within i t (rw next.split (member_mid next.front t next.rest))))
        (λ x m. let j = posted_where p C k es w x l m in low x (cs.within j.0 x j.2))

    same_outcome : (t : ℕ) (l : List ℕ) (o : Outcome) → last_outcome p l ≡ Some o → (x : Outcome) × (last_outcome p l ≡ Some x) × (seq p t ≡ Some x) → seq p t ≡ Some o
    same_outcome t l o e n = n.2 ∙ sym n.1 ∙ e

    all_posts : (es : List Event) → Legal p C k es → PostsSequential p es
    all_posts [] l = tt
    all_posts (claim w c ∷ es) l = all_posts es l.1
    all_posts (post w ls t o ∷ es) l =
        let m = l.0 in
        let listed : list_of es w t ≡ ls ++ (t ∷ []) = reversed t (posts es w) ∙ ap (λ (x : List ℕ). x ++ (t ∷ [])) (sym m.4) in
        (same_outcome t (list_of es w t) o (ap (λ (x : List ℕ). last_outcome p x) listed ∙ m.5) (next_result es w t m.0 m.1 l.1 m.2 m.3), all_posts es l.1)

pub law_of_interleavings : LawOfInterleavings
law_of_interleavings p R set C n es linked detected is_record low closed cs l = record {
  outcomes = all_posts p linked R is_record detected set C n low closed cs es l;
  once = legal_once p C n es l;
  within = λ t i. let c = posted_where p C n es i.0 t l i.1 in cs.within c.0 t c.2;
  whole = λ done t i. let c = cs.covered t i in done c.0 t c.1;
  next = λ w t i rest e next. next_result p linked R is_record detected set C n low closed cs es w t i rest l e next;
}
