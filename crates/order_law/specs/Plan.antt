-- Chains and legal histories of claims and posts. A history has its latest event first. Workers are numbered from 1, and
-- chains from 0 by their places in the list.
use Rattle.std.specs.Prelude.{◌≡◌, ℕ, ◌<◌, ◌≤◌, List, [], ◌∷◌, ◌++◌, length, get_or, reverse, true, Some, cond, nat_eq}
use Rattle.jvm_model.specs.{declared.outcome.Outcome.Outcome, declared.program.Program.Program, Suite.last_outcome, Suite.seq, Suite.is_detected, Linked.Linked}
use Rattle.order_law.specs.{declared.edges.Edge.Edge, Conflicts.Member, Conflicts.Distinct, Conflicts.Joined, Conflicts.ClosedUnderRaw, RecordForm.are_chains}
use Rattle.order_law.specs.{Histories.RecordOf, Histories.IsTestNumber, OwnRecord.edges_of}

abbrev pub chain_at : List (List ℕ) → ℕ → List ℕ
chain_at C i = get_or C i []

-- each test below the later ones
abbrev pub Ascending : List ℕ → Type 0
Ascending [] = Unit {0}
Ascending (t ∷ l) = ((u : ℕ) → Member u l → t < u) × Ascending l

-- These are the chains of the set: the classes of the least equivalence that joins two members where one is before the
-- other, each in suite order.
pub record AreChainsOf (R : List Edge) (S : ℕ → Type 0) (C : List (List ℕ)) : Type 0 where
  pub within : (i t : ℕ) → Member t (chain_at C i) → S t
  pub covered : (t : ℕ) → S t → (i : ℕ) × Member t (chain_at C i)
  pub joined : (i t u : ℕ) → Member t (chain_at C i) → Joined R S t u → Member u (chain_at C i)
  pub least : (i t u : ℕ) → Member t (chain_at C i) → Member u (chain_at C i) → Joined R S t u
  pub apart : (i j t : ℕ) → Member t (chain_at C i) → Member t (chain_at C j) → i ≡ j
  pub ascending : (i : ℕ) → Ascending (chain_at C i)

-- The chains as they are listed: none is empty, and they stand by their first tests.
pub record AreListedChainsOf (R : List Edge) (S : ℕ → Type 0) (C : List (List ℕ)) : Type 0 where
  pub chains : AreChainsOf R S C
  pub filled : (i : ℕ) → i < length C → (t : ℕ) × Member t (chain_at C i)
  pub by_first : (i j t u : ℕ) (l m : List ℕ) → i < j → chain_at C i ≡ t ∷ l → chain_at C j ≡ u ∷ m → t < u

pub data Event : Type 0 where
  -- a worker claims a chain
  claim : ℕ → ℕ → Event
  -- a worker posts these tests, which its machine has run, and then one more, with the outcome of that one
  post : ℕ → List ℕ → ℕ → Outcome → Event

-- the chains that a worker claimed, and the tests that it posted, the latest first
abbrev pub claims : List Event → ℕ → List ℕ
claims [] w = []
claims (claim v c ∷ es) w = cond (nat_eq v w) (c ∷ claims es w) (claims es w)
claims (post v l t o ∷ es) w = claims es w

abbrev pub posts : List Event → ℕ → List ℕ
posts [] w = []
posts (claim v c ∷ es) w = posts es w
posts (post v l t o ∷ es) w = cond (nat_eq v w) (t ∷ posts es w) (posts es w)

abbrev pub Posted : List Event → ℕ → Type 0
Posted es t = (w : ℕ) × Member t (posts es w)

-- the first test of the chain that isn't posted
pub record NextOf (es : List Event) (chain : List ℕ) (t : ℕ) : Type 0 where
  pub front : List ℕ
  pub rest : List ℕ
  pub split : chain ≡ front ++ (t ∷ rest)
  pub posted : (x : ℕ) → Member x front → Posted es x
  pub open_yet : Posted es t → ⊥

-- the list that a worker's machine has run where it runs this test after its posts
abbrev pub list_of : List Event → ℕ → ℕ → List ℕ
list_of es w t = reverse (t ∷ posts es w)

-- The event may follow the others. A claim: a chain that nobody claimed, by a worker of whose earlier chains all tests are
-- posted, by whomever. A post: the worker's earlier posts and then the next test of its last chain, with its outcome after
-- them.
abbrev pub Meets : Program → List (List ℕ) → ℕ → Event → List Event → Type 0
Meets p C n (claim w c) es = (0 < w) × (w ≤ n) × (c < length C) × ((v : ℕ) → Member c (claims es v) → ⊥) ×
    ((i t : ℕ) → Member i (claims es w) → Member t (chain_at C i) → Posted es t)
Meets p C n (post w l t o) es = (i : ℕ) × (rest : List ℕ) × (claims es w ≡ i ∷ rest) × NextOf es (chain_at C i) t × (l ≡ reverse (posts es w)) × (last_outcome p (l ++ (t ∷ [])) ≡ Some o)

abbrev pub Legal : Program → List (List ℕ) → ℕ → List Event → Type 0
Legal p C n [] = Unit {0}
Legal p C n (e ∷ es) = Meets p C n e es × Legal p C n es

-- a history is complete where each test of the chains is posted
abbrev pub IsComplete : List (List ℕ) → List Event → Type 0
IsComplete C es = (i t : ℕ) → Member t (chain_at C i) → Posted es t

-- no test is posted twice, and each is one of the chains
abbrev pub PostsOnce : List (List ℕ) → List Event → Type 0
PostsOnce C [] = Unit {0}
PostsOnce C (claim w c ∷ es) = PostsOnce C es
PostsOnce C (post w l t o ∷ es) = (Posted es t → ⊥) × ((i : ℕ) × Member t (chain_at C i)) × PostsOnce C es

-- no test stands in two chains, or twice in one
pub record AreApart (C : List (List ℕ)) : Type 0 where
  pub apart : (i j t : ℕ) → Member t (chain_at C i) → Member t (chain_at C j) → i ≡ j
  pub once : (i : ℕ) → Distinct (chain_at C i)

-- these chains, which are named the latest first, one after the other
abbrev pub whole_chains : List (List ℕ) → List ℕ → List ℕ
whole_chains C [] = []
whole_chains C (c ∷ cs) = whole_chains C cs ++ chain_at C c

-- the list is the chains that a worker claimed, but of the last one only its first tests
abbrev pub IsListOf : List (List ℕ) → List ℕ → List ℕ → Type 0
IsListOf C [] l = l ≡ []
IsListOf C (c ∷ cs) l = (front : List ℕ) × (rest : List ℕ) × (chain_at C c ≡ front ++ rest) × (l ≡ whole_chains C cs ++ front)

-- The list is whole chains, each once, and then the first tests of one more, whose next one is t.
pub record IsWholeThenPart (C : List (List ℕ)) (l : List ℕ) (t : ℕ) : Type 0 where
  pub whole : List ℕ
  pub last : ℕ
  pub front : List ℕ
  pub rest : List ℕ
  pub once : Distinct (last ∷ whole)
  pub split : chain_at C last ≡ front ++ (t ∷ rest)
  pub list : l ≡ whole_chains C whole ++ front

-- each post is of such a list and its next test
abbrev pub PostsInChains : List (List ℕ) → List Event → Type 0
PostsInChains C [] = Unit {0}
PostsInChains C (claim w c ∷ es) = PostsInChains C es
PostsInChains C (post w l t o ∷ es) = IsWholeThenPart C l t × PostsInChains C es

-- What a legal history does by the rules of claims and posts alone.
pub record IsOrderly (C : List (List ℕ)) (es : List Event) : Type 0 where
  -- a chain is claimed once at most
  pub claimed_once : (w : ℕ) → Distinct (claims es w)
  pub one_claimer : (w v i : ℕ) → Member i (claims es w) → Member i (claims es v) → w ≡ v
  -- a test is posted once at most, and is of a chain
  pub once : PostsOnce C es
  -- a worker's list is its chains in the order of its claims
  pub lists : (w : ℕ) → IsListOf C (claims es w) (reverse (posts es w))
  pub posted : PostsInChains C es
  -- and so is the list after which it runs its next test, which is the only one
  pub next : (w t i : ℕ) (rest : List ℕ) → claims es w ≡ i ∷ rest → NextOf es (chain_at C i) t → IsWholeThenPart C (reverse (posts es w)) t
  pub one_next : (i t u : ℕ) → NextOf es (chain_at C i) t → NextOf es (chain_at C i) u → t ≡ u

-- Legal histories over chains that are apart, of whatever record and program.
abbrev pub LawOfHistories : Type 0
LawOfHistories = (p : Program) (C : List (List ℕ)) (n : ℕ) (es : List Event) → AreApart C → Legal p C n es → IsOrderly C es

-- Chains of the form that lists of chains have are apart, and so are those of a set.
abbrev pub FormsApart : Type 0
FormsApart = (C : List (List ℕ)) → are_chains C ≡ true → AreApart C

abbrev pub ChainsApart : Type 0
ChainsApart = (R : List Edge) (set : List ℕ) (C : List (List ℕ)) → AreChainsOf R (λ t. Member t set) C → AreApart C

-- each post has the outcome of the suite's own order
abbrev pub PostsSequential : Program → List Event → Type 0
PostsSequential p [] = Unit {0}
PostsSequential p (claim w c ∷ es) = PostsSequential p es
PostsSequential p (post w l t o ∷ es) = (seq p t ≡ Some o) × PostsSequential p es

-- What a history over the chains of a set does.
pub record IsFaithful (p : Program) (set : List ℕ) (C : List (List ℕ)) (es : List Event) : Type 0 where
  pub outcomes : PostsSequential p es
  pub once : PostsOnce C es
  pub within : (t : ℕ) → Posted es t → Member t set
  -- so a complete one posts exactly the tests of the set, each once
  pub whole : IsComplete C es → (t : ℕ) → Member t set → Posted es t
  -- what a worker runs next will have that outcome too, so that it meets no budget
  pub next : (w t i : ℕ) (rest : List ℕ) → claims es w ≡ i ∷ rest → NextOf es (chain_at C i) t → (o : Outcome) × (last_outcome p (list_of es w t) ≡ Some o) × (seq p t ≡ Some o)

-- Every interleaving: every legal history over the chains of a set that is closed under raw edges does that.
abbrev pub LawOfInterleavings : Type 0
LawOfInterleavings = (p : Program) (R : List Edge) (set : List ℕ) (C : List (List ℕ)) (n : ℕ) (es : List Event) →
    Linked p → is_detected p ≡ true → RecordOf p R → ((t : ℕ) → Member t set → IsTestNumber p t) →
    ClosedUnderRaw R (λ t. Member t set) → AreChainsOf R (λ t. Member t set) C → Legal p C n es → IsFaithful p set C es

-- So does it by the edges of the program's own record.
abbrev pub OwnInterleavings : Type 0
OwnInterleavings = (p : Program) (set : List ℕ) (C : List (List ℕ)) (n : ℕ) (es : List Event) →
    Linked p → is_detected p ≡ true → ((t : ℕ) → Member t set → IsTestNumber p t) →
    ClosedUnderRaw (edges_of p) (λ t. Member t set) → AreChainsOf (edges_of p) (λ t. Member t set) C → Legal p C n es → IsFaithful p set C es
