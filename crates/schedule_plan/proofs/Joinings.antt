-- To be joined is an equivalence.
use Rattle.std.proofs.Common.{ℕ, List}
use Rattle.order_law.specs.{declared.edges.Edge.Edge, Conflicts.Joined, Conflicts.itself, Conflicts.forth, Conflicts.back}
use Rattle.order_law.proofs.Members.{joined_within}

pub joined_on : {R : List Edge} {S : ℕ → Type 0} {t u v : ℕ} → Joined R S t u → Joined R S u v → Joined R S t v
joined_on p (itself s) = p
joined_on p (forth j s b) = forth (joined_on p j) s b
joined_on p (back j s b) = back (joined_on p j) s b

pub joined_back : {R : List Edge} {S : ℕ → Type 0} {t u : ℕ} → Joined R S t u → Joined R S u t
joined_back (itself s) = itself s
joined_back (forth j s b) = joined_on (back (itself s) (joined_within j) b) (joined_back j)
joined_back (back j s b) = joined_on (forth (itself s) (joined_within j) b) (joined_back j)

pub joined_in : {R : List Edge} {S T : ℕ → Type 0} → ((t : ℕ) → S t → T t) → {t u : ℕ} → Joined R S t u → Joined R T t u
joined_in f (itself {t} s) = itself (f t s)
joined_in f (forth {t} {u} {v} j s b) = forth (joined_in f j) (f v s) b
joined_in f (back {t} {u} {v} j s b) = back (joined_in f j) (f v s) b
