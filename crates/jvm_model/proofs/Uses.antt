-- A row that uses a class, by how the use went.
use Rattle.std.proofs.Common.{◌≡◌, ℕ, List, Bool, true, false, ap, ◌∙◌}
use Rattle.jvm_model.specs.declared.{values.Touch.Touch, outcome.Next.TheVariants.Go, outcome.Next.TheVariants.Fault, program.Program.Program}
use Rattle.jvm_model.specs.{World.World, Access.Access, Access.spend, Entries.Entries}
use Rattle.jvm_model.specs.Rows.{Answer, answer, ready, begun, refused, begin, once, using}
use Rattle.jvm_model.specs.View.{ended, counted, and_then, touched, IsSafe, IsRow, paid}
use Rattle.jvm_model.proofs.{Binds.counted_bind, Binds.touched_bind, Binds.safe_rest, Bridges.spent_later}

module _ (p : Program) (c : ℕ) (s : Entries) (k : Access (Answer Entries)) (w : World) (left : ℕ) where
  -- the class may be used: the row goes on with what comes then
  pub used_ready : (b : Bool) (w' : World) (left' : ℕ) → counted (begin p c s) w left ≡ ended ready w' left' → counted (paid b (using p c s k)) w left ≡ counted (paid b k) w' left'
  used_ready true w' left' e = spent_later 1 (begin p c s) (once s k) w left ready w' left' e
  used_ready false w' left' e = counted_bind (begin p c s) (once s k) w left ∙ ap (λ x. and_then x (once s k)) e

  -- its initialisation was begun: the step is made
  pub used_begun : (t : Entries) (w' : World) (left' : ℕ) → counted (spend 1 (begin p c s)) w left ≡ ended (begun t) w' left' → counted (spend 1 (using p c s k)) w left ≡ ended (answer Go t) w' left'
  used_begun t w' left' e = counted_bind (spend 1 (begin p c s)) (once s k) w left ∙ ap (λ x. and_then x (once s k)) e

  -- the step throws
  pub used_refused : (d : ℕ) (w' : World) (left' : ℕ) → counted (begin p c s) w left ≡ ended (refused d) w' left' → counted (using p c s k) w left ≡ ended (answer (Fault d) s) w' left'
  used_refused d w' left' e = counted_bind (begin p c s) (once s k) w left ∙ ap (λ x. and_then x (once s k)) e

  -- what comes then is safe, and its touches follow
  pub used_safe : (w' : World) (left' : ℕ) → counted (begin p c s) w left ≡ ended ready w' left' → IsSafe IsRow (using p c s k) w → IsSafe IsRow k w'
  used_safe w' left' e h = safe_rest IsRow (begin p c s) (once s k) w left ready w' left' e h

  pub used_touches : (w' : World) (left' : ℕ) → counted (begin p c s) w left ≡ ended ready w' left' → (ts : List Touch) → touched (using p c s k) w ts ≡ touched k w' (touched (begin p c s) w ts)
  used_touches w' left' e ts = touched_bind (begin p c s) (once s k) w left ready w' left' e ts
