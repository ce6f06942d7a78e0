use Rattle.std.proofs.Common.{◌≡◌, ◌<◌, ◌^◌, All, length}
use Rattle.acceptance.proofs.threads.far_shares.Given as goal

abbrev pub invariant-loop-place : goal.invariant-loop-place
invariant-loop-place l = (length l.shares ≡ l.place) × All (λ s. length s.chains < 2 ^ 32) l.shares
