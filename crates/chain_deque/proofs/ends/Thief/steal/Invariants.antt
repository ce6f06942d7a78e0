use Rattle.std.proofs.Common.{◌≡◌}
use Rattle.chain_deque.specs.Ends.{thief_view, IsThief}
use Rattle.chain_deque.proofs.ends.Thief.steal.Given as goal

abbrev pub invariant-loop : goal.invariant-loop
invariant-loop g l = (thief_view l.self-inside.front l.self-inside.pass ≡ thief_view l.initial.self-inside.front l.initial.self-inside.pass)
    × IsThief l.self-inside.front l.self-inside.pass
