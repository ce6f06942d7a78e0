use Rattle.std.proofs.Common.{◌≡◌, ◌++◌, drop, filter}
use Rattle.jvm_model.specs.Selection.{is_open_like}
use Rattle.vm_calls.proofs.selecting.push_open.Given as goal

-- the methods so far, and those of what is left
abbrev pub invariant-loop-other : goal.invariant-loop-other
invariant-loop-other l = l.found ++ filter (λ n. is_open_like l.p l.method n) (drop l.other-index l.other-items) ≡ l.fn.found ++ filter (λ n. is_open_like l.p l.method n) l.other-items
