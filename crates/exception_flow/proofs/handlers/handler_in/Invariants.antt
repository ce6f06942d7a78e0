use Rattle.std.proofs.Common.{◌≡◌, drop}
use Rattle.jvm_model.specs.Raising as raising
use Rattle.exception_flow.proofs.handlers.handler_in.Given as goal

-- the handlers from the index on give what all give
abbrev pub invariant-loop-handler : goal.invariant-loop-handler
invariant-loop-handler l = raising.handler_in l.p (drop l.handler-index l.handlers) l.pc l.class ≡ raising.handler_in l.p l.handlers l.pc l.class
