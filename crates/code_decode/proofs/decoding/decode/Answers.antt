use Rattle.std.proofs.Common.{◌∙◌, sym, subst, arith, Ok}
use Rattle.et_base.specs.Answers.{Fails}
use Rattle.class_pool.specs.Reading.{named}
use Rattle.code_decode.proofs.WholeLaw.{code_takes, code_again, code_error}
use Rattle.code_decode.proofs.decoding.decode.Goals as goal

pub code_fault-requires : goal.code_fault-requires
code_fault-requires c = code_error c.in-Err.error 0 c.args.pool.now c.args.code.now c.in-Err.ensures.gives

pub returns-in-Ok-clause-found : goal.returns-in-Ok-clause-found
returns-in-Ok-clause-found c = code_takes 0 c.args.pool.now c.args.code.now c.in-Ok.code (λ i. omega (arith, c.type_inv.code i)) c.in-Ok.ensures.gives

pub returns-in-Ok-clause-only : goal.returns-in-Ok-clause-only
returns-in-Ok-clause-only c = λ code spelled. sym (code_again 0 c.args.pool.now c.args.code.now code spelled) ∙ c.in-Ok.ensures.gives

pub returns-in-Err-clause-only : goal.returns-in-Err-clause-only
returns-in-Err-clause-only c = λ code spelled. c.code_fault.ensures (Ok code) (subst (λ r. Fails (named c.in-Err.error) r) (code_again 0 c.args.pool.now c.args.code.now code spelled) c.in-Err.ensures.gives)
