use Rattle.std.proofs.Common.{length, arith}
use Rattle.outside.proofs.CountLemmas.{rose_later, not_rose}
use Rattle.outside.proofs.SinkLemmas.{took_none, took_more, took_part, quiet_after, on_err, HasRoom-less}
use Rattle.outside.proofs.texts.write_text.Goals as goal

pub loop-rest-init : goal.loop-rest-init
loop-rest-init g c = took_none _ _

pub returns-in_err-write_piece-clause-prefix : goal.returns-in_err-write_piece-clause-prefix
returns-in_err-write_piece-clause-prefix g c =
    on_err c.from_residual.result
    (took_part _ _ _ _ c.loop-rest.rest.now c.split_at.result.0.now c.split_at.result.1.now
    c.loop-rest.invariant c.split_at.ensures.by_index.0 c.in_err-write_piece.ensures.prefix)

pub returns-in_err-write_piece-clause-has_room : goal.returns-in_err-write_piece-clause-has_room
returns-in_err-write_piece-clause-has_room g c =
    quiet_after _ _ (g.S.Sink.shown c.write_piece.new.sink) _ _ c.loop-rest.invariant
    (λ h. c.in_err-write_piece.ensures.has_room (HasRoom-less _ (length c.split_at.result.0.now) (length c.loop-rest.rest.now) (omega (arith, c.split_at.ensures.front_len, c.line_len.ensures.within)) h))

pub returns-in_err-write_piece-clause-fits : goal.returns-in_err-write_piece-clause-fits
returns-in_err-write_piece-clause-fits g c h below =
    absurd (not_rose _ _ (returns-in_err-write_piece-clause-has_room g c h) below
    (rose_later _ _ _ c.loop-rest.invariant.later c.in_err-write_piece.ensures.failed))

pub loop-rest-preserved : goal.loop-rest-preserved
loop-rest-preserved g c =
    took_more _ _ _ _ c.loop-rest.rest.now c.split_at.result.0.now c.split_at.result.1.now
    c.loop-rest.invariant
    c.split_at.ensures.by_index.0
    c.in_ok-write_piece.ensures.written
    c.in_ok-write_piece.ensures.room
    c.in_ok-write_piece.ensures.faults
    (λ h. c.in_ok-write_piece.ensures.has_room (HasRoom-less _ (length c.split_at.result.0.now) (length c.loop-rest.rest.now) (omega (arith, c.split_at.ensures.front_len, c.line_len.ensures.within)) h))
