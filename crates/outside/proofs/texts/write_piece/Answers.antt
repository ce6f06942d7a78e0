use Rattle.std.proofs.Common.{[], take, drop, sym, ◌∙◌, append-nil}
use Rattle.std.proofs.lemmas.List.{take-append-drop}
use Rattle.std.specs.Result.{result_unwrap_or}
use Rattle.outside.proofs.SinkLemmas.{took_none, took_more, took_part, quiet_after, appended-front, lowered-front}
use Rattle.outside.proofs.texts.write_piece.Goals as goal

pub loop-rest-init : goal.loop-rest-init
loop-rest-init g c = took_none _ _

pub returns-then-taken-eq0-clause-prefix : goal.returns-then-taken-eq0-clause-prefix
returns-then-taken-eq0-clause-prefix g c =
    let rest = c.loop-rest.rest.now in
    let front = take (result_unwrap_or c.write.result 0) rest in
    let back = drop (result_unwrap_or c.write.result 0) rest in
    took_part _ _ _ _ rest front back c.loop-rest.invariant (sym (take-append-drop _ rest))
    (record { front = front; back = []; parts = sym (append-nil front); taken = c.write.ensures.told })

pub returns-then-taken-eq0-clause-has_room : goal.returns-then-taken-eq0-clause-has_room
returns-then-taken-eq0-clause-has_room g c = quiet_after _ _ (g.S.Sink.shown c.write.new.self) _ _ c.loop-rest.invariant c.write.ensures.has_room

pub loop-rest-preserved : goal.loop-rest-preserved
loop-rest-preserved g c =
    let piece = c.split_at.ensures in
    let old = g.S.Sink.shown c.loop-rest.sink in
    let taken = result_unwrap_or c.write.result 0 in
    let front = c.split_at.result.0.now in
    took_more _ _ _ _ c.loop-rest.rest.now front c.split_at.result.1.now
    c.loop-rest.invariant
    piece.by_index.0
    (c.write.ensures.told ∙ appended-front old.told c.loop-rest.rest.now front taken c.unwrap_or-taken.result c.unwrap_or-taken.ensures piece.front)
    (c.write.ensures.room ∙ lowered-front old.room front taken c.unwrap_or-taken.result c.unwrap_or-taken.ensures piece.front_len)
    c.write.ensures.faults
    c.write.ensures.has_room
