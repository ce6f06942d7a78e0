use Rattle.std.proofs.Common.{◌∙◌, refl}
use Rattle.electric.proofs.GatherLemmas.{took_gathered, took_none, took_after, took_itself, handed_from, unwrap_err}
use Rattle.electric.proofs.gathered.GatheredSink.write.Goals as goal

pub returns-then-gather-clause-took : goal.returns-then-gather-clause-took
returns-then-gather-clause-took g c = took_gathered g.S.Sink.shown c.args.self.now c.gather.new.self c.args.piece.now _ (c.if-gather.ensures.longer refl) refl

pub returns-in_err-flush-clause-took : goal.returns-in_err-flush-clause-took
returns-in_err-flush-clause-took g c =
    took_none g.S.Sink.shown c.args.self.now c.flush.new.self c.args.piece.now _
    (unwrap_err _ c.from_residual.result c.from_residual.ensures.1)
    c.requires
    (handed_from g.S.Sink.shown c.args.self.now c.gather.new.self _ _ (c.if-gather.ensures.kept refl) c.flush.ensures.handed)

pub returns-then-gather-2-clause-took : goal.returns-then-gather-2-clause-took
returns-then-gather-2-clause-took g c =
    took_after g.S.Sink.shown c.args.self.now c.flush.new.self c.gather-2.new.self c.args.piece.now _
    c.requires
    (handed_from g.S.Sink.shown c.args.self.now c.gather.new.self _ _ (c.if-gather.ensures.kept refl) c.flush.ensures.handed)
    (took_gathered g.S.Sink.shown c.flush.new.self c.gather-2.new.self c.args.piece.now _ (c.if-gather-2.ensures.longer refl) refl)

pub returns-clause-took : goal.returns-clause-took
returns-clause-took g c =
    let taken = c.write.ensures in
    took_after g.S.Sink.shown c.args.self.now c.flush.new.self _ c.args.piece.now _
    c.requires
    (handed_from g.S.Sink.shown c.args.self.now c.gather.new.self _ _ (c.if-gather.ensures.kept refl) c.flush.ensures.handed)
    (took_itself g.S.Sink.shown c.flush.new.self _ _ c.args.piece.now _
    (c.self.view_is ∙ c.if-gather-2.ensures.kept refl) c.in_ok-flush.ensures.all refl
    (record { told = taken.told; room = taken.room; later = taken.faults; quiet = taken.has_room }))
