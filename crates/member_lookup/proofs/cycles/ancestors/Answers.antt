use Rattle.std.proofs.Common.{arith}
use Rattle.member_lookup.proofs.Ancestry.{searches_none, searches_more, searches_all}
use Rattle.member_lookup.proofs.cycles.ancestors.Goals as goal

pub loop-place-init : goal.loop-place-init
loop-place-init c = rw (c.in_ok-note_direct.ensures, c.new-seen.ensures.empty) (searches_none c.args.p.now c.args.class)

pub loop-place-preserved : goal.loop-place-preserved
loop-place-preserved c = rw (c.in_ok-note_direct-2.ensures) (rw (c.as_slice.ensures.keys) (searches_more _ _ _ _ c.loop-place.invariant (omega arith)))

pub returns : goal.returns
returns c = searches_all _ _ _ _ c.loop-place.invariant (omega arith)
