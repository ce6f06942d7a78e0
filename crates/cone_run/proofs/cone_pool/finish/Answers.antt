use Rattle.std.proofs.Common.{◌+◌, ◌<◌, List, Option, length, sym, ◌∙◌, refl, subst, arith}
use Rattle.std.proofs.lemmas.Result.{err_from_is_err_and}
use Rattle.test_run.specs.Running.{Posted}
use Rattle.cone_run.specs.Books.{AreLeft}
use Rattle.cone_run.proofs.{Books.counted_first, Books.counted_last, Books.counted_next, Books.left_next, ConeLists.cone_at, ConeLists.first_fault}
use Rattle.cone_run.proofs.Pairs.{paired_all, paired_length, paired_next, paired_none}
use Rattle.cone_run.proofs.cone_pool.finish.Goals as goal

pub loop-place-init : goal.loop-place-init
loop-place-init g c = record {
  program = refl;
  left = c.into_pieces-pieces.ensures.pieces;
  all = paired_none g.N.BookName.selected _ c.new-all.ensures;
  units = counted_first g.N.PoolName.program c.new-all.result c.into_pieces-pieces.result.0.items c.args.steps.now c.spend.new.self c.into_pieces-pieces.result.1 c.new-all.ensures c.spend.ensures c.into_pieces-pieces.ensures.units;
}

pub taken-posted-requires : goal.taken-posted-requires
taken-posted-requires g c =
    let n = paired_length c.requires.cones in
    let k = c.loop-place.invariant.left.places in
    let t = c.loop-place-test.true in
    omega arith

pub piece_of-requires-clause-place : goal.piece_of-requires-clause-place
piece_of-requires-clause-place g c =
    let n = paired_length c.requires.cones in
    let t = c.loop-place-test.true in
    omega arith

pub piece_of-requires-clause-cone : goal.piece_of-requires-clause-cone
piece_of-requires-clause-cone g c =
    cone_at g.N.BookName.edges g.N.BookName.selected c.args.cones.now c.loop-place.place c.index-cones-place.result c.as_slice-list.result.now c.requires.cones c.loop-place-test.true c.index-cones-place.is c.as_slice-list.ensures

pub returns-in_err-piece_of-clause-fault : goal.returns-in_err-piece_of-clause-fault
returns-in_err-piece_of-clause-fault g c =
    let at = c.loop-place in
    let n = paired_length c.requires.cones in
    let t = c.loop-place-test.true in
    let lt : at.place < length g.N.BookName.selected = omega arith in
    let cone = cone_at g.N.BookName.edges g.N.BookName.selected c.args.cones.now at.place c.index-cones-place.result c.as_slice-list.result.now c.requires.cones t c.index-cones-place.is c.as_slice-list.ensures in
    let p = err_from_is_err_and c.from_residual.result c.from_residual.ensures.1 in
    rw (p.1, p.2) (first_fault g.N.PoolName.program g.N.BookName.edges g.N.BookName.selected at.place c.as_slice-list.result.now at.all at.steps c.piece_of.new.steps c.in_err-piece_of.field-0.0 c.requires.suite lt cone at.invariant.all c.in_err-piece_of.ensures.fault)

pub loop-place-preserved : goal.loop-place-preserved
loop-place-preserved g c =
    let at = c.loop-place in
    let sel = g.N.BookName.selected in
    let n = paired_length c.requires.cones in
    let t = c.loop-place-test.true in
    let k = at.invariant.left.places in
    let lt : at.place < length sel = omega arith in
    let within : at.place < length at.pieces.items = omega arith in
    record {
      program = c.piece_of.ensures.same ∙ at.invariant.program;
      left = subst (λ (z : List (Option Posted)). AreLeft g.N.PoolName.program g.N.BookName.edges sel (at.place + 1) z) (sym c.taken-posted.ensures.left) (left_next g.N.PoolName.program g.N.BookName.edges sel at.pieces.items at.place lt at.invariant.left);
      all = paired_next sel at.all _ at.place 0 c.in_ok-piece_of.field-0 lt c.in_ok-push.ensures.pushed at.invariant.all c.in_ok-piece_of.ensures.piece;
      units = counted_next g.N.PoolName.program at.all c.push.new.self at.pieces.items c.taken-posted.new.pieces.items at.place c.in_ok-piece_of.field-0 c.taken-posted.result c.args.steps.now at.steps c.piece_of.new.steps within c.in_ok-push.ensures.pushed c.taken-posted.ensures.left c.taken-posted.ensures.piece at.invariant.units c.in_ok-piece_of.ensures.units;
    }

pub returns-clause-pieces : goal.returns-clause-pieces
returns-clause-pieces g c =
    let at = c.loop-place in
    let n = paired_length c.requires.cones in
    let t = c.loop-place-test.false in
    paired_all g.N.BookName.selected at.all at.place (omega arith) at.invariant.all

pub returns-clause-units : goal.returns-clause-units
returns-clause-units g c =
    let at = c.loop-place in
    let n = paired_length c.requires.cones in
    let t = c.loop-place-test.false in
    counted_last g.N.PoolName.program g.N.BookName.edges g.N.BookName.selected at.all at.pieces.items at.place c.args.steps.now at.steps (omega arith) at.invariant.left at.invariant.units
