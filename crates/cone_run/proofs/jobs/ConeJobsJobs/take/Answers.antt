use Rattle.std.proofs.Common.{◌≡◌, All, get_or, sym, ◌∙◌, subst, arith}
use Rattle.jvm_model.specs.declared.program.Program.{Program}
use Rattle.type_frames.specs.Typing.{IsTyped}
use Rattle.test_run.specs.Running.{IsTest}
use Rattle.cone_run.specs.{Cones.cone_units, Runs.IsPieceOf}
use Rattle.cone_run.proofs.{Books.posted_of, Pairs.paired_length, ConeLists.cone_at, ConeLists.filled, ConeLists.tests_at}
use Rattle.cone_run.proofs.jobs.ConeJobsJobs.take.Goals as goal

pub claim-requires : goal.claim-requires
claim-requires g c = let n = paired_length c.self.invariant.1 in omega arith

pub run_alone-requires-clause-typed : goal.run_alone-requires-clause-typed
run_alone-requires-clause-typed g c = subst (λ (q : Program). IsTyped q) (sym c.requires.program) c.self.invariant.0.typed

pub run_alone-requires-clause-tests : goal.run_alone-requires-clause-tests
run_alone-requires-clause-tests g c =
    let list = c.as_slice-list.result.now in
    let h = tests_at g.N.PoolName.program g.N.BookName.edges g.N.BookName.selected c.self.inside.cones.now c.args.number c.index-self-place.result list c.self.invariant.0 c.self.invariant.1 (omega arith) c.index-self-place.is (c.as_slice-list.ensures ∙ sym c.index-self-place.is) in
    subst (λ (q : Program). All (IsTest q) list) (sym c.requires.program) h.tests

pub run_alone-requires-clause-some : goal.run_alone-requires-clause-some
run_alone-requires-clause-some g c =
    let list = c.as_slice-list.result.now in
    let h = tests_at g.N.PoolName.program g.N.BookName.edges g.N.BookName.selected c.self.inside.cones.now c.args.number c.index-self-place.result list c.self.invariant.0 c.self.invariant.1 (omega arith) c.index-self-place.is (c.as_slice-list.ensures ∙ sym c.index-self-place.is) in
    filled (get_or g.N.BookName.selected c.args.number 0) list h.own

pub run_alone-requires-clause-few : goal.run_alone-requires-clause-few
run_alone-requires-clause-few g c =
    let h = tests_at g.N.PoolName.program g.N.BookName.edges g.N.BookName.selected c.self.inside.cones.now c.args.number c.index-self-place.result c.as_slice-list.result.now c.self.invariant.0 c.self.invariant.1 (omega arith) c.index-self-place.is (c.as_slice-list.ensures ∙ sym c.index-self-place.is) in
    h.few

pub post-requires-clause-place : goal.post-requires-clause-place
post-requires-clause-place g c = let n = paired_length c.self.invariant.1 in omega arith

pub post-requires-clause-piece : goal.post-requires-clause-piece
post-requires-clause-piece g c =
    let p = g.N.PoolName.program in
    let list = c.as_slice-list.result.now in
    let run = c.in-Ok.run' in
    let cone = cone_at g.N.BookName.edges g.N.BookName.selected c.self.inside.cones.now c.args.number c.index-self-place.result list c.self.invariant.1 (omega arith) c.index-self-place.is (c.as_slice-list.ensures ∙ sym c.index-self-place.is) in
    posted_of p g.N.BookName.edges (get_or g.N.BookName.selected c.args.number 0) list run.piece run.units cone
    (subst (λ (q : Program). IsPieceOf q list run.piece) c.requires.program c.in-Ok.ensures.piece)
    (subst (λ (q : Program). run.units ≡ cone_units q list) c.requires.program c.in-Ok.ensures.units) c.in-Ok.ensures.few
