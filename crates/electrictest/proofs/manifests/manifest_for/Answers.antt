use Rattle.std.proofs.Common.{[], Ok, refl}
use Rattle.std.proofs.lemmas.Result.{err_from_is_err_and}
use Rattle.cone_run.specs.Marks.{HasWriter}
use Rattle.electrictest.specs.declared.words.Command.TheVariants as command
use Rattle.electrictest.specs.{ConeRuns.IsOverCone, Manifests.IsManifest, Records.beginning}
use Rattle.electrictest.proofs.{Answering.begun_answers, AskedFor.may_pass, AskedFor.named_as}
use Rattle.electrictest.proofs.manifests.manifest_for.Goals as goal

pub begin-requires-clause-named : goal.begin-requires-clause-named
begin-requires-clause-named g c = (Ok [], named_as command.Manifest c.args.ask.now c.args.loaded.now (Ok []) c.requires.asks (record { by = refl; fits = refl; formed = refl }))

pub returns-in_err-begun : goal.returns-in_err-begun
returns-in_err-begun g c =
    let p = err_from_is_err_and c.from_residual.result c.from_residual.ensures.1 in
    rw (p.1, p.2) (c.in_err-begun.ensures.refused c.args.steps.now)

pub returns : goal.returns
returns g c =
    let l = c.args.loaded.now in
    let old = g.D.Depot.shown c.args.depot.now in
    let new = g.D.Depot.shown c.begin.new.depot in
    let b = beginning c.in_ok-begun.begun in
    begun_answers command.Manifest c.args.ask.now l c.requires.asks old new c.begin.ensures.told c.begin.ensures.faults c.args.steps.now c.manifest_of.new.steps b c.in_ok-begun.ensures.begins c.in_ok-begun.ensures.suite
    IsManifest (λ x y. IsOverCone x y (HasWriter y.said.edges)) c.manifest_of.result refl (λ files passed text units is. is) (λ files f is. is)
    (λ passed text units is. may_pass (Ok command.Manifest) passed refl is.ends) c.manifest_of.ensures.reports c.manifest_of.ensures.refused
