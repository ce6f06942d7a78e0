use Rattle.std.proofs.Common.{◌≡◌, sym, ap, subst, ◌∙◌, rules, Ok, Some}
use Rattle.outside.specs.Depot.{OfHeld}
use Rattle.electrictest.specs.{declared.status.Status.Status, Commands.ReportEnds, Loads.prepared, Replies.Unreported}
use Rattle.electrictest.proofs.LoadLaws.{loads_all, unasked_ends, unloaded_ends, unloaded_for}
use Rattle.electrictest.proofs.loading.load_for.Goals as goal

pub returns-in-Ok-clause-loads : goal.returns-in-Ok-clause-loads
returns-in-Ok-clause-loads g c =
    let told = (g.D.Depot.shown c.load.new.depot).told in
    let asks = sym c.refusal.ensures ∙ c.in_default.is in
    let named = c.in_ok-name.ensures ∙ c.suite.ensures in
    let same = c.in_ok-prepared-in-Ok.ensures.prepared ∙ ap (λ b. prepared b (Ok c.in-Ok.loaded)) c.is_eager.ensures in
    loads_all told c.args.ask.now c.in_ok-name.name c.in-Ok.loaded _ asks c.requires.over named c.in-Ok.ensures.loads same

pub returns-clause-refused : goal.returns-clause-refused
returns-clause-refused g c =
    let told = (g.D.Depot.shown c.load.new.depot).told in
    let asks = sym c.refusal.ensures ∙ c.in_default.is in
    let named = c.in_ok-name.ensures ∙ c.suite.ensures in
    subst (λ (s : Status). OfHeld told (λ files. Unreported files c.args.ask.now s)) (sym c.status_of.ensures)
    (unloaded_for told c.args.ask.now c.in_ok-name.name c.in-Err.fault (g.D.Depot.shown c.args.depot.now) (g.D.Depot.shown c.load.new.depot) asks c.requires.over named c.in-Err.ensures.loads c.in-Err.ensures.proper)

pub returns-in-Some-clause-ends : goal.returns-in-Some-clause-ends
returns-in-Some-clause-ends g c =
    let a = c.args.ask.now in
    let depot = g.D.Depot.shown c.args.depot.now in
    let refused : c.refusal.result ≡ Some c.in-Some.status = search rules in
    unasked_ends a.command a.words c.in-Some.status depot depot (sym c.refusal.ensures ∙ refused)

pub returns-clause-ends : goal.returns-clause-ends
returns-clause-ends g c =
    let old = g.D.Depot.shown c.args.depot.now in
    let new = g.D.Depot.shown c.load.new.depot in
    let asks = sym c.refusal.ensures ∙ c.in_default.is in
    subst (λ (s : Status). ReportEnds c.args.ask.now s old new) (sym c.status_of.ensures)
    (unloaded_ends _ c.args.ask.now c.in-Err.fault old new asks c.requires.over (λ read q. q.1) c.in-Err.ensures.proper)
