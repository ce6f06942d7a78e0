use Rattle.std.proofs.Common.{◌≡◌}
use Rattle.electrictest.proofs.commands.report_for.Goals as goal

-- src/commands.rt:42:1
pub returns-in-Ok-Detect : goal.returns-in-Ok-Detect
returns-in-Ok-Detect g c = let e = c.in-Ok-Detect.ensures.command in c.record_for.ensures c.args.ask.now (g.D.Depot.shown c.args.depot.now) (cc)

-- src/commands.rt:42:1
pub returns-in-Ok-Deps : goal.returns-in-Ok-Deps
returns-in-Ok-Deps g c = let e = c.in-Ok-Deps.ensures.command in c.deps_for.ensures c.args.ask.now (g.D.Depot.shown c.args.depot.now) (cc)

-- src/commands.rt:42:1
pub returns-in-Ok-Plan : goal.returns-in-Ok-Plan
returns-in-Ok-Plan g c = c.plan_for.ensures c.args.steps.now

-- src/commands.rt:42:1
pub returns-in-Ok-Quiet : goal.returns-in-Ok-Quiet
returns-in-Ok-Quiet g c = let e = c.in-Ok-Quiet.ensures.command in c.quiet_for.ensures c.args.ask.now (g.D.Depot.shown c.args.depot.now) c.args.steps.now (cc)

-- src/commands.rt:42:1
pub returns-in-Ok-Impact : goal.returns-in-Ok-Impact
returns-in-Ok-Impact g c = c.impact_for.ensures c.args.steps.now
