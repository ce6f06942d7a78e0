use Rattle.schedule_plan.proofs.OnePlan.{law_of_plans}
use Rattle.schedule_plan.proofs.planning.plan_law.Goals as goal

pub returns : goal.returns
returns c = law_of_plans
