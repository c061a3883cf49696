use Rattle.remux_core.proofs.AfterPlan.{plan_is_accepted}
use Rattle.remux_core.proofs.laws.check_plan_accepts_plans.Goals as goal

pub returns : goal.returns
returns c = plan_is_accepted
