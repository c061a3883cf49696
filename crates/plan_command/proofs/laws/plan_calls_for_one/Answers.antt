use Rattle.plan_command.proofs.OneStatus.{PlanLaws, plan_calls_for_one}
use Rattle.plan_command.proofs.laws.plan_calls_for_one.Goals as goal

pub returns : goal.returns
returns c =
    let laws : PlanLaws = record {
      reading = c.one_reading.ensures;
      smallest = c.smallest_choice_is_one.ensures;
      scheduled = c.no_miss_where_scheduled.ensures;
      miss = c.first_miss_is_one.ensures;
    } in
    λ table files status other. plan_calls_for_one laws files table status other
