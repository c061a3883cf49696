use Rattle.slot_rule.proofs.RuleUnique.{IsScheduled-no_miss}
use Rattle.slot_rule.proofs.laws.no_miss_where_scheduled.Goals as goal

pub returns : goal.returns
returns c = IsScheduled-no_miss
