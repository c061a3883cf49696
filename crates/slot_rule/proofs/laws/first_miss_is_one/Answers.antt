use Rattle.slot_rule.proofs.RuleUnique.{IsFirstMiss-same}
use Rattle.slot_rule.proofs.laws.first_miss_is_one.Goals as goal

pub returns : goal.returns
returns c = IsFirstMiss-same
