use Rattle.slot_rule.proofs.RuleSchedules.{slots_of-same}
use Rattle.slot_rule.proofs.laws.packets_keep_slots.Goals as goal

pub returns : goal.returns
returns c = slots_of-same
