use Rattle.slot_rule.proofs.SlotListLaws.{IsSlotList-same}
use Rattle.slot_rule.proofs.laws.slot_list_is_one.Goals as goal

pub returns : goal.returns
returns c = IsSlotList-same
