use Rattle.slot_rule.proofs.SlotPackets.{packets_in_slots}
use Rattle.slot_rule.proofs.laws.packets_stand_in_order.Goals as goal

pub returns : goal.returns
returns c = packets_in_slots
