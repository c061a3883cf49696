use Rattle.slot_rule.proofs.SentLaws.{slots_of_table}
use Rattle.slot_rule.proofs.laws.slots_name_the_table.Goals as goal

pub returns : goal.returns
returns c table choice list valid fits is n sent there = slots_of_table table choice valid fits list is n sent there
