use Rattle.version_table.proofs.Chosen.{smallest_is_one}
use Rattle.version_table.proofs.choice_laws.smallest_choice_is_one.Goals as goal

pub returns : goal.returns
returns c = smallest_is_one
