use Rattle.version_table.proofs.Chosen.{levels_end}
use Rattle.version_table.proofs.choice_laws.level_choices_end.Goals as goal

pub returns : goal.returns
returns c = levels_end
