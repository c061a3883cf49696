use Rattle.version_table.proofs.Chosen.{level_fits}
use Rattle.version_table.proofs.choice_laws.level_choices_fit.Goals as goal

pub returns : goal.returns
returns c = level_fits
