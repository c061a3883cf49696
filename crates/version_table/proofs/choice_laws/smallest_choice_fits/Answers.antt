use Rattle.version_table.proofs.Chosen.{smallest_fits}
use Rattle.version_table.proofs.choice_laws.smallest_choice_fits.Goals as goal

pub returns : goal.returns
returns c = smallest_fits
