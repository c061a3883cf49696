use Rattle.version_table.proofs.Sizes.{spelling_size}
use Rattle.version_table.proofs.text_laws.spelling_is_short.Goals as goal

pub returns : goal.returns
returns c = spelling_size
