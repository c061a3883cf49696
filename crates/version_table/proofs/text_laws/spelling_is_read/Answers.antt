use Rattle.std.proofs.Common.{refl}
use Rattle.version_table.proofs.text_laws.spelling_is_read.Goals as goal

pub returns : goal.returns
returns c = λ table valid. (valid.short, valid, refl)
