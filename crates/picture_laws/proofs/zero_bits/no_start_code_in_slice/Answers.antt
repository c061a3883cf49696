use Rattle.picture_laws.proofs.ShortSlices.{no-code-in-slice}
use Rattle.picture_laws.proofs.zero_bits.no_start_code_in_slice.Goals as goal

pub returns : goal.returns
returns c = no-code-in-slice
