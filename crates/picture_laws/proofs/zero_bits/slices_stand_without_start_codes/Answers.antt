use Rattle.picture_laws.proofs.StandingSlices.{slices-stand}
use Rattle.picture_laws.proofs.zero_bits.slices_stand_without_start_codes.Goals as goal

pub returns : goal.returns
returns c = slices-stand
