use Rattle.std.proofs.Common.{refl}
use Rattle.requantiser.proofs.counts.Counts.tally.Goals as goal

pub returns : goal.returns
returns c = record {
  code = refl;
  pattern = refl;
  bits = refl;
  distortion = c.from.ensures;
}
