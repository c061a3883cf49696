use Rattle.std.specs.Prelude.{◌-◌, length}
use Rattle.picture_reader.specs.Private.Parts.{ZerosTo}
use Rattle.picture_reader.proofs.part.end_of_zeros.Given as goal

abbrev pub invariant-zeros : goal.invariant-zeros
invariant-zeros l = ZerosTo l.unit l.at l.end

abbrev pub decreases-zeros : goal.decreases-zeros
decreases-zeros l = length l.unit - l.end
