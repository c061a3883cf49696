use Rattle.requantiser.proofs.Counted.{none_known}
use Rattle.requantiser.proofs.lengths.Lengths.new.Goals as goal

pub invariant_of-result : goal.invariant_of-result
invariant_of-result c = record { right = none_known 3072 }
