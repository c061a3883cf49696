use Rattle.picture_reader.proofs.Parts.{zeros-none, zeros-more}
use Rattle.picture_reader.proofs.part.end_of_zeros.Goals as goal

pub zeros-init : goal.zeros-init
zeros-init c = zeros-none c.args.unit.now c.args.at c.requires

pub zeros-preserved : goal.zeros-preserved
zeros-preserved c = zeros-more c.args.unit.now c.args.at c.zeros.end c.zeros.invariant c.zeros-test.true c.if-unit-end-ne0.false
