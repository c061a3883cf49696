use Rattle.program_reader.proofs.DueLemmas.{lowers_more}
use Rattle.program_reader.proofs.due.EarliestTime.of_units.Goals as goal

pub loop-unit-preserved : goal.loop-unit-preserved
loop-unit-preserved c = lowers_more (λ unit. unit.ticks) c.args.units.now c.loop-unit.unit-index _ c.args.self.ticks c.loop-unit.earliest.ticks c.of_unit-earliest.result.ticks c.loop-unit-test.true
    c.loop-unit.invariant c.of_unit-earliest.ensures
