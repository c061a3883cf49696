use Rattle.std.proofs.Common.{map, take}
use Rattle.program_reader.specs.Dues.{Lowers}
use Rattle.program_reader.proofs.due.EarliestTime.of_units.Given as goal

abbrev pub invariant-loop-unit : goal.invariant-loop-unit
invariant-loop-unit l = Lowers (map (λ unit. unit.ticks) (take l.unit-index l.units)) l.fn.self.ticks l.earliest.ticks
