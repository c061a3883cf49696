use Rattle.std.proofs.Common.{take}
use Rattle.program_reader.specs.Dues.{AreDueUnits}
use Rattle.program_reader.proofs.due.due_units.Given as goal

abbrev pub invariant-loop-unit : goal.invariant-loop-unit
invariant-loop-unit l = AreDueUnits l.clock.start l.clock.earliest (take l.unit-index l.units) l.sources
