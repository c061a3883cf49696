use Rattle.std.proofs.Common.{◌≡◌, take, sum_by}
use Rattle.version_table.specs.Choice.{least_distortion}
use Rattle.version_table.proofs.choices.least_of_units.Given as goal

abbrev pub invariant-loop-unit : goal.invariant-loop-unit
invariant-loop-unit l = l.total ≡ sum_by least_distortion (take l.unit-index l.units)
