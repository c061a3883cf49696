use Rattle.std.proofs.Common.{◌≡◌, ◌+◌, sum_by}
use Rattle.version_table.specs.Choice.{least_distortion, least_distortions}
use Rattle.version_table.proofs.Chosen.{units_from}
use Rattle.version_table.proofs.choices.least_total.Given as goal

-- what is summed so far and what is still to come make the whole
abbrev pub invariant-loop-program : goal.invariant-loop-program
invariant-loop-program l = l.total + sum_by least_distortion (units_from l.program-items l.program-index) ≡ least_distortions l.table
