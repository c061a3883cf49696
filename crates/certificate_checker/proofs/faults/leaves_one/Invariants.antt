use Rattle.std.proofs.Common.{ℕ, ◌<◌, None, get_or}
use Rattle.version_table.specs.Table.{units_of}
use Rattle.certificate_checker.specs.Faults.{IsSettled}
use Rattle.certificate_checker.proofs.Units.{no_unit}
use Rattle.certificate_checker.proofs.faults.leaves_one.Given as goal

-- the units before this one are fixed or have one version
abbrev pub invariant-loop-unit : goal.invariant-loop-unit
invariant-loop-unit l = (u : ℕ) → u < l.unit → IsSettled (get_or (units_of l.table) u no_unit) (get_or l.fixed u None)
