use Rattle.std.proofs.Common.{◌≡◌}
use Rattle.certificate_checker.specs.Shown.{versions_of}
use Rattle.certificate_checker.proofs.Units.{versions_at}
use Rattle.version_table.proofs.Chosen.{units_from}
use Rattle.certificate_checker.proofs.path.versions_of.Given as goal

-- the unit is that of the number that is left, of the programs that are left
abbrev pub invariant-loop-program : goal.invariant-loop-program
invariant-loop-program l = versions_at (units_from l.program-items l.program-index) l.rest ≡ versions_of l.table l.unit
