use Rattle.std.proofs.Common.{MatchOption}
use Rattle.certificate_checker.specs.Faults.{LeavesOne}
use Rattle.branch_plan.specs.Private.Leaves.{IsFreeUnit}
use Rattle.branch_plan.proofs.leaves.closest_unit.Given as goal

-- the closest unit so far is free
abbrev pub invariant-loop-unit : goal.invariant-loop-unit
invariant-loop-unit l = MatchOption l.closest (LeavesOne l.table l.fixed) (IsFreeUnit l.table l.fixed)
