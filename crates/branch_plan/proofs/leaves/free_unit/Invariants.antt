use Rattle.std.proofs.Common.{ℕ, ◌<◌, None, get_or}
use Rattle.certificate_checker.specs.Faults.{IsSettled}
use Rattle.branch_plan.specs.Private.Changes.{unit_at}
use Rattle.branch_plan.proofs.leaves.free_unit.Given as goal

-- the units before this one are fixed or have one version
abbrev pub invariant-loop-unit : goal.invariant-loop-unit
invariant-loop-unit l = (u : ℕ) → u < l.unit → IsSettled (unit_at l.table u) (get_or l.fixed u None)
