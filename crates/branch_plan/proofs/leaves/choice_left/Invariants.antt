use Rattle.std.proofs.Common.{◌≡◌, take}
use Rattle.certificate_checker.specs.Shown.{choice_left}
use Rattle.branch_plan.proofs.leaves.choice_left.Given as goal

abbrev pub invariant-loop-entry : goal.invariant-loop-entry
invariant-loop-entry l = l.choice ≡ choice_left (take l.entry-index l.fixed)
