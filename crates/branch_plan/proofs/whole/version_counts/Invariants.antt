use Rattle.std.proofs.Common.{◌≡◌, nat_le, take}
use Rattle.std.specs.List.{filter}
use Rattle.branch_plan.proofs.Enough.{counts_of}
use Rattle.branch_plan.proofs.whole.version_counts.Given as goal

abbrev pub invariant-loop-place : goal.invariant-loop-place
invariant-loop-place l = l.counts.items ≡ filter (nat_le 2) (take l.place (counts_of l.table))
