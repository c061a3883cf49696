use Rattle.std.proofs.Common.{◌≡◌, ◌+◌, ◌≤◌, ℕ, List, length}
use Rattle.psi_tables.specs.Descriptors.{IsDescriptor}
use Rattle.psi_tables.proofs.Rows.{IsUnderWay}
use Rattle.psi_tables.proofs.descriptors.count_descriptors.Given as goal

abbrev pub invariant-loop-rest : goal.invariant-loop-rest
invariant-loop-rest l = (done : List (List ℕ)) × IsUnderWay IsDescriptor l.bytes l.rest done × (l.count ≡ length done) × (l.count + length l.rest ≤ length l.bytes)

abbrev pub decreases-loop-rest : goal.decreases-loop-rest
decreases-loop-rest l = length l.rest
