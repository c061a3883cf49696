use Rattle.std.proofs.Common.{◌≡◌, ◌≤◌, All, length}
use Rattle.version_source_tests.proofs.kept.in_turn.Given as goal

abbrev pub invariant-loop-k : goal.invariant-loop-k
invariant-loop-k l = (length l.own.items ≡ l.k) × All (λ index. index ≤ length l.coarser) l.own.items × (l.number ≤ length l.coarser)
