use Rattle.std.proofs.Common.{◌≡◌, ◌<◌, ◌≤◌, ℕ, get_or}
use Rattle.syntax_types.specs.declared.block.BlockWay.{BlockWay}
use Rattle.requantiser.specs.Private.Counts.{IsSized}
use Rattle.requantiser.specs.Private.Lengths.{table_number}
use Rattle.requantiser.proofs.counts.Counts.add_sizes.Given as goal

-- the coefficient is counted in the versions before this one, the others are as they were
abbrev pub invariant-loop-k : goal.invariant-loop-k
invariant-loop-k l = record {
  went : (way : BlockWay) (j : ℕ) → l.table ≡ table_number way l.at → j < l.k
      → IsSized way l.at (get_or l.rung.sizes j 0) (get_or l.initial.self.next j 0) (get_or l.initial.self.bits j 0) (get_or l.self.next j 0) (get_or l.self.bits j 0);
  stay : (j : ℕ) → l.k ≤ j → (get_or l.self.next j 0 ≡ get_or l.initial.self.next j 0) × (get_or l.self.bits j 0 ≡ get_or l.initial.self.bits j 0);
  patterns : l.self.patterns ≡ l.initial.self.patterns;
  squares : l.self.squares ≡ l.initial.self.squares;
}
