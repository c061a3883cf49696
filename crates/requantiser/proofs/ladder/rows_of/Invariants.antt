use Rattle.std.proofs.Common.{◌≡◌, ◌<◌, ℕ, length, get_or}
use Rattle.requantiser.specs.Private.Lengths.{IsRow}
use Rattle.requantiser.proofs.ladder.rows_of.Given as goal

-- those before this one are told
abbrev pub invariant-loop-k : goal.invariant-loop-k
invariant-loop-k l = record {
  len : length l.rows ≡ 8;
  each : (j : ℕ) (d : ℕ) → j < l.k → IsRow (get_or l.rows j d) (get_or l.sizes j 0);
}
