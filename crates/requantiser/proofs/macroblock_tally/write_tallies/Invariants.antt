use Rattle.std.proofs.Common.{◌≡◌, ◌<◌, ℕ, length, get_or}
use Rattle.requantiser.specs.declared.tally.Tally.{Tally}
use Rattle.requantiser.specs.Private.Counts.{IsTheTally}
use Rattle.requantiser.proofs.macroblock_tally.write_tallies.Given as goal

-- the first tallies are written
abbrev pub invariant-loop-k : goal.invariant-loop-k
invariant-loop-k l = record {
  len : length l.tallies ≡ 8;
  each : (j : ℕ) (d : Tally) → j < l.k → IsTheTally l.targets l.counts j (get_or l.tallies j d);
}
