use Rattle.std.proofs.Common.{◌≡◌, ◌<◌, ℕ, length, get_or}
use Rattle.std.specs.Prelude.{◌==◌, not}
use Rattle.bit_lists.specs.Fields.{flag}
use Rattle.requantiser.proofs.block_ends.coded_in.Given as goal

-- the versions before this one are done
abbrev pub invariant-loop-k : goal.invariant-loop-k
invariant-loop-k l = record {
  len : length l.coded ≡ 8;
  went : (j : ℕ) (d : ℕ) → j < l.k → get_or l.coded j d ≡ flag (not (get_or l.next j 0 == l.first));
}
