use Rattle.std.proofs.Common.{◌≡◌, ◌<◌, ◌≤◌, ◌+◌, ◌*◌, ℕ, length, get_or}
use Rattle.requantiser.proofs.block_ends.add_blocks.Given as goal

-- the block stands in the patterns before this one
abbrev pub invariant-loop-k : goal.invariant-loop-k
invariant-loop-k l = record {
  len : length l.patterns ≡ 8;
  went : (j : ℕ) (d : ℕ) → j < l.k → get_or l.patterns j d ≡ 2 * get_or l.initial.patterns j 0 + get_or l.coded j 0;
  stay : (j : ℕ) (d : ℕ) → l.k ≤ j → get_or l.patterns j d ≡ get_or l.initial.patterns j d;
}
