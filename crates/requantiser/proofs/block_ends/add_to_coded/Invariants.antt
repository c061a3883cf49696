use Rattle.std.proofs.Common.{◌≡◌, ◌<◌, ◌≤◌, ◌+◌, ◌*◌, ℕ, length, get_or}
use Rattle.requantiser.proofs.block_ends.add_to_coded.Given as goal

-- the bits are added in the versions before this one
abbrev pub invariant-loop-k : goal.invariant-loop-k
invariant-loop-k l = record {
  len : length l.bits ≡ 8;
  went : (j : ℕ) (d : ℕ) → j < l.k → get_or l.bits j d ≡ get_or l.initial.bits j 0 + l.end * get_or l.coded j 0;
  stay : (j : ℕ) (d : ℕ) → l.k ≤ j → get_or l.bits j d ≡ get_or l.initial.bits j d;
}
