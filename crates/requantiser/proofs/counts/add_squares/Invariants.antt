use Rattle.std.proofs.Common.{◌≡◌, ◌<◌, ◌≤◌, ◌+◌, ℕ, length, get_or}
use Rattle.requantiser.proofs.counts.add_squares.Given as goal

-- the squares are added in the versions before this one
abbrev pub invariant-loop-k : goal.invariant-loop-k
invariant-loop-k l = record {
  len : length l.squares ≡ 8;
  went : (j : ℕ) (d : ℕ) → j < l.k → get_or l.squares j d ≡ get_or l.initial.squares j 0 + get_or l.more j 0;
  stay : (j : ℕ) (d : ℕ) → l.k ≤ j → get_or l.squares j d ≡ get_or l.initial.squares j d;
}
