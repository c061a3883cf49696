-- Lists of instants of which one stays below the other.
use Rattle.std.specs.Prelude.{ℕ, ◌+◌, ◌≤◌, List, [], ◌∷◌}

-- each of the first instants has one at its place in the second list, and that one with a gap is at most so much later
abbrev pub Keeps : (gap delay : ℕ) → (highs lows : List ℕ) → Type 0
Keeps gap delay [] lows = Unit {0}
Keeps gap delay (high ∷ highs) [] = ⊥
Keeps gap delay (high ∷ highs) (low ∷ lows) = (low + gap ≤ high + delay) × Keeps gap delay highs lows
