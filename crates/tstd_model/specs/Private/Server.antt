-- What the laws of one server speak of; no public clause cites these.
use Rattle.std.specs.Prelude.{ℕ, ◌+◌, ◌*◌, ◌≤◌, List, [], ◌∷◌, length, max}

-- when the server is free again: the last departure, or what was before where nothing came
unfoldable pub last_departure : (subticks before : ℕ) → (comes : List ℕ) → ℕ
last_departure subticks before [] = before
last_departure subticks before (comes ∷ later) = last_departure subticks (max comes before + subticks) later

-- the greatest, over the byte to count from, of when it comes and the time that it and those after it take
unfoldable pub latest_work : (subticks : ℕ) → (comes : List ℕ) → ℕ
latest_work subticks [] = 0
latest_work subticks (comes ∷ later) = max (comes + subticks * length (comes ∷ later)) (latest_work subticks later)

-- each instant is at least a step after the one before, and the first one a step after `before`
abbrev pub Spaced : (step before : ℕ) → List ℕ → Type 0
Spaced step before [] = Unit {0}
Spaced step before (instant ∷ later) = (before + step ≤ instant) × Spaced step instant later

-- as many instants, and each at most so much later than the other one of its place
abbrev pub EachWithin : (delay : ℕ) → List ℕ → List ℕ → Type 0
EachWithin delay [] [] = Unit {0}
EachWithin delay [] (other ∷ others) = ⊥
EachWithin delay (instant ∷ later) [] = ⊥
EachWithin delay (instant ∷ later) (other ∷ others) = (instant ≤ other + delay) × EachWithin delay later others

-- the first instant is at most this one, the next one at most a step more, and so on
abbrev pub UnderLine : (most step : ℕ) → List ℕ → Type 0
UnderLine most step [] = Unit {0}
UnderLine most step (instant ∷ later) = (instant ≤ most) × UnderLine (most + step) step later

-- each instant is under one of two lines
abbrev pub UnderEither : (most step other other_step : ℕ) → List ℕ → Type 0
UnderEither most step other other_step [] = Unit {0}
UnderEither most step other other_step (instant ∷ later) =
    (instant ≤ max most other) × UnderEither (most + step) step (other + other_step) other_step later

-- each instant is at most this one
abbrev pub EachAtMost : (most : ℕ) → List ℕ → Type 0
EachAtMost most [] = Unit {0}
EachAtMost most (instant ∷ later) = (instant ≤ most) × EachAtMost most later
