-- Lists of instants, in subticks, one of each byte in the order of the bytes.
use Rattle.std.specs.Prelude.{ℕ, zero, suc, ◌+◌, nat_le, nat_lt, List, [], ◌∷◌, max, count_by}

-- so many instants, the first one here and each one step after the one before
unfoldable pub spaced : (first step count : ℕ) → List ℕ
spaced first step zero = []
spaced first step (suc count) = first ∷ spaced (first + step) step count

-- how many of the instants have come at an instant, or before it
abbrev pub came : (at : ℕ) → List ℕ → ℕ
came at instants = count_by (λ instant. nat_le instant at) instants

-- how many of the instants have come before an instant
abbrev pub came_before : (at : ℕ) → List ℕ → ℕ
came_before at instants = count_by (λ instant. nat_lt instant at) instants

-- the instants at which bytes leave a buffer that a byte takes so many subticks to leave, counted from when it comes or
-- from when the byte before it left, whichever is later (13818-1, 2.4.2.3, leak method)
unfoldable pub departures : (subticks before : ℕ) → (comes : List ℕ) → List ℕ
departures subticks before [] = []
departures subticks before (comes ∷ later) = (max comes before + subticks) ∷ departures subticks (max comes before + subticks) later

-- the same, but a byte leaves not before the next buffer has room for it: room is free for the first byte from the first
-- of these instants on, for the second byte from the second one on, and never for a byte beyond them
unfoldable pub departures_into : (rooms : List ℕ) → (subticks before : ℕ) → (comes : List ℕ) → List ℕ
departures_into rooms subticks before [] = []
departures_into [] subticks before (comes ∷ later) = []
departures_into (room ∷ rooms) subticks before (comes ∷ later) =
    max (max comes before + subticks) room ∷ departures_into rooms subticks (max (max comes before + subticks) room) later
