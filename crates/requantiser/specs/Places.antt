-- Lists whose items say how many empty places stand before each: the coefficients of a block in scan order, and the
-- macroblocks of a slice in their row.
use Rattle.std.specs.Prelude.{◌+◌, ◌==◌, ℕ, Option, Some, None, List, [], ◌∷◌, if◌then◌else◌}

-- the item at a place, the first empty place being the start, or none where the place is empty
abbrev pub item_at : {A : Type 0} → (A → ℕ) → ℕ → List A → ℕ → Option A
item_at gap start [] place = None
item_at gap start (x ∷ xs) place = if place == start + gap x then Some x else item_at gap (start + gap x + 1) xs place
