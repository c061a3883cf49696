-- What a level becomes under several scales.
use Rattle.std.specs.Prelude.{◌≡◌, ◌<◌, ◌≤◌, ◌+◌, ◌*◌, ◌^◌, ℕ, ℤ, List, Bool, slice_index, unsigned_abs, if◌then◌else◌}
use Rattle.quant_math.specs.Levels.{coarser_level}
use Rattle.requantiser.specs.Private.Changes.{level_change}
use Rattle.requantiser.specs.Private.Lengths.{IsRow}

-- the size of what a level under a scale becomes under another one, and how far its coefficient moves
abbrev pub IsRescaled : ℤ → ℕ → ℕ → Bool → ℕ → ℕ → ℕ → Type 0
IsRescaled level weight from intra scale size squared =
    (size ≡ unsigned_abs (coarser_level level weight from scale intra)) × (squared ≡ level_change level weight from scale intra) × (squared ≤ 2 ^ 22)

-- the same under each of eight
abbrev pub AreRescaled : ℤ → ℕ → ℕ → Bool → List ℕ → List ℕ → List ℕ → Type 0
AreRescaled level weight from intra scales sizes squares =
    (k : ℕ) → k < 8 → IsRescaled level weight from intra (slice_index scales k) (slice_index sizes k) (slice_index squares k)

-- a weight, a scale of the source and the kind of block as one number
abbrev pub way_number : ℕ → ℕ → Bool → ℕ
way_number weight from intra = weight + 256 * from + 32768 * (if intra then 1 else 0)

-- the same of each weight and scale that have this number
abbrev pub AreRescaledBy : ℤ → ℕ → List ℕ → List ℕ → List ℕ → Type 0
AreRescaledBy level number scales sizes squares =
    (weight from : ℕ) (intra : Bool) → weight < 256 → from < 128 → number ≡ way_number weight from intra → AreRescaled level weight from intra scales sizes squares

-- from this version on it becomes 0
abbrev pub IsGoneFrom : ℕ → List ℕ → Type 0
IsGoneFrom living sizes = (k : ℕ) → living ≤ k → k < 8 → slice_index sizes k ≡ 0

-- where the lengths of these sizes stand in a table
abbrev pub AreRows : List ℕ → List ℕ → Type 0
AreRows rows sizes = (k : ℕ) → k < 8 → IsRow (slice_index rows k) (slice_index sizes k)
