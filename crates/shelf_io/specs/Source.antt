-- What was taken from a source.
use Rattle.std.specs.Prelude.{◌≡◌, ℕ, ◌+◌, ◌^◌, List, Option, drop, length, take, min, ◌++◌}
use Rattle.std.specs.Option.{option_map}

-- a source gives at most these bytes, so that each loop over one ends
abbrev pub source_bytes_most : ℕ
source_bytes_most = 2 ^ 60

-- what is told of bytes, or of bits, after the first n were taken
abbrev pub without_front : Option (List ℕ) → ℕ → Option (List ℕ)
without_front told n = option_map (drop n) told

-- n bytes were taken, or lost
pub record Takes (left left_after : Option (List ℕ)) (most most_after n : ℕ) : Type 0 where
  pub rest : left_after ≡ without_front left n
  pub fewer : most_after + n ≡ most

-- the front of a buffer holds the first n bytes, and its rest stays; either the buffer is full or no bytes are left
pub record FillsUp (bytes old new : List ℕ) (n : ℕ) : Type 0 where
  pub front : new ≡ take n bytes ++ drop n old
  pub count : n ≡ min (length old) (length bytes)
