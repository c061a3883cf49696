-- What was written to a sink.
use Rattle.std.specs.Prelude.{◌≡◌, ℕ, ◌+◌, ◌≤◌, List, ◌++◌, length, take}

-- what a sink tells of the bytes that were written: the bytes, their number alone, or nothing
pub data Told : Type 0 where
  Bytes : List ℕ → Told
  Number : ℕ → Told
  Nothing : Told

-- what a sink tells after these bytes were added
abbrev pub with_bytes : Told → List ℕ → Told
with_bytes (Bytes before) bytes = Bytes (before ++ bytes)
with_bytes (Number before) bytes = Number (before + length bytes)
with_bytes Nothing bytes = Nothing

-- between two states a prefix of a piece was added
abbrev pub AddsPrefix : Told → Told → List ℕ → Type 0
AddsPrefix old new piece = (k : ℕ) × (k ≤ length piece) × (new ≡ with_bytes old (take k piece))
