-- Places of frames, and why the search for them ends.
use Rattle.std.specs.Prelude.{ℕ, ◌+◌, ◌*◌, ◌<◌, ◌≤◌, List, length, slice_index}

-- places that are at least four bytes apart, the last one so far before a place
pub record AreApart (places : List ℕ) (end : ℕ) : Type 0 where
  pub count : 4 * length places ≤ end
  pub rising : (k : ℕ) → k + 1 < length places → slice_index places k + 4 ≤ slice_index places (k + 1)
  pub inside : (k : ℕ) → k < length places → slice_index places k + 4 ≤ end
