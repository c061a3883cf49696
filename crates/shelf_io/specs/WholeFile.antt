-- Files that are read or written whole, in several calls.
use Rattle.std.specs.Prelude.{◌≡◌, ◌⊎◌, ℕ, ◌≤◌, List, Option, length, take}
use Rattle.shelf_io.specs.Files.{Files, with_content}

-- the file holds what it held before, or a prefix of these bytes; every other file stays
abbrev pub HoldsPrefix : Option Files → Option Files → List ℕ → List ℕ → Type 0
HoldsPrefix old new name bytes = (new ≡ old) ⊎ ((k : ℕ) × (k ≤ length bytes) × (new ≡ with_content old name (take k bytes)))
