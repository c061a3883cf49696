-- The files of a table in memory.
use Rattle.std.specs.Prelude.{ℕ, map, String, Vec}
use Rattle.std.specs.FinMap.{from_entries}
use Rattle.std.specs.String.{string_bytes}
use Rattle.std.specs.BTreeMap.{BTreeMap}
use Rattle.shelf_io.specs.Files.{Files}

-- the files that a table in memory holds
abbrev pub files_of : {A B : Type 0} → BTreeMap (String A) (Vec ℕ B) → Files
files_of table = from_entries (map (λ e. (string_bytes e.0, e.1.items)) table.entries)
