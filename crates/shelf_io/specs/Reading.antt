-- One file of a shelf as a source.
use Rattle.std.specs.Prelude.{◌≡◌, ℕ, ◌-◌, List, Option, take, drop}
use Rattle.std.specs.Borrow.{MutBor}
use Rattle.std.specs.Option.{option_map}
use Rattle.shelf_io.specs.declared.reading.Reading.{Reading}
use Rattle.shelf_io.specs.Counts.{ShelfCounts}
use Rattle.shelf_io.specs.Files.{Files, content_of}
use Rattle.shelf_io.specs.Source.{source_bytes_most}

-- the shelf that it borrows
abbrev pub shelf_of : {K : Type 0} → Reading K → MutBor K
shelf_of reading = reading.shelf

-- the name of its file
abbrev pub name_of : {K : Type 0} → Reading K → List ℕ
name_of reading = reading.name.now

-- the place of the byte that comes next
abbrev pub place_of : {K : Type 0} → Reading K → ℕ
place_of reading = reading.place

-- how many bytes are left of those that a source gives at most, from a place on
abbrev pub most_from : ℕ → ℕ
most_from place = source_bytes_most - place

-- the bytes of a file from a place on
abbrev pub left_from : Option Files → List ℕ → ℕ → Option (List ℕ)
left_from told name place = option_map (λ files. take (most_from place) (drop place (content_of files name))) told

-- a later state has the same shelf and file, and the shelf its files and its count of failed writes
pub record KeepsShelf {K : Type 0} (files : K → Option Files) (counts : K → ShelfCounts) (old new : Reading K) : Type 0 where
  pub same_shelf : (shelf_of new).ghost_name ≡ (shelf_of old).ghost_name
  pub same_name : name_of new ≡ name_of old
  pub same_files : files (shelf_of new).now ≡ files (shelf_of old).now
  pub same_write_faults : (counts (shelf_of new).now).write_faults ≡ (counts (shelf_of old).now).write_faults
