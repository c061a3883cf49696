-- One file of a shelf as a sink.
use Rattle.std.specs.Prelude.{◌≡◌, ℕ, List, Option, Some, None, IfSome, IsSome}
use Rattle.std.specs.Borrow.{MutBor}
use Rattle.std.specs.Option.{option_map}
use Rattle.std.specs.FinMap.{get, remove}
use Rattle.shelf_io.specs.declared.writing.Writing.{Writing}
use Rattle.shelf_io.specs.Asked.{AsksNothing}
use Rattle.shelf_io.specs.Counts.{ShelfCounts}
use Rattle.shelf_io.specs.Files.{Files, content_of}
use Rattle.shelf_io.specs.Sink.{Told, Bytes, Nothing}

-- the shelf that it borrows
abbrev pub shelf_of : {K : Type 0} → Writing K → MutBor K
shelf_of writing = writing.shelf

-- the name of its file
abbrev pub name_of : {K : Type 0} → Writing K → List ℕ
name_of writing = writing.name.now

-- the bytes of a file, where they are told
abbrev pub written_to : Option Files → List ℕ → Told
written_to (Some files) name = Bytes (content_of files name)
written_to None name = Nothing

-- the files but one
abbrev pub others : Option Files → List ℕ → Option Files
others told name = option_map (λ files. remove files name) told

-- where files are told, the file is held
abbrev pub FileIsHeld : Option Files → List ℕ → Type 0
FileIsHeld told name = IfSome told (λ files. IsSome (get files name))

-- a later state has the same shelf and file, and the shelf its other files and its counts of reads, and asked for no bytes
pub record KeepsOthers {K : Type 0} (files : K → Option Files) (counts : K → ShelfCounts) (asked : K → List ℕ → ℕ) (old new : Writing K) : Type 0 where
  pub same_shelf : (shelf_of new).ghost_name ≡ (shelf_of old).ghost_name
  pub same_name : name_of new ≡ name_of old
  pub same_others : others (files (shelf_of new).now) (name_of new) ≡ others (files (shelf_of old).now) (name_of old)
  pub still_held : FileIsHeld (files (shelf_of old).now) (name_of old) → FileIsHeld (files (shelf_of new).now) (name_of new)
  pub same_faults : (counts (shelf_of new).now).faults ≡ (counts (shelf_of old).now).faults
  pub same_absences : (counts (shelf_of new).now).absences ≡ (counts (shelf_of old).now).absences
  pub asks_nothing : AsksNothing (asked (shelf_of old).now) (asked (shelf_of new).now)
