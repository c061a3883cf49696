-- What a call that reads a file of a shelf does to the shelf.
use Rattle.std.specs.Prelude.{◌≡◌, ℕ, List, Option}
use Rattle.shelf_io.specs.Asked.{AsksUpTo}
use Rattle.shelf_io.specs.Counts.{ShelfCounts}
use Rattle.shelf_io.specs.Files.{Files, Lacks}
use Rattle.file_pass.specs.FilePass.{Raises, SameReads}
use Rattle.file_pieces.specs.declared.limits.TheConstants.{READ_MOST}

-- The files and the count of failed writes stay, and no byte of another file was asked for. Where the call answered that a read failed, or that the file isn't
-- held, the count of that rose alone, and no call of the shelf followed; else none rose.
pub record ReadsFile (name : List ℕ) (failed missing : Type 0) (told told_after : Option Files) (old new : ShelfCounts) (since_fault : ℕ) (asked asked_after : List ℕ → ℕ) : Type 0 where
  pub same_files : told_after ≡ told
  pub same_write_faults : new.write_faults ≡ old.write_faults
  pub asks : AsksUpTo name READ_MOST asked asked_after
  pub failed_as : failed → Raises old.faults new.faults old.absences new.absences since_fault
  pub missing_as : missing → Lacks told name × Raises old.absences new.absences old.faults new.faults since_fault
  pub else_same : (failed → ⊥) → (missing → ⊥) → SameReads old new
