-- What a command does to a shelf, whatever it does.
use Rattle.std.specs.Prelude.{◌≤◌, Option, Some, None}
use Rattle.shelf_io.specs.Counts.{ShelfCounts}
use Rattle.shelf_io.specs.Files.{Files}

-- where the files before and after are told
abbrev pub OnFiles : Option Files → Option Files → (Files → Files → Type 0) → Type 0
OnFiles (Some old) (Some new) P = P old new
OnFiles (Some old) None P = ⊥
OnFiles None new P = Unit {0}

-- no count of a shelf falls
pub record CountsGrow (old new : ShelfCounts) : Type 0 where
  pub faults_grow : old.faults ≤ new.faults
  pub write_faults_grow : old.write_faults ≤ new.write_faults
  pub absences_grow : old.absences ≤ new.absences
