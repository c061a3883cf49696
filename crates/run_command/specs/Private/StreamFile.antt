-- The stream of a job as the content of a file.
use Rattle.std.specs.Prelude.{◌≡◌, ◌⊎◌, ℕ, List, Option}
use Rattle.shelf_io.specs.Files.{Files, with_content}
use Rattle.shelf_io.specs.WholeFile.{HoldsPrefix}
use Rattle.slot_rule.specs.declared.slot_list.SlotList.{SlotList}
use Rattle.job_files.specs.declared.job_table.JobTable.{JobTable}
use Rattle.run_command.specs.Written.{IsStreamOn}

-- the stream of a job in these versions and slots is the content of a file, and every other file stays
abbrev pub HoldsStream : (old new : Option Files) → (name : List ℕ) → JobTable → (choice : List ℕ) → SlotList → Type 0
HoldsStream old new name made choice slots = (stream : List ℕ) × IsStreamOn old made choice slots stream × (new ≡ with_content old name stream)

-- a file holds what it held before, or a front of the stream of a job in these versions and slots, and every other file stays
abbrev pub HoldsStreamPart : (old new : Option Files) → (name : List ℕ) → JobTable → (choice : List ℕ) → SlotList → Type 0
HoldsStreamPart old new name made choice slots =
    (new ≡ old) ⊎ ((stream : List ℕ) × IsStreamOn old made choice slots stream × HoldsPrefix old new name stream)
