-- What a command has to do, as one value, which each command fills; and which files it may ask for and change.
use Rattle.std.specs.Prelude.{◌≡◌, ◌≤◌, ◌+◌, ℕ, List, Option, max}
use Rattle.std.specs.FinMap.{get}
use Rattle.job_report.specs.declared.report.SlotVerdict.{SlotVerdict}
use Rattle.shelf_io.specs.Files.{Files}
use Rattle.command_words.specs.declared.status.Status.{Status}
use Rattle.command_words.specs.declared.status.Status.TheVariants.{Usage}

-- What a command has to do. What speaks of told files speaks of some content of the files that the command reads, where none are told.
pub record Task : Type 1 where
  -- the files call for this status, whatever the outside does
  pub calls_for : (told : Option Files) → Status → Type 0
  -- by this status the command may refuse what it reads
  pub may_refuse : Status → Type 0
  -- the line prints the work that the files call for
  pub tells_work : (told : Option Files) → (line : List ℕ) → Type 0
  -- the files call for this to be said of each slot that was asked for, none of which fits
  pub fits_none : (told : Option Files) → List SlotVerdict → Type 0
  -- the work was done, with this line and these files after it
  pub is_done : (files : Files) → (line : List ℕ) → (after : Files) → Type 0
  -- the files that the command leaves where it is broken off
  pub leaves : (files after : Files) → Type 0
  -- the command reads this file, up to one byte past this limit
  pub reads : (told : Option Files) → (name : List ℕ) → (limit : ℕ) → Type 0
  -- the command writes this file
  pub writes : (name : List ℕ) → Type 0

-- the status of words that are those of no command
abbrev pub IsUsage : Status → Type 0
IsUsage Usage = Unit {0}
IsUsage status = ⊥

-- what words of no command do: nothing, with this status
abbrev pub no_task : Task
no_task = record {
  calls_for = λ told status. IsUsage status;
  may_refuse = λ status. ⊥;
  tells_work = λ told line. ⊥;
  fits_none = λ told slots. ⊥;
  is_done = λ files line after. ⊥;
  leaves = λ files after. after ≡ files;
  reads = λ told name limit. ⊥;
  writes = λ name. ⊥;
}

-- only files that a command reads were asked for bytes, each for none behind one byte past its limit
pub record AsksOnly (task : Task) (told : Option Files) (old new : List ℕ → ℕ) : Type 0 where
  pub within : (name : List ℕ) (limit : ℕ) → task.reads told name limit → new name ≤ max (old name) (limit + 1)
  pub others : (name : List ℕ) → ((limit : ℕ) → task.reads told name limit → ⊥) → new name ≤ old name

-- every file but those that a command writes is as it was
abbrev pub OthersStay : Task → (files after : Files) → Type 0
OthersStay task files after = (name : List ℕ) → (task.writes name → ⊥) → get after name ≡ get files name
