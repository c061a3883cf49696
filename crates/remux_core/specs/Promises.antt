-- What every command promises of the outside.
use Rattle.std.specs.Prelude.{◌≡◌, ◌⊎◌, ◌<◌, ◌≤◌}
use Rattle.shelf_io.specs.Counts.{Rose}
use Rattle.command_words.specs.declared.status.Status.{Status}
use Rattle.command_words.specs.declared.status.Status.TheVariants.{ReadFault, WriteFault, Missing, OutOfMemory}
use Rattle.shelf_io.specs.Facts.{ShelfFacts, SinkFacts}
use Rattle.command_words.specs.Outside.{CountsGrow, OnFiles}
use Rattle.command_words.specs.Task.{AsksOnly, OthersStay, Task}

-- no count falls, nothing is read past its limit, and every file that isn't written stays
pub record Promises (task : Task) (old new : ShelfFacts) (out_old out_new : SinkFacts) : Type 0 where
  pub counts : CountsGrow old.counts new.counts
  pub out_faults : out_old.faults ≤ out_new.faults
  pub asks : AsksOnly task old.files old.asked new.asked
  pub others : OnFiles old.files new.files (OthersStay task)

-- no call of the outside failed, as far as counts tell
pub record NoneFailed (old new : ShelfFacts) (out_old out_new : SinkFacts) : Type 0 where
  pub faults : Rose old.counts.faults new.counts.faults → ⊥
  pub write_faults : Rose old.counts.write_faults new.counts.write_faults → ⊥
  pub out_faults : Rose out_old.faults out_new.faults → ⊥

-- a run ends with this status, or its report couldn't be written, or memory was wanted
abbrev pub EndsWith : (expected status : Status) → Type 0
EndsWith expected status = (status ≡ expected) ⊎ ((status ≡ WriteFault) ⊎ (status ≡ OutOfMemory))

-- A fault of the outside ends a run: where a count of the shelf rose, the status tells which, and no call of the shelf followed the one that
-- raised it; where that of the sink rose, the status is WriteFault, and no call of the sink followed.
pub record FaultsEnd (old new : ShelfFacts) (out_old out_new : SinkFacts) (status : Status) : Type 0 where
  pub reads : old.counts.faults < new.counts.faults → EndsWith ReadFault status × (new.since_fault ≡ 0)
  pub writes : old.counts.write_faults < new.counts.write_faults → EndsWith WriteFault status × (new.since_fault ≡ 0)
  pub absences : old.counts.absences < new.counts.absences → EndsWith Missing status × (new.since_fault ≡ 0)
  pub reports : out_old.faults < out_new.faults → (status ≡ WriteFault) × (out_new.since_fault ≡ 0)
