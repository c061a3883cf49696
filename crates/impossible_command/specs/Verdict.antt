-- What is shown of a table.
use Rattle.std.specs.Prelude.{ℕ, List, Some, None}
use Rattle.branch_plan.specs.Plan.{SmallestIsScheduled}
use Rattle.job_report.specs.declared.report.Report.{Report}
use Rattle.job_report.specs.declared.report.Report.TheVariants.{ScheduledVerdict, NoRoomVerdict, OpenVerdict}
use Rattle.slot_rule.specs.Schedule.{IsScheduled}
use Rattle.version_table.specs.declared.table.Table.{Table}
use Rattle.version_table.specs.Choice.{Fits, IsSmallestChoice}
use Rattle.impossible_proof.specs.NoRoom.{IsAnswer}

-- the smallest choice isn't scheduled
abbrev pub SmallestMisses : Table → Type 0
SmallestMisses table = (choice : List ℕ) → IsSmallestChoice table choice → IsScheduled table choice → ⊥

-- no choice is scheduled
abbrev pub NothingIsScheduled : Table → Type 0
NothingIsScheduled table = (choice : List ℕ) → Fits table choice → IsScheduled table choice → ⊥

-- the verdict on a table: the smallest choice is scheduled; or no choice is, since this is the first window without room; or neither is shown,
-- since the smallest choice isn't and there is no such window
abbrev pub IsVerdict : Table → Report → Type 0
IsVerdict table ScheduledVerdict = SmallestIsScheduled table
IsVerdict table (NoRoomVerdict due from needed room) =
    NothingIsScheduled table × IsAnswer table (Some (record { from = from; due = due; needed = needed; room = room }))
IsVerdict table OpenVerdict = SmallestMisses table × IsAnswer table None
IsVerdict table report = ⊥
