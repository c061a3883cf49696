-- In slots of which length a table fits: whether the slot rule schedules its smallest choice there. (This project's.)
use Rattle.std.specs.Prelude.{ℕ, ◌*◌, ◌≤◌, List, All, Contains, Option, Some, None}
use Rattle.std.specs.List.{AllZip}
use Rattle.version_table.specs.declared.limits.TheConstants.{TIME_SLOTS_MOST}
use Rattle.version_table.specs.declared.table.AudioPacket.{AudioPacket}
use Rattle.version_table.specs.declared.table.ProgramRow.{ProgramRow}
use Rattle.version_table.specs.declared.table.Table.{Table}
use Rattle.version_table.specs.declared.table.Unit.{Unit as CodedUnit}
use Rattle.version_table.specs.Choice.{IsSmallestChoice}
use Rattle.slot_rule.specs.Schedule.{IsFirstMiss, IsScheduled}
use Rattle.rate_fit.specs.declared.verdict.Verdict.{Verdict}
use Rattle.rate_fit.specs.declared.verdict.Verdict.TheVariants.{Scheduled, Missed, Limit}

-- the same table in slots of so many ticks
abbrev pub in_slots : ℕ → Table → Table
in_slots slot table = record { slot = slot; nodes = table.nodes; evaluations = table.evaluations; programs = table.programs }

-- the last time, in ticks, that a stream of such slots reaches
abbrev pub end_of_slots : (slot : ℕ) → ℕ
end_of_slots slot = TIME_SLOTS_MOST * slot

-- an audio packet is due and gone up to this tick
abbrev pub IsGoneBy : (last : ℕ) → AudioPacket → Type 0
IsGoneBy last packet = (packet.due ≤ last) × (packet.gone ≤ last)

-- no unit of a table is due, and no audio packet due or gone, past the last time that a stream of its slots reaches
abbrev pub IsWithinSlots : Table → Type 0
IsWithinSlots table =
    All (λ (program : ProgramRow). All (λ (unit : CodedUnit). unit.due ≤ end_of_slots table.slot) program.units) table.programs
    × All (λ (program : ProgramRow). All (All (IsGoneBy (end_of_slots table.slot))) program.audios) table.programs

-- What is said of a table in its slots: that a time passes the last one; else the first miss of its smallest choice; else that this is scheduled.
abbrev pub IsSlotVerdict : Table → Verdict → Type 0
IsSlotVerdict table Limit = IsWithinSlots table → ⊥
IsSlotVerdict table (Missed miss) = IsWithinSlots table × ((choice : List ℕ) × IsSmallestChoice table choice × IsFirstMiss table choice miss)
IsSlotVerdict table Scheduled = IsWithinSlots table × ((choice : List ℕ) × IsSmallestChoice table choice × IsScheduled table choice)

-- one for each slot, in order: the verdict on the table in slots of so many ticks
abbrev pub AreVerdicts : Table → (slots : List ℕ) → List Verdict → Type 0
AreVerdicts table slots verdicts = AllZip (λ slot verdict. IsSlotVerdict (in_slots slot table) verdict) slots verdicts

-- the table fits in slots of so many ticks
abbrev pub FitsIn : Table → (slot : ℕ) → Type 0
FitsIn table slot = IsSlotVerdict (in_slots slot table) Scheduled

-- the greatest of some slots in which the table fits, or none where it fits in none
abbrev pub IsGreatestFit : Table → (slots : List ℕ) → Option ℕ → Type 0
IsGreatestFit table slots (Some slot) = Contains slots slot × FitsIn table slot × All (λ other. FitsIn table other → other ≤ slot) slots
IsGreatestFit table slots None = All (λ slot. FitsIn table slot → ⊥) slots
