-- Worked examples, computed from the definitions.
use Rattle.std.proofs.Common.{ℕ, ◌≤◌, ◌*◌, All, List, [], ◌∷◌, zero, suc, refl, arith, lit<, lit≤}
use Rattle.slot_rule.specs.Schedule.{IsFirstMiss, IsScheduled}
use Rattle.slot_rule.proofs.RuleExamples.{rows_in}
use Rattle.slot_rule.proofs.RuleRun.{IsFirstMiss-from_run, IsSchedule-from_run, first_rows}
use Rattle.version_table.specs.declared.table.AudioPacket.{AudioPacket}
use Rattle.version_table.specs.declared.table.ProgramRow.{ProgramRow}
use Rattle.version_table.specs.declared.table.Table.{Table}
use Rattle.version_table.specs.declared.table.Unit.{Unit as CodedUnit}
use Rattle.version_table.specs.Choice.{IsSmallestVersion}
use Rattle.rate_fit.specs.declared.verdict.Verdict.TheVariants.{Scheduled, Missed, Limit}
use Rattle.rate_fit.specs.Fit.{IsSlotVerdict, IsWithinSlots, in_slots, end_of_slots}
use Rattle.slot_rule.proofs.RuleEdges.{unit_of as unit}

-- a program without audio
abbrev table_of : (vbv : ℕ) → List CodedUnit → Table
table_of vbv units = record { slot = 1080; nodes = 4; evaluations = 0; programs = record { vbv = vbv; units = units; audios = [] } ∷ [] }

only_version : (due bytes : ℕ) → IsSmallestVersion (unit due bytes) 0
only_version due bytes = record { exists = lit< tt; first = λ j has other. absurd (other (omega (arith, has))) }

-- the units of such a table are in time where they are due in time
units_within : (slot vbv : ℕ) (units : List CodedUnit) → All (λ (u : CodedUnit). u.due ≤ end_of_slots slot) units → IsWithinSlots (in_slots slot (table_of vbv units))
units_within slot vbv units early = (program_units, no_audio)
  where
    program_units : All (λ (program : ProgramRow). All (λ (u : CodedUnit). u.due ≤ end_of_slots slot) program.units) (table_of vbv units).programs
    program_units zero d lt = early
    program_units (suc k) d lt = absurd (omega (arith, lt))

    no_audio : All (λ (program : ProgramRow). All (All (λ (packet : AudioPacket). (packet.due ≤ end_of_slots slot) × (packet.gone ≤ end_of_slots slot))) program.audios) (table_of vbv units).programs
    no_audio zero d lt = λ j e less. absurd (omega (arith, less))
    no_audio (suc k) d lt = absurd (omega (arith, lt))

-- ---- a unit of 1,840 bytes that is just in time in slots of 1,080 ticks, and late in slots of 4,000
abbrev one_picture : Table
one_picture = table_of 112 (unit 36936 1840 ∷ [])

one_early : (slot : ℕ) → 36936 ≤ end_of_slots slot → All (λ (u : CodedUnit). u.due ≤ end_of_slots slot) (unit 36936 1840 ∷ [])
one_early slot early zero d lt = early
one_early slot early (suc k) d lt = absurd (omega (arith, lt))

in_short_slots : IsSlotVerdict (in_slots 1080 one_picture) Scheduled
in_short_slots =
    let table = in_slots 1080 one_picture in
    let rows = rows_in (first_rows table (0 ∷ []) 23) in
    (units_within 1080 112 (unit 36936 1840 ∷ []) (one_early 1080 (lit≤ tt)), (0 ∷ [], (only_version 36936 1840, tt), (rows, IsSchedule-from_run table (0 ∷ []) 23 rows refl refl)))

in_long_slots : IsSlotVerdict (in_slots 4000 one_picture) (Missed (record { stream = 0; unit = 0; slot = 7; due = 36936 }))
in_long_slots =
    let table = in_slots 4000 one_picture in (
      units_within 4000 112 (unit 36936 1840 ∷ []) (one_early 4000 (lit≤ tt)),
      (0 ∷ [], (only_version 36936 1840, tt), IsFirstMiss-from_run table (0 ∷ []) 8 (record { stream = 0; unit = 0; slot = 7; due = 36936 }) refl),
    )

-- ---- a table that fits in slots of 4,000 ticks, and neither in slots of 3,999 nor in slots of 4,001: the buffer of 2,048 bytes has room for the
-- last packet once the first unit is gone, at tick 80,000, where one of these slots begins
abbrev two_pictures : List CodedUnit
two_pictures = unit 80000 1840 ∷ unit 91200 368 ∷ []

two_early : (slot : ℕ) → 91200 ≤ end_of_slots slot → All (λ (u : CodedUnit). u.due ≤ end_of_slots slot) two_pictures
two_early slot early zero d lt = omega (arith, early)
two_early slot early (suc zero) d lt = early
two_early slot early (suc (suc k)) d lt = absurd (omega (arith, lt))

two_smallest : IsSmallestVersion (unit 80000 1840) 0 × (IsSmallestVersion (unit 91200 368) 0 × Unit {0})
two_smallest = (only_version 80000 1840, (only_version 91200 368, tt))

fits_in_4000 : IsSlotVerdict (in_slots 4000 (table_of 1 two_pictures)) Scheduled
fits_in_4000 =
    let table = in_slots 4000 (table_of 1 two_pictures) in
    let rows = rows_in (first_rows table (0 ∷ 0 ∷ []) 21) in
    (units_within 4000 1 two_pictures (two_early 4000 (lit≤ tt)), (0 ∷ 0 ∷ [], two_smallest, (rows, IsSchedule-from_run table (0 ∷ 0 ∷ []) 21 rows refl refl)))

misses_in_3999 : IsSlotVerdict (in_slots 3999 (table_of 1 two_pictures)) (Missed (record { stream = 0; unit = 1; slot = 21; due = 91200 }))
misses_in_3999 =
    let table = in_slots 3999 (table_of 1 two_pictures) in (
      units_within 3999 1 two_pictures (two_early 3999 (lit≤ tt)),
      (0 ∷ 0 ∷ [], two_smallest, IsFirstMiss-from_run table (0 ∷ 0 ∷ []) 22 (record { stream = 0; unit = 1; slot = 21; due = 91200 }) refl),
    )

misses_in_4001 : IsSlotVerdict (in_slots 4001 (table_of 1 two_pictures)) (Missed (record { stream = 0; unit = 1; slot = 20; due = 91200 }))
misses_in_4001 =
    let table = in_slots 4001 (table_of 1 two_pictures) in (
      units_within 4001 1 two_pictures (two_early 4001 (lit≤ tt)),
      (0 ∷ 0 ∷ [], two_smallest, IsFirstMiss-from_run table (0 ∷ 0 ∷ []) 21 (record { stream = 0; unit = 1; slot = 20; due = 91200 }) refl),
    )

-- ---- a unit is due in slot 2,147,483,648 at the latest
passes_the_limit : IsSlotVerdict (in_slots 1016 (table_of 112 (unit 2181843386369 184 ∷ []))) Limit
passes_the_limit within =
    let last : 2181843386369 ≤ 2147483648 * 1016 = within.0 0 (record { vbv = 112; units = []; audios = [] }) (lit< tt) 0 (unit 0 0) (lit< tt) in
    omega (arith, last)

keeps_the_limit : IsWithinSlots (in_slots 1016 (table_of 112 (unit 2181843386368 184 ∷ [])))
keeps_the_limit = units_within 1016 112 (unit 2181843386368 184 ∷ []) early
  where
    early : All (λ (u : CodedUnit). u.due ≤ end_of_slots 1016) (unit 2181843386368 184 ∷ [])
    early zero d lt = lit≤ tt
    early (suc k) d lt = absurd (omega (arith, lt))
