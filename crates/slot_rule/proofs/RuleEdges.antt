-- Worked examples at the edge of each number of the rule, each with its neighbour, computed from the definitions.
use Rattle.std.proofs.Common.{◌≡◌, ℕ, ◌*◌, List, [], ◌∷◌, true, Some, refl, ◌∙◌}
use Rattle.version_table.specs.declared.table.AudioPacket.{AudioPacket}
use Rattle.version_table.specs.declared.table.ProgramRow.{ProgramRow}
use Rattle.version_table.specs.declared.table.Table.{Table}
use Rattle.version_table.specs.declared.table.Unit.{Unit as CodedUnit}
use Rattle.slot_rule.specs.Queues.{queues_of}
use Rattle.slot_rule.specs.Buffers.{Row, mb_gate}
use Rattle.slot_rule.specs.Timetable.{period}
use Rattle.slot_rule.specs.Schedule.{IsSchedule}
use Rattle.slot_rule.specs.SlotList.{slots_of}
use Rattle.slot_rule.proofs.RuleRun.{Run, Clean, Missed, clean_rows, first_rows, nothing_left, IsSchedule-from_run}
use Rattle.slot_rule.proofs.RuleSchedules.{slots_of-same}
use Rattle.slot_rule.proofs.RuleExamples.{rows_in}

-- a table of one program
abbrev table_of : (slot : ℕ) → ProgramRow → Table
table_of slot program = record { slot = slot; nodes = 1; evaluations = 0; programs = program ∷ [] }

-- a unit in one version, and a program of units alone
abbrev pub unit_of : (due bytes : ℕ) → CodedUnit
unit_of due bytes = record { due = due; versions = record { items = record { bytes = bytes; distortion = 0 } ∷ [] } }

abbrev units_alone : (vbv : ℕ) → List CodedUnit → ProgramRow
units_alone vbv units = record { vbv = vbv; units = units; audios = [] }

-- the slots of a queue in a schedule are those in the rows of the first slots, where these are clean and all is sent in them
from_run : (table : Table) (choice : List ℕ) (count stream : ℕ) (slots : List ℕ)
    → clean_rows (first_rows table choice count) ≡ Some (rows_in (first_rows table choice count))
    → nothing_left (queues_of table choice) (rows_in (first_rows table choice count)) ≡ true
    → slots_of stream 0 (rows_in (first_rows table choice count)) ≡ slots
    → (rows : List Row) → IsSchedule table choice rows → slots_of stream 0 rows ≡ slots
from_run table choice count stream slots clean sent found rows schedule =
    slots_of-same table choice stream rows (rows_in (first_rows table choice count)) schedule
    (IsSchedule-from_run table choice count (rows_in (first_rows table choice count)) clean sent)
    ∙ found

-- the slots in which a table's video packets go
abbrev VideoGoesIn : Table → List ℕ → List ℕ → Type 0
VideoGoesIn table choice slots = (rows : List Row) → IsSchedule table choice rows → slots_of 0 0 rows ≡ slots

-- ---- payload that is gone: an EB of 2,048 bytes, and units of 2,024 and 184 bytes in slots of 4,000 ticks
abbrev two_units : (due bytes : ℕ) → Table
two_units due bytes = table_of 4000 (units_alone 1 (unit_of due 2024 ∷ unit_of 200000 bytes ∷ []))

-- the first unit is gone where slot 16 begins, and the second one's packet goes in it
gone_at_start : VideoGoesIn (two_units 64000 184) (0 ∷ 0 ∷ []) (3 ∷ 4 ∷ 5 ∷ 6 ∷ 7 ∷ 8 ∷ 9 ∷ 10 ∷ 11 ∷ 12 ∷ 13 ∷ 16 ∷ [])
gone_at_start = from_run (two_units 64000 184) (0 ∷ 0 ∷ []) 17 0 (3 ∷ 4 ∷ 5 ∷ 6 ∷ 7 ∷ 8 ∷ 9 ∷ 10 ∷ 11 ∷ 12 ∷ 13 ∷ 16 ∷ []) refl refl refl

-- a tick later it isn't gone there yet
gone_behind_start : VideoGoesIn (two_units 64001 184) (0 ∷ 0 ∷ []) (3 ∷ 4 ∷ 5 ∷ 6 ∷ 7 ∷ 8 ∷ 9 ∷ 10 ∷ 11 ∷ 12 ∷ 13 ∷ 17 ∷ [])
gone_behind_start = from_run (two_units 64001 184) (0 ∷ 0 ∷ []) 18 0 (3 ∷ 4 ∷ 5 ∷ 6 ∷ 7 ∷ 8 ∷ 9 ∷ 10 ∷ 11 ∷ 12 ∷ 13 ∷ 17 ∷ []) refl refl refl

-- 24 bytes fill EB beside the first unit, and 25 wait until it is gone
eb_filled : VideoGoesIn (two_units 64000 24) (0 ∷ 0 ∷ []) (3 ∷ 4 ∷ 5 ∷ 6 ∷ 7 ∷ 8 ∷ 9 ∷ 10 ∷ 11 ∷ 12 ∷ 13 ∷ 14 ∷ [])
eb_filled = from_run (two_units 64000 24) (0 ∷ 0 ∷ []) 15 0 (3 ∷ 4 ∷ 5 ∷ 6 ∷ 7 ∷ 8 ∷ 9 ∷ 10 ∷ 11 ∷ 12 ∷ 13 ∷ 14 ∷ []) refl refl refl

eb_too_small : VideoGoesIn (two_units 64000 25) (0 ∷ 0 ∷ []) (3 ∷ 4 ∷ 5 ∷ 6 ∷ 7 ∷ 8 ∷ 9 ∷ 10 ∷ 11 ∷ 12 ∷ 13 ∷ 16 ∷ [])
eb_too_small = from_run (two_units 64000 25) (0 ∷ 0 ∷ []) 17 0 (3 ∷ 4 ∷ 5 ∷ 6 ∷ 7 ∷ 8 ∷ 9 ∷ 10 ∷ 11 ∷ 12 ∷ 13 ∷ 16 ∷ []) refl refl refl

-- ---- hold: what is gone a second behind the start of slot 4, 16,000 + 27,000,000, goes in it, and a tick later in slot 5
held_a_second : VideoGoesIn (table_of 4000 (units_alone 112 (unit_of 27016000 184 ∷ []))) (0 ∷ []) (4 ∷ [])
held_a_second = from_run (table_of 4000 (units_alone 112 (unit_of 27016000 184 ∷ []))) (0 ∷ []) 5 0 (4 ∷ []) refl refl refl

held_longer : VideoGoesIn (table_of 4000 (units_alone 112 (unit_of 27016001 184 ∷ []))) (0 ∷ []) (5 ∷ [])
held_longer = from_run (table_of 4000 (units_alone 112 (unit_of 27016001 184 ∷ []))) (0 ∷ []) 6 0 (5 ∷ []) refl refl refl

-- ---- TB of video: a slot of 1,488 ticks drains 124 bytes, so where slot 4 begins 128 of the PCR and the first packet wait
video_gate : VideoGoesIn (table_of 1488 (units_alone 112 (unit_of 60000 368 ∷ []))) (0 ∷ []) (3 ∷ 4 ∷ [])
video_gate = from_run (table_of 1488 (units_alone 112 (unit_of 60000 368 ∷ []))) (0 ∷ []) 5 0 (3 ∷ 4 ∷ []) refl refl refl

-- two slots of a tick less leave two twelfths of a byte more
video_gate_closed : VideoGoesIn (table_of 1487 (units_alone 112 (unit_of 60000 368 ∷ []))) (0 ∷ []) (3 ∷ 5 ∷ [])
video_gate_closed = from_run (table_of 1487 (units_alone 112 (unit_of 60000 368 ∷ []))) (0 ∷ []) 6 0 (3 ∷ 5 ∷ []) refl refl refl

-- ---- TB of audio: slots of 1,080 ticks drain 10 bytes, so where slot 9 begins 376 - 6 * 10 of two packets wait
abbrev three_packets : (slot : ℕ) → Table
three_packets slot =
    let packet : AudioPacket = record { due = 200000; gone = 200000; bytes = 184 } in
    table_of slot (record { vbv = 112; units = []; audios = (packet ∷ packet ∷ packet ∷ []) ∷ [] })

audio_gate : (rows : List Row) → IsSchedule (three_packets 1080) [] rows → slots_of 1 0 rows ≡ 3 ∷ 4 ∷ 9 ∷ []
audio_gate = from_run (three_packets 1080) [] 10 1 (3 ∷ 4 ∷ 9 ∷ []) refl refl refl

-- six slots of a tick less drain six times 940 subticks less
audio_gate_closed : (rows : List Row) → IsSchedule (three_packets 1079) [] rows → slots_of 1 0 rows ≡ 3 ∷ 4 ∷ 10 ∷ []
audio_gate_closed = from_run (three_packets 1079) [] 11 1 (3 ∷ 4 ∷ 10 ∷ []) refl refl refl

-- ---- MB has 239,376 - 112 * 2,048 bytes beside the greatest EB, of which 1,024 stay free; a byte of work is 13,536 subticks
mb_gate_least : mb_gate 112 ≡ 8976 * 13536
mb_gate_least = refl

-- ---- a period lasts 0.04 s: 1,063 slots of 1,016 ticks are 8 ticks too long for it, and 27 of 40,000 fill it
periods : (period 1016 ≡ 1062) × (period 40000 ≡ 27)
periods = (refl, refl)
