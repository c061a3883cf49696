-- The worked examples, computed from the definitions.
use Rattle.std.proofs.Common.{◌≡◌, ℕ, ◌*◌, ◌≤◌, ◌⊎◌, take, drop, get_or, length, map, List, [], ◌∷◌, ◌++◌, refl, ap, ◌∙◌, append_assoc, inl, inr, lit≤, arith}
use Rattle.version_table.specs.declared.table.AudioPacket.{AudioPacket}
use Rattle.version_table.specs.declared.table.ProgramRow.{ProgramRow}
use Rattle.version_table.specs.declared.table.Table.{Table}
use Rattle.stream_constants.specs.declared.decoder.TheConstants.{AUDIO_TB_SUBTICKS}
use Rattle.slot_rule.specs.declared.sent.Sent.TheVariants.{Null, Pat, Pmt, Pcr, Video as VideoPiece, Audio as AudioPiece}
use Rattle.slot_rule.specs.declared.slot_list.SlotList.{SlotList}
use Rattle.slot_rule.specs.Queues.{Audio, Video, Queue, queues_of, unit_packets, video_queue}
use Rattle.slot_rule.specs.Buffers.{Row, Reserved, Empty, tb_work}
use Rattle.slot_rule.specs.Private.IdleSlots.{FillsPeriod, idle_slots}
use Rattle.slot_rule.specs.Timetable.{period}
use Rattle.slot_rule.specs.declared.sent.Miss.{Miss}
use Rattle.slot_rule.specs.Schedule.{HasNoMissBefore, IsFirstMiss, IsFirstMissBefore, IsSchedule, IsScheduled, NoMiss}
use Rattle.slot_rule.specs.SlotList.{CarriesPacket, IsSlotList, sent_of, slots_of}
use Rattle.slot_rule.specs.SlotRun.{IsWorkAt, StillWaits, slots_apart}
use Rattle.slot_rule.proofs.CheckpointLaws.{StillWaits-before}
use Rattle.slot_rule.proofs.RuleRows.{FollowRule-front, FollowRule-nil, FollowRule-take}
use Rattle.slot_rule.proofs.RuleRun.{Run, Clean, Missed, first_rows, IsSchedule-from_run, IsFirstMiss-from_run}
use Rattle.slot_rule.proofs.RunTo.{no_miss_before}
use Rattle.slot_rule.proofs.RuleSchedules.{slots_of-same}
use Rattle.slot_rule.proofs.SlotListLaws.{IsSlotList-filled, IsSlotList-same}

-- ---- tables of 1,080 ticks a slot
abbrev table_of : List ProgramRow → Table
table_of programs = record { slot = 1080; nodes = 4; evaluations = 0; programs = programs }

-- a program with one unit, in one version
abbrev pub one_unit : (due bytes : ℕ) → ProgramRow
one_unit due bytes = record { vbv = 112; units = record { due = due; versions = record { items = record { bytes = bytes; distortion = 0 } ∷ [] } } ∷ []; audios = [] }

-- a program with no unit, and an audio stream of three full packets that are due at one time
abbrev three_packets : (due : ℕ) → ProgramRow
three_packets due =
    let packet : AudioPacket = record { due = due; gone = due; bytes = 184 } in
    record { vbv = 112; units = []; audios = (packet ∷ packet ∷ packet ∷ []) ∷ [] }

-- the rows of a run
abbrev pub rows_in : Run → List Row
rows_in (Clean rows) = rows
rows_in (Missed earlier last found) = earlier

-- a unit of 1,840 bytes that is just in time
abbrev just_in_time : Table
just_in_time = table_of (one_unit 36936 1840 ∷ [])

unit_schedule : IsSchedule just_in_time (0 ∷ []) (rows_in (first_rows just_in_time (0 ∷ []) 23))
unit_schedule = IsSchedule-from_run just_in_time (0 ∷ []) 23 (rows_in (first_rows just_in_time (0 ∷ []) 23)) refl refl

pub unit_scheduled : IsScheduled just_in_time (0 ∷ [])
unit_scheduled = (rows_in (first_rows just_in_time (0 ∷ []) 23), unit_schedule)

pub unit_slots : (rows : List Row) → IsSchedule just_in_time (0 ∷ []) rows → slots_of 0 0 rows ≡ 3 ∷ 5 ∷ 7 ∷ 9 ∷ 12 ∷ 14 ∷ 16 ∷ 18 ∷ 20 ∷ 22 ∷ []
unit_slots rows schedule = slots_of-same just_in_time (0 ∷ []) 0 rows (rows_in (first_rows just_in_time (0 ∷ []) 23)) schedule unit_schedule ∙ refl

-- one tick less, and its last packet misses
pub unit_misses : IsFirstMiss (table_of (one_unit 36935 1840 ∷ [])) (0 ∷ []) (record { stream = 0; unit = 0; slot = 22; due = 36935 })
unit_misses = IsFirstMiss-from_run (table_of (one_unit 36935 1840 ∷ [])) (0 ∷ []) 23 (record { stream = 0; unit = 0; slot = 22; due = 36935 }) refl

-- two programs with one packet each, due at one time: the lower stream goes first
abbrev two_programs : Table
two_programs = table_of (one_unit 60000 184 ∷ one_unit 60000 184 ∷ [])

two_schedule : IsSchedule two_programs (0 ∷ 0 ∷ []) (rows_in (first_rows two_programs (0 ∷ 0 ∷ []) 7))
two_schedule = IsSchedule-from_run two_programs (0 ∷ 0 ∷ []) 7 (rows_in (first_rows two_programs (0 ∷ 0 ∷ []) 7)) refl refl

pub two_scheduled : IsScheduled two_programs (0 ∷ 0 ∷ [])
two_scheduled = (rows_in (first_rows two_programs (0 ∷ 0 ∷ []) 7), two_schedule)

pub lower_slots : (rows : List Row) → IsSchedule two_programs (0 ∷ 0 ∷ []) rows → slots_of 0 0 rows ≡ 5 ∷ []
lower_slots rows schedule = slots_of-same two_programs (0 ∷ 0 ∷ []) 0 rows (rows_in (first_rows two_programs (0 ∷ 0 ∷ []) 7)) schedule two_schedule ∙ refl

pub higher_slots : (rows : List Row) → IsSchedule two_programs (0 ∷ 0 ∷ []) rows → slots_of 1 0 rows ≡ 6 ∷ []
higher_slots rows schedule = slots_of-same two_programs (0 ∷ 0 ∷ []) 1 rows (rows_in (first_rows two_programs (0 ∷ 0 ∷ []) 7)) schedule two_schedule ∙ refl

-- audio packets that the transport buffer's gate parts, the last of which is just in time
abbrev three_in_time : Table
three_in_time = table_of (three_packets 71352 ∷ [])

audio_schedule : IsSchedule three_in_time [] (rows_in (first_rows three_in_time [] 10))
audio_schedule = IsSchedule-from_run three_in_time [] 10 (rows_in (first_rows three_in_time [] 10)) refl refl

pub audio_scheduled : IsScheduled three_in_time []
audio_scheduled = (rows_in (first_rows three_in_time [] 10), audio_schedule)

pub audio_slots : (rows : List Row) → IsSchedule three_in_time [] rows → slots_of 1 0 rows ≡ 3 ∷ 4 ∷ 9 ∷ []
audio_slots rows schedule = slots_of-same three_in_time [] 1 rows (rows_in (first_rows three_in_time [] 10)) schedule audio_schedule ∙ refl

-- at slot 9 the work that waits is exactly that of 316 bytes
pub audio_work : tb_work 1080 1 Audio (take 9 (rows_in (first_rows three_in_time [] 10))) ≡ 316 * AUDIO_TB_SUBTICKS
audio_work = refl

-- one tick less, and the last of them misses
pub audio_misses : IsFirstMiss (table_of (three_packets 71351 ∷ [])) [] (record { stream = 1; unit = 2; slot = 9; due = 71351 })
audio_misses = IsFirstMiss-from_run (table_of (three_packets 71351 ∷ [])) [] 10 (record { stream = 1; unit = 2; slot = 9; due = 71351 }) refl

-- ---- the two tests of a miss in one slot
-- the packet that went in slot 5 has work before it, and the other, which is due later, can't come in time
pub went_misses_first : IsFirstMiss (table_of (one_unit 12600 184 ∷ one_unit 13679 184 ∷ [])) (0 ∷ 0 ∷ []) (record { stream = 0; unit = 0; slot = 5; due = 12600 })
went_misses_first = IsFirstMiss-from_run (table_of (one_unit 12600 184 ∷ one_unit 13679 184 ∷ [])) (0 ∷ 0 ∷ []) 6 (record { stream = 0; unit = 0; slot = 5; due = 12600 }) refl

pub went_misses_first_above : IsFirstMiss (table_of (one_unit 13679 184 ∷ one_unit 12600 184 ∷ [])) (0 ∷ 0 ∷ []) (record { stream = 1; unit = 0; slot = 5; due = 12600 })
went_misses_first_above = IsFirstMiss-from_run (table_of (one_unit 13679 184 ∷ one_unit 12600 184 ∷ [])) (0 ∷ 0 ∷ []) 6 (record { stream = 1; unit = 0; slot = 5; due = 12600 }) refl

-- ---- the lists of slots
-- a list of slots is the one that is filled up after the last sent slot, or after the first slot where nothing is sent
pub the_list : (table : Table) (choice : List ℕ) (before : List Row) (row : Row) (last : ℕ) (filled list : SlotList) → 1 ≤ period table.slot → length before ≡ last
    → IsSchedule table choice (before ++ row ∷ []) → (length before ≡ 0) ⊎ CarriesPacket row
    → FillsPeriod table.slot (length table.programs) last (map (sent_of (queues_of table choice)) (before ++ row ∷ [])) filled → IsSlotList table choice list → list ≡ filled
the_list table choice before row last filled list some last_is schedule carries fills is =
    IsSlotList-same table choice list filled is
    (IsSlotList-filled table choice before row last (map (sent_of (queues_of table choice)) (before ++ row ∷ [])) filled some last_is schedule carries refl fills)

-- ten pieces of a unit, and 1,000 slots
pub unit_list : (idle : ℕ) → idle ≡ 977 → (list : SlotList) → IsSlotList just_in_time (0 ∷ []) list
    → list ≡ record {
      slots = 1000;
      rows = (Pat ∷ Pmt 0 ∷ Pcr 0 ∷ VideoPiece 0 0 0 ∷ Null ∷ VideoPiece 0 0 1 ∷ Null ∷ VideoPiece 0 0 2 ∷ Null ∷ VideoPiece 0 0 3 ∷ Null ∷ Null
          ∷ VideoPiece 0 0 4 ∷ Null ∷ VideoPiece 0 0 5 ∷ Null ∷ VideoPiece 0 0 6 ∷ Null ∷ VideoPiece 0 0 7 ∷ Null ∷ VideoPiece 0 0 8 ∷ Null ∷ VideoPiece 0 0 9 ∷ [])
          ++ idle_slots 1080 1 23 idle;
    }
unit_list idle e list is =
    let rows = rows_in (first_rows just_in_time (0 ∷ []) 23) in
    the_list just_in_time (0 ∷ []) (take 22 rows) (get_or rows 22 Empty) 22 _ list (lit≤ tt) refl unit_schedule (inr tt)
    (record { whole = refl; idle = idle; ends = omega arith; rows_are = refl }) is

-- two programs: their tables, their PCRs, and a piece of each
pub two_list : (idle : ℕ) → idle ≡ 993 → (list : SlotList) → IsSlotList two_programs (0 ∷ 0 ∷ []) list
    → list ≡ record { slots = 1000; rows = (Pat ∷ Pmt 0 ∷ Pmt 1 ∷ Pcr 0 ∷ Pcr 1 ∷ VideoPiece 0 0 0 ∷ VideoPiece 1 0 0 ∷ []) ++ idle_slots 1080 2 7 idle }
two_list idle e list is =
    let rows = rows_in (first_rows two_programs (0 ∷ 0 ∷ []) 7) in
    the_list two_programs (0 ∷ 0 ∷ []) (take 6 rows) (get_or rows 6 Empty) 6 _ list (lit≤ tt) refl two_schedule (inr tt)
    (record { whole = refl; idle = idle; ends = omega arith; rows_are = refl }) is

-- three packets of audio
pub audio_list : (idle : ℕ) → idle ≡ 990 → (list : SlotList) → IsSlotList three_in_time [] list
    → list ≡ record { slots = 1000; rows = (Pat ∷ Pmt 0 ∷ Pcr 0 ∷ AudioPiece 1 0 ∷ AudioPiece 1 1 ∷ Null ∷ Null ∷ Null ∷ Null ∷ AudioPiece 1 2 ∷ []) ++ idle_slots 1080 1 10 idle }
audio_list idle e list is =
    let rows = rows_in (first_rows three_in_time [] 10) in
    the_list three_in_time [] (take 9 rows) (get_or rows 9 Empty) 9 _ list (lit≤ tt) refl audio_schedule (inr tt)
    (record { whole = refl; idle = idle; ends = omega arith; rows_are = refl }) is

-- where nothing is sent, one period
pub no_packets : (idle : ℕ) → idle ≡ 999 → (list : SlotList) → IsSlotList (table_of []) [] list → list ≡ record { slots = 1000; rows = (Pat ∷ []) ++ idle_slots 1080 0 1 idle }
no_packets idle e list is =
    the_list (table_of []) [] [] (Reserved Pat) 0 _ list (lit≤ tt) refl (IsSchedule-from_run (table_of []) [] 1 (Reserved Pat ∷ []) refl refl) (inl refl)
    (record { whole = refl; idle = idle; ends = omega arith; rows_are = refl }) is

-- ---- kept runs
NoMiss-front : (slot : ℕ) (queues : List Queue) (rows more : List Row) → NoMiss slot queues (rows ++ more) → NoMiss slot queues rows
NoMiss-front slot queues rows more none before row after stream packet parts =
    none before row (after ++ more) stream packet (ap (λ (list : List Row). list ++ more) parts ∙ append_assoc before (row ∷ after) more)

-- the unit's last packet goes in slot 22: a packet waits before that slot, and none after it
unit_waits : StillWaits just_in_time (0 ∷ []) 22
unit_waits =
    let rows = rows_in (first_rows just_in_time (0 ∷ []) 23) in
    record {
      rows = take 22 rows;
      many = refl;
      follows = FollowRule-take just_in_time (0 ∷ []) 22 rows unit_schedule.follows;
      in_time = NoMiss-front just_in_time.slot (queues_of just_in_time (0 ∷ [])) (take 22 rows) (drop 22 rows) unit_schedule.in_time;
      waits = λ sent. sent 0 (Video 0 112) (record { item = 0; piece = 9; payload = 184; due = 36936; gone = 36936 }) (unit_packets 0 36936 1840, refl, refl);
    }

unit_waits_no_more : StillWaits just_in_time (0 ∷ []) 23 → ⊥
unit_waits_no_more still =
    let before = StillWaits-before just_in_time (0 ∷ []) 23 (rows_in (first_rows just_in_time (0 ∷ []) 23)) unit_schedule still in
    let many : length (rows_in (first_rows just_in_time (0 ∷ []) 23)) ≡ 23 = refl in
    omega (arith, before, many)

-- 1,024 checkpoints 4,096 slots apart suffice where the last slot that begins before the latest due time is 4,194,303, and not where it is the next
apart_at_4194303 : slots_apart (table_of (one_unit 4529848320 1 ∷ [])) ≡ 4096
apart_at_4194303 = refl

apart_at_4194304 : slots_apart (table_of (one_unit 4529848321 1 ∷ [])) ≡ 8192
apart_at_4194304 = refl

-- the latest due time may be that of an audio packet, and a table without packets has one of 0
apart_of_audio : slots_apart (table_of (one_unit 10 1 ∷ three_packets 9059696641 ∷ [])) ≡ 12288
apart_of_audio = refl

apart_of_none : slots_apart (table_of []) ≡ 4096
apart_of_none = refl

-- ---- runs up to a slot
-- a miss in slot 22 is found before slot 23, and nothing misses before slot 22
abbrev one_tick_less : Table
one_tick_less = table_of (one_unit 36935 1840 ∷ [])

missed_before_23 : IsFirstMissBefore one_tick_less (0 ∷ []) 23 (record { stream = 0; unit = 0; slot = 22; due = 36935 })
missed_before_23 = (unit_misses, lit≤ tt)

none_missed_before_22 : HasNoMissBefore one_tick_less (0 ∷ []) 22
none_missed_before_22 =
    let first = unit_misses in
    inr (first.earlier, omega (arith, first.slot_is), FollowRule-front one_tick_less (0 ∷ []) first.earlier (first.last ∷ []) first.follows, first.in_time)

not_missed_before_22 : (miss : Miss) → IsFirstMissBefore one_tick_less (0 ∷ []) 22 miss → ⊥
not_missed_before_22 miss = no_miss_before one_tick_less (0 ∷ []) 22 miss none_missed_before_22

-- before the first slot no work waits
pub unit_work_first : IsWorkAt just_in_time (0 ∷ []) 0 0 (0, 0)
unit_work_first = record { rows = []; many = refl; follows = FollowRule-nil just_in_time (0 ∷ []); queue = video_queue 0 (one_unit 36936 1840) (0 ∷ []); queue_is = refl; work_is = refl }

-- where slot 4 begins, the PCR of slot 2 and the packet of slot 3 have come, 376 bytes of 11,280 subticks, and two slots of
-- 1,015,200 have drained them; one has drained the payload of 184 bytes of 13,536
pub unit_work_later : IsWorkAt just_in_time (0 ∷ []) 4 0 (2210880, 1475424)
unit_work_later =
    let rows = rows_in (first_rows just_in_time (0 ∷ []) 23) in
    record {
      rows = take 4 rows;
      many = refl;
      follows = FollowRule-take just_in_time (0 ∷ []) 4 rows unit_schedule.follows;
      queue = video_queue 0 (one_unit 36936 1840) (0 ∷ []);
      queue_is = refl;
      work_is = refl;
    }
