-- No packet is due after the latest due time of its table, and so none waits after the last slot that begins before it.
use Rattle.std.proofs.Common.{◌≡◌, ℕ, zero, suc, ◌+◌, ◌-◌, ◌*◌, ◌<◌, ◌≤◌, List, [], ◌∷◌, ◌++◌, length, map, drop, fold, max, All, sym, ap, subst, ◌∙◌, inl, inr, arith}
use Rattle.std.specs.Prelude.{count_by, slice_get, Some}
use Rattle.std.specs.List.{flat_map, zip, enumerate_from}
use Rattle.std.proofs.lemmas.Bool.{cases_lt}
use Rattle.std.proofs.lemmas.Nat.{le-div}
use Rattle.std.proofs.Math.Nat.{div-lt_iff_lt-mul, lt_of_mul-lt-mul_left, mul-add, mul-one}
use Rattle.std.proofs.lemmas.List.Elements.{All-nil, All-cons, All-head, All-tail, All-append, All-map, All-weaker}
use Rattle.version_table.specs.declared.limits.TheConstants.{TIME_SLOTS_MOST}
use Rattle.version_table.specs.declared.table.AudioPacket.{AudioPacket}
use Rattle.version_table.specs.declared.table.ProgramRow.{ProgramRow}
use Rattle.version_table.specs.declared.table.Table.{Table}
use Rattle.version_table.specs.declared.table.Unit.{Unit as CodedUnit}
use Rattle.version_table.specs.Choice.{version_at}
use Rattle.version_table.specs.Table.{IsValidAudio, IsValidPacket, IsValidProgram, IsValidTable, IsValidUnit, audio_packets_of, greatest, units_of}
use Rattle.version_table.proofs.ValidUnits.{All-flat_map, valid_units}
use Rattle.slot_rule.specs.declared.checkpoints.TheConstants.{CHECKPOINTS_MOST}
use Rattle.slot_rule.specs.Buffers.{Row, is_of}
use Rattle.slot_rule.specs.Queues.{QueuedPacket, Queue, audio_of, payloads, queues_from, queues_of, unit_packets, video_queue}
use Rattle.slot_rule.specs.Schedule.{AllSent, FollowRule, NoMiss, Overdue}
use Rattle.slot_rule.specs.SlotRun.{StillWaits, last_begun, latest_due, slots_apart}
use Rattle.slot_rule.proofs.Places.{All-at_place}
use Rattle.slot_rule.proofs.RuleEnd.{Misses-from_overdue}
use Rattle.slot_rule.proofs.RuleFronts.{last_cases}
use Rattle.slot_rule.proofs.RuleRows.{FollowRule-last, NoMiss-last}

-- ---- the greatest of some numbers
fold-max-start : (a : ℕ) (xs : List ℕ) → a ≤ fold max a xs
fold-max-start a [] = omega arith
fold-max-start a (x ∷ xs) = omega (arith, fold-max-start (max a x) xs)

greatest-by : {X : Type 0} (f : X → ℕ) (a : ℕ) (xs : List X) → All (λ x. f x ≤ fold max a (map f xs)) xs
greatest-by f a [] = All-nil (λ x. f x ≤ fold max a [])
greatest-by f a (x ∷ xs) =
    All-cons (λ y. f y ≤ fold max a (map f (x ∷ xs))) x xs (omega (arith, fold-max-start (max a (f x)) (map f xs))) (greatest-by f (max a (f x)) xs)

-- what holds of each item of two lists holds of each of the first, and of the second
All-front : {X : Type 0} (P : X → Type 0) (xs ys : List X) → All P (xs ++ ys) → All P xs
All-front P [] ys each = All-nil P
All-front P (x ∷ xs) ys each = All-cons P x xs (All-head P x (xs ++ ys) each) (All-front P xs ys (All-tail P x (xs ++ ys) each))

All-behind : {X : Type 0} (P : X → Type 0) (xs ys : List X) → All P (xs ++ ys) → All P ys
All-behind P [] ys each = each
All-behind P (x ∷ xs) ys each = All-behind P xs ys (All-tail P x (xs ++ ys) each)

-- ---- packets are due by a time where what they are of is
abbrev IsDueBy : ℕ → QueuedPacket → Type 0
IsDueBy latest packet = packet.due ≤ latest

unit-by : (latest item due bytes : ℕ) → due ≤ latest → All (IsDueBy latest) (unit_packets item due bytes)
unit-by latest item due bytes within = All-map (IsDueBy latest) _ (enumerate_from 0 (payloads bytes)) (λ i d inside. within)

video-by : (latest n : ℕ) (units : List CodedUnit) (choice : List ℕ) → All (λ unit. unit.due ≤ latest) units
    → All (IsDueBy latest) (flat_map (λ (item, (unit, k)). unit_packets item unit.due (version_at unit k).bytes) (enumerate_from n (zip units choice)))
video-by latest n [] choice each = All-nil (IsDueBy latest)
video-by latest n (unit ∷ units) [] each = All-nil (IsDueBy latest)
video-by latest n (unit ∷ units) (k ∷ choice) each =
    All-append (IsDueBy latest) (unit_packets n unit.due (version_at unit k).bytes) _
    (unit-by latest n unit.due (version_at unit k).bytes (All-head (λ (u : CodedUnit). u.due ≤ latest) unit units each))
    (video-by latest (n + 1) units choice (All-tail (λ (u : CodedUnit). u.due ≤ latest) unit units each))

numbered-by : (latest n : ℕ) (packets : List AudioPacket) → All (λ packet. packet.due ≤ latest) packets → All (λ (x : ℕ × AudioPacket). x.1.due ≤ latest) (enumerate_from n packets)
numbered-by latest n [] each = All-nil (λ (x : ℕ × AudioPacket). x.1.due ≤ latest)
numbered-by latest n (packet ∷ packets) each =
    All-cons (λ (x : ℕ × AudioPacket). x.1.due ≤ latest) (n, packet) _ (All-head (λ (p : AudioPacket). p.due ≤ latest) packet packets each)
    (numbered-by latest (n + 1) packets (All-tail (λ (p : AudioPacket). p.due ≤ latest) packet packets each))

-- a queue whose packets are due by a time
abbrev IsQueueBy : ℕ → Queue → Type 0
IsQueueBy latest queue = All (IsDueBy latest) queue.packets

audios-by : (latest : ℕ) (audios : List (List AudioPacket)) → All (λ packet. packet.due ≤ latest) (flat_map (λ packets. packets) audios) → All (IsQueueBy latest) (map audio_of audios)
audios-by latest [] each = All-nil (IsQueueBy latest)
audios-by latest (packets ∷ audios) each =
    let due = λ (p : AudioPacket). p.due ≤ latest in
    let others = flat_map (λ (packets : List AudioPacket). packets) audios in
    All-cons (IsQueueBy latest) (audio_of packets) (map audio_of audios)
    (All-map (IsDueBy latest) _ (enumerate_from 0 packets) (numbered-by latest 0 packets (All-front due packets others each)))
    (audios-by latest audios (All-behind due packets others each))

queues-by : (latest program : ℕ) (rows : List ProgramRow) (choice : List ℕ) → All (λ unit. unit.due ≤ latest) (flat_map (λ row. row.units) rows)
    → All (λ packet. packet.due ≤ latest) (flat_map (λ row. flat_map (λ packets. packets) row.audios) rows) → All (IsQueueBy latest) (queues_from program rows choice)
queues-by latest program [] choice units packets = All-nil (IsQueueBy latest)
queues-by latest program (row ∷ rows) choice units packets =
    let unit_due = λ (u : CodedUnit). u.due ≤ latest in
    let packet_due = λ (p : AudioPacket). p.due ≤ latest in
    let own = flat_map (λ (ps : List AudioPacket). ps) row.audios in
    let others = flat_map (λ (r : ProgramRow). flat_map (λ (ps : List AudioPacket). ps) r.audios) rows in
    let more = flat_map (λ (r : ProgramRow). r.units) rows in
    All-append (IsQueueBy latest) (video_queue program row choice ∷ map audio_of row.audios) (queues_from (program + 1) rows (drop (length row.units) choice))
    (All-cons (IsQueueBy latest) (video_queue program row choice) (map audio_of row.audios)
    (video-by latest 0 row.units choice (All-front unit_due row.units more units)) (audios-by latest row.audios (All-front packet_due own others packets)))
    (queues-by latest (program + 1) rows (drop (length row.units) choice) (All-behind unit_due row.units more units) (All-behind packet_due own others packets))

-- no packet of a table is due after the latest due time
pub due-by_latest : (table : Table) (choice : List ℕ) (stream : ℕ) (queue : Queue) (k : ℕ) (packet : QueuedPacket)
    → slice_get (queues_of table choice) stream ≡ Some queue → slice_get queue.packets k ≡ Some packet → packet.due ≤ latest_due table
due-by_latest table choice stream queue k packet there at =
    let due = λ (u : CodedUnit). u.due in
    let packet_due = λ (p : AudioPacket). p.due in
    let units = All-weaker (λ u. u.due ≤ greatest (map due (units_of table))) (λ u. u.due ≤ latest_due table) (λ u le. omega (arith, le)) (units_of table) (greatest-by due 0 (units_of table)) in
    let packets = All-weaker (λ p. p.due ≤ greatest (map packet_due (audio_packets_of table))) (λ p. p.due ≤ latest_due table) (λ p le. omega (arith, le))
    (audio_packets_of table) (greatest-by packet_due 0 (audio_packets_of table)) in
    let all = queues-by (latest_due table) 0 table.programs choice units packets in
    All-at_place (IsDueBy (latest_due table)) queue.packets (All-at_place (IsQueueBy (latest_due table)) (queues_of table choice) all stream queue there) k packet at

-- ---- how far a packet can wait
-- where nothing misses up to the latest due time, all is sent
pub AllSent-past : (table : Table) (choice : List ℕ) (rows : List Row) → FollowRule table choice rows → NoMiss table.slot (queues_of table choice) rows → 1 ≤ length rows
    → latest_due table ≤ length rows * table.slot → AllSent (queues_of table choice) rows
AllSent-past table choice rows follows none some late stream kind packet head =
    elim (last_cases rows) as (λ _. ⊥) [
      | inl empty ↦ (let size : length rows ≡ 0 = ap length empty in omega (arith, size, some))
      | inr parts ↦
          (let due : packet.due ≤ latest_due table = due-by_latest table choice stream (record { kind = kind; packets = head.0 }) (count_by (is_of stream) rows) packet head.1 head.2 in
          let over : Overdue table.slot (queues_of table choice) rows stream packet = record { kind = kind; head = head; late = omega (arith, due, late) } in
          let follows' : FollowRule table choice (parts.0 ++ parts.1 ∷ []) = subst (λ (list : List Row). FollowRule table choice list) parts.2 follows in
          let none' : NoMiss table.slot (queues_of table choice) (parts.0 ++ parts.1 ∷ []) = subst (λ (list : List Row). NoMiss table.slot (queues_of table choice) list) parts.2 none in
          let found = Misses-from_overdue table.slot (length table.programs) (queues_of table choice) parts.0 parts.1 stream packet (FollowRule-last table choice parts.0 parts.1 follows')
          (subst (λ (list : List Row). Overdue table.slot (queues_of table choice) list stream packet) parts.2 over) in
          NoMiss-last table.slot (queues_of table choice) parts.0 parts.1 none' found.0.0 found.0.1 found.1)
    ]

-- a packet waits no later than for the last slot that begins before the latest due time
pub waits-by : (table : Table) (choice : List ℕ) (n : ℕ) → IsValidTable table → StillWaits table choice n → n ≤ last_begun table
waits-by table choice n valid still =
    elim (cases_lt 0 n) as (λ _. n ≤ last_begun table) [
      | inl some ↦
          elim (cases_lt (n * table.slot) (latest_due table)) as (λ _. n ≤ last_begun table) [
            | inl early ↦ le-div n (latest_due table - 1) table.slot (omega (arith, valid.slot_least)) (omega (arith, early))
            | inr past ↦
                (let long : length still.rows * table.slot ≡ n * table.slot = ap (λ (m : ℕ). m * table.slot) still.many in
                absurd (still.waits (AllSent-past table choice still.rows still.follows still.in_time (omega (arith, some, still.many)) (omega (arith, past, long)))))
          ]
      | inr none ↦ omega (arith, none)
    ]

-- ---- the distance
dues-most : (slot : ℕ) (units : List CodedUnit) (a : ℕ) → All (IsValidUnit slot) units → a ≤ TIME_SLOTS_MOST * slot → fold max a (map (λ unit. unit.due) units) ≤ TIME_SLOTS_MOST * slot
dues-most slot [] a each start = start
dues-most slot (unit ∷ units) a each start =
    let here = (All-head (IsValidUnit slot) unit units each).due in
    dues-most slot units (max a unit.due) (All-tail (IsValidUnit slot) unit units each) (omega (arith, start, here))

packets-most : (slot : ℕ) (packets : List AudioPacket) (a : ℕ) → All (IsValidPacket slot) packets → a ≤ TIME_SLOTS_MOST * slot
    → fold max a (map (λ packet. packet.due) packets) ≤ TIME_SLOTS_MOST * slot
packets-most slot [] a each start = start
packets-most slot (packet ∷ packets) a each start =
    let here = All-head (IsValidPacket slot) packet packets each in
    packets-most slot packets (max a packet.due) (All-tail (IsValidPacket slot) packet packets each) (omega (arith, start, here.due, here.gone))

audio_valid : (slot : ℕ) (audios : List (List AudioPacket)) → All (IsValidAudio slot) audios → All (IsValidPacket slot) (flat_map (λ packets. packets) audios)
audio_valid slot audios each =
    All-flat_map (IsValidPacket slot) (λ packets. packets) audios
    (All-weaker (IsValidAudio slot) (λ packets. All (IsValidPacket slot) packets) (λ packets h. h.each) audios each)

all_audio_valid : (table : Table) → IsValidTable table → All (IsValidPacket table.slot) (audio_packets_of table)
all_audio_valid table valid =
    All-flat_map (IsValidPacket table.slot) (λ program. flat_map (λ packets. packets) program.audios) table.programs
    (All-weaker (IsValidProgram table.slot) (λ program. All (IsValidPacket table.slot) (flat_map (λ packets. packets) program.audios))
    (λ program h. audio_valid table.slot program.audios h.audios) table.programs valid.programs)

pub begun-most : (table : Table) → IsValidTable table → last_begun table < TIME_SLOTS_MOST
begun-most table valid =
    let units = dues-most table.slot (units_of table) 0 (valid_units table valid) (omega arith) in
    let packets = packets-most table.slot (audio_packets_of table) 0 (all_audio_valid table valid) (omega arith) in
    let some : 0 < TIME_SLOTS_MOST * table.slot = omega (arith, valid.slot_least) in
    let below : latest_due table - 1 < TIME_SLOTS_MOST * table.slot = omega (arith, units, packets, some) in
    (div-lt_iff_lt-mul {k = table.slot} {x = latest_due table - 1} {y = TIME_SLOTS_MOST} (omega (arith, valid.slot_least))).1 below

-- the distance is some, and so many checkpoints come as far as a table can, and no further
pub apart-some : (table : Table) → 1 ≤ slots_apart table
apart-some table = omega arith

pub apart-most : (table : Table) → IsValidTable table → slots_apart table ≤ 2097152
apart-most table valid = omega (arith, begun-most table valid)

pub apart-enough : (table : Table) → last_begun table < slots_apart table * CHECKPOINTS_MOST
apart-enough table = omega arith

-- ---- places of checkpoints
pub next_place : (d n : ℕ) → 1 ≤ n → d * (n - 1) + d ≡ d * n
next_place d (suc n) some = let less : suc n - 1 ≡ n = omega arith in let one : suc n ≡ n + 1 = omega arith in
    ap (λ m. d * m + d) less ∙ sym (ap (λ m. d * m) one ∙ mul-add d n 1 ∙ ap (λ m. d * n + m) (mul-one d))
next_place d zero some = absurd (omega (arith, some))

pub place_below : (d a b : ℕ) → d * a < d * b → a < b
place_below d a b below = lt_of_mul-lt-mul_left d {m = a} {n = b} below

-- a packet waits only before 1,024 times the distance
pub waits-few : (table : Table) (choice : List ℕ) (k : ℕ) → IsValidTable table → StillWaits table choice (slots_apart table * k) → k < CHECKPOINTS_MOST
waits-few table choice k valid still =
    let by = waits-by table choice (slots_apart table * k) valid still in
    place_below (slots_apart table) k CHECKPOINTS_MOST (omega (arith, by, apart-enough table))
