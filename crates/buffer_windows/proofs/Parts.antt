-- What is counted of one stream's packets: before the window's first slot, in its slots, and behind its tail.
use Rattle.std.proofs.Common.{◌≡◌, ℕ, zero, suc, ◌+◌, ◌-◌, ◌*◌, ◌/◌, ◌<◌, ◌≤◌, Bool, true, false, cond, ne_eqb, nat_le, nat_lt, ◌==◌, ◌&&◌, ◌||◌, All, List, [], ◌∷◌, ◌++◌, length, map, max, fold, filter, get_or, take, drop, count_by, sum_by, slice_get, Some, refl, sym, ap, append_assoc, subst, ◌∙◌, inl, inr, lt-ltb, le-ltb, length-take, length-drop, mul-le-mul_right, arith}
use Rattle.std.proofs.lemmas.Bool.{cases_Bool, cases_lt, and_parts, and_left, and_right, or_from, cond-true, lt-leb, le-leb, ltb-true, false≢true}
use Rattle.std.proofs.lemmas.List.{length-append, take-append-drop, take_all}
use Rattle.std.proofs.lemmas.List.Concat.{flat_map-append}
use Rattle.std.proofs.lemmas.List.Elements.{All-weaker}
use Rattle.std.proofs.lemmas.List.Sums.{sum_by-append, length-filter}
use Rattle.std.proofs.lemmas.Nat.{le-div}
use Rattle.std.proofs.lemmas.Option.{slice_get_cases}
use Rattle.stream_constants.specs.declared.clock.TheConstants.{SUBTICKS_PER_TICK}
use Rattle.stream_constants.specs.declared.decoder.TheConstants.{AUDIO_BYTES, EB_UNIT_BYTES, MB_SUBTICKS}
use Rattle.stream_constants.specs.declared.packets.TheConstants.{PAYLOAD_BYTES}
use Rattle.version_table.specs.declared.table.AudioPacket.{AudioPacket}
use Rattle.version_table.specs.declared.table.ProgramRow.{ProgramRow}
use Rattle.version_table.specs.declared.table.Table.{Table}
use Rattle.version_table.specs.declared.table.Unit.{Unit as CodedUnit}
use Rattle.version_table.specs.Table.{IsValidAudio, IsValidPacket}
use Rattle.slot_rule.specs.declared.queue_kind.QueueKind.TheVariants.{Video, Audio}
use Rattle.slot_rule.specs.declared.queued_packet.QueuedPacket.{QueuedPacket}
use Rattle.slot_rule.specs.declared.row.Row.{Row}
use Rattle.slot_rule.specs.Buffers.{is_of, outstanding}
use Rattle.slot_rule.specs.Queues.{Queue, audio_of, queues_of}
use Rattle.slot_rule.specs.Schedule.{FollowRule, IsSchedule, NoMiss}
use Rattle.slot_rule.proofs.RuleRows.{FollowRule-take}
use Rattle.slot_rule.proofs.RuleSent.{FollowRule-sent, SentFirst, packet_of, packets_sent, payload_after, outstanding-sent}
use Rattle.slot_rule.proofs.RuleVideo.{HasSizes, packets_from, packets_from-each}
use Rattle.dual_bounds.specs.declared.constants.TheConstants.{MARGIN_TICKS}
use Rattle.buffer_windows.specs.declared.windows.BufferWindow.{BufferWindow}
use Rattle.buffer_windows.specs.Room.{counted_eb_bytes as eb_bytes, is_counted, last_due, longest_before, mb_bytes, slots_taken}
use Rattle.buffer_windows.specs.Windows.{counts_buffer, is_fresh, is_held, latest, stop}
use Rattle.buffer_windows.proofs.AudioBefore.{bytes_after, front_fits, is_late}
use Rattle.buffer_windows.proofs.Held.{held_fits}
use Rattle.buffer_windows.proofs.Rows.{EachFrom, EachFrom-drop, EachFrom-take, Stands, StandsIn, sum_of_none, sums_le}
use Rattle.buffer_windows.proofs.Tail.{Gives, bytes_by, payload_by, tail_gives}
use Rattle.buffer_windows.proofs.Weights.{audio_counted, audio_weight, counted_due, numbered, pick, sum-numbered, take-numbered, video_weight}

-- ---- the rows of a window
-- the rows before its first slot
abbrev pub rows_before : BufferWindow → List Row → List Row
rows_before window rows = take window.first rows

-- the rows of its slots
abbrev pub rows_inside : BufferWindow → List Row → List Row
rows_inside window rows = take (window.tail - window.first) (drop window.first rows)

-- the rows from its tail on
abbrev pub rows_behind : BufferWindow → List Row → List Row
rows_behind window rows = drop (window.tail - window.first) (drop window.first rows)

rows_split : (window : BufferWindow) (rows : List Row) → rows ≡ rows_before window rows ++ (rows_inside window rows ++ rows_behind window rows)
rows_split window rows =
    sym (take-append-drop window.first rows) ∙ ap (λ rest. take window.first rows ++ rest) (sym (take-append-drop (window.tail - window.first) (drop window.first rows)))

-- where all is sent, a queue's packets in the rows are all that it has
pub all_sent : (table : Table) (choice : List ℕ) (rows : List Row) → IsSchedule table choice rows
    → (stream : ℕ) (queue : Queue) → slice_get (queues_of table choice) stream ≡ Some queue → queue.packets ≡ packets_sent stream rows
all_sent table choice rows schedule stream queue got =
    let first = FollowRule-sent table choice stream queue.kind queue.packets got rows schedule.follows in
    let long : length queue.packets ≤ count_by (is_of stream) rows = elim (slice_get_cases queue.packets (count_by (is_of stream) rows)).1 as (λ _. length queue.packets ≤
    count_by (is_of stream) rows) [
      | inl at ↦ absurd (schedule.sent stream queue.kind at.0 (queue.packets, got, at.2))
      | inr past ↦ past.0
    ] in
    sym (first.1 ∙ take_all (count_by (is_of stream) rows) queue.packets long)

-- what is counted of a queue's packets: before the window, in its slots and behind its tail
in_three : (table : Table) (choice : List ℕ) (rows : List Row) (window : BufferWindow) (weight : QueuedPacket → ℕ) → IsSchedule table choice rows
    → (stream : ℕ) (queue : Queue) → slice_get (queues_of table choice) stream ≡ Some queue
    → sum_by weight queue.packets ≡ sum_by weight (packets_sent stream (rows_before window rows))
    + (sum_by weight (packets_sent stream (rows_inside window rows)) + sum_by weight (packets_sent stream (rows_behind window rows)))
in_three table choice rows window weight schedule stream queue got =
    let early = rows_before window rows in
    let inside = rows_inside window rows in
    let late = rows_behind window rows in
    let sent = packets_sent stream in
    let halves : packets_sent stream rows ≡ packets_sent stream early ++ (packets_sent stream inside ++ packets_sent stream late) =
    ap (packets_sent stream) (rows_split window rows) ∙ flat_map-append (packet_of stream) early (inside ++ late)
    ∙ ap (λ rest. packets_sent stream early ++ rest) (flat_map-append (packet_of stream) inside late) in
    omega (
      arith,
      ap (sum_by weight) (all_sent table choice rows schedule stream queue got ∙ halves),
      sum_by-append weight (packets_sent stream early) (packets_sent stream inside ++ packets_sent stream late),
      sum_by-append weight (packets_sent stream inside) (packets_sent stream late),
    )

-- ---- before the window's first slot
-- what goes there is gone by the latest time
gone_by : (table : Table) (window : BufferWindow) (k : ℕ) (packet : QueuedPacket) → k < window.first → StandsIn table k packet → packet.gone ≤ latest table.slot window
gone_by table window k packet below stands =
    let fewer : k * table.slot ≤ (window.first - 1) * table.slot = mul-le-mul_right table.slot (omega arith) in
    omega (arith, stands.hold)

pick-held : (within fresh in_time held : Bool) (whole bytes most : ℕ) → fresh ≡ false → (held ≡ true → bytes ≤ most) → pick within fresh in_time held whole bytes ≤ most
pick-held false fresh in_time held whole bytes most e le = omega arith
pick-held true true in_time held whole bytes most e le = absurd (false≢true (sym e))
pick-held true false in_time true whole bytes most e le = le refl
pick-held true false in_time false whole bytes most e le = omega arith

-- the payload of a packet that is still held when the first slot begins, where the window counts its buffer
abbrev counted_payload : (slot : ℕ) → BufferWindow → (program : ℕ) → QueuedPacket → ℕ
counted_payload slot window program packet = cond (nat_lt 0 window.first && counts_buffer window program) (payload_after (window.first * slot) packet) 0

early_weight : (table : Table) (window : BufferWindow) (program k : ℕ) (packet : QueuedPacket) → k < window.first → StandsIn table k packet
    → video_weight table.slot window program packet ≤ counted_payload table.slot window program packet
early_weight table window program k packet below stands =
    let slot = table.slot in
    let gone : packet.gone ≤ latest table.slot window = gone_by table window k packet below stands in
    let fresh : is_fresh table.slot window packet.due ≡ false =
    or_from (window.first == 0) (nat_lt (latest table.slot window) packet.due) (ne_eqb window.first 0 (λ e. absurd (omega arith)))
    (le-ltb (latest table.slot window) packet.due (omega (arith, stands.limited.due))) in
    pick-held (nat_le packet.due window.due) (is_fresh slot window packet.due) (nat_le (stop slot packet.due) window.tail) (is_held slot window program packet.due) PAYLOAD_BYTES packet.payload
    (counted_payload slot window program packet) fresh
    (λ e.
    let counts = nat_lt 0 window.first && counts_buffer window program in
    let after = nat_lt (window.first * table.slot) packet.due in
    let parts = and_parts (counts && after) (nat_le packet.due (latest table.slot window)) e in
    let both = and_parts counts after parts.0 in
    let later : window.first * table.slot < packet.gone = omega (arith, ltb-true (window.first * table.slot) packet.due both.1, stands.limited.due) in
    let whole : payload_after (window.first * table.slot) packet ≡ packet.payload = rw (lt-ltb (window.first * table.slot) packet.gone later) refl in
    let is : counted_payload table.slot window program packet ≡ packet.payload =
    cond-true (nat_lt 0 window.first && counts_buffer window program) (payload_after (window.first * table.slot) packet) 0 both.0 ∙ whole in
    omega (arith, is))

rows_before-short : (window : BufferWindow) (rows : List Row) → length (rows_before window rows) ≤ window.first
rows_before-short window rows = rw length-take (omega arith)

-- what is counted of a program's packets before the window is in its elementary buffer, where the window counts that
video_before : (table : Table) (choice : List ℕ) (rows : List Row) (window : BufferWindow) (program stream : ℕ) (row : ProgramRow) (packets : List QueuedPacket)
    → IsSchedule table choice rows → EachFrom (Stands table) 0 rows → slice_get (queues_of table choice) stream ≡ Some (record { kind = Video program row.vbv; packets = packets })
    → sum_by (video_weight table.slot window program) (packets_sent stream (rows_before window rows)) ≤ eb_bytes window program row
video_before table choice rows window program stream row packets schedule stands got =
    let early = rows_before window rows in
    let counts = nat_lt 0 window.first && counts_buffer window program in
    let short : length (rows_before window rows) ≤ window.first = rows_before-short window rows in
    let each : EachFrom (Stands table) 0 (rows_before window rows) = EachFrom-take (Stands table) 0 window.first rows stands in
    let paid : sum_by (video_weight table.slot window program) (packets_sent stream (rows_before window rows))
    ≤ sum_by (counted_payload table.slot window program) (packets_sent stream (rows_before window rows)) =
    sums_le table (video_weight table.slot window program) (counted_payload table.slot window program) stream 0 early
    (λ k packet low high at. early_weight table window program k packet (omega arith) at) each in
    let begun : length (rows_before window rows) * table.slot ≤ window.first * table.slot = mul-le-mul_right table.slot short in
    let held : outstanding stream (window.first * table.slot) (rows_before window rows) ≤ EB_UNIT_BYTES * row.vbv =
    held_fits table choice stream (Video program row.vbv) packets (window.first * table.slot) got early (FollowRule-take table choice window.first rows schedule.follows) begun in
    elim (cases_Bool counts) as (λ _. sum_by (video_weight table.slot window program) (packets_sent stream (rows_before window rows)) ≤ eb_bytes window program row) [
      | inl yes_is ↦
          (let sums : sum_by (counted_payload table.slot window program) (packets_sent stream (rows_before window rows)) ≤ EB_UNIT_BYTES * row.vbv =
          rw yes_is (omega (arith, held, outstanding-sent stream (window.first * table.slot) (rows_before window rows))) in
          let counted : eb_bytes window program row ≡ EB_UNIT_BYTES * row.vbv =
          cond-true (nat_lt 0 window.first && counts_buffer window program) (EB_UNIT_BYTES * row.vbv) 0 yes_is in
          omega (arith, paid, sums, counted))
      | inr no_is ↦
          (let sums : sum_by (counted_payload table.slot window program) (packets_sent stream (rows_before window rows)) ≤ 0 =
          rw no_is (omega (arith, sum_of_none (packets_sent stream (rows_before window rows)))) in
          omega (arith, paid, sums))
    ]

-- ---- behind the tail
pick-late : (within fresh in_time held : Bool) (whole bytes : ℕ) → in_time ≡ false → pick within fresh in_time held whole bytes ≤ cond within bytes 0
pick-late false fresh in_time held whole bytes e = omega arith
pick-late true true true held whole bytes e = absurd (false≢true (sym e))
pick-late true true false held whole bytes e = omega arith
pick-late true false in_time true whole bytes e = omega arith
pick-late true false in_time false whole bytes e = omega arith

-- a packet that goes behind the tail is due later than what ends by it
stops_behind : (table : Table) (window : BufferWindow) (k : ℕ) (packet : QueuedPacket) → 0 < table.slot → window.tail ≤ k → StandsIn table k packet → window.tail < stop table.slot packet.due
stops_behind table window k packet some behind stands =
    let below : k + 1 ≤ stop table.slot packet.due = le-div (k + 1) (packet.due - MARGIN_TICKS) table.slot some (omega (arith, stands.in_time)) in omega arith

late_weight : (table : Table) (window : BufferWindow) (program k : ℕ) (packet : QueuedPacket) → 0 < table.slot → window.tail ≤ k → StandsIn table k packet
    → video_weight table.slot window program packet ≤ payload_by window.due packet
late_weight table window program k packet some behind stands =
    pick-late (nat_le packet.due window.due) (is_fresh table.slot window packet.due) (nat_le (stop table.slot packet.due) window.tail) (is_held table.slot window program packet.due) PAYLOAD_BYTES
    packet.payload (lt-leb (stop table.slot packet.due) window.tail (stops_behind table window k packet some behind stands))

-- the greatest of some numbers is at least the first, and each that passes
fold_max-from : (from : ℕ) (numbers : List ℕ) → from ≤ fold max from numbers
fold_max-from from [] = omega arith
fold_max-from from (n ∷ numbers) = omega (arith, fold_max-from (max from n) numbers)

last_due-from : (due from : ℕ) (units : List CodedUnit) (n : ℕ) (d : CodedUnit) → n < length units → (get_or units n d).due ≤ due
    → (get_or units n d).due ≤ fold max from (filter (λ time. nat_le time due) (map (λ (unit : CodedUnit). unit.due) units))
last_due-from due from [] n d within upto = absurd (omega arith)
last_due-from due from (unit ∷ units) zero d within upto =
    rw (le-leb unit.due due upto) (omega (arith, fold_max-from (max from unit.due) (filter (λ time. nat_le time due) (map (λ (u : CodedUnit). u.due) units))))
last_due-from due from (unit ∷ units) (suc n) d within upto =
    elim (cases_Bool (nat_le unit.due due)) as (λ _. (get_or units n d).due ≤ fold max from (filter (λ time. nat_le time due) (map (λ (u : CodedUnit). u.due) (unit ∷ units)))) [
      | inl yes_is ↦ rw yes_is (last_due-from due (max from unit.due) units n d (omega arith) upto)
      | inr no_is ↦ rw no_is (last_due-from due from units n d (omega arith) upto)
    ]

-- the packets of a program that are due in the window are due no later than its last due time there
upto_last : (window : BufferWindow) (row : ProgramRow) (part : List ℕ) → HasSizes row.units part
    → All (λ packet. packet.due ≤ window.due → packet.due ≤ last_due window row) (packets_from 0 row.units part)
upto_last window row part sizes =
    packets_from-each (λ packet. packet.due ≤ window.due → packet.due ≤ last_due window row) 0 row.units part sizes
    (λ n d packet within of_unit small upto. omega (arith, of_unit.due_is, last_due-from window.due 0 row.units n d within (omega (arith, of_unit.due_is))))

none_left : {X : Type 0} (xs : List X) → length xs ≤ 0 → xs ≡ []
none_left [] few = refl
none_left (x ∷ xs) few = absurd (omega arith)

gives-le : (slot : ℕ) (window : BufferWindow) (row : ProgramRow) (bytes : ℕ) → Gives slot (last_due window row) window.tail bytes → bytes ≤ mb_bytes slot window row
gives-le slot window row bytes (inl none) = omega (arith, none)
gives-le slot window row bytes (inr (later, most)) =
    let last = last_due window row in
    let given : bytes ≤ SUBTICKS_PER_TICK * (last_due window row - MARGIN_TICKS - window.tail * slot) / MB_SUBTICKS =
    le-div bytes (SUBTICKS_PER_TICK * (last_due window row - MARGIN_TICKS - window.tail * slot)) MB_SUBTICKS (omega arith) (omega (arith, most)) in
    rw (lt-ltb window.tail (stop slot (last_due window row)) later) given

-- what is counted of a program's packets behind the tail is no more than its MB can give
video_behind : (table : Table) (choice : List ℕ) (rows : List Row) (window : BufferWindow) (program stream : ℕ) (row : ProgramRow) (part : List ℕ) → 0 < table.slot
    → HasSizes row.units part → IsSchedule table choice rows → EachFrom (Stands table) 0 rows
    → slice_get (queues_of table choice) stream ≡ Some (record { kind = Video program row.vbv; packets = packets_from 0 row.units part })
    → sum_by (video_weight table.slot window program) (packets_sent stream (rows_behind window rows)) ≤ mb_bytes table.slot window row
video_behind table choice rows window program stream row part some sizes schedule stands got =
    let late = rows_behind window rows in
    let before = rows_before window rows ++ rows_inside window rows in
    elim (cases_lt 0 (length (rows_behind window rows)))
    as (λ _. sum_by (video_weight table.slot window program) (packets_sent stream (rows_behind window rows)) ≤ mb_bytes table.slot window row) [
      | inr few ↦
          (let nothing : sum_by (video_weight table.slot window program) (packets_sent stream (rows_behind window rows)) ≡ 0 =
          ap (λ (list : List Row). sum_by (video_weight table.slot window program) (packets_sent stream list)) (none_left (rows_behind window rows) few) in
          omega (arith, nothing))
      | inl more ↦
          (let from = window.first + (window.tail - window.first) in
          let each : EachFrom (Stands table) (0 + window.first + (window.tail - window.first)) (rows_behind window rows) =
          EachFrom-drop (Stands table) (0 + window.first) (window.tail - window.first) (drop window.first rows) (EachFrom-drop (Stands table) 0 window.first rows stands) in
          let paid : sum_by (video_weight table.slot window program) (packets_sent stream (rows_behind window rows)) ≤ bytes_by stream window.due (rows_behind window rows) =
          sums_le table (video_weight table.slot window program) (payload_by window.due) stream (0 + window.first + (window.tail - window.first)) late
          (λ k packet low high at. late_weight table window program k packet some (omega arith) at) each in
          let whole : rows ≡ (rows_before window rows ++ rows_inside window rows) ++ rows_behind window rows =
          rows_split window rows ∙ sym (append_assoc (rows_before window rows) (rows_inside window rows) (rows_behind window rows)) in
          let size : length rows ≡ length (rows_before window rows ++ rows_inside window rows) + length (rows_behind window rows) =
          ap length whole ∙ length-append (rows_before window rows ++ rows_inside window rows) (rows_behind window rows) in
          let left : length (rows_behind window rows) ≡ length rows - window.first - (window.tail - window.first) =
          length-drop (window.tail - window.first) (drop window.first rows) ∙ ap (λ n. n - (window.tail - window.first)) (length-drop window.first rows) in
          let behind : window.tail ≤ length (rows_before window rows ++ rows_inside window rows) = omega (arith, size, left, more) in
          let follows : FollowRule table choice ((rows_before window rows ++ rows_inside window rows) ++ rows_behind window rows) =
          subst (λ (all : List Row). FollowRule table choice all) whole schedule.follows in
          let none : NoMiss table.slot (queues_of table choice) ((rows_before window rows ++ rows_inside window rows) ++ rows_behind window rows) =
          subst (λ (all : List Row). NoMiss table.slot (queues_of table choice) all) whole schedule.in_time in
          let gives : Gives table.slot (last_due window row) window.tail (bytes_by stream window.due (rows_behind window rows)) =
          tail_gives table choice stream program row.vbv window.due (last_due window row) window.tail (packets_from 0 row.units part) before some got
          (upto_last window row part sizes) behind late follows none in
          omega (arith, paid, gives-le table.slot window row (bytes_by stream window.due (rows_behind window rows)) gives))
    ]

-- ---- a program's video
pub video_parts : (table : Table) (choice : List ℕ) (rows : List Row) (window : BufferWindow) (program stream : ℕ) (row : ProgramRow) (part : List ℕ) → 0 < table.slot
    → HasSizes row.units part → IsSchedule table choice rows → EachFrom (Stands table) 0 rows
    → slice_get (queues_of table choice) stream ≡ Some (record { kind = Video program row.vbv; packets = packets_from 0 row.units part })
    → sum_by (video_weight table.slot window program) (packets_from 0 row.units part)
    ≤ (eb_bytes window program row + mb_bytes table.slot window row) + sum_by (video_weight table.slot window program) (packets_sent stream (rows_inside window rows))
video_parts table choice rows window program stream row part some sizes schedule stands got =
    omega (
      arith,
      in_three table choice rows window (video_weight table.slot window program) schedule stream (record { kind = Video program row.vbv; packets = packets_from 0 row.units part }) got,
      video_before table choice rows window program stream row (packets_from 0 row.units part) schedule stands got,
      video_behind table choice rows window program stream row part some sizes schedule stands got,
    )

-- ---- an audio stream
counted-late : (table : Table) (window : BufferWindow) (k : ℕ) (packet : QueuedPacket) → 0 < table.slot → window.tail ≤ k → StandsIn table k packet
    → audio_weight table.slot window packet ≤ 0
counted-late table window k packet some behind stands =
    let out : counted_due table.slot window packet.due ≡ false =
    and_left (nat_le packet.due window.due && nat_le (stop table.slot packet.due) window.tail) ((window.first == 0) || nat_lt (window.first * table.slot) packet.due)
    (and_right (nat_le packet.due window.due) (nat_le (stop table.slot packet.due) window.tail)
    (lt-leb (stop table.slot packet.due) window.tail (stops_behind table window k packet some behind stands))) in
    rw out (omega arith)

audio_behind : (table : Table) (rows : List Row) (window : BufferWindow) (stream : ℕ) → 0 < table.slot → EachFrom (Stands table) 0 rows
    → sum_by (audio_weight table.slot window) (packets_sent stream (rows_behind window rows)) ≤ 0
audio_behind table rows window stream some stands =
    let late = rows_behind window rows in
    let each : EachFrom (Stands table) (0 + window.first + (window.tail - window.first)) (rows_behind window rows) =
    EachFrom-drop (Stands table) (0 + window.first) (window.tail - window.first) (drop window.first rows) (EachFrom-drop (Stands table) 0 window.first rows stands) in
    omega (
      arith,
      sums_le table (audio_weight table.slot window) (λ packet. 0) stream (0 + window.first + (window.tail - window.first)) late
          (λ k packet low high at. counted-late table window k packet some (omega arith) at) each,
      sum_of_none (packets_sent stream (rows_behind window rows)),
    )

-- the packets of an audio stream that go before the window are so many of its first
audio_before : (table : Table) (choice : List ℕ) (rows : List Row) (window : BufferWindow) (stream : ℕ) (packets : List AudioPacket) → IsValidAudio table.slot packets
    → IsSchedule table choice rows → EachFrom (Stands table) 0 rows → slice_get (queues_of table choice) stream ≡ Some (audio_of packets)
    → sum_by (audio_weight table.slot window) (packets_sent stream (rows_before window rows))
    ≤ PAYLOAD_BYTES * longest_before table.slot window (filter (is_counted table.slot window) packets)
audio_before table choice rows window stream packets valid schedule stands got =
    let slot = table.slot in
    let early = rows_before window rows in
    let k = count_by (is_of stream) (rows_before window rows) in
    let front = take k packets in
    let short : length (rows_before window rows) ≤ window.first = rows_before-short window rows in
    let each : EachFrom (Stands table) 0 (rows_before window rows) = EachFrom-take (Stands table) 0 window.first rows stands in
    let follows : FollowRule table choice (rows_before window rows) = FollowRule-take table choice window.first rows schedule.follows in
    let first : SentFirst stream (audio_of packets).packets (rows_before window rows) =
    FollowRule-sent table choice stream Audio (audio_of packets).packets got (rows_before window rows) follows in
    let sent : packets_sent stream (rows_before window rows) ≡ numbered 0 (take (count_by (is_of stream) (rows_before window rows)) packets) =
    first.1 ∙ take-numbered 0 (count_by (is_of stream) (rows_before window rows)) packets in
    elim (cases_lt 0 window.first) as (λ _. sum_by (audio_weight table.slot window) (packets_sent stream (rows_before window rows))
    ≤ PAYLOAD_BYTES * longest_before table.slot window (filter (is_counted table.slot window) packets)) [
      | inr start ↦
          omega (
            arith,
            sums_le table (audio_weight table.slot window) (λ packet. 0) stream 0 early (λ i packet low high at. absurd (omega arith)) each,
            sum_of_none (packets_sent stream (rows_before window rows)),
          )
      | inl some ↦
          (let weighed : sum_by (audio_weight table.slot window) (packets_sent stream (rows_before window rows))
          ≡ PAYLOAD_BYTES * count_by (is_counted table.slot window) (take (count_by (is_of stream) (rows_before window rows)) packets) =
          ap (sum_by (audio_weight table.slot window)) sent ∙ audio_counted slot window 0 front in
          let none : sum_by (λ (packet : QueuedPacket). cond (nat_lt (latest table.slot window) packet.gone) 1 0) (packets_sent stream (rows_before window rows)) ≤ 0 =
          omega (
            arith,
            sums_le table (λ (packet : QueuedPacket). cond (nat_lt (latest table.slot window) packet.gone) 1 0) (λ packet. 0) stream 0 early
                (λ i packet low high at. (let early_is : nat_lt (latest table.slot window) packet.gone ≡ false =
                le-ltb (latest table.slot window) packet.gone (gone_by table window i packet (omega arith) at) in rw early_is (omega arith))) each,
            sum_of_none (packets_sent stream (rows_before window rows)),
          ) in
          let none' : count_by (is_late table.slot window) (take (count_by (is_of stream) (rows_before window rows)) packets) ≡ 0 =
          omega (
            arith,
            none,
            ap (sum_by (λ (packet : QueuedPacket). cond (nat_lt (latest table.slot window) packet.gone) 1 0)) sent,
            sum-numbered (λ (packet : QueuedPacket). cond (nat_lt (latest table.slot window) packet.gone) 1 0) (λ (packet : AudioPacket). cond (is_late table.slot window packet) 1 0)
                (λ n packet. refl) 0 front,
          ) in
          let begun : length (rows_before window rows) * table.slot ≤ window.first * table.slot = mul-le-mul_right table.slot short in
          let held : outstanding stream (window.first * table.slot) (rows_before window rows) ≤ AUDIO_BYTES =
          held_fits table choice stream Audio (audio_of packets).packets (window.first * slot) got early follows begun in
          let few : sum_by (bytes_after (window.first * table.slot)) (take (count_by (is_of stream) (rows_before window rows)) packets) ≤ AUDIO_BYTES =
          omega (
            arith,
            held,
            outstanding-sent stream (window.first * table.slot) (rows_before window rows),
            ap (sum_by (payload_after (window.first * table.slot))) sent,
            sum-numbered (payload_after (window.first * table.slot)) (bytes_after (window.first * table.slot)) (λ n packet. refl) 0 front,
          ) in
          let dues : All (λ (packet : AudioPacket). packet.due ≤ packet.gone) packets =
          All-weaker (IsValidPacket table.slot) (λ (packet : AudioPacket). packet.due ≤ packet.gone) (λ packet h. h.due) packets valid.each in
          omega (arith, weighed, front_fits slot window packets k some dues none' few))
    ]

-- what an audio stream takes of the window's slots
pub audio_parts : (table : Table) (choice : List ℕ) (rows : List Row) (window : BufferWindow) (stream : ℕ) (packets : List AudioPacket) → 0 < table.slot → IsValidAudio table.slot packets
    → IsSchedule table choice rows → EachFrom (Stands table) 0 rows → slice_get (queues_of table choice) stream ≡ Some (audio_of packets)
    → PAYLOAD_BYTES * slots_taken table.slot window packets ≤ sum_by (audio_weight table.slot window) (packets_sent stream (rows_inside window rows))
audio_parts table choice rows window stream packets some valid schedule stands got =
    omega (
      arith,
      in_three table choice rows window (audio_weight table.slot window) schedule stream (audio_of packets) got,
      audio_counted table.slot window 0 packets,
      length-filter (is_counted table.slot window) packets,
      audio_before table choice rows window stream packets valid schedule stands got,
      audio_behind table rows window stream some stands,
    )
