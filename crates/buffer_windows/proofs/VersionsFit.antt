-- Each version of a scheduled choice fits into its program's elementary buffer: all of it is there right before it is removed.
use Rattle.std.proofs.Common.{◌≡◌, ℕ, suc, ◌+◌, ◌-◌, ◌*◌, ◌/◌, ◌<◌, ◌≤◌, cond, eqb, eq-eqb, ne_eqb, List, [], ◌∷◌, ◌++◌, length, map, take, drop, sum, sum_by, slice_get, Some, refl, sym, ap, ◌∙◌, inl, inr, lt-ltb, add-zero, length-take, mul-le-mul_right, div-mul-le_self, le_trans, arith}
use Rattle.std.specs.List.{AllZip, enumerate_from}
use Rattle.std.proofs.lemmas.Bool.{cases_eq, cases_lt}
use Rattle.std.proofs.lemmas.List.{length-map, take-append-drop}
use Rattle.std.proofs.lemmas.List.Concat.{flat_map-append}
use Rattle.std.proofs.lemmas.List.Sums.{sum_by-cons, sum_by-append}
use Rattle.std.proofs.lemmas.Nat.{le-div}
use Rattle.stream_constants.specs.declared.decoder.TheConstants.{EB_UNIT_BYTES}
use Rattle.version_table.specs.declared.table.ProgramRow.{ProgramRow}
use Rattle.version_table.specs.declared.table.Table.{Table}
use Rattle.version_table.specs.declared.table.Unit.{Unit as CodedUnit}
use Rattle.version_table.specs.Choice.{Fits, HasVersion, version_at}
use Rattle.version_table.specs.Table.{IsValidTable}
use Rattle.slot_rule.specs.declared.queue_kind.QueueKind.TheVariants.{Video}
use Rattle.slot_rule.specs.declared.queued_packet.QueuedPacket.{QueuedPacket}
use Rattle.slot_rule.specs.declared.row.Row.{Row}
use Rattle.slot_rule.specs.Buffers.{outstanding}
use Rattle.slot_rule.specs.Queues.{audio_of, payloads, queues_from, queues_of, unit_packets, video_queue}
use Rattle.slot_rule.specs.Schedule.{IsSchedule, IsScheduled}
use Rattle.slot_rule.proofs.RuleQueues.{fits_rest, units_in}
use Rattle.slot_rule.proofs.RuleRows.{FollowRule-take}
use Rattle.slot_rule.proofs.RuleSent.{packet_of, packets_sent, payload_after, outstanding-sent}
use Rattle.slot_rule.proofs.RuleUnits.{piece_of}
use Rattle.slot_rule.proofs.RuleVideo.{packets_from}
use Rattle.buffer_windows.specs.Charges.{FitsBuffer, OwnedUnit, owned_from, owned_units}
use Rattle.buffer_windows.proofs.Held.{held_fits}
use Rattle.buffer_windows.proofs.Parts.{all_sent}
use Rattle.buffer_windows.proofs.Rows.{EachFrom, EachFrom-drop, EachFrom-take, Stands, StandsIn, schedule_stands, sum_of_none, sums_le}
use Rattle.buffer_windows.proofs.Weights.{own, sum-payloads}
use Rattle.buffer_windows.proofs.WindowLaw.{AreAt, slice_get-right}

-- the payload of a packet that is due at a time
abbrev payload_at : (due : ℕ) → QueuedPacket → ℕ
payload_at due packet = cond (eqb packet.due due) packet.payload 0

payload_at-none : (due : ℕ) (packet : QueuedPacket) → (packet.due ≡ due → ⊥) → payload_at due packet ≡ 0
payload_at-none due packet apart = rw (ne_eqb packet.due due apart) refl

-- ---- the packets of a unit bring all its bytes
pieces_at : (item due piece : ℕ) (list : List ℕ) → sum_by (payload_at due) (map (λ (n, payload). piece_of item due n payload) (enumerate_from piece list)) ≡ sum list
pieces_at item due piece [] = refl
pieces_at item due piece (payload ∷ list) =
    let here : payload_at due (piece_of item due piece payload) ≡ payload = rw (eq-eqb due due refl) refl in
    omega (
      arith,
      sum_by-cons (payload_at due) (piece_of item due piece payload) (map (λ (n, payload). piece_of item due n payload) (enumerate_from (piece + 1) list)),
      sum_by-cons (λ x. x) payload list,
      here,
      pieces_at item due (piece + 1) list,
    )

unit_at : (item due bytes : ℕ) → sum_by (payload_at due) (unit_packets item due bytes) ≡ bytes
unit_at item due bytes = pieces_at item due 0 (payloads bytes) ∙ sum-payloads bytes

-- so many bytes are the most that the first units have in these versions
abbrev HaveAtMost : (most : ℕ) → List CodedUnit → List ℕ → Type 0
HaveAtMost most [] part = Unit {0}
HaveAtMost most (unit ∷ units) [] = ⊥
HaveAtMost most (unit ∷ units) (k ∷ part) = ((version_at unit k).bytes ≤ most) × HaveAtMost most units part

units_at : (most item : ℕ) (units others : List CodedUnit) (part : List ℕ) → AllZip HasVersion (units ++ others) part
    → ((due : ℕ) → sum_by (payload_at due) (packets_from item units part) ≤ most) → HaveAtMost most units part
units_at most item [] others part fits each = tt
units_at most item (unit ∷ units) others [] fits each = absurd fits
units_at most item (unit ∷ units) others (k ∷ part) fits each =
    let packets = unit_packets item unit.due (version_at unit k).bytes in
    let here : (version_at unit k).bytes ≤ most =
    omega (
      arith,
      each unit.due,
      sum_by-append (payload_at unit.due) packets (packets_from (item + 1) units part),
      unit_at item unit.due (version_at unit k).bytes,
    ) in
    let rest : (due : ℕ) → sum_by (payload_at due) (packets_from (item + 1) units part) ≤ most =
    λ due. omega (arith, each due, sum_by-append (payload_at due) packets (packets_from (item + 1) units part)) in
    (here, units_at most (item + 1) units others part fits.1 rest)

-- ---- what is due at one time is in the buffer together
early_at : (due k : ℕ) (table : Table) (packet : QueuedPacket) → 0 < due → StandsIn table k packet → payload_at due packet ≤ payload_after (due - 1) packet
early_at due k table packet some stands =
    elim (cases_eq packet.due due) as (λ _. payload_at due packet ≤ payload_after (due - 1) packet) [
      | inl same ↦
          (let later : due - 1 < packet.gone = omega (arith, stands.limited.due) in
          rw (eq-eqb packet.due due same, lt-ltb (due - 1) packet.gone later) (omega arith))
      | inr apart ↦ omega (arith, payload_at-none due packet apart)
    ]

late_at : (due k : ℕ) (table : Table) (packet : QueuedPacket) → 0 < table.slot → (due - 1) / table.slot ≤ k → StandsIn table k packet → payload_at due packet ≤ 0
late_at due k table packet some behind stands =
    elim (cases_eq packet.due due) as (λ _. payload_at due packet ≤ 0) [
      | inr apart ↦ omega (arith, payload_at-none due packet apart)
      | inl same ↦
          (let below : k + 1 ≤ (due - 1) / table.slot = le-div (k + 1) (due - 1) table.slot some (omega (arith, stands.in_time)) in
          absurd (omega arith))
    ]

queue_at : (table : Table) (choice : List ℕ) (rows : List Row) (stream program vbv : ℕ) (packets : List QueuedPacket) (due : ℕ) → 0 < table.slot → IsSchedule table choice rows
    → EachFrom (Stands table) 0 rows → slice_get (queues_of table choice) stream ≡ Some (record { kind = Video program vbv; packets = packets })
    → sum_by (payload_at due) packets ≤ EB_UNIT_BYTES * vbv
queue_at table choice rows stream program vbv packets due some schedule stands got =
    let n = (due - 1) / table.slot in
    let early = take ((due - 1) / table.slot) rows in
    let late = drop ((due - 1) / table.slot) rows in
    let all : packets ≡ packets_sent stream (take ((due - 1) / table.slot) rows) ++ packets_sent stream (drop ((due - 1) / table.slot) rows) =
    all_sent table choice rows schedule stream (record { kind = Video program vbv; packets = packets }) got
    ∙ ap (packets_sent stream) (sym (take-append-drop ((due - 1) / table.slot) rows)) ∙ flat_map-append (packet_of stream) early late in
    let each : EachFrom (Stands table) 0 (take ((due - 1) / table.slot) rows) = EachFrom-take (Stands table) 0 n rows stands in
    let each' : EachFrom (Stands table) (0 + (due - 1) / table.slot) (drop ((due - 1) / table.slot) rows) = EachFrom-drop (Stands table) 0 n rows stands in
    let behind : sum_by (payload_at due) (packets_sent stream (drop ((due - 1) / table.slot) rows)) ≤ 0 =
    omega (
      arith,
      sums_le table (payload_at due) (λ packet. 0) stream (0 + (due - 1) / table.slot) late (λ k packet low high at. late_at due k table packet some (omega arith) at) each',
      sum_of_none (packets_sent stream (drop ((due - 1) / table.slot) rows)),
    ) in
    let begun : length (take ((due - 1) / table.slot) rows) * table.slot ≤ due - 1 = started (due - 1) table.slot (length (take ((due - 1) / table.slot) rows)) (rw length-take (omega arith)) in
    let held : outstanding stream (due - 1) (take ((due - 1) / table.slot) rows) ≤ EB_UNIT_BYTES * vbv =
    held_fits table choice stream (Video program vbv) packets (due - 1) got early (FollowRule-take table choice n rows schedule.follows) begun in
    elim (cases_lt 0 due) as (λ _. sum_by (payload_at due) packets ≤ EB_UNIT_BYTES * vbv) [
      | inl later ↦
          omega (
            arith,
            ap (sum_by (payload_at due)) all,
            sum_by-append (payload_at due) (packets_sent stream (take ((due - 1) / table.slot) rows)) (packets_sent stream (drop ((due - 1) / table.slot) rows)),
            sums_le table (payload_at due) (payload_after (due - 1)) stream 0 early (λ k packet low high at. early_at due k table packet later at) each,
            outstanding-sent stream (due - 1) (take ((due - 1) / table.slot) rows),
            held,
            behind,
          )
      | inr start ↦
          (let first : sum_by (payload_at due) (packets_sent stream (take ((due - 1) / table.slot) rows)) ≤ 0 =
          omega (
            arith,
            sums_le table (payload_at due) (λ packet. 0) stream 0 early
                (λ k packet low high at. omega (arith, payload_at-none due packet (λ e. absurd (omega (arith, at.in_time))))) each,
            sum_of_none (packets_sent stream (take ((due - 1) / table.slot) rows)),
          ) in
          omega (
            arith,
            ap (sum_by (payload_at due)) all,
            sum_by-append (payload_at due) (packets_sent stream (take ((due - 1) / table.slot) rows)) (packets_sent stream (drop ((due - 1) / table.slot) rows)),
            first,
            behind,
          ))
    ]
  where
    started : (time slot few : ℕ) → few ≤ time / slot → few * slot ≤ time
    started time slot few le = le_trans (mul-le-mul_right slot le) (div-mul-le_self time slot)

-- ---- all programs
join : (program : ℕ) (row : ProgramRow) (units : List CodedUnit) (others : List OwnedUnit) (part : List ℕ) → HaveAtMost (EB_UNIT_BYTES * row.vbv) units part
    → AllZip FitsBuffer others (drop (length units) part) → AllZip FitsBuffer (map (own program row.vbv) units ++ others) part
join program row [] others part most rest = rest
join program row (unit ∷ units) others [] most rest = absurd most
join program row (unit ∷ units) others (k ∷ part) most rest = (most.0, join program row units others part most.1 rest)

programs_at : (table : Table) (choice : List ℕ) (rows : List Row) (program first : ℕ) (programs : List ProgramRow) (part : List ℕ) → 0 < table.slot
    → AllZip HasVersion (units_in programs) part → IsSchedule table choice rows → EachFrom (Stands table) 0 rows → AreAt table choice first (queues_from program programs part)
    → AllZip FitsBuffer (owned_from program programs) part
programs_at table choice rows program first [] [] some fits schedule stands there = tt
programs_at table choice rows program first [] (k ∷ part) some fits schedule stands there = absurd fits
programs_at table choice rows program first (row ∷ programs) part some fits schedule stands there =
    let got : slice_get (queues_of table choice) first ≡ Some (video_queue program row part) =
    ap (λ n. slice_get (queues_of table choice) n) (sym (add-zero first)) ∙ there 0 (video_queue program row part) refl in
    let others_at : AreAt table choice ((first + 1) + length row.audios) (queues_from (program + 1) programs (drop (length row.units) part)) =
    λ j queue at. (let place : first + suc (length row.audios + j) ≡ ((first + 1) + length row.audios) + j = omega arith in
    let inner : length (map audio_of row.audios) + j ≡ length row.audios + j = ap (λ n. n + j) (length-map row.audios audio_of) in
    ap (λ n. slice_get (queues_of table choice) n) (sym place)
    ∙ there (suc (length row.audios + j)) queue
    (ap (λ n. slice_get (map audio_of row.audios ++ queues_from (program + 1) programs (drop (length row.units) part)) n) (sym inner)
    ∙ slice_get-right (map audio_of row.audios) (queues_from (program + 1) programs (drop (length row.units) part)) j ∙ at)) in
    let most : HaveAtMost (EB_UNIT_BYTES * row.vbv) row.units part =
    units_at (EB_UNIT_BYTES * row.vbv) 0 row.units (units_in programs) part fits
    (λ due. queue_at table choice rows first program row.vbv (packets_from 0 row.units part) due some schedule stands got) in
    join program row row.units (owned_from (program + 1) programs) part most
    (programs_at table choice rows (program + 1) ((first + 1) + length row.audios) programs (drop (length row.units) part) some (fits_rest row.units (units_in programs) part fits) schedule
    stands others_at)

pub versions_fit : (table : Table) (choice : List ℕ) → IsValidTable table → Fits table choice → IsScheduled table choice → AllZip FitsBuffer (owned_units table) choice
versions_fit table choice valid fits (rows, schedule) =
    let there : AreAt table choice 0 (queues_of table choice) = λ j queue at. (let same : 0 + j ≡ j = omega arith in ap (λ n. slice_get (queues_of table choice) n) same ∙ at) in
    programs_at table choice rows 0 0 table.programs choice (omega (arith, valid.slot_least)) fits schedule (schedule_stands table choice rows valid fits schedule) there
