-- The law: what a scheduled choice is charged by a window is no more than the window's room.
use Rattle.std.proofs.Common.{◌≡◌, ℕ, zero, suc, ◌+◌, ◌-◌, ◌*◌, ◌<◌, ◌≤◌, All, List, [], ◌∷◌, ◌++◌, length, map, drop, count_by, sum_by, slice_get, Some, refl, sym, ap, ◌∙◌, add-zero, length-take, arith, pos, ◌≤ℤ◌}
use Rattle.std.specs.List.{AllZip, enumerate_from, flat_map, range_with_len, zip}
use Rattle.std.proofs.lemmas.Int.{ints}
use Rattle.std.proofs.lemmas.List.{length-map}
use Rattle.std.proofs.lemmas.List.Elements.{All-head, All-tail}
use Rattle.std.proofs.lemmas.List.Sums.{sum_by-cons, sum_by-append}
use Rattle.stream_constants.specs.declared.packets.TheConstants.{PAYLOAD_BYTES}
use Rattle.version_table.specs.declared.table.AudioPacket.{AudioPacket}
use Rattle.version_table.specs.declared.table.ProgramRow.{ProgramRow}
use Rattle.version_table.specs.declared.table.Table.{Table}
use Rattle.version_table.specs.Choice.{Fits, HasVersion}
use Rattle.version_table.specs.Table.{IsValidAudio, IsValidProgram, IsValidTable}
use Rattle.slot_rule.specs.declared.row.Row.{Row}
use Rattle.slot_rule.specs.Queues.{Queue, audio_of, queues_from, queues_of, video_queue}
use Rattle.slot_rule.specs.Schedule.{IsSchedule, IsScheduled}
use Rattle.slot_rule.proofs.RuleQueues.{HasSizes-from_fits, fits_rest, units_in}
use Rattle.slot_rule.proofs.RuleVideo.{HasSizes}
use Rattle.buffer_windows.specs.declared.windows.BufferWindow.{BufferWindow}
use Rattle.buffer_windows.specs.Charges.{charges, owned_from}
use Rattle.buffer_windows.specs.Room.{audio_slots, buffer_bytes, counted_eb_bytes as eb_bytes, free_window_slots as free_slots, mb_bytes, buffer_room as room, slots_taken}
use Rattle.buffer_windows.proofs.Parts.{audio_parts, rows_inside, video_parts}
use Rattle.buffer_windows.proofs.Rows.{
  EachFrom,
  EachFrom-drop,
  EachFrom-take,
  Stands,
  count_more,
  is_free,
  queue_parts,
  schedule_stands,
  slot_bytes,
  slot_bytes_from,
  slots_fit,
  slots_of_queues,
}
use Rattle.buffer_windows.proofs.Weights.{audio_weight, audio_weight-most, own, program_charges, unit_charged, video_weight, video_weight-most, zip-append}

-- ---- places in lists
slice_get-left : {X : Type 0} (xs ys : List X) (n : ℕ) (x : X) → slice_get xs n ≡ Some x → slice_get (xs ++ ys) n ≡ Some x
slice_get-left [] ys n x got = cc
slice_get-left (y ∷ xs) ys zero x got = got
slice_get-left (y ∷ xs) ys (suc n) x got = slice_get-left xs ys n x got

pub slice_get-right : {X : Type 0} (xs ys : List X) (n : ℕ) → slice_get (xs ++ ys) (length xs + n) ≡ slice_get ys n
slice_get-right [] ys n = let same : 0 + n ≡ n = omega arith in ap (λ k. slice_get ys k) same
slice_get-right (x ∷ xs) ys n = let next : suc (length xs) + n ≡ suc (length xs + n) = omega arith in ap (λ k. slice_get ((x ∷ xs) ++ ys) k) next ∙ slice_get-right xs ys n

-- these queues are those of the table from the number on
abbrev pub AreAt : Table → List ℕ → (first : ℕ) → List Queue → Type 0
AreAt table choice first queues = (j : ℕ) (queue : Queue) → slice_get queues j ≡ Some queue → slice_get (queues_of table choice) (first + j) ≡ Some queue

-- what the buffers of these programs give, of which the first has this number
abbrev given : (slot : ℕ) → BufferWindow → (program : ℕ) → List ProgramRow → ℕ
given slot window program rows = sum_by (λ (number, row). eb_bytes window number row + mb_bytes slot window row) (enumerate_from program rows)

-- the audio streams of these programs
abbrev audios_in : List ProgramRow → List (List AudioPacket)
audios_in rows = flat_map (λ program. program.audios) rows

-- ---- the audio streams of a program
audios_fit : (table : Table) (choice : List ℕ) (rows : List Row) (window : BufferWindow) (first : ℕ) (audios : List (List AudioPacket)) → 0 < table.slot
    → All (IsValidAudio table.slot) audios → IsSchedule table choice rows → EachFrom (Stands table) 0 rows → AreAt table choice first (map audio_of audios)
    → PAYLOAD_BYTES * sum_by (slots_taken table.slot window) audios + sum_by (slot_bytes_from (first + length audios)) (rows_inside window rows)
    ≤ sum_by (slot_bytes_from first) (rows_inside window rows)
audios_fit table choice rows window first [] some valid schedule stands there =
    omega (arith, ap (λ n. sum_by (slot_bytes_from n) (rows_inside window rows)) (add-zero first))
audios_fit table choice rows window first (packets ∷ audios) some valid schedule stands there =
    let got : slice_get (queues_of table choice) first ≡ Some (audio_of packets) =
    ap (λ n. slice_get (queues_of table choice) n) (sym (add-zero first)) ∙ there 0 (audio_of packets) refl in
    let each : EachFrom (Stands table) (0 + window.first) (rows_inside window rows) =
    EachFrom-take (Stands table) (0 + window.first) (window.tail - window.first) (drop window.first rows) (EachFrom-drop (Stands table) 0 window.first rows stands) in
    let next : (first + 1) + length audios ≡ first + length (packets ∷ audios) = omega arith in
    let others : AreAt table choice (first + 1) (map audio_of audios) =
    λ j queue at. (let place : first + suc j ≡ (first + 1) + j = omega arith in ap (λ n. slice_get (queues_of table choice) n) (sym place) ∙ there (suc j) queue at) in
    omega (
      arith,
      sum_by-cons (slots_taken table.slot window) packets audios,
      ap (λ n. sum_by (slot_bytes_from n) (rows_inside window rows)) next,
      audio_parts table choice rows window first packets some (All-head (IsValidAudio table.slot) packets audios valid) schedule stands got,
      queue_parts table (0 + window.first) (audio_weight table.slot window) first (rows_inside window rows) (audio_weight-most table.slot window) each,
      audios_fit table choice rows window (first + 1) audios some (All-tail (IsValidAudio table.slot) packets audios valid) schedule stands others,
    )

-- ---- all programs
programs_fit : (table : Table) (choice : List ℕ) (rows : List Row) (window : BufferWindow) (program first : ℕ) (programs : List ProgramRow) (part : List ℕ) → 0 < table.slot
    → All (IsValidProgram table.slot) programs → AllZip HasVersion (units_in programs) part → IsSchedule table choice rows → EachFrom (Stands table) 0 rows
    → AreAt table choice first (queues_from program programs part)
    → sum_by (unit_charged table.slot window) (zip (owned_from program programs) part) + PAYLOAD_BYTES * sum_by (slots_taken table.slot window) (audios_in programs)
    ≤ given table.slot window program programs + sum_by (slot_bytes_from first) (rows_inside window rows)
programs_fit table choice rows window program first [] part some valid fits schedule stands there = omega arith
programs_fit table choice rows window program first (row ∷ programs) part some valid fits schedule stands there =
    let slot = table.slot in
    let here : IsValidProgram table.slot row = All-head (IsValidProgram table.slot) row programs valid in
    let later = drop (length row.units) part in
    let sizes : HasSizes row.units part = HasSizes-from_fits table.slot row.units (units_in programs) part here.units fits in
    let got : slice_get (queues_of table choice) first ≡ Some (video_queue program row part) =
    ap (λ n. slice_get (queues_of table choice) n) (sym (add-zero first)) ∙ there 0 (video_queue program row part) refl in
    let each : EachFrom (Stands table) (0 + window.first) (rows_inside window rows) =
    EachFrom-take (Stands table) (0 + window.first) (window.tail - window.first) (drop window.first rows) (EachFrom-drop (Stands table) 0 window.first rows stands) in
    let audio_at : AreAt table choice (first + 1) (map audio_of row.audios) =
    λ j queue at. (let place : first + suc j ≡ (first + 1) + j = omega arith in
    ap (λ n. slice_get (queues_of table choice) n) (sym place)
    ∙ there (suc j) queue (slice_get-left (map audio_of row.audios) (queues_from (program + 1) programs (drop (length row.units) part)) j queue at)) in
    let others_at : AreAt table choice ((first + 1) + length row.audios) (queues_from (program + 1) programs (drop (length row.units) part)) =
    λ j queue at. (let place : first + suc (length row.audios + j) ≡ ((first + 1) + length row.audios) + j = omega arith in
    let inner : length (map audio_of row.audios) + j ≡ length row.audios + j = ap (λ n. n + j) (length-map row.audios audio_of) in
    ap (λ n. slice_get (queues_of table choice) n) (sym place)
    ∙ there (suc (length row.audios + j)) queue
    (ap (λ n. slice_get (map audio_of row.audios ++ queues_from (program + 1) programs (drop (length row.units) part)) n) (sym inner)
    ∙ slice_get-right (map audio_of row.audios) (queues_from (program + 1) programs (drop (length row.units) part)) j ∙ at)) in
    let own_units = map (own program row.vbv) row.units in
    let zipped : zip (owned_from program (row ∷ programs)) part
    ≡ zip (map (own program row.vbv) row.units) part ++ zip (owned_from (program + 1) programs) (drop (length row.units) part) =
    zip-append (map (own program row.vbv) row.units) (owned_from (program + 1) programs) part
    ∙ ap (λ n. zip (map (own program row.vbv) row.units) part ++ zip (owned_from (program + 1) programs) (drop n part)) (length-map row.units (own program row.vbv)) in
    omega (
      arith,
      ap (sum_by (unit_charged table.slot window)) zipped,
      sum_by-append (unit_charged table.slot window) (zip (map (own program row.vbv) row.units) part) (zip (owned_from (program + 1) programs) (drop (length row.units) part)),
      sum_by-append (slots_taken table.slot window) row.audios (audios_in programs),
      sum_by-cons (λ (x : ℕ × ProgramRow). eb_bytes window x.0 x.1 + mb_bytes table.slot window x.1) (program, row) (enumerate_from (program + 1) programs),
      program_charges table.slot window program row.vbv 0 row.units part,
      video_parts table choice rows window program first row part some sizes schedule stands got,
      queue_parts table (0 + window.first) (video_weight table.slot window program) first (rows_inside window rows) (video_weight-most table.slot window program) each,
      audios_fit table choice rows window (first + 1) row.audios some here.audios schedule stands audio_at,
      programs_fit table choice rows window (program + 1) ((first + 1) + length row.audios) programs (drop (length row.units) part) some
          (All-tail (IsValidProgram table.slot) row programs valid) (fits_rest row.units (units_in programs) part fits) schedule stands others_at,
    )

-- ---- the window's slots
inside_fit : (table : Table) (rows : List Row) (window : BufferWindow) → EachFrom (Stands table) 0 rows → sum_by slot_bytes (rows_inside window rows) ≤ PAYLOAD_BYTES * free_slots table window
unfolding free_slots
inside_fit table rows window stands =
    let wide = window.tail - window.first in
    let few : length (rows_inside window rows) ≤ window.tail - window.first = rw length-take (omega arith) in
    let each : EachFrom (Stands table) (0 + window.first) (rows_inside window rows) =
    EachFrom-take (Stands table) (0 + window.first) (window.tail - window.first) (drop window.first rows) (EachFrom-drop (Stands table) 0 window.first rows stands) in
    let start : 0 + window.first ≡ window.first = omega arith in
    let whole : length (rows_inside window rows) + ((window.tail - window.first) - length (rows_inside window rows)) ≡ window.tail - window.first = omega arith in
    omega (
      arith,
      slots_fit table (0 + window.first) (rows_inside window rows) each,
      ap (λ n. count_by (is_free table) (range_with_len n (length (rows_inside window rows)))) start,
      count_more (is_free table) window.first (length (rows_inside window rows)) ((window.tail - window.first) - length (rows_inside window rows)),
      ap (λ n. count_by (is_free table) (range_with_len window.first n)) whole,
    )

-- ---- the law
charges_fit : (table : Table) (choice : List ℕ) (rows : List Row) (window : BufferWindow) → IsValidTable table → Fits table choice → IsSchedule table choice rows
    → charges table choice window + PAYLOAD_BYTES * audio_slots table window ≤ PAYLOAD_BYTES * free_slots table window + buffer_bytes table window
unfolding audio_slots buffer_bytes
charges_fit table choice rows window valid fits schedule =
    let stands : EachFrom (Stands table) 0 rows = schedule_stands table choice rows valid fits schedule in
    let some : 0 < table.slot = omega (arith, valid.slot_least) in
    let there : AreAt table choice 0 (queues_of table choice) = λ j queue at. (let same : 0 + j ≡ j = omega arith in ap (λ n. slice_get (queues_of table choice) n) same ∙ at) in
    omega (
      arith,
      programs_fit table choice rows window 0 0 table.programs choice some valid.programs fits schedule stands there,
      slots_of_queues 0 (rows_inside window rows),
      inside_fit table rows window stands,
    )

pub windows_hold : (table : Table) (choice : List ℕ) (window : BufferWindow) → IsValidTable table → Fits table choice → IsScheduled table choice
    → pos (charges table choice window) ≤ℤ room table window
unfolding room
windows_hold table choice window valid fits (rows, schedule) =
    let fit : charges table choice window + PAYLOAD_BYTES * audio_slots table window ≤ PAYLOAD_BYTES * free_slots table window + buffer_bytes table window =
    charges_fit table choice rows window valid fits schedule in
    omega (arith, ints, fit)
