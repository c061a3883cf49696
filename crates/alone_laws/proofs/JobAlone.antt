-- The programs of a job's stream, read by themselves.
use Rattle.std.proofs.Common.{◌≡◌, ℕ, zero, suc, ◌+◌, ◌*◌, ◌≤◌, List, [], ◌∷◌, ◌++◌, All, length, map, drop, sum_by, Some, refl, sym, subst, arith, mul-le-mul_right}
use Rattle.std.specs.Prelude.{slice_get}
use Rattle.std.specs.List.{AllZip, enumerate_from, flat_map, zip}
use Rattle.std.proofs.lemmas.List.Elements.{All-append, All-head, All-map, All-nil, All-tail, All-weaker}
use Rattle.std.proofs.lemmas.Option.{none-some, same_Some}
use Rattle.bit_lists.specs.Fields.{AreBytes}
use Rattle.version_table.specs.declared.table.AudioPacket.{AudioPacket}
use Rattle.version_table.specs.declared.table.ProgramRow.{ProgramRow}
use Rattle.version_table.specs.declared.table.Table.{Table}
use Rattle.version_table.specs.declared.table.Unit.{Unit as CodedUnit}
use Rattle.version_table.specs.Choice.{HasVersion, version_at}
use Rattle.version_table.specs.Table.{IsValidAudio, IsValidPacket, IsValidProgram}
use Rattle.slot_rule.specs.declared.queue_kind.QueueKind.TheVariants.{Audio, Video}
use Rattle.slot_rule.specs.declared.queued_packet.QueuedPacket.{QueuedPacket}
use Rattle.slot_rule.specs.declared.row.Row.{Row}
use Rattle.slot_rule.specs.Queues.{audio_of, payloads, queues_of, unit_packets, video_queue}
use Rattle.slot_rule.specs.Schedule.{IsSchedule}
use Rattle.slot_rule.specs.Sent.{choice_from, video_number}
use Rattle.slot_rule.proofs.Places.{All-at_place}
use Rattle.job_report.specs.declared.job.ProgramJob.{ProgramJob}
use Rattle.program_reader.specs.declared.program.Program.{Program}
use Rattle.program_table.specs.Table.{program_row, program_rows, unit_rows}
use Rattle.job_programs.specs.Programs.{AreNextPrograms, last_time}
use Rattle.version_maker.specs.declared.version.UnitVersion.{UnitVersion}
use Rattle.version_source.specs.Versions.{AreAllVersions, ratios_of}
use Rattle.job_stream.proofs.NamedVersions.{unit_rows-count}
use Rattle.job_laws.specs.ParsesTo.{ParsesTo}
use Rattle.job_laws.proofs.SentStreams.{fits-behind}
use Rattle.clean_laws.proofs.Numbers.{audio-at, video-at}
use Rattle.alone_laws.proofs.OneAlone.{ComesOut, IsSentBy}
use Rattle.alone_laws.proofs.Scheduled.{audio-by, due-units, fits-buffer, gone-by-end, last_gone, payload_at, small-units}

-- ---- each program of a job that a stream parses to

pub comes-each : (file : List ℕ) (slot start n : ℕ) (jobs : List ProgramJob) (programs : List Program) (versions : List (List (List UnitVersion))) (choice : List ℕ) (read : List (List ℕ))
    (done : List Program) (further : List (List ℕ)) → AreNextPrograms slot start read done jobs further programs → AreAllVersions programs (ratios_of jobs) versions
    → AllZip HasVersion (flat_map (λ (row : ProgramRow). row.units) (program_rows jobs programs versions)) choice → ParsesTo file n jobs further programs versions choice
    → All (λ (p : Program). AreBytes p.video) programs → (place number : ℕ) (row : ProgramRow) → slice_get (map (λ (job : ProgramJob). job.number) jobs) place ≡ Some number
    → slice_get (program_rows jobs programs versions) place ≡ Some row → ComesOut file slot start number row
comes-each file slot start n [] programs versions choice read done further next are_versions fits back bytes place number row there found = absurd (none-some number there)
comes-each file slot start n (j ∷ js) [] versions choice read done further next are_versions fits back bytes place number row there found = absurd (none-some row found)
comes-each file slot start n (j ∷ js) (p ∷ ps) [] choice read done further next are_versions fits back bytes place number row there found = absurd (none-some row found)
comes-each file slot start n (j ∷ js) (p ∷ ps) (v ∷ vs) choice read done [] next are_versions fits back bytes place number row there found = absurd next
comes-each file slot start n (j ∷ js) (p ∷ ps) (v ∷ vs) choice read done (c ∷ cs) next are_versions fits back bytes zero number row there found = record {
  place = n;
  job = j;
  content = c;
  program = p;
  versions = v;
  own = choice;
  more = flat_map (λ (r : ProgramRow). r.units) (program_rows js ps vs);
  contents = read;
  programs = done;
  next = next.0;
  are_versions = are_versions.0;
  fits = fits;
  parses = back.0;
  row_is = sym (same_Some (program_row j.weight j.drift p v) row found);
  number_is = same_Some j.number number there;
  bytes = All-head (λ (q : Program). AreBytes q.video) p ps bytes;
}
comes-each file slot start n (j ∷ js) (p ∷ ps) (v ∷ vs) choice read done (c ∷ cs) next are_versions fits back bytes (suc place) number row there found =
    let further_units : List CodedUnit = flat_map (λ (r : ProgramRow). r.units) (program_rows js ps vs) in
    let own : List CodedUnit = unit_rows j.weight j.drift p.units v in
    let many : length own ≡ length p.units = unit_rows-count j.weight j.drift p.video j.coarser.items _ p.units v are_versions.0 in
    let behind : AllZip HasVersion further_units (drop (length p.units) choice) =
    subst (λ (k : ℕ). AllZip HasVersion further_units (drop k choice)) many (fits-behind own further_units choice fits) in
    comes-each file slot start (n + 1) js ps vs (drop (length p.units) choice) (read ++ c ∷ []) (done ++ p ∷ []) cs next.1 are_versions.1 behind back.1
    (All-tail (λ (q : Program). AreBytes q.video) p ps bytes) place number row there found

-- ---- what a schedule says of a program's row

abbrev IsGoneWhenDue : QueuedPacket → Type 0
IsGoneWhenDue packet = packet.gone ≡ packet.due

gone-when-due : (from : ℕ) (pairs : List (CodedUnit × ℕ))
    → All (λ (packet : QueuedPacket). packet.gone ≡ packet.due) (flat_map (λ (item, (unit, k)). unit_packets item unit.due (version_at unit k).bytes) (enumerate_from from pairs))
gone-when-due from [] = All-nil IsGoneWhenDue
gone-when-due from (pair ∷ pairs) =
    All-append IsGoneWhenDue (unit_packets from pair.0.due (version_at pair.0 pair.1).bytes)
    (flat_map (λ (item, (unit, k)). unit_packets item unit.due (version_at unit k).bytes) (enumerate_from (from + 1) pairs))
    (All-map IsGoneWhenDue (λ (piece, payload). record { item = from; piece = piece; payload = payload; due = pair.0.due; gone = pair.0.due })
    (enumerate_from 0 (payloads (version_at pair.0 pair.1).bytes)) (λ k e less. refl))
    (gone-when-due (from + 1) pairs)

pub sent-by : (table : Table) (choice : List ℕ) (rows : List Row) (place : ℕ) (row : ProgramRow) → IsSchedule table choice rows → IsValidProgram table.slot row
    → slice_get table.programs place ≡ Some row → IsSentBy (last_gone table.slot (length rows)) row (choice_from table.programs place choice)
sent-by table choice rows place row schedule valid found =
    let own : List ℕ = choice_from table.programs place choice in
    let stream : ℕ = video_number table.programs place in
    let packets : List QueuedPacket = (video_queue (0 + place) row own).packets in
    let there : slice_get (queues_of table choice) stream ≡ Some (video_queue (0 + place) row own) = video-at 0 table.programs choice place row found in
    record {
      small = small-units 229376 0 (zip row.units own) (λ time.
          let fits : sum_by (payload_at time) packets ≤ 2048 * row.vbv =
          fits-buffer table choice stream (0 + place) row.vbv packets there (gone-when-due 0 (zip row.units own)) rows schedule time in
          omega (arith, fits, valid.vbv));
      due = due-units (last_gone table.slot (length rows)) 0 (zip row.units own) (gone-by-end table choice stream (Video (0 + place) row.vbv) packets rows there schedule);
      audio = λ k audio stands.
          audio-by (last_gone table.slot (length rows)) 0 audio
          (gone-by-end table choice (stream + 1 + k) Audio (audio_of audio).packets rows (audio-at 0 table.programs choice place k row audio found stands) schedule);
      audio_dues = λ k audio stands.
          let each = All-at_place (IsValidAudio table.slot) row.audios valid.audios k audio stands in
          All-weaker (IsValidPacket table.slot) (λ (packet : AudioPacket). packet.due ≤ packet.gone) (λ packet is. is.due) audio each.each;
    }

-- the last of these times is within those of a stream, also where its start is later
pub room-behind : (slot slots bytes : ℕ) → 1016 ≤ slot → slot ≤ 40000 → bytes ≡ 188 * slots → bytes ≤ 536870912 → last_gone slot slots + 13500000 ≤ last_time slot
room-behind slot slots bytes least most size short =
    let few : slots ≤ 2855696 = omega (arith, size, short) in
    let product : slots * slot ≤ 2855696 * slot = mul-le-mul_right slot few in
    omega (arith, product, least, most)
