-- A program of a job's stream, as an audit takes it.
use Rattle.std.proofs.Common.{◌≡◌, ◌≢◌, ℕ, ◌+◌, ◌*◌, ◌<◌, ◌≤◌, List, [], ◌∷◌, All, length, map, get_or, Some, refl, sym, ap, ap₂, subst, ◌∙◌, arith}
use Rattle.std.specs.Prelude.{slice_get}
use Rattle.std.specs.List.{flat_map}
use Rattle.std.proofs.lemmas.List.Elements.{All-get_or, All-map}
use Rattle.std.proofs.lemmas.Option.{same_Some, slice_get-get_or, slice_get_within}
use Rattle.bit_lists.specs.Payload.{Payload}
use Rattle.ts_packets.specs.Packet.{PacketRecord}
use Rattle.ts_packets.specs.Carried.{payloads_on}
use Rattle.ts_packets.specs.TransportStream.{packets}
use Rattle.version_table.specs.declared.table.ProgramRow.{ProgramRow}
use Rattle.version_table.specs.declared.table.Table.{Table}
use Rattle.version_table.specs.Table.{IsValidProgram}
use Rattle.slot_rule.specs.declared.queued_packet.QueuedPacket.{QueuedPacket}
use Rattle.slot_rule.specs.declared.slot_list.SlotList.{SlotList}
use Rattle.slot_rule.specs.declared.queue_kind.QueueKind.TheVariants.{Video}
use Rattle.slot_rule.specs.Queues.{audio_of, video_queue}
use Rattle.slot_rule.specs.Sent.{choice_from, video_number}
use Rattle.layer_laws.specs.Counted.{AreCounted}
use Rattle.mux_writer.specs.Layout.{map_pid, video_pid}
use Rattle.tstd_model.specs.declared.decoder_input.BufferKind.TheVariants.{System}
use Rattle.tstd_model.specs.Faults.{IsFault}
use Rattle.mux_writer.specs.Output.{output_packets}
use Rattle.job_report.specs.declared.job.Job.{Job}
use Rattle.program_reader.specs.declared.program.Program.{Program}
use Rattle.version_maker.specs.declared.version.UnitVersion.{UnitVersion}
use Rattle.version_source.specs.Pieces.{pieces_of, stream_items, video_items}
use Rattle.program_table.specs.Table.{IsTableOf}
use Rattle.job_stream.specs.Stream.{IsStreamIn, layout_of}
use Rattle.clean_laws.specs.Arrivals.{header_bytes, section_arrivals}
use Rattle.clean_laws.specs.Clean.{IsCleanOn, IsCleanStream}
use Rattle.clean_laws.proofs.Cleanness.{IsMade, IsStream, headers_of, payloads-of, video-clean, video-pieces}
use Rattle.clean_laws.proofs.Brought.{HasItsPiece}
use Rattle.clean_laws.proofs.Headers.{zip-all, zip-at}
use Rattle.clean_laws.proofs.Numbers.{video-at}
use Rattle.clean_laws.proofs.Pids.{video-pid}
use Rattle.clean_laws.proofs.Places.{ProgramAt, program-at}
use Rattle.clean_laws.proofs.Queued.{IsVideoPiece}
use Rattle.clean_laws.proofs.Stream.{IsReady, stream-clean, stream-read}
use Rattle.program_table.proofs.Rows.{HaveOneList}
use Rattle.time_laws.specs.Carried.{CarriesTable, CarriesTimes}
use Rattle.audit_laws.specs.Written.{IsFoundClean}
use Rattle.audit_laws.proofs.Axis.{HasAxis}
use Rattle.audit_laws.proofs.Parsed.{IsTakenAt}
use Rattle.audit_laws.proofs.Program.{IsProgramIn, ProgramLaws, found-clean}

same-packets : (xs ys : List PacketRecord) → map Some xs ≡ map Some ys → xs ≡ ys
same-packets [] [] same = refl
same-packets [] (y ∷ ys) same = absurd cc
same-packets (x ∷ xs) [] same = absurd cc
same-packets (x ∷ xs) (y ∷ ys) same = let head : Some x ≡ Some y = cc in let tail : map Some xs
    ≡ map Some ys = cc in ap₂ (λ (z : PacketRecord) (zs : List PacketRecord). z ∷ zs) (same_Some x y head) (same-packets xs ys tail)

no_row : ProgramRow
no_row = record { vbv = 0; units = []; audios = [] }

module _ (job : Job) (programs : List Program) (table : Table) (choice : List ℕ) (versions : List (List (List UnitVersion)))
    (slots : SlotList) (made : IsMade job programs table choice versions slots) where
  at : (program : ℕ) (row : ProgramRow) → slice_get table.programs program ≡ Some row → ProgramAt programs versions choice table.programs program row
  at program row =
      subst (λ (rows : List ProgramRow). slice_get rows program ≡ Some row → ProgramAt programs versions choice rows program row) (sym made.rows_are)
      (λ there. program-at job.programs programs versions choice program row made.versions_are made.sendable there)

  -- the queue of a video with its PID, each packet with its piece
  video-stream : (program : ℕ) (row : ProgramRow) → slice_get table.programs program ≡ Some row
      → IsStream job programs table choice versions slots made (video_number table.programs program) (video_pid program) (Video program row.vbv)
      (video_queue program row (choice_from table.programs program choice)).packets
  video-stream program row there = record {
    pid_is = video-pid job programs table choice versions made.valid made.out made.rows_are program row.vbv row there;
    queue = video-at 0 table.programs choice program row there
        ∙ ap (λ (n : ℕ). Some (video_queue n row (choice_from table.programs program choice))) (let e : 0 + program ≡ program = omega arith in e);
    has = zip-at (IsVideoPiece (pieces_of (stream_items programs versions choice) (video_number table.programs program)))
        (HasItsPiece (pieces_of (stream_items programs versions choice)) (headers_of job programs table choice versions slots made (video_number table.programs program))
        (video_number table.programs program) (Video program row.vbv))
        (λ packet payload of. record { first = tt; size = ap (λ (p : Payload). length p.bytes) of.found ∙ of.size; header = refl })
        (video_queue program row (choice_from table.programs program choice)).packets
        (flat_map (λ items. items) (video_items (at program row there).source.units (at program row there).own (choice_from table.programs program choice)))
        (video-pieces job programs table choice versions slots made program row there (at program row there));
  }

  -- each payload of a video has data behind its header
  pub video-leaves : (program : ℕ) (row : ProgramRow) → slice_get table.programs program ≡ Some row
      → All (λ (p : Payload). header_bytes p < length p.bytes)
      (payloads_on (video_pid program) (output_packets (layout_of job programs) job.slot (pieces_of (stream_items programs versions choice)) slots.rows))
  video-leaves program row there =
      let piece : QueuedPacket → Payload = λ packet. pieces_of (stream_items programs versions choice) (video_number table.programs program) packet.item packet.piece in
      let queued : List QueuedPacket = (video_queue program row (choice_from table.programs program choice)).packets in
      subst (All (λ (p : Payload). header_bytes p < length p.bytes))
      (sym (payloads-of job programs table choice versions slots made (video_number table.programs program) (video_pid program) (Video program row.vbv)
      (video_queue program row (choice_from table.programs program choice)).packets (video-stream program row there)))
      (All-map (λ (p : Payload). header_bytes p < length p.bytes) piece queued
      (zip-all (IsVideoPiece (pieces_of (stream_items programs versions choice) (video_number table.programs program)))
      (λ packet. header_bytes (piece packet) < length (piece packet).bytes)
      (λ packet payload of. subst (λ (p : Payload). header_bytes p < length p.bytes) (sym of.found) of.data_behind)
      (video_queue program row (choice_from table.programs program choice)).packets
      (flat_map (λ items. items) (video_items (at program row there).source.units (at program row there).own (choice_from table.programs program choice)))
      (video-pieces job programs table choice versions slots made program row there (at program row there))))

-- A program of a job's stream, with its packets and its row of the table, as an audit takes it.
pub record IsWrittenProgram (stream : List ℕ) (table : Table) (choice : List ℕ) (place number : ℕ) : Type 0 where
  pub list : List PacketRecord
  pub row : ProgramRow
  pub found : slice_get table.programs place ≡ Some row
  pub is : IsProgramIn stream list table.slot place number row (choice_from table.programs place choice)

-- Each program of a job's stream is one.
pub written-program : (job : Job) (programs : List Program) (table : Table) (choice : List ℕ) (slots : SlotList) (of : IsTableOf job programs table)
    (is : IsReady job programs table choice slots of) → HaveOneList → (stream numbers : List ℕ) → IsStreamIn job programs choice slots stream → length stream ≡ 188 * slots.slots
    → ((pid : ℕ) → pid ≢ 8191 → AreCounted pid (output_packets (layout_of job programs) job.slot (pieces_of (stream_items programs of.versions choice)) slots.rows))
    → CarriesTable table choice numbers stream
    → ((place number : ℕ) (row : ProgramRow) → slice_get numbers place ≡ Some number → slice_get table.programs place ≡ Some row → HasAxis stream number row)
    → (place number : ℕ) → slice_get numbers place ≡ Some number → IsTakenAt stream place number → length stream ≤ 536870912 → IsWrittenProgram stream table choice place number
written-program job programs table choice slots of is one_list stream numbers in_slots size counted carried axes place number there taken short = record {
  list = list;
  row = row;
  found = found;
  is = record {
    read = read;
    counted = counted;
    few = omega (arith, within, is.made.valid.few_programs);
    short = short;
    times = subst (λ (l : List PacketRecord). CarriesTimes stream l table.slot place number row (choice_from table.programs place choice))
        (same-packets carried.stream list (sym carried.read ∙ read)) (carried.each place number row there found);
    taken = taken;
    is_clean = video-clean job programs table choice of.versions slots is.made place row found;
    data_behind = video-leaves job programs table choice of.versions slots is.made place row found;
    sections = λ fault has.
        clean.sections place within fault (subst (λ (l : List PacketRecord). IsFault table.slot System (section_arrivals (map_pid place) l) [] fault) (sym same) has);
    rise = valid.dues;
    axis = axes place number row there found;
    few_audios = valid.few_audios;
    audios_clean = λ audio packets stands.
        subst (λ (l : List PacketRecord). IsCleanOn table.slot (video_pid place + 1 + audio) (audio_of packets) l) same (clean.audios place audio row packets found stands);
  };
}
  where
    list : List PacketRecord
    list = output_packets (layout_of job programs) job.slot (pieces_of (stream_items programs of.versions choice)) slots.rows

    clean : IsCleanStream table choice stream
    clean = stream-clean job programs table choice slots of is one_list stream in_slots size

    read : packets stream ≡ map Some list
    read = stream-read job programs table choice slots of is one_list stream in_slots

    same : clean.stream ≡ list
    same = same-packets clean.stream list (sym clean.read ∙ read)

    within : place < length table.programs
    within = let inside = slice_get_within numbers place number there in omega (arith, inside, carried.as_many)

    row : ProgramRow
    row = get_or table.programs place no_row

    found : slice_get table.programs place ≡ Some row
    found = slice_get-get_or table.programs place no_row within

    valid : IsValidProgram table.slot row
    valid = All-get_or (IsValidProgram table.slot) table.programs place no_row within is.made.valid.programs

-- A program of a job's stream has at most what an audit may find.
pub written-clean : ProgramLaws → (job : Job) (programs : List Program) (table : Table) (choice : List ℕ) (slots : SlotList) (of : IsTableOf job programs table)
    (is : IsReady job programs table choice slots of) → HaveOneList → (stream numbers : List ℕ) → IsStreamIn job programs choice slots stream → length stream ≡ 188 * slots.slots
    → ((pid : ℕ) → pid ≢ 8191 → AreCounted pid (output_packets (layout_of job programs) job.slot (pieces_of (stream_items programs of.versions choice)) slots.rows))
    → CarriesTable table choice numbers stream
    → ((place number : ℕ) (row : ProgramRow) → slice_get numbers place ≡ Some number → slice_get table.programs place ≡ Some row → HasAxis stream number row)
    → (place number : ℕ) → slice_get numbers place ≡ Some number → IsTakenAt stream place number → length stream ≤ 536870912 → IsFoundClean stream table.slot number
written-clean laws job programs table choice slots of is one_list stream numbers in_slots size counted carried axes place number there taken short =
    let written = written-program job programs table choice slots of is one_list stream numbers in_slots size counted carried axes place number there taken short in
    found-clean laws stream written.list table.slot place number written.row (choice_from table.programs place choice) written.is
