-- The packets of a job's stream in the slots of its schedule: they are clean.
use Rattle.std.proofs.Common.{◌≡◌, ℕ, ◌+◌, ◌<◌, ◌≤◌, List, [], All, length, map, Some, None, refl, sym, ap, subst, ◌∙◌, arith}
use Rattle.std.specs.Prelude.{slice_get, slice_index_or}
use Rattle.std.specs.List.{AllZip, filter, flat_map, range_with_len}
use Rattle.std.proofs.lemmas.List.{length-map}
use Rattle.std.proofs.lemmas.Option.{get_or_from_slice_get, slice_get-get_or, slice_get_within}
use Rattle.bit_lists.specs.Payload.{Payload}
use Rattle.ts_packets.specs.Packet.{PacketRecord}
use Rattle.ts_packets.specs.Carried.{payloads_on}
use Rattle.tstd_model.specs.declared.decoder_input.Arrival.{Arrival}
use Rattle.tstd_model.specs.declared.decoder_input.BufferKind.TheVariants.{System}
use Rattle.tstd_model.specs.declared.decoder_input.Removal.{Removal}
use Rattle.tstd_model.specs.declared.fault.TstdFault.{TstdFault}
use Rattle.tstd_model.specs.Faults.{IsFault}
use Rattle.version_table.specs.declared.table.AudioPacket.{AudioPacket}
use Rattle.version_table.specs.declared.table.ProgramRow.{ProgramRow}
use Rattle.version_table.specs.declared.table.Table.{Table}
use Rattle.version_table.specs.Choice.{Fits}
use Rattle.version_table.specs.Table.{IsValidTable}
use Rattle.slot_rule.specs.declared.queue_kind.QueueKind.{QueueKind}
use Rattle.slot_rule.specs.declared.queue_kind.QueueKind.TheVariants.{Video, Audio}
use Rattle.slot_rule.specs.declared.queued_packet.QueuedPacket.{QueuedPacket}
use Rattle.slot_rule.specs.declared.slot_list.SlotList.{SlotList}
use Rattle.slot_rule.specs.Private.QueueItems.{HasSizes}
use Rattle.slot_rule.specs.Queues.{Queue, audio_of, queues_of, video_queue}
use Rattle.slot_rule.specs.Sent.{choice_from, video_number}
use Rattle.slot_rule.specs.SlotList.{IsSlotList, is_sent_of, piece_sent, sent_of}
use Rattle.slot_rule.proofs.RuleQueues.{HasSizes-at_program, IsLimited, IsValidStream, IsValidStream-at}
use Rattle.tstd_bridge.specs.Arrivals.{Headers, arrivals_from, buffers_of}
use Rattle.tstd_bridge.specs.Clean.{AreClean}
use Rattle.tstd_bridge.specs.Removals.{AreWithin, IsAllowed, LeaveData, removals_when_wanted}
use Rattle.mux_writer.specs.Layout.{map_pid, video_pid}
use Rattle.mux_writer.specs.Output.{output_packets, packet_in}
use Rattle.mux_writer.specs.Pieces.{Pieces}
use Rattle.job_report.specs.declared.job.Job.{Job}
use Rattle.program_reader.specs.declared.program.AudioSource.{AudioSource}
use Rattle.program_reader.specs.declared.program.Program.{Program}
use Rattle.version_maker.specs.declared.version.UnitVersion.{UnitVersion}
use Rattle.version_source.specs.Pieces.{audio_items, pieces_of, stream_items, video_items}
use Rattle.version_source.specs.Sendable.{IsPieceOf, IsSendable}
use Rattle.version_source.specs.Versions.{AreAllVersions, ratios_of}
use Rattle.program_table.specs.Table.{audio_row, program_rows, unit_rows}
use Rattle.job_stream.specs.Private.Outgoing.{CanGoOut}
use Rattle.job_stream.specs.Stream.{layout_of}
use Rattle.clean_laws.specs.Arrivals.{arrivals_on, header_bytes, section_arrivals}
use Rattle.clean_laws.specs.Clean.{IsCleanOn, IsPayloadOf}
use Rattle.clean_laws.proofs.Slots.{IsRowPacket, rows-and-packets}
use Rattle.clean_laws.proofs.Brought.{HasItsPiece, IsFirstPiece, IsPidOf, kind-there, stream-brings}
use Rattle.clean_laws.proofs.SectionsBrought.{AreSections, sections-bring}
use Rattle.clean_laws.proofs.Payloads.{HavePayload, payloads-are, piece_of_sent}
use Rattle.clean_laws.proofs.Numbers.{audio-at, video-at}
use Rattle.clean_laws.proofs.Places.{ProgramAt, audio-source, program-at}
use Rattle.clean_laws.proofs.Pids.{audio-pid, video-pid}
use Rattle.version_source.proofs.VersionBytes.{video-versions-some}
use Rattle.clean_laws.proofs.Queued.{IsAudioPiece, IsVideoPiece, ItemPieces, PiecesAreAsQueued, audio-zip, no_piece, video-zip}
use Rattle.clean_laws.proofs.Headers.{found-zip, header-within, zip-all, zip-at}

-- the packets of each queue stand in the slots of a schedule in order
abbrev pub StandInOrder : Type 0
StandInOrder = (table : Table) (choice : List ℕ) (stream : ℕ) (queue : Queue) (list : SlotList) → slice_get (queues_of table choice) stream ≡ Some queue → IsSlotList table choice list
    → filter (is_sent_of stream) list.rows ≡ map (piece_sent queue.kind stream) queue.packets

-- the bytes of each stream may be removed when they are wanted
abbrev pub AllowedWhenWanted : Type 0
AllowedWhenWanted = (table : Table) (choice : List ℕ) (stream : ℕ) (kind : QueueKind) (packets : List QueuedPacket) (headers : Headers) → IsValidTable table → Fits table choice
    → slice_get (queues_of table choice) stream ≡ Some (record { kind = kind; packets = packets }) → IsAllowed kind headers packets (removals_when_wanted kind headers packets)

-- what is known of a job's stream
pub record IsMade (job : Job) (programs : List Program) (table : Table) (choice : List ℕ) (versions : List (List (List UnitVersion))) (list : SlotList) : Type 0 where
  pub valid : IsValidTable table
  pub fits : Fits table choice
  pub versions_are : AreAllVersions programs (ratios_of job.programs) versions
  pub rows_are : table.programs ≡ program_rows job.programs programs versions
  pub out : All CanGoOut programs
  pub sendable : All IsSendable programs
  pub slots : IsSlotList table choice list
  pub clean : AreClean table choice slots.rows
  pub when_wanted : AllowedWhenWanted
  pub as_queued : PiecesAreAsQueued
  pub in_order : StandInOrder

module _ (job : Job) (programs : List Program) (table : Table) (choice : List ℕ) (versions : List (List (List UnitVersion))) (list : SlotList) (made : IsMade job programs table choice versions list) where
  -- the pieces of all streams
  abbrev pieces : Pieces
  pieces = pieces_of (stream_items programs versions choice)

  -- the packets of the stream
  abbrev pub stream_packets : List PacketRecord
  stream_packets = output_packets (layout_of job programs) job.slot (pieces_of (stream_items programs versions choice)) list.rows

  -- they stand beside the rows
  abbrev pub IsBeside : Type 0
  IsBeside = AllZip (IsRowPacket (length table.programs) (queues_of table choice) (layout_of job programs) job.slot (pieces_of (stream_items programs versions choice))) made.slots.rows stream_packets

  beside : IsBeside
  beside =
      let f = sent_of (queues_of table choice) in
      let p = packet_in (layout_of job programs) job.slot (pieces_of (stream_items programs versions choice)) in
      subst
      (λ (packets : List PacketRecord). AllZip (IsRowPacket (length table.programs) (queues_of table choice) (layout_of job programs) job.slot (pieces_of (stream_items programs versions choice))) made.slots.rows packets)
      (ap (λ (n : ℕ). map (p (map f made.slots.rows)) (range_with_len 0 n)) (sym (length-map made.slots.rows f))
      ∙ ap (output_packets (layout_of job programs) job.slot (pieces_of (stream_items programs versions choice))) (sym made.slots.rows_are))
      (rows-and-packets table choice (layout_of job programs) job.slot (pieces_of (stream_items programs versions choice)) made.slots.rows made.slots.schedule.follows)

  -- a program of the table among the sources
  abbrev pub IsAt : (program : ℕ) → ProgramRow → Type 0
  IsAt program row = ProgramAt programs versions choice table.programs program row

  at : (program : ℕ) (row : ProgramRow) → slice_get table.programs program ≡ Some row → IsAt program row
  at program row =
      subst (λ (rows : List ProgramRow). slice_get rows program ≡ Some row → ProgramAt programs versions choice rows program row) (sym made.rows_are)
      (λ there. program-at job.programs programs versions choice program row made.versions_are made.sendable there)

  -- the PES headers of a stream's packets, as their pieces have them
  abbrev pub headers_of : (stream : ℕ) → Headers
  headers_of stream packet = header_bytes (pieces_of (stream_items programs versions choice) stream packet.item packet.piece)

  -- a queue with its PID, each of its packets with its piece
  pub record IsStream (stream pid : ℕ) (kind : QueueKind) (packets : List QueuedPacket) : Type 0 where
    pub pid_is : IsPidOf (queues_of table choice) (layout_of job programs) (length table.programs) stream pid kind
    pub queue : slice_get (queues_of table choice) stream ≡ Some (record { kind = kind; packets = packets })
    pub has : (place : ℕ) (packet : QueuedPacket) → slice_get packets place ≡ Some packet
        → HasItsPiece (pieces_of (stream_items programs versions choice)) (headers_of stream) stream kind packet

  -- the packets have payload
  have-payload : (stream pid : ℕ) (kind : QueueKind) (packets : List QueuedPacket) → IsStream stream pid kind packets
      → HavePayload (queues_of table choice) (layout_of job programs) job.slot (length table.programs) (pieces_of (stream_items programs versions choice)) stream pid packets
  have-payload stream pid kind packets is place packet there = λ own own-is. of-kind own (sym own-is ∙ kind-there (queues_of table choice) stream kind packets is.queue)
    where
      some : 1 ≤ packet.payload
      some =
          let valid : IsValidStream table.slot (record { kind = kind; packets = packets }) =
          IsValidStream-at table choice stream (record { kind = kind; packets = packets }) made.valid made.fits is.queue in
          let limited : IsLimited table.slot packet =
          subst (IsLimited table.slot) (get_or_from_slice_get packets place packet packet there) (valid.each place packet (slice_get_within packets place packet there)) in
          limited.some_payload

      of-kind : (own : QueueKind) → own ≡ kind → 1 ≤ length (piece_of_sent (pieces_of (stream_items programs versions choice)) (piece_sent own stream packet)).bytes
      of-kind (Video program vbv) same = let has = is.has place packet there in omega (arith, some, has.size)
      of-kind Audio same =
          let has = is.has place packet there in
          let first : packet.piece ≡ 0 = subst (λ (k : QueueKind). IsFirstPiece k packet) (sym same) has.first in
          subst (λ (k : ℕ). 1 ≤ length (pieces_of (stream_items programs versions choice) stream packet.item k).bytes) first (omega (arith, some, has.size))

  -- the payloads of a stream's PID are the pieces of its queue's packets
  pub payloads-of : (stream pid : ℕ) (kind : QueueKind) (packets : List QueuedPacket) → IsStream stream pid kind packets
      → payloads_on pid stream_packets ≡ map (λ packet. pieces_of (stream_items programs versions choice) stream packet.item packet.piece) packets
  payloads-of stream pid kind packets is =
      payloads-are (queues_of table choice) (layout_of job programs) job.slot (length table.programs) (pieces_of (stream_items programs versions choice)) stream pid kind packets
      made.slots.rows stream_packets is.pid_is is.queue (have-payload stream pid kind packets is) (λ place packet there. (is.has place packet there).first)
      (ap (filter (is_sent_of stream)) (sym made.slots.rows_are) ∙ made.in_order table choice stream (record { kind = kind; packets = packets }) list is.queue made.slots) beside

  -- what comes on the PID is what the rows bring
  arrivals-are : (stream pid : ℕ) (kind : QueueKind) (packets : List QueuedPacket) → IsStream stream pid kind packets
      → arrivals_on pid stream_packets ≡ arrivals_from 0 stream kind (headers_of stream) made.slots.rows
  arrivals-are stream pid kind packets is =
      stream-brings (queues_of table choice) (layout_of job programs) job.slot (length table.programs) (pieces_of (stream_items programs versions choice)) (headers_of stream) stream pid packets
      kind made.slots.rows stream_packets is.pid_is is.queue is.has beside

  payloads-beside : (stream pid : ℕ) (kind : QueueKind) (packets : List QueuedPacket) → IsStream stream pid kind packets
      → AllZip (IsPayloadOf (headers_of stream)) (payloads_on pid stream_packets) packets
  payloads-beside stream pid kind packets is =
      subst (λ (payloads : List Payload). AllZip (IsPayloadOf (headers_of stream)) payloads packets) (sym (payloads-of stream pid kind packets is))
      (found-zip (IsPayloadOf (headers_of stream)) (λ packet. pieces_of (stream_items programs versions choice) stream packet.item packet.piece) packets
      (λ k d inside. let has = is.has k _ (slice_get-get_or packets k d inside) in record { size = has.size; header = refl }))

  when-wanted : (stream pid : ℕ) (kind : QueueKind) (packets : List QueuedPacket) → IsStream stream pid kind packets
      → (removals : List Removal) × IsAllowed kind (headers_of stream) packets removals
  when-wanted stream pid kind packets is =
      (removals_when_wanted kind (headers_of stream) packets, made.when_wanted table choice stream kind packets (headers_of stream) made.valid made.fits is.queue)

  -- ---- a video

  -- each packet beside its piece
  pub video-pieces : (program : ℕ) (row : ProgramRow) → slice_get table.programs program ≡ Some row → (is : IsAt program row)
      → AllZip (IsVideoPiece (pieces_of (stream_items programs versions choice) (video_number table.programs program)))
      (video_queue program row (choice_from table.programs program choice)).packets (flat_map (λ items. items) (video_items is.source.units is.own (choice_from table.programs program choice)))
  video-pieces program row there is =
      let c : List ℕ = choice_from table.programs program choice in
      let f : ItemPieces = pieces_of (stream_items programs versions choice) (video_number table.programs program) in
      let sizes : HasSizes row.units (choice_from table.programs program choice) =
      subst (λ (r : ProgramRow). HasSizes r.units (choice_from table.programs program choice)) (get_or_from_slice_get table.programs program row row there)
      (HasSizes-at_program table choice program row made.valid made.fits (slice_get_within table.programs program row there)) in
      let own-sizes : HasSizes (unit_rows is.weight is.drift is.source.units is.own) (choice_from table.programs program choice) =
      subst (λ (r : ProgramRow). HasSizes r.units (choice_from table.programs program choice)) (sym is.row_is) sizes in
      subst
      (λ (r : ProgramRow). AllZip (IsVideoPiece (pieces_of (stream_items programs versions choice) (video_number table.programs program)))
      (video_queue program r (choice_from table.programs program choice)).packets (flat_map (λ items. items) (video_items is.source.units is.own (choice_from table.programs program choice))))
      is.row_is
      (video-zip made.as_queued (pieces_of (stream_items programs versions choice) (video_number table.programs program)) is.weight is.drift 0 is.source.units is.own
      (choice_from table.programs program choice) own-sizes (video-versions-some is.source.video is.coarser None is.source.units is.own is.versions_are)
      (λ item k.
      ap (λ (n : ℕ). pieces_of (stream_items programs versions choice) (video_number table.programs program) n k) (let e : 0 + item ≡ item = omega arith in e)
      ∙ ap (λ (items : List (List Payload)). slice_index_or (slice_index_or items item []) k no_piece) is.video))

  video-stream : (program : ℕ) (row : ProgramRow) → slice_get table.programs program ≡ Some row
      → IsStream (video_number table.programs program) (video_pid program) (Video program row.vbv) (video_queue program row (choice_from table.programs program choice)).packets
  video-stream program row there = record {
    pid_is = video-pid job programs table choice versions made.valid made.out made.rows_are program row.vbv row there;
    queue = video-at 0 table.programs choice program row there
        ∙ ap (λ (n : ℕ). Some (video_queue n row (choice_from table.programs program choice))) (let e : 0 + program ≡ program = omega arith in e);
    has = zip-at (IsVideoPiece (pieces_of (stream_items programs versions choice) (video_number table.programs program)))
        (HasItsPiece (pieces_of (stream_items programs versions choice)) (headers_of (video_number table.programs program)) (video_number table.programs program) (Video program row.vbv))
        (λ packet payload of. record { first = tt; size = ap (λ (p : Payload). length p.bytes) of.found ∙ of.size; header = refl })
        (video_queue program row (choice_from table.programs program choice)).packets
        (flat_map (λ items. items) (video_items (at program row there).source.units (at program row there).own (choice_from table.programs program choice)))
        (video-pieces program row there (at program row there));
  }

  video-data : (program : ℕ) (row : ProgramRow) → slice_get table.programs program ≡ Some row
      → LeaveData (headers_of (video_number table.programs program)) (video_queue program row (choice_from table.programs program choice)).packets
  video-data program row there =
      zip-all (IsVideoPiece (pieces_of (stream_items programs versions choice) (video_number table.programs program)))
      (λ packet. headers_of (video_number table.programs program) packet < packet.payload)
      (λ packet payload of. let e = of.size in let h : headers_of (video_number table.programs program) packet ≡ header_bytes payload = ap header_bytes of.found in omega (arith, e, h, of.data_behind))
      (video_queue program row (choice_from table.programs program choice)).packets
      (flat_map (λ items. items) (video_items (at program row there).source.units (at program row there).own (choice_from table.programs program choice)))
      (video-pieces program row there (at program row there))

  pub video-clean : (program : ℕ) (row : ProgramRow) → slice_get table.programs program ≡ Some row
      → IsCleanOn table.slot (video_pid program) (video_queue program row (choice_from table.programs program choice)) stream_packets
  video-clean program row there =
      let stream : ℕ = video_number table.programs program in
      let is = video-stream program row there in
      record {
        headers = headers_of (video_number table.programs program);
        payloads = payloads-beside (video_number table.programs program) (video_pid program) (Video program row.vbv) (video_queue program row (choice_from table.programs program choice)).packets is;
        allowed = when-wanted (video_number table.programs program) (video_pid program) (Video program row.vbv) (video_queue program row (choice_from table.programs program choice)).packets is;
        clean = λ removals fault allowed found.
            made.clean.videos (video_number table.programs program) program row.vbv (video_queue program row (choice_from table.programs program choice)).packets
            (headers_of (video_number table.programs program)) removals fault is.queue (video-data program row there) allowed
            (subst (λ (arrivals : List Arrival). IsFault table.slot (buffers_of (Video program row.vbv)) arrivals removals fault)
            (arrivals-are (video_number table.programs program) (video_pid program) (Video program row.vbv) (video_queue program row (choice_from table.programs program choice)).packets is) found);
      }

  -- ---- an audio stream

  -- each packet beside its piece
  pub audio-pieces : (program audio : ℕ) (row : ProgramRow) (source : AudioSource) → (is : IsAt program row) → slice_get is.source.audios audio ≡ Some source
      → AllZip (IsAudioPiece (pieces_of (stream_items programs versions choice) (video_number table.programs program + 1 + audio))) (audio_of (audio_row source)).packets
      (flat_map (λ items. items) (audio_items source))
  audio-pieces program audio row source is there =
      let all : All (IsPieceOf source.bytes) source.pieces =
      subst (λ (a : AudioSource). All (IsPieceOf a.bytes) a.pieces) (get_or_from_slice_get is.source.audios audio source source there)
      (is.sendable.audio audio source (slice_get_within is.source.audios audio source there)) in
      audio-zip (pieces_of (stream_items programs versions choice) (video_number table.programs program + 1 + audio)) 0 source.bytes source.pieces all
      (λ item k.
      ap (λ (n : ℕ). pieces_of (stream_items programs versions choice) (video_number table.programs program + 1 + audio) n k) (let e : 0 + item ≡ item = omega arith in e)
      ∙ ap (λ (items : List (List Payload)). slice_index_or (slice_index_or items item []) k no_piece) (is.audio audio source there))

  -- an audio stream of the table has a source
  source-at : (program audio : ℕ) (row : ProgramRow) (packets : List AudioPacket) → (is : IsAt program row) → slice_get row.audios audio ≡ Some packets
      → (a : AudioSource) × (slice_get is.source.audios audio ≡ Some a) × (audio_row a ≡ packets)
  source-at program audio row packets is there =
      audio-source is.source.audios audio packets (ap (λ (r : ProgramRow). slice_get r.audios audio) is.row_is ∙ there)

  pub audio-pieces-of : (program audio : ℕ) (row : ProgramRow) (packets : List AudioPacket) → slice_get table.programs program ≡ Some row → slice_get row.audios audio ≡ Some packets
      → (payloads : List Payload) × AllZip (IsAudioPiece (pieces_of (stream_items programs versions choice) (video_number table.programs program + 1 + audio))) (audio_of packets).packets payloads
  audio-pieces-of program audio row packets there of =
      let is : IsAt program row = at program row there in
      let source = source-at program audio row packets (at program row there) of in (
        flat_map (λ items. items) (audio_items source.0),
        subst
            (λ (ps : List AudioPacket). AllZip (IsAudioPiece (pieces_of (stream_items programs versions choice) (video_number table.programs program + 1 + audio))) (audio_of ps).packets
            (flat_map (λ items. items) (audio_items source.0)))
            source.2 (audio-pieces program audio row source.0 (at program row there) source.1),
      )

  audio-stream : (program audio : ℕ) (row : ProgramRow) (packets : List AudioPacket) → slice_get table.programs program ≡ Some row → slice_get row.audios audio ≡ Some packets
      → IsStream (video_number table.programs program + 1 + audio) (video_pid program + 1 + audio) Audio (audio_of packets).packets
  audio-stream program audio row packets there of =
      let pieces-are = audio-pieces-of program audio row packets there of in
      record {
        pid_is = audio-pid job programs table choice versions made.valid made.out made.rows_are program audio row there (slice_get_within row.audios audio packets of);
        queue = audio-at 0 table.programs choice program audio row packets there of;
        has = zip-at (IsAudioPiece (pieces_of (stream_items programs versions choice) (video_number table.programs program + 1 + audio)))
            (HasItsPiece (pieces_of (stream_items programs versions choice)) (headers_of (video_number table.programs program + 1 + audio)) (video_number table.programs program + 1 + audio) Audio)
            (λ packet payload is. record { first = is.first; size = ap (λ (p : Payload). length p.bytes) is.found ∙ is.size; header = refl })
            (audio_of packets).packets pieces-are.0 pieces-are.1;
      }

  audio-within : (program audio : ℕ) (row : ProgramRow) (packets : List AudioPacket) → slice_get table.programs program ≡ Some row → slice_get row.audios audio ≡ Some packets
      → AreWithin (headers_of (video_number table.programs program + 1 + audio)) (audio_of packets).packets
  audio-within program audio row packets there of =
      let pieces-are = audio-pieces-of program audio row packets there of in
      zip-all (IsAudioPiece (pieces_of (stream_items programs versions choice) (video_number table.programs program + 1 + audio)))
      (λ packet. headers_of (video_number table.programs program + 1 + audio) packet ≤ packet.payload)
      (λ packet payload is.
      let h : headers_of (video_number table.programs program + 1 + audio) packet ≡ header_bytes payload = ap header_bytes is.found in
      omega (arith, is.size, h, header-within payload))
      (audio_of packets).packets pieces-are.0 pieces-are.1

  pub audio-clean : (program audio : ℕ) (row : ProgramRow) (packets : List AudioPacket) → slice_get table.programs program ≡ Some row → slice_get row.audios audio ≡ Some packets
      → IsCleanOn table.slot (video_pid program + 1 + audio) (audio_of packets) stream_packets
  audio-clean program audio row packets there of =
      let is = audio-stream program audio row packets there of in
      record {
        headers = headers_of (video_number table.programs program + 1 + audio);
        payloads = payloads-beside (video_number table.programs program + 1 + audio) (video_pid program + 1 + audio) Audio (audio_of packets).packets is;
        allowed = when-wanted (video_number table.programs program + 1 + audio) (video_pid program + 1 + audio) Audio (audio_of packets).packets is;
        clean = λ removals fault allowed found.
            made.clean.audios (video_number table.programs program + 1 + audio) (audio_of packets).packets (headers_of (video_number table.programs program + 1 + audio)) removals fault
            is.queue (audio-within program audio row packets there of) allowed
            (subst (λ (arrivals : List Arrival). IsFault table.slot (buffers_of Audio) arrivals removals fault)
            (arrivals-are (video_number table.programs program + 1 + audio) (video_pid program + 1 + audio) Audio (audio_of packets).packets is) found);
      }

  -- ---- sections

  pub sections-clean : AreSections (queues_of table choice) (layout_of job programs) (length table.programs) → (program : ℕ) → program < length table.programs → (fault : TstdFault)
      → IsFault table.slot System (section_arrivals (map_pid program) stream_packets) [] fault → ⊥
  sections-clean are program inside fault found =
      made.clean.sections program fault
      (subst (λ (arrivals : List Arrival). IsFault table.slot System arrivals [] fault)
      (sections-bring (queues_of table choice) (layout_of job programs) job.slot (length table.programs) (pieces_of (stream_items programs versions choice)) program
      made.slots.rows stream_packets inside are beside) found)
