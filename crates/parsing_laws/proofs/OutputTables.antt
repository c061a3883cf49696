-- What each program of an output stream is read as, from the laws of reading its layers.
use Rattle.std.proofs.Common.{
  ◌≡◌,
  ◌≢◌,
  ℕ,
  ◌+◌,
  ◌*◌,
  ◌/◌,
  ◌<◌,
  ◌≤◌,
  ◌⊎◌,
  inl,
  inr,
  Bool,
  true,
  cond,
  List,
  [],
  ◌∷◌,
  All,
  length,
  get_or,
  map,
  replicate,
  Some,
  None,
  Ok,
  refl,
  sym,
  ap,
  ◌∙◌,
  subst,
  arith,
}
use Rattle.std.specs.Prelude.{slice_get}
use Rattle.std.specs.List.{range_with_len}
use Rattle.std.proofs.lemmas.List.FromFn.{length-map-range_with_len}
use Rattle.std.proofs.lemmas.List.Elements.{All-get_or}
use Rattle.std.proofs.lemmas.Option.{get_or_from_slice_get, none-some, slice_get-get_or, slice_get_within}
use Rattle.bit_lists.specs.Payload.{CarriedPayload}
use Rattle.ts_packets.specs.Packet.{PacketRecord, packet_identifier, packet_of, sync_byte}
use Rattle.ts_packets.specs.TransportStream.{Piece, is_of_pid, packets, piece_at, piece_count, pid_pieces}
use Rattle.ts_packets.specs.Carried.{carried, pid_fault}
use Rattle.psi_tables.specs.declared.program_map.ProgramMap.{ProgramMap}
use Rattle.psi_tables.specs.declared.stream.Stream.{Stream}
use Rattle.psi_tables.specs.Sections.{sections_of}
use Rattle.psi_tables.specs.Pat.{IsPat, pat_map_pid as said_pid}
use Rattle.psi_tables.specs.Pmt.{IsWritableMap, pids_of, pmt_length, without_dropped}
use Rattle.psi_tables.specs.PmtOf.{pmt_of}
use Rattle.slot_rule.specs.declared.sent.Sent.{Sent}
use Rattle.slot_rule.specs.declared.sent.Sent.TheVariants.{Null}
use Rattle.ts_demux.specs.declared.demux_fault.DemuxFault.{DemuxFault}
use Rattle.ts_demux.specs.Demux.{AreStreamsSound, IsDemuxed, IsStreamFault, pes_packets_on}
use Rattle.ts_demux.specs.Streams.{audios_of, is_among, is_video, others_of, video_of, without_video}
use Rattle.ts_demux.specs.Tables.{HasMap}
use Rattle.mux_writer.specs.declared.layout.Layout.{Layout}
use Rattle.mux_writer.specs.Layout.{IsLayout, map_pid, video_pid}
use Rattle.mux_writer.specs.Output.{IsOfLayout, output_packets, output_stream, packet_in, payload_count}
use Rattle.mux_writer.specs.Pieces.{IsPayload, Pieces}
use Rattle.mux_writer.specs.Tables.{pat_section, pmt_section, programs_from}
use Rattle.output_laws.specs.Fields.{HaveNumbersInRange, IsMapInRange}
use Rattle.output_laws.specs.SentOn.{AreRowsOf, slots_between}
use Rattle.parsing_laws.specs.TakenOut.{BeginWithTables, HasStreams, IsNumberedIn, LeadsToMap, taken_out}
use Rattle.parsing_laws.proofs.CarriedStreams.{all-carried, among-range}
use Rattle.parsing_laws.proofs.MapReading.{ReadsTables, leads-to-map, map-read}
use Rattle.parsing_laws.proofs.SectionReading.{synced}

-- ---- the laws below, as this crate calls them

abbrev pub CountsPackets : Type 0
CountsPackets = (file : List ℕ) (list : List PacketRecord) → packets file ≡ map Some list → piece_count file ≡ length list

abbrev pub StandInOrder : Type 0
StandInOrder =
    (file : List ℕ) (list : List PacketRecord) (n : ℕ) (packet : PacketRecord) → packets file ≡ map Some list → slice_get list n ≡ Some packet
    → (packet_of (piece_at file n) ≡ Some packet) × (packet_identifier (piece_at file n) ≡ packet.pid)

abbrev pub ReadAsWritten : Type 0
ReadAsWritten =
    (layout : Layout) (slot : ℕ) (pieces : Pieces) (rows : List Sent) → IsLayout layout → length layout.maps.items ≤ 8 → All (IsOfLayout layout (IsPayload pieces)) rows
    → packets (output_stream layout slot pieces rows) ≡ map Some (output_packets layout slot pieces rows)

abbrev pub SoundAsSent : Type 0
SoundAsSent =
    (layout : Layout) (slot : ℕ) (pieces : Pieces) (rows : List Sent) (pid from n : ℕ) → AreRowsOf layout pieces rows → pid ≢ 0x1FFF → from ≤ n → n < length rows
    → is_of_pid (output_stream layout slot pieces rows) pid n ≡ true
    → pid_fault (pid_pieces (output_stream layout slot pieces rows) pid from n) (record { at = 188 * n; bytes = piece_at (output_stream layout slot pieces rows) n }) ≡ None

abbrev pub PatAgain : Type 0
PatAgain =
    (layout : Layout) (slot : ℕ) (pieces : Pieces) (rows : List Sent) (from to : ℕ) → AreRowsOf layout pieces rows → from ≤ to → to ≤ length rows
    → sections_of (map (λ (carried : CarriedPayload). carried.payload) (carried (pid_pieces (output_stream layout slot pieces rows) 0 from to)))
    ≡ replicate (payload_count layout 0 (slots_between rows from to)) (Ok (pat_section layout))

abbrev pub PmtAgain : Type 0
PmtAgain =
    (layout : Layout) (slot : ℕ) (pieces : Pieces) (rows : List Sent) (program from to : ℕ) (program_map : ProgramMap) → AreRowsOf layout pieces rows
    → slice_get layout.maps.items program ≡ Some program_map → from ≤ to → to ≤ length rows
    → sections_of (map (λ (carried : CarriedPayload). carried.payload) (carried (pid_pieces (output_stream layout slot pieces rows) (map_pid program) from to)))
    ≡ replicate (payload_count layout (map_pid program) (slots_between rows from to)) (Ok (pmt_section program_map))

abbrev pub PatSays : Type 0
PatSays = (layout : Layout) → length layout.maps.items ≤ 8 → HaveNumbersInRange layout → IsPat (programs_from 0 layout.maps.items) (pat_section layout)

abbrev pub PatLeads : Type 0
PatLeads =
    (maps : List ProgramMap) (program : ℕ) (program_map : ProgramMap) → slice_get maps program ≡ Some program_map → program_map.number ≢ 0
    → ((other : ℕ) (earlier : ProgramMap) → other < program → slice_get maps other ≡ Some earlier → earlier.number ≢ program_map.number)
    → said_pid program_map.number (programs_from 0 maps) ≡ Some (map_pid program)

abbrev pub PmtSays : Type 0
PmtSays = (program_map : ProgramMap) → IsWritableMap program_map → IsMapInRange program_map → pmt_length program_map ≤ 183 → pmt_of (pmt_section program_map) ≡ Some (without_dropped program_map)

-- ---- the packets of an output stream

module _ (counts : CountsPackets) (order : StandInOrder) (written : ReadAsWritten) (layout : Layout) (slot : ℕ) (pieces : Pieces) (rows : List Sent) (are : AreRowsOf layout pieces rows) where
  abbrev list : List PacketRecord
  list = output_packets layout slot pieces rows

  size : length list ≡ length rows
  size = length-map-range_with_len (packet_in layout slot pieces rows) 0 (length rows)

  read : packets (output_stream layout slot pieces rows) ≡ map Some list
  read = written layout slot pieces rows are.is_layout are.few are.each

  pub as-many : piece_count (output_stream layout slot pieces rows) ≡ length rows
  as-many = counts (output_stream layout slot pieces rows) list read ∙ size

  pub each-synced : (n : ℕ) → n < length rows → sync_byte (piece_at (output_stream layout slot pieces rows) n) ≡ 0x47
  each-synced n within =
      let packet : PacketRecord = get_or list n (packet_in layout slot pieces rows 0) in
      synced (piece_at (output_stream layout slot pieces rows) n) packet
      (order (output_stream layout slot pieces rows) list n packet read (slice_get-get_or list n (packet_in layout slot pieces rows 0) (omega (arith, within, size)))).0

-- ---- tables

map-in-range : (layout : Layout) (program : ℕ) (program_map : ProgramMap) → HaveNumbersInRange layout → slice_get layout.maps.items program ≡ Some program_map → IsMapInRange program_map
map-in-range layout program program_map range there =
    subst IsMapInRange (get_or_from_slice_get layout.maps.items program program_map program_map there)
    (All-get_or IsMapInRange layout.maps.items program program_map (slice_get_within layout.maps.items program program_map there) range.maps)

pub maps-are-read : CountsPackets → StandInOrder → ReadAsWritten → SoundAsSent → PatAgain → PmtAgain → PatSays → PatLeads → PmtSays
    → (layout : Layout) (slot : ℕ) (pieces : Pieces) (rows : List Sent) (program : ℕ) (program_map : ProgramMap) → AreRowsOf layout pieces rows
    → BeginWithTables (length layout.maps.items) rows → IsNumberedIn layout.maps.items program program_map
    → HasMap (output_stream layout slot pieces rows) program_map.number (without_dropped program_map) × LeadsToMap (output_stream layout slot pieces rows) program_map.number (map_pid program)
maps-are-read counts order written sound pat pmt says leads tells layout slot pieces rows program program_map are begin numbered =
    let goes = are.is_layout.maps program program_map numbered.there in
    let reads : ReadsTables (output_stream layout slot pieces rows) layout rows program program_map = record {
      count = as-many counts order written layout slot pieces rows are;
      synced = each-synced counts order written layout slot pieces rows are;
      sound = λ pid from n other begun within of. sound layout slot pieces rows pid from n are other begun within of;
      pats = λ from to begun within. pat layout slot pieces rows from to are begun within;
      pmts = λ from to begun within. pmt layout slot pieces rows program from to program_map are numbered.there begun within;
      says = says layout are.few are.in_range;
      leads = leads layout.maps.items program program_map numbered.there numbered.number numbered.first;
      tells = tells program_map goes.writable (map-in-range layout program program_map are.in_range numbered.there) goes.fits;
      begin = begin;
      place = slice_get_within layout.maps.items program program_map numbered.there;
      few = are.few;
    } in
    (map-read (output_stream layout slot pieces rows) layout rows program program_map reads, leads-to-map (output_stream layout slot pieces rows) layout rows program program_map reads)

-- ---- all that is taken out

video-first : (video : Stream) (audios : List Stream) → is_video video ≡ true → (video_of (video ∷ audios) ≡ Some video) × (without_video (video ∷ audios) ≡ audios)
video-first video audios is =
    (ap (λ (b : Bool). cond b (Some video) (video_of audios)) is, ap (λ (b : Bool). cond b audios (video ∷ without_video audios)) is)

pub taken-out : CountsPackets → StandInOrder → ReadAsWritten → SoundAsSent → (layout : Layout) (slot : ℕ) (pieces : Pieces) (rows : List Sent) (program : ℕ) (program_map : ProgramMap)
    (video : Stream) (audios : List Stream)
    → AreRowsOf layout pieces rows → BeginWithTables (length layout.maps.items) rows → IsNumberedIn layout.maps.items program program_map → HasStreams program_map video audios
    → HasMap (output_stream layout slot pieces rows) program_map.number (without_dropped program_map)
    → IsDemuxed (output_stream layout slot pieces rows) program_map.number [] (taken_out (output_stream layout slot pieces rows) program_map video audios)
taken-out counts order written sound layout slot pieces rows program program_map video audios are begin numbered has read =
    let file : List ℕ = output_stream layout slot pieces rows in
    let count : piece_count file ≡ length rows = as-many counts order written layout slot pieces rows are in
    let some : 0 < length rows = slice_get_within rows 0 _ begin.pat in
    let goes = are.is_layout.maps program program_map numbered.there in
    let place : program < length layout.maps.items = slice_get_within layout.maps.items program program_map numbered.there in
    let first = video-first video audios has.is_video in
    let pids : map (λ (stream : Stream). stream.pid) (video ∷ audios) ≡ range_with_len (video_pid program) (length (video ∷ audios)) =
    subst (λ (streams : List Stream). map (λ (stream : Stream). stream.pid) streams ≡ range_with_len (video_pid program) (length streams)) has.streams goes.pids in
    let pid : video.pid ≡ video_pid program = ap head_of pids in
    let rest : map (λ (stream : Stream). stream.pid) audios ≡ range_with_len (video_pid program + 1) (length audios) = ap tail_of pids in
    let carried = all-carried audios (video_pid program + 1) (video.pid ∷ []) (omega (arith, pid), tt) has.are_audio rest in
    record {
      tables = record {
        long = omega (arith, count, some);
        whole = without_dropped program_map;
        tables = read;
        carried_is = record {
          number = refl;
          pcr = refl;
          dropped_same = refl;
          video = video;
          video_is = ap video_of has.streams ∙ first.0;
          streams = has.streams ∙ ap (λ (xs : List Stream). video ∷ xs) (sym (ap (audios_of [] (video.pid ∷ [])) (ap without_video has.streams ∙ first.1) ∙ carried.0));
          others_are = sym (ap (others_of [] (video.pid ∷ [])) (ap without_video has.streams ∙ first.1) ∙ carried.1);
        };
      };
      few = goes.few;
      short = goes.fits;
      sound = λ n fault stop. no-fault n fault stop;
      video = video;
      audios = audios;
      streams = has.streams;
      video_packets = refl;
      audio_packets = refl;
      rest_is = refl;
    }
  where
    head_of : List ℕ → ℕ
    head_of [] = 0
    head_of (x ∷ xs) = x

    tail_of : List ℕ → List ℕ
    tail_of [] = []
    tail_of (x ∷ xs) = xs

    not-null : (pid : ℕ) → is_among (pids_of program_map) pid ≡ true → pid ≢ 0x1FFF
    not-null pid among same =
        let goes = are.is_layout.maps program program_map numbered.there in
        let place : program < length layout.maps.items = slice_get_within layout.maps.items program program_map numbered.there in
        let low = among-range (video_pid program) (length program_map.streams.items) pid (sym (ap (λ (xs : List ℕ). is_among xs pid) goes.pids) ∙ among) in
        omega (arith, low, same, goes.few, place, are.few)

    no-fault : (n : ℕ) (fault : DemuxFault) → IsStreamFault (output_stream layout slot pieces rows) (pids_of program_map) n fault → ⊥
    no-fault n fault (inl (unsynced, is)) =
        unsynced.no_sync (each-synced counts order written layout slot pieces rows are n (omega (arith, unsynced.within, as-many counts order written layout slot pieces rows are)))
    no-fault n fault (inr (pid, found, among, hits, is)) =
        none-some found
        (sym (sound layout slot pieces rows pid 0 n are (not-null pid among) hits.behind
        (omega (arith, hits.within, as-many counts order written layout slot pieces rows are)) hits.of_pid) ∙ hits.fault_is)
