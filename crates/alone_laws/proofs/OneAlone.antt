-- A program of a job's stream, read by itself: it is a program of the stream, whose units are those that the stream carries.
use Rattle.std.proofs.Common.{◌≡◌, ℕ, suc, ◌+◌, ◌*◌, ◌/◌, ◌<◌, ◌≤◌, true, List, [], ◌∷◌, ◌++◌, All, get_or, length, map, Option, Some, None, refl, sym, ap, subst, ◌∙◌, arith, ℤ, pos}
use Rattle.std.specs.Prelude.{slice_get}
use Rattle.std.specs.List.{AllZip, zip}
use Rattle.std.proofs.lemmas.List.Elements.{All-cons, All-head, All-map, All-nil, All-tail, All-weaker}
use Rattle.bit_lists.specs.Fields.{AreBytes}
use Rattle.syntax_types.specs.declared.picture.SeqState.{SeqState}
use Rattle.psi_tables.specs.declared.stream.Stream.{Stream}
use Rattle.pes_units.specs.Times.{decoding_time}
use Rattle.es_units.specs.Units.{cut_units}
use Rattle.ts_packets.specs.Packet.{PacketRecord}
use Rattle.ts_packets.specs.TransportStream.{piece_count}
use Rattle.ts_demux.specs.declared.demuxed.AudioStream.{AudioStream}
use Rattle.ts_demux.specs.declared.demuxed.Demuxed.{Demuxed}
use Rattle.ts_demux.specs.declared.demuxed.PesUnit.{PesUnit}
use Rattle.ts_demux.specs.Demux.{IsDemuxed, pes_packets_on}
use Rattle.elementary_streams.specs.declared.pes_packets.PlacedPacket.{PlacedPacket}
use Rattle.elementary_streams.specs.Packets.{joined, pes_payload_of, placed_from, taken}
use Rattle.elementary_streams.proofs.CarriedSizes.{units_few}
use Rattle.version_table.specs.declared.table.AudioPacket.{AudioPacket}
use Rattle.version_table.specs.declared.table.ProgramRow.{ProgramRow}
use Rattle.version_table.specs.declared.table.Unit.{Unit as CodedUnit}
use Rattle.version_table.specs.Choice.{HasVersion}
use Rattle.job_report.specs.declared.job.Form.{Form}
use Rattle.job_report.specs.declared.job.ProgramJob.{ProgramJob}
use Rattle.program_reader.specs.declared.program.AudioPiece.{AudioPiece}
use Rattle.program_reader.specs.declared.program.AudioSource.{AudioSource}
use Rattle.program_reader.specs.declared.program.Program.{Program}
use Rattle.program_reader.specs.declared.program.UnitSource.{UnitSource}
use Rattle.program_reader.specs.declared.timed_picture.TimedPicture.{TimedPicture}
use Rattle.program_reader.specs.Programs.{AreUnitSources, IsBase, IsProgram, IsProgramOfFile, StandIn, all_packets_dropped, video_bytes, video_packets}
use Rattle.program_reader.specs.Units.{AreInOrder, IsTimed}
use Rattle.program_table.specs.Table.{audio_row, program_row, unit_rows}
use Rattle.program_table.proofs.UnitLimits.{kept-in-order, row-dues}
use Rattle.job_programs.specs.Alone.{IsAlone}
use Rattle.job_programs.specs.Programs.{IsNextProgram, IsWithinTime, last_time}
use Rattle.job_stream.proofs.NamedVersions.{unit_rows-count}
use Rattle.version_maker.specs.declared.version.UnitVersion.{UnitVersion}
use Rattle.version_source.specs.Versions.{AreVideoVersions}
use Rattle.unit_laws.specs.WholeVersions.{AreWholeVersions}
use Rattle.mux_writer.specs.Layout.{with_output_pids}
use Rattle.layer_laws.specs.WholeUnits.{placed_units}
use Rattle.parsing_laws.specs.Parsed.{AreReadAs, SentUnit, bytes_of_packets, joined_payloads}
use Rattle.job_laws.specs.ParsesTo.{ParsesToProgram, sent_units}
use Rattle.time_laws.specs.Carried.{CarriesTimes}
use Rattle.time_laws.specs.Clock.{IsFirstShown}
use Rattle.time_laws.specs.Video.{AreDecoded, DecodedPicture, IsDecodedWhen}
use Rattle.time_laws.proofs.Audios.{AllTaken, WhereverItStands, all-taken}
use Rattle.time_laws.proofs.Programs.{OneDemuxed}
use Rattle.time_laws.proofs.Spelled.{SpellingLaws}
use Rattle.time_laws.proofs.Videos.{all_outgoing, decoded}
use Rattle.audit_command.specs.AuditCommand.{kept_units}
use Rattle.audit_laws.specs.Kept.{AreKeptOf, AreOwnUnits}
use Rattle.alone_laws.proofs.AudioAgain.{all_moved, moved_piece, shifted-most}
use Rattle.audit_command.proofs.Auditable.{removal_of}
use Rattle.alone_laws.proofs.ProgramAgain.{AreEarly, is-again, many-stated, own-again, program_again, ticks-from, units_again}
use Rattle.alone_laws.proofs.ReadAgain.{AreBytesOf, AreRowsEarly, all-sent-units, early-rows, joined-again, payload-bytes, payloads-again, pictured-payloads, short-packets, shorter, sound-again, stated-again, taken-again, whole-payloads}
use Rattle.alone_laws.proofs.Scheduled.{AreAudioBy, AreDueBy, AreSmall}
use Rattle.alone_laws.proofs.Times.{base-again, clock-base}
use Rattle.alone_laws.proofs.VideoAgain.{AreSentUnits, AreStated, all_again, in-order-again}

-- A program of a job in the stream: what it was read as from its file, its versions and those that are chosen, and that the stream parses to it.
pub record ComesOut (file : List ℕ) (slot start number : ℕ) (row : ProgramRow) : Type 0 where
  pub place : ℕ
  pub job : ProgramJob
  pub content : List ℕ
  pub program : Program
  pub versions : List (List UnitVersion)
  pub own : List ℕ
  pub more : List CodedUnit
  pub contents : List (List ℕ)
  pub programs : List Program
  pub next : IsNextProgram slot start contents programs job content program
  pub are_versions : AreVideoVersions program.video job.coarser.items None program.units versions
  pub fits : AllZip HasVersion (unit_rows job.weight job.drift program.units versions ++ more) own
  pub parses : ParsesToProgram file content job (with_output_pids place job.number program.map) (sent_units program.units versions own)
  pub row_is : row ≡ program_row job.weight job.drift program versions
  pub number_is : job.number ≡ number
  pub bytes : AreBytes program.video

-- What a schedule says of a row: its chosen versions fit its buffer, and nothing is gone later than at a tick.
pub record IsSentBy (by : ℕ) (row : ProgramRow) (choice : List ℕ) : Type 0 where
  pub small : AreSmall 229376 (zip row.units choice)
  pub due : AreDueBy by (zip row.units choice)
  pub audio : (k : ℕ) (packets : List AudioPacket) → slice_get row.audios k ≡ Some packets → AreAudioBy by packets
  pub audio_dues : (k : ℕ) (packets : List AudioPacket) → slice_get row.audios k ≡ Some packets → All (λ (packet : AudioPacket). packet.due ≤ packet.gone) packets

-- ---- the stream's clock

numbers-head : List ℕ → ℕ
numbers-head [] = 0
numbers-head (x ∷ xs) = x

clock-first : (start clock : ℕ) (earliest : ℤ) (es : List ℕ) (placed : List PlacedPacket) (kept : List (ℕ × ℕ)) (pictures : List TimedPicture) (units : List UnitSource) (packets : List PesUnit)
    (first : DecodedPicture) (later : List DecodedPicture) → clock < 2576980377600 → AreInOrder es placed [] kept pictures → AreUnitSources start earliest kept pictures units
    → AreStated pictures packets → AreDecoded clock [] packets (first ∷ later)
    → map (λ (unit : UnitSource). unit.due) units ≡ map (λ (picture : DecodedPicture). picture.at) (first ∷ later) → IsBase start earliest clock
unfolding numbers-head
clock-first start clock earliest es placed kept pictures units [] first later below in_order are stated decoded dues = absurd decoded
clock-first start clock earliest es placed kept [] units (x ∷ xs) first later below in_order are stated decoded dues = absurd stated
clock-first start clock earliest es placed [] (p ∷ ps) units (x ∷ xs) first later below in_order are stated decoded dues = absurd in_order
clock-first start clock earliest es placed (k ∷ ks) (p ∷ ps) [] (x ∷ xs) first later below in_order are stated decoded dues = absurd are
clock-first start clock earliest es placed (k ∷ ks) (p ∷ ps) (u ∷ us) (x ∷ xs) first later below in_order are stated decoded dues =
    by_time (decoding_time p.times) in_order.0.timed (subst (λ (time : Option ℕ). IsDecodedWhen clock [] time first.at) stated.0 decoded.0.when)
  where
    at : u.due ≡ first.at
    at = ap numbers-head dues

    by_time : (time : Option ℕ) → IsTimed None time p.stated p.ticks → IsDecodedWhen clock [] time first.at → IsBase start earliest clock
    by_time None timed when = absurd timed
    by_time (Some value) timed when = clock-base start clock u.due value earliest p.ticks p.stated below are.3 timed.1 timed.0 (subst (IsFirstShown clock (pos (300 * value))) (sym at) when)

-- ---- times that are early enough

as-many-pictures : (start : ℕ) (earliest : ℤ) (kept : List (ℕ × ℕ)) (pictures : List TimedPicture) (units : List UnitSource) → AreUnitSources start earliest kept pictures units
    → length units ≡ length pictures
as-many-pictures start earliest [] [] [] are = refl
as-many-pictures start earliest [] [] (u ∷ us) are = absurd are
as-many-pictures start earliest [] (p ∷ ps) units are = absurd are
as-many-pictures start earliest (k ∷ ks) [] units are = absurd are
as-many-pictures start earliest (k ∷ ks) (p ∷ ps) [] are = absurd are
as-many-pictures start earliest (k ∷ ks) (p ∷ ps) (u ∷ us) are = ap suc (as-many-pictures start earliest ks ps us are.6)

rows-early : (by weight drift : ℕ) (es coarser : List ℕ) (state : Option SeqState) (units : List UnitSource) (versions : List (List UnitVersion)) → AreVideoVersions es coarser state units versions
    → AreRowsEarly by (unit_rows weight drift units versions) → AreEarly by units
rows-early by weight drift es coarser state [] versions are early = tt
rows-early by weight drift es coarser state (u ∷ us) [] are early = absurd are
rows-early by weight drift es coarser state (u ∷ us) (v ∷ vs) (after, leaves, here, rest) early = (early.0, rows-early by weight drift es coarser (Some after) us vs rest early.1)

units-within : (start to o by last : ℕ) (pictures : List TimedPicture) (units : List UnitSource) (packets : List PesUnit) → by + to ≤ last → AreEarly by units
    → All (λ (unit : UnitSource). unit.due ≤ last) (units_again start to o pictures units packets)
units-within start to o by last [] units packets room early = All-nil (λ (unit : UnitSource). unit.due ≤ last)
units-within start to o by last (p ∷ ps) [] packets room early = All-nil (λ (unit : UnitSource). unit.due ≤ last)
units-within start to o by last (p ∷ ps) (u ∷ us) [] room early = All-nil (λ (unit : UnitSource). unit.due ≤ last)
units-within start to o by last (p ∷ ps) (u ∷ us) (x ∷ xs) room early =
    All-cons (λ (unit : UnitSource). unit.due ≤ last) _ (units_again start to (o + length (pes_payload_of x)) ps us xs) (omega (arith, shifted-most start to u.due, early.0, room))
    (units-within start to (o + length (pes_payload_of x)) by last ps us xs room early.1)

pieces-within : (start to by last : ℕ) (pieces : List AudioPiece) → by + to ≤ last → AreAudioBy by (map (λ (piece : AudioPiece). piece.packet) pieces)
    → All (λ (packet : AudioPacket). packet.due ≤ packet.gone) (map (λ (piece : AudioPiece). piece.packet) pieces)
    → All (λ (piece : AudioPiece). piece.packet.due ≤ last) (map (moved_piece start to) pieces) × All (λ (piece : AudioPiece). piece.packet.gone ≤ last) (map (moved_piece start to) pieces)
pieces-within start to by last [] room early order = (All-nil (λ (piece : AudioPiece). piece.packet.due ≤ last), All-nil (λ (piece : AudioPiece). piece.packet.gone ≤ last))
pieces-within start to by last (x ∷ xs) room early order =
    let rest = pieces-within start to by last xs room early.1
    (All-tail (λ (packet : AudioPacket). packet.due ≤ packet.gone) x.packet (map (λ (piece : AudioPiece). piece.packet) xs) order) in
    let first : x.packet.due ≤ x.packet.gone = All-head (λ (packet : AudioPacket). packet.due ≤ packet.gone) x.packet (map (λ (piece : AudioPiece). piece.packet) xs) order in (
      All-cons (λ (piece : AudioPiece). piece.packet.due ≤ last) (moved_piece start to x) (map (moved_piece start to) xs) (omega (arith, shifted-most start to x.packet.due, first, early.0, room)) rest.0,
      All-cons (λ (piece : AudioPiece). piece.packet.gone ≤ last) (moved_piece start to x) (map (moved_piece start to) xs) (omega (arith, shifted-most start to x.packet.gone, early.0, room)) rest.1,
    )

abbrev DuesWithin : ℕ → AudioSource → Type 0
DuesWithin last audio = All (λ (piece : AudioPiece). piece.packet.due ≤ last) audio.pieces

abbrev GonesWithin : ℕ → AudioSource → Type 0
GonesWithin last audio = All (λ (piece : AudioPiece). piece.packet.gone ≤ last) audio.pieces

audios-within : (start to by last : ℕ) (outs : List AudioStream) (sources : List AudioSource) → by + to ≤ last
    → ((k : ℕ) (packets : List AudioPacket) → slice_get (map audio_row sources) k ≡ Some packets → AreAudioBy by packets)
    → ((k : ℕ) (packets : List AudioPacket) → slice_get (map audio_row sources) k ≡ Some packets → All (λ (packet : AudioPacket). packet.due ≤ packet.gone) packets)
    → All (λ (audio : AudioSource). All (λ (piece : AudioPiece). piece.packet.due ≤ last) audio.pieces) (all_moved start to outs sources)
    × All (λ (audio : AudioSource). All (λ (piece : AudioPiece). piece.packet.gone ≤ last) audio.pieces) (all_moved start to outs sources)
audios-within start to by last [] sources room early order = (All-nil (DuesWithin last), All-nil (GonesWithin last))
audios-within start to by last (o ∷ os) [] room early order = (All-nil (DuesWithin last), All-nil (GonesWithin last))
audios-within start to by last (o ∷ os) (a ∷ more) room early order =
    let own = pieces-within start to by last a.pieces room (early 0 (audio_row a) refl) (order 0 (audio_row a) refl) in
    let rest = audios-within start to by last os more room (λ k packets there. early (suc k) packets there) (λ k packets there. order (suc k) packets there) in
    (All-cons (DuesWithin last) _ (all_moved start to os more) own.0 rest.0, All-cons (GonesWithin last) _ (all_moved start to os more) own.1 rest.1)

-- ---- the program

-- the laws below, as this proof calls them
pub record AloneLaws : Type 0 where
  pub spelling : SpellingLaws
  pub whole : (form : Form) (content : List ℕ) (number : ℕ) (dropped : List ℕ) (start : ℕ) (program : Program) (coarser : List ℕ) (versions : List (List UnitVersion)) → AreBytes program.video
      → IsProgramOfFile form content number dropped start program → AreVideoVersions program.video coarser None program.units versions → AreWholeVersions None versions
  pub taken_out : OneDemuxed
  pub demuxed : (file : List ℕ) (program : ℕ) (drop : List ℕ) (one other : Demuxed) → IsDemuxed file program drop one → IsDemuxed file program drop other → one ≡ other
  pub wherever : WhereverItStands

-- a program of a file by itself, with the units that the stream's own times and PES packets say
pub record IsReadAlone (file : List ℕ) (slot number clock : ℕ) (packets : List PesUnit) (times : List ℕ) (vbv : ℕ) : Type 0 where
  pub program : Program
  pub alone : IsAlone slot 13500000 number file program
  pub kept : AreKeptOf clock packets times vbv (kept_units program)

module _ (laws : AloneLaws) (file : List ℕ) (list : List PacketRecord) (slot start number place by : ℕ) (row : ProgramRow) (choice : List ℕ) (out : ComesOut file slot start number row)
    (times : CarriesTimes file list slot place number row choice) (sent : IsSentBy by row choice) (low : start ≤ 54000000) (room : by + 13500000 ≤ last_time slot)
    (short : length file ≤ 536870912) where
  abbrev p : Program
  p = out.program

  abbrev src : Demuxed
  src = out.next.holds.demuxed

  abbrev d : Demuxed
  d = times.demuxed

  abbrev units_out : List SentUnit
  units_out = sent_units out.program.units out.versions out.own

  is : IsProgram start out.next.holds.demuxed out.program
  is = out.next.holds.program_is

  same : out.parses.demuxed ≡ times.demuxed
  same =
      laws.demuxed file number [] out.parses.demuxed times.demuxed
      (subst (λ (n : ℕ). IsDemuxed file n [] out.parses.demuxed) out.number_is out.parses.taken_out) times.taken_out

  read : AreReadAs (sent_units out.program.units out.versions out.own) (bytes_of_packets times.demuxed.video)
  read = subst (λ (e : Demuxed). AreReadAs (sent_units out.program.units out.versions out.own) (bytes_of_packets e.video)) same out.parses.video

  cut : cut_units (joined_payloads (bytes_of_packets times.demuxed.video))
      ≡ Some (record { dropped = 0; cuts = placed_units 0 (map (λ (unit : SentUnit). unit.bytes) (sent_units out.program.units out.versions out.own)) })
  cut =
      subst
      (λ (e : Demuxed). cut_units (joined_payloads (bytes_of_packets e.video))
      ≡ Some (record { dropped = 0; cuts = placed_units 0 (map (λ (unit : SentUnit). unit.bytes) (sent_units out.program.units out.versions out.own)) })) same out.parses.units

  audios : AllTaken times.demuxed.audios out.next.holds.demuxed.audios
  audios =
      let source : out.parses.source ≡ out.next.holds.demuxed =
      laws.taken_out out.job.form out.content out.job.program out.job.drop.items out.parses.source out.next.holds.demuxed out.parses.source_is out.next.holds.demuxed_is in
      subst (λ (e : Demuxed). AllTaken times.demuxed.audios e.audios) source
      (subst (λ (e : Demuxed). AllTaken e.audios out.parses.source.audios) same (all-taken out.parses.demuxed.audios out.parses.source.audios out.parses.audio))

  of_video : AreVideoVersions (video_bytes out.next.holds.demuxed) out.job.coarser.items None out.program.units out.versions
  of_video = subst (λ (bytes : List ℕ). AreVideoVersions bytes out.job.coarser.items None out.program.units out.versions) is.video_is out.are_versions

  in_order : AreInOrder (video_bytes out.next.holds.demuxed) (video_packets out.next.holds.demuxed) [] is.kept is.pictures
  in_order =
      kept-in-order (video_bytes out.next.holds.demuxed) (video_packets out.next.holds.demuxed) is.has_pictures.units.cuts is.kept is.pictures is.has_pictures.at_end is.has_pictures.kept_are

  before-round : (time : ℕ) → time ≤ last_time slot → time < 2576980377600
  before-round time within = omega (arith, within)

  decoded-out : AreDecoded out.program.base [] times.demuxed.video (all_outgoing is.pictures out.program.units)
  decoded-out =
      decoded laws.spelling (video_bytes out.next.holds.demuxed) out.job.coarser.items (video_packets out.next.holds.demuxed) out.job.weight out.job.drift start out.program.base is.earliest is.base_is []
      [] (record { last = tt; all = refl; tells = tt }) tt is.kept is.pictures out.program.units out.versions out.own out.more times.demuxed.video in_order is.units_are of_video out.fits
      (All-weaker (λ (unit : UnitSource). unit.due ≤ last_time slot) (λ (unit : UnitSource). unit.due < 2576980377600) (λ unit within. before-round unit.due within) out.program.units
      out.next.within.units)
      read

  stated : AreStated is.pictures times.demuxed.video
  stated =
      stated-again (video_bytes out.next.holds.demuxed) out.job.coarser.items out.job.weight out.job.drift start is.earliest None is.kept is.pictures out.program.units out.versions out.own out.more
      times.demuxed.video is.units_are of_video out.fits read

  few-on : (stream : Stream) → length (pes_packets_on file stream).units ≤ 4000000
  few-on stream = let few = units_few file stream in let count : piece_count file ≡ length file / 188 = refl in omega (arith, few.0, count, short)

  few : length times.demuxed.video ≤ 4000000
  few = subst (λ (packets : List PesUnit). length packets ≤ 4000000) (sym times.taken_out.video_packets) (few-on times.taken_out.video)

  few-audios : All (λ (stream : AudioStream). length stream.units ≤ 4000000) times.demuxed.audios
  few-audios =
      subst (λ (streams : List AudioStream). All (λ (stream : AudioStream). length stream.units ≤ 4000000) streams) (sym times.taken_out.audio_packets)
      (All-map (λ (stream : AudioStream). length stream.units ≤ 4000000) (pes_packets_on file) times.taken_out.audios (λ k e lt. few-on (get_or times.taken_out.audios k e)))

  sent-out : AreSentUnits times.demuxed.video
  sent-out =
      let es : List ℕ = video_bytes out.next.holds.demuxed in
      let bytes : AreBytesOf times.demuxed.video =
      payload-bytes es out.job.coarser.items out.job.weight out.job.drift None out.program.units out.versions out.own out.more times.demuxed.video (subst AreBytes is.video_is out.bytes) of_video
      out.fits read in
      all-sent-units times.demuxed.video
      (whole-payloads out.job.weight out.job.drift None out.program.units out.versions out.own out.more times.demuxed.video
      (laws.whole out.job.form out.content out.job.program out.job.drop.items start out.program out.job.coarser.items out.versions out.bytes out.next.holds out.are_versions) out.fits read)
      (pictured-payloads out.program.base [] times.demuxed.video (all_outgoing is.pictures out.program.units) bytes decoded-out)
      (shorter 229376 1048576 times.demuxed.video (omega arith) (short-packets 229376 (zip row.units choice) times.demuxed.video sent.small times.sizes))

  taken-all : taken true times.demuxed.video ≡ times.demuxed.video
  taken-all = taken-again (sent_units out.program.units out.versions out.own) times.demuxed.video read

  in-order-out : AreInOrder (video_bytes times.demuxed) (video_packets times.demuxed) [] (placed_units 0 (map pes_payload_of times.demuxed.video)) (all_again is.pictures times.demuxed.video)
  in-order-out =
      in-order-again (video_bytes out.next.holds.demuxed) (video_packets out.next.holds.demuxed) out.program.base (video_bytes times.demuxed) (video_packets times.demuxed) [] 0 [] [] [] [] is.kept
      is.pictures out.program.units times.demuxed.video (ap joined taken-all) refl (ap (placed_from 0) taken-all) tt (λ k before near. absurd (omega (arith, before))) sent-out tt refl in_order decoded-out
      stated

  cut-out : cut_units (video_bytes times.demuxed) ≡ Some (record { dropped = 0; cuts = placed_units 0 (map pes_payload_of times.demuxed.video) })
  cut-out =
      ap cut_units (ap joined taken-all ∙ joined-again times.demuxed.video) ∙ cut
      ∙ ap (λ (units : List (List ℕ)). Some (record { dropped = 0; cuts = placed_units 0 units }))
      (payloads-again (sent_units out.program.units out.versions out.own) times.demuxed.video read)

  read-program : Program
  read-program = program_again laws.wherever start 13500000 (omega arith) out.next.holds.demuxed times.demuxed out.program is

  is-read : IsProgram 13500000 times.demuxed read-program
  unfolding read-program
  is-read =
      is-again laws.wherever start 13500000 (omega arith) out.next.holds.demuxed times.demuxed out.program is
      (sound-again (sent_units out.program.units out.versions out.own) times.demuxed.video read) cut-out in-order-out stated (omega (arith, few)) audios

  early : AreEarly by out.program.units
  early =
      let rows : AreRowsEarly by row.units =
      early-rows by row.units choice times.demuxed.video times.sizes
      (ap (λ (r : ProgramRow). length r.units) out.row_is
      ∙ unit_rows-count out.job.weight out.job.drift out.program.video out.job.coarser.items None out.program.units out.versions out.are_versions
      ∙ as-many-pictures start is.earliest is.kept is.pictures out.program.units is.units_are ∙ many-stated is.pictures times.demuxed.video stated)
      sent.due in
      rows-early by out.job.weight out.job.drift out.program.video out.job.coarser.items None out.program.units out.versions out.are_versions
      (subst (λ (r : ProgramRow). AreRowsEarly by r.units) out.row_is rows)

  within : IsWithinTime slot read-program
  unfolding read-program
  within =
      let audio = audios-within start 13500000 by (last_time slot) times.demuxed.audios out.program.audios room
      (λ k packets there. sent.audio k packets (ap (λ (r : ProgramRow). slice_get r.audios k) out.row_is ∙ there))
      (λ k packets there. sent.audio_dues k packets (ap (λ (r : ProgramRow). slice_get r.audios k) out.row_is ∙ there)) in
      record {
        units = units-within start 13500000 0 by (last_time slot) is.pictures out.program.units times.demuxed.video room early;
        audio_dues = audio.0;
        audio_gones = audio.1;
      }

  dues : map (λ (unit : UnitSource). unit.due) out.program.units ≡ map (λ (picture : DecodedPicture). picture.at) (times.first ∷ times.later)
  dues =
      sym (row-dues out.job.weight out.job.drift out.program.video out.job.coarser.items None out.program.units out.versions out.are_versions)
      ∙ sym (ap (λ (r : ProgramRow). map (λ (unit : CodedUnit). unit.due) r.units) out.row_is) ∙ times.dues

  kept-out : AreKeptOf times.base times.demuxed.video (map (λ (picture : DecodedPicture). picture.at) (times.first ∷ times.later)) times.first.seq.vbv (kept_units read-program)
  unfolding read-program
  kept-out =
      let clock : IsBase start is.earliest times.base =
      clock-first start times.base is.earliest (video_bytes out.next.holds.demuxed) (video_packets out.next.holds.demuxed) is.kept is.pictures out.program.units times.demuxed.video times.first times.later
      times.clock.below in_order is.units_are stated times.decoded dues in
      record {
        units = subst (λ (ats : List ℕ). AreOwnUnits times.base read-program.base (map removal_of read-program.units) times.demuxed.video ats) dues
            (own-again start 13500000 times.base read-program.base 0 by is.earliest clock (base-again start 13500000 out.program.base is.earliest (omega arith) is.base_is) low (omega arith)
            (omega (arith, room)) is.kept is.pictures out.program.units times.demuxed.video stated
            (ticks-from laws.wherever start 13500000 (omega arith) out.next.holds.demuxed times.demuxed out.program is) is.units_are early);
        buffer = sym is.vbv_is ∙ sym (ap (λ (r : ProgramRow). r.vbv) out.row_is) ∙ times.buffer;
      }

  dropped : read-program.pes_dropped ≡ all_packets_dropped times.demuxed + 0
  unfolding read-program
  dropped = omega arith

  pub read-alone : IsReadAlone file slot number times.base times.demuxed.video (map (λ (picture : DecodedPicture). picture.at) (times.first ∷ times.later)) times.first.seq.vbv
  read-alone = record {
    program = read-program;
    alone = record {
      holds = record {
        within = omega (arith, short);
        demuxed = times.demuxed;
        demuxed_is = record { found = times.demuxed; cut = 0; stand = StandIn.in_packets refl times.taken_out refl; typed_is = refl };
        few_packets = (few, few-audios);
        program_is = is-read;
        pes_dropped_is = dropped;
      };
      within = within;
    };
    kept = kept-out;
  }
