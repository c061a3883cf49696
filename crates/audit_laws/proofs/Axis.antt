-- The audio packets of a program's row are due and gone on one axis with its first picture: as much later than that is decoded as their frames are later than it states.
use Rattle.std.proofs.Common.{◌≡◌, ℕ, zero, suc, ◌+◌, ◌*◌, List, [], ◌∷◌, ◌++◌, length, map, drop, Option, Some, None, refl, sym, ap, subst, ◌∙◌, ℤ, pos, ◌+ℤ◌, ◌-ℤ◌, ◌*ℤ◌, arith}
use Rattle.std.specs.Prelude.{slice_get}
use Rattle.std.specs.List.{AllZip, flat_map}
use Rattle.std.proofs.lemmas.Int.{ints}
use Rattle.std.proofs.lemmas.Option.{none-some, same_Some}
use Rattle.audio_frames.specs.declared.frame.Frame.{Frame}
use Rattle.syntax_types.specs.declared.picture.SeqState.{SeqState}
use Rattle.pes_units.specs.Times.{decoding_time}
use Rattle.version_table.specs.declared.table.AudioPacket.{AudioPacket}
use Rattle.version_table.specs.declared.table.ProgramRow.{ProgramRow}
use Rattle.version_table.specs.declared.table.Unit.{Unit as CodedUnit}
use Rattle.version_table.specs.Choice.{HasVersion}
use Rattle.ts_demux.specs.declared.demuxed.AudioStream.{AudioStream}
use Rattle.ts_demux.specs.declared.demuxed.Demuxed.{Demuxed}
use Rattle.ts_demux.specs.declared.demuxed.PesUnit.{PesUnit}
use Rattle.ts_demux.specs.Demux.{IsDemuxed}
use Rattle.elementary_streams.specs.declared.pes_packets.PlacedPacket.{PlacedPacket}
use Rattle.elementary_streams.specs.Audio.{HasFrames, taken_of}
use Rattle.elementary_streams.specs.Packets.{placed_from}
use Rattle.job_report.specs.declared.job.ProgramJob.{ProgramJob}
use Rattle.program_reader.specs.declared.program.AudioPiece.{AudioPiece}
use Rattle.program_reader.specs.declared.program.AudioSource.{AudioSource}
use Rattle.program_reader.specs.declared.program.Program.{Program}
use Rattle.program_reader.specs.declared.program.UnitSource.{UnitSource}
use Rattle.program_reader.specs.declared.timed_picture.TimedPicture.{TimedPicture}
use Rattle.program_reader.specs.Audio.{AreAudioSources, ArePieces, HaveFrames, IsDue, IsPiece, packet_size, piece_size, placed_pieces}
use Rattle.program_reader.specs.Programs.{AreUnitSources, IsProgram, video_bytes, video_packets}
use Rattle.program_reader.specs.Units.{AreInOrder, IsTimed}
use Rattle.version_maker.specs.declared.version.UnitVersion.{UnitVersion}
use Rattle.version_source.specs.Versions.{AreAllVersions, AreVideoVersions, ratios_of}
use Rattle.program_table.specs.Table.{audio_row, program_row, program_rows, unit_rows}
use Rattle.program_table.proofs.UnitLimits.{kept-in-order}
use Rattle.job_programs.specs.Programs.{AreNextPrograms, IsNextProgram}
use Rattle.mux_writer.specs.Layout.{with_output_pids}
use Rattle.parsing_laws.specs.Parsed.{AreReadAs, bytes_of_packets}
use Rattle.job_stream.proofs.NamedVersions.{unit_rows-count}
use Rattle.job_laws.specs.ParsesTo.{ParsesTo, ParsesToProgram, sent_units}
use Rattle.job_laws.proofs.SentStreams.{fits-behind}
use Rattle.time_laws.specs.Video.{BeginAt}
use Rattle.time_laws.proofs.Audios.{AllTaken, WhereverItStands, all-taken, have-frames-again, placed-same}
use Rattle.time_laws.proofs.Programs.{OneDemuxed}
use Rattle.time_laws.proofs.Videos.{read-time}

-- An audio stream of a program whose video begins at a time and is first decoded at a tick, and the rows that it is sent as.
pub record IsOnAxis (begin at : ℕ) (audio : AudioStream) (rows : List AudioPacket) : Type 0 where
  pub frames : List Frame
  pub framed : HasFrames (pos begin) audio frames
  pub pieces : List AudioPiece
  pub pieces_are : ArePieces at (pos (300 * begin)) frames (placed_pieces 0 (placed_from 0 (taken_of audio))) pieces
  pub rows_are : rows ≡ map (λ (piece : AudioPiece). piece.packet) pieces

-- streams beside their rows
abbrev pub AreOnAxis : (begin at : ℕ) → List AudioStream → List (List AudioPacket) → Type 0
AreOnAxis begin at [] [] = Unit {0}
AreOnAxis begin at (audio ∷ audios) (rows ∷ more) = IsOnAxis begin at audio rows × AreOnAxis begin at audios more
AreOnAxis begin at audios rows = ⊥

-- A program of this number of a file whose video begins at a time, and is first decoded when the first unit of a row is due: its audio streams and those of the row.
pub record HasAxis (file : List ℕ) (number : ℕ) (row : ProgramRow) : Type 0 where
  pub demuxed : Demuxed
  pub taken_out : IsDemuxed file number [] demuxed
  pub begin : ℕ
  pub begin_is : BeginAt begin demuxed.video
  pub at : ℕ
  pub later : List ℕ
  pub dues : map (λ (unit : CodedUnit). unit.due) row.units ≡ at ∷ later
  pub audios : AreOnAxis begin at demuxed.audios row.audios

-- ---- from one tick on the axis to another

moved : (start at begin due : ℕ) (earliest time : ℤ) → pos at ≡ ((pos start +ℤ pos (300 * begin)) -ℤ earliest) → pos due ≡ ((pos start +ℤ time) -ℤ earliest)
    → pos due ≡ ((pos at +ℤ time) -ℤ pos (300 * begin))
moved start at begin due earliest time at_is is = omega (arith, ints, at_is, is)

pieces-moved : (start at begin : ℕ) (earliest : ℤ) → pos at ≡ ((pos start +ℤ pos (300 * begin)) -ℤ earliest) → (frames : List Frame) (places : List (PlacedPacket × ℕ × ℕ)) (pieces : List AudioPiece)
    → ArePieces start earliest frames places pieces → ArePieces at (pos (300 * begin)) frames places pieces
pieces-moved start at begin earliest at_is frames [] [] are = tt
pieces-moved start at begin earliest at_is frames [] (x ∷ xs) are = absurd are
pieces-moved start at begin earliest at_is frames (place ∷ places) [] are = absurd are
pieces-moved start at begin earliest at_is frames (place ∷ places) (x ∷ xs) are =
    let is : IsPiece start earliest frames place.0 place.1 place.2 (piece_size (packet_size place.0) place.2) x = are.0 in (
      record {
        due = moved start at begin x.packet.due earliest _ at_is is.due;
        gone = moved start at begin x.packet.gone earliest _ at_is is.gone;
        bytes = is.bytes;
        begins = is.begins;
        at_is = is.at_is;
      },
      pieces-moved start at begin earliest at_is frames places xs are.1,
    )

audios-on-axis : WhereverItStands → (start at begin : ℕ) (earliest : ℤ) → pos at ≡ ((pos start +ℤ pos (300 * begin)) -ℤ earliest) → (outs from : List AudioStream) (frames : List (List Frame))
    (sources : List AudioSource) → AllTaken outs from → HaveFrames (pos begin) from frames → AreAudioSources start earliest from frames sources → AreOnAxis begin at outs (map audio_row sources)
audios-on-axis law start at begin earliest at_is [] [] [] [] all have are = tt
audios-on-axis law start at begin earliest at_is [] [] [] (a ∷ more) all have are = absurd are
audios-on-axis law start at begin earliest at_is [] [] (f ∷ fs) sources all have are = absurd have
audios-on-axis law start at begin earliest at_is [] (s ∷ ss) frames sources all have are = absurd all
audios-on-axis law start at begin earliest at_is (o ∷ os) [] frames sources all have are = absurd all
audios-on-axis law start at begin earliest at_is (o ∷ os) (s ∷ ss) [] sources all have are = absurd have
audios-on-axis law start at begin earliest at_is (o ∷ os) (s ∷ ss) (f ∷ fs) [] all have are = absurd are
audios-on-axis law start at begin earliest at_is (o ∷ os) (s ∷ ss) (f ∷ fs) (a ∷ more) all have are = (
  record {
    frames = f;
    framed = (have-frames-again law (pos begin) (o ∷ []) (s ∷ []) (f ∷ []) (all.0, tt) (have.0, tt)).0;
    pieces = a.pieces;
    pieces_are = subst (λ (placed : List PlacedPacket). ArePieces at (pos (300 * begin)) f (placed_pieces 0 placed) a.pieces) (sym (placed-same law o s have.0.sound all.0))
        (pieces-moved start at begin earliest at_is f (placed_pieces 0 (placed_from 0 (taken_of s))) a.pieces are.0.pieces);
    rows_are = refl;
  },
  audios-on-axis law start at begin earliest at_is os ss fs more all.1 have.1 are.1,
)

-- ---- the first picture

-- its time is the one that the first PES packet is read with, and it is due with the first unit
record Starts (start : ℕ) (earliest : ℤ) (first : TimedPicture) (dues : List ℕ) (packets : List PesUnit) : Type 0 where
  time : ℕ
  stands : BeginAt time packets
  stated : first.stated ≡ pos time
  ticks : first.ticks ≡ pos 300 *ℤ first.stated
  at : ℕ
  later : List ℕ
  dues_are : dues ≡ at ∷ later
  due : IsDue start earliest first.ticks at

stated-first : (time : Option ℕ) (stated ticks : ℤ) → IsTimed None time stated ticks → (value : ℕ) × (time ≡ Some value) × (stated ≡ pos value) × (ticks ≡ pos 300 *ℤ stated)
stated-first None stated ticks timed = absurd timed
stated-first (Some value) stated ticks timed = (value, refl, timed.0, timed.1)

starts : (es coarser : List ℕ) (placed : List PlacedPacket) (weight drift start : ℕ) (earliest : ℤ) (state : Option SeqState) (kept : List (ℕ × ℕ)) (first : TimedPicture) (later : List TimedPicture)
    (units : List UnitSource) (versions : List (List UnitVersion)) (choice : List ℕ) (more : List CodedUnit) (packets : List PesUnit) → AreInOrder es placed [] kept (first ∷ later)
    → AreUnitSources start earliest kept (first ∷ later) units → AreVideoVersions es coarser state units versions → AllZip HasVersion (unit_rows weight drift units versions ++ more) choice
    → AreReadAs (sent_units units versions choice) (bytes_of_packets packets) → Starts start earliest first (map (λ (unit : CodedUnit). unit.due) (unit_rows weight drift units versions)) packets
starts es coarser placed weight drift start earliest state [] first later units versions choice more packets in_order are are_versions fits read = absurd in_order
starts es coarser placed weight drift start earliest state (k ∷ ks) first later [] versions choice more packets in_order are are_versions fits read = absurd are
starts es coarser placed weight drift start earliest state (k ∷ ks) first later (u ∷ us) [] choice more packets in_order are are_versions fits read = absurd are_versions
starts es coarser placed weight drift start earliest state (k ∷ ks) first later (u ∷ us) (v ∷ vs) [] more packets in_order are are_versions fits read = absurd fits
starts es coarser placed weight drift start earliest state (k ∷ ks) first later (u ∷ us) (v ∷ vs) (n ∷ choice) more [] in_order are are_versions fits read = absurd read
starts es coarser placed weight drift start earliest state (k ∷ ks) first later (u ∷ us) (v ∷ vs) (n ∷ choice) more (o ∷ os) in_order are are_versions fits read =
    let time = stated-first (decoding_time first.times) first.stated first.ticks in_order.0.timed in
    record {
      time = time.0;
      stands = read-time o u.times _ read.0 ∙ ap decoding_time are.2 ∙ time.1;
      stated = time.2;
      ticks = time.3;
      at = u.due;
      later = map (λ (unit : CodedUnit). unit.due) (unit_rows weight drift us vs);
      dues_are = refl;
      due = are.3;
    }

at-is : (start at begin : ℕ) (earliest stated ticks : ℤ) → pos at ≡ ((pos start +ℤ ticks) -ℤ earliest) → ticks ≡ pos 300 *ℤ stated → stated ≡ pos begin
    → pos at ≡ ((pos start +ℤ pos (300 * begin)) -ℤ earliest)
at-is start at begin earliest stated ticks due ticks_are stated_is = omega (arith, ints, due, ticks_are, stated_is)

-- ---- the programs of a job

module _ (one : OneDemuxed) (wherever : WhereverItStands) (bytes : List ℕ) (slot start : ℕ) where
  axis-one : (n : ℕ) (job : ProgramJob) (content : List ℕ) (p : Program) (coarser : List ℕ) (v : List (List UnitVersion)) (choice : List ℕ) (more : List CodedUnit) (contents : List (List ℕ))
      (programs : List Program) → IsNextProgram slot start contents programs job content p → AreVideoVersions p.video coarser None p.units v
      → AllZip HasVersion (unit_rows job.weight job.drift p.units v ++ more) choice → ParsesToProgram bytes content job (with_output_pids n job.number p.map) (sent_units p.units v choice)
      → HasAxis bytes job.number (program_row job.weight job.drift p v)
  axis-one n job content p coarser v choice more contents programs next versions fits read =
      let of = next.holds in
      let es : List ℕ = video_bytes of.demuxed in
      let placed : List PlacedPacket = video_packets of.demuxed in
      let is : IsProgram start of.demuxed p = of.program_is in
      let source : read.source ≡ of.demuxed = one job.form content job.program job.drop.items read.source of.demuxed read.source_is of.demuxed_is in
      let in_order : AreInOrder es placed [] is.kept (is.first ∷ is.has_pictures.later) =
      subst (AreInOrder es placed [] is.kept) is.has_pictures.first_is (kept-in-order es placed is.has_pictures.units.cuts is.kept is.pictures is.has_pictures.at_end is.has_pictures.kept_are) in
      let sources : AreUnitSources start is.earliest is.kept (is.first ∷ is.has_pictures.later) p.units =
      subst (λ (ps : List TimedPicture). AreUnitSources start is.earliest is.kept ps p.units) is.has_pictures.first_is is.units_are in
      let of_video : AreVideoVersions es coarser None p.units v = subst (λ (b : List ℕ). AreVideoVersions b coarser None p.units v) is.video_is versions in
      let begin = starts es coarser placed job.weight job.drift start is.earliest None is.kept is.first is.has_pictures.later p.units v choice more read.demuxed.video in_order sources of_video fits
      read.video in
      let audio : AllTaken read.demuxed.audios of.demuxed.audios =
      subst (λ (d : Demuxed). AllTaken read.demuxed.audios d.audios) source (all-taken read.demuxed.audios read.source.audios read.audio) in
      record {
        demuxed = read.demuxed;
        taken_out = read.taken_out;
        begin = begin.time;
        begin_is = begin.stands;
        at = begin.at;
        later = begin.later;
        dues = begin.dues_are;
        audios = audios-on-axis wherever start begin.at begin.time is.earliest (at-is start begin.at begin.time is.earliest is.first.stated is.first.ticks begin.due begin.ticks begin.stated)
            read.demuxed.audios of.demuxed.audios is.frames p.audios audio (subst (λ (first : ℤ). HaveFrames first of.demuxed.audios is.frames) begin.stated is.have_frames) is.audios_are;
      }

  pub axis-each : (n : ℕ) (jobs : List ProgramJob) (programs : List Program) (versions : List (List (List UnitVersion))) (choice : List ℕ) (read : List (List ℕ)) (done : List Program)
      (further : List (List ℕ)) → AreNextPrograms slot start read done jobs further programs → AreAllVersions programs (ratios_of jobs) versions
      → AllZip HasVersion (flat_map (λ (row : ProgramRow). row.units) (program_rows jobs programs versions)) choice → ParsesTo bytes n jobs further programs versions choice
      → (place number : ℕ) (row : ProgramRow) → slice_get (map (λ (job : ProgramJob). job.number) jobs) place ≡ Some number → slice_get (program_rows jobs programs versions) place ≡ Some row
      → HasAxis bytes number row
  axis-each n [] programs versions choice read done further next are_versions fits back place number row there found = absurd (none-some number there)
  axis-each n (j ∷ js) [] versions choice read done further next are_versions fits back place number row there found = absurd (none-some row found)
  axis-each n (j ∷ js) (p ∷ ps) [] choice read done further next are_versions fits back place number row there found = absurd (none-some row found)
  axis-each n (j ∷ js) (p ∷ ps) (v ∷ vs) choice read done [] next are_versions fits back place number row there found = absurd next
  axis-each n (j ∷ js) (p ∷ ps) (v ∷ vs) choice read done (c ∷ cs) next are_versions fits back zero number row there found =
      let further_units : List CodedUnit = flat_map (λ (r : ProgramRow). r.units) (program_rows js ps vs) in
      let here : HasAxis bytes j.number (program_row j.weight j.drift p v) = axis-one n j c p j.coarser.items v choice further_units read done next.0 are_versions.0 fits back.0 in
      subst (λ (r : ProgramRow). HasAxis bytes number r) (same_Some (program_row j.weight j.drift p v) row found)
      (subst (λ (k : ℕ). HasAxis bytes k (program_row j.weight j.drift p v)) (same_Some j.number number there) here)
  axis-each n (j ∷ js) (p ∷ ps) (v ∷ vs) choice read done (c ∷ cs) next are_versions fits back (suc place) number row there found =
      let further_units : List CodedUnit = flat_map (λ (r : ProgramRow). r.units) (program_rows js ps vs) in
      let own : List CodedUnit = unit_rows j.weight j.drift p.units v in
      let many : length own ≡ length p.units = unit_rows-count j.weight j.drift p.video j.coarser.items None p.units v are_versions.0 in
      let behind : AllZip HasVersion further_units (drop (length p.units) choice) =
      subst (λ (k : ℕ). AllZip HasVersion further_units (drop k choice)) many (fits-behind own further_units choice fits) in
      axis-each (n + 1) js ps vs (drop (length p.units) choice) (read ++ c ∷ []) (done ++ p ∷ []) cs next.1 are_versions.1 behind back.1 place number row there found
