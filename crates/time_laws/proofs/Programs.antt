-- A stream from which the programs of a job are read back carries the times of their table.
use Rattle.std.proofs.Common.{◌≡◌, ℕ, zero, suc, ◌+◌, ◌<◌, ◌≤◌, List, [], ◌∷◌, ◌++◌, All, length, map, drop, take, Option, Some, None, refl, sym, ap, subst, ◌∙◌, arith, ℤ, pos}
use Rattle.std.specs.Prelude.{slice_get}
use Rattle.std.specs.List.{AllZip, flat_map, range_with_len}
use Rattle.std.proofs.lemmas.List.{length-map}
use Rattle.std.proofs.lemmas.List.Elements.{All-weaker}
use Rattle.std.proofs.lemmas.Option.{none-some, same_Some}
use Rattle.audio_frames.specs.declared.frame.Frame.{Frame}
use Rattle.psi_tables.specs.declared.program_map.ProgramMap.{ProgramMap}
use Rattle.psi_tables.specs.declared.stream.Stream.{Stream}
use Rattle.psi_tables.specs.Pmt.{pids_of}
use Rattle.syntax_types.specs.declared.picture.SeqState.{SeqState}
use Rattle.ts_packets.specs.Packet.{PacketRecord}
use Rattle.pes_units.specs.Times.{decoding_time}
use Rattle.ts_demux.specs.declared.demuxed.AudioStream.{AudioStream}
use Rattle.ts_demux.specs.declared.demuxed.Demuxed.{Demuxed}
use Rattle.ts_demux.specs.declared.demuxed.PesUnit.{PesUnit}
use Rattle.version_table.specs.declared.table.ProgramRow.{ProgramRow}
use Rattle.version_table.specs.declared.table.Unit.{Unit as CodedUnit}
use Rattle.version_table.specs.Choice.{HasVersion}
use Rattle.slot_rule.specs.Sent.{choice_from}
use Rattle.job_report.specs.declared.job.Form.{Form}
use Rattle.job_report.specs.declared.job.ProgramJob.{ProgramJob}
use Rattle.elementary_streams.specs.declared.pes_packets.PlacedPacket.{PlacedPacket}
use Rattle.program_reader.specs.declared.program.AudioPiece.{AudioPiece}
use Rattle.program_reader.specs.declared.program.AudioSource.{AudioSource}
use Rattle.program_reader.specs.declared.program.Program.{Program}
use Rattle.program_reader.specs.declared.program.UnitSource.{UnitSource}
use Rattle.program_reader.specs.declared.timed_picture.TimedPicture.{TimedPicture}
use Rattle.program_reader.specs.Audio.{AreAudioSources, HaveFrames}
use Rattle.program_reader.specs.Programs.{AreUnitSources, IsProgram, IsTakenOut, video_bytes, video_packets}
use Rattle.program_reader.specs.Units.{AreInOrder, AreKept, IsTimed}
use Rattle.version_maker.specs.declared.version.UnitVersion.{UnitVersion}
use Rattle.version_source.specs.Versions.{AreAllVersions, AreVideoVersions, ratios_of}
use Rattle.program_reader.proofs.TakenOut.{its-streams}
use Rattle.program_table.specs.Table.{audio_row, program_row, program_rows, unit_rows}
use Rattle.job_programs.specs.Programs.{AreNextPrograms, IsNextProgram, last_time}
use Rattle.mux_writer.specs.Layout.{map_pid, video_pid, with_output_pids, with_pids_from}
use Rattle.parsing_laws.specs.Parsed.{AreReadAs, bytes_of_packets}
use Rattle.parsing_laws.specs.TakenOut.{LeadsToMap}
use Rattle.job_stream.proofs.NamedVersions.{unit_rows-count}
use Rattle.job_laws.specs.ParsesTo.{ParsesTo, ParsesToProgram, sent_units}
use Rattle.job_laws.proofs.SentStreams.{fits-behind}
use Rattle.time_laws.specs.Carried.{CarriesTimes}
use Rattle.time_laws.specs.Clock.{IsClock}
use Rattle.time_laws.specs.Video.{AreDecoded, BeginAt, DecodedPicture}
use Rattle.time_laws.proofs.Audios.{AllTaken, AreEarly, IsEarly, WhereverItStands, all-taken, audios-framed, have-frames-again}
use Rattle.time_laws.proofs.Spelled.{SpellingLaws}
use Rattle.time_laws.proofs.Videos.{all_outgoing, decoded, dues-are, outgoing, read-time, sizes-are}

-- ---- the first picture

-- it goes out as the first one, and its time is the one that the first PES packet is read with
record Begins (pictures : List TimedPicture) (units : List UnitSource) (packets : List PesUnit) (first : TimedPicture) : Type 0 where
  unit : UnitSource
  later : List DecodedPicture
  out : all_outgoing pictures units ≡ outgoing first unit ∷ later
  time : ℕ
  stands : BeginAt time packets
  stated : first.stated ≡ pos time

stated-time : (time : Option ℕ) (stated ticks : ℤ) → IsTimed None time stated ticks → (value : ℕ) × (time ≡ Some value) × (stated ≡ pos value)
stated-time None stated ticks timed = absurd timed
stated-time (Some value) stated ticks timed = (value, refl, timed.0)

abbrev head-of : (first : TimedPicture) (pictures : List TimedPicture) → TimedPicture
head-of first [] = first
head-of first (p ∷ ps) = p

begins : (es coarser : List ℕ) (placed : List PlacedPacket) (weight drift start : ℕ) (earliest : ℤ) (state : Option SeqState) (kept : List (ℕ × ℕ)) (pictures : List TimedPicture) (units : List UnitSource)
    (versions : List (List UnitVersion)) (choice : List ℕ) (more : List CodedUnit) (packets : List PesUnit) (first : TimedPicture) (later : List TimedPicture) → pictures ≡ first ∷ later
    → AreInOrder es placed [] kept pictures → AreUnitSources start earliest kept pictures units → AreVideoVersions es coarser state units versions
    → AllZip HasVersion (unit_rows weight drift units versions ++ more) choice → AreReadAs (sent_units units versions choice) (bytes_of_packets packets) → Begins pictures units packets first
begins es coarser placed weight drift start earliest state kept [] units versions choice more packets first later split in_order are are_versions fits read =
    absurd (let e = ap (length {A = TimedPicture}) split in omega (arith, e))
begins es coarser placed weight drift start earliest state [] (p ∷ ps) units versions choice more packets first later split in_order are are_versions fits read = absurd in_order
begins es coarser placed weight drift start earliest state (k ∷ ks) (p ∷ ps) [] versions choice more packets first later split in_order are are_versions fits read = absurd are
begins es coarser placed weight drift start earliest state (k ∷ ks) (p ∷ ps) (u ∷ us) [] choice more packets first later split in_order are are_versions fits read = absurd are_versions
begins es coarser placed weight drift start earliest state (k ∷ ks) (p ∷ ps) (u ∷ us) (v ∷ vs) [] more packets first later split in_order are are_versions fits read = absurd fits
begins es coarser placed weight drift start earliest state (k ∷ ks) (p ∷ ps) (u ∷ us) (v ∷ vs) (n ∷ choice) more [] first later split in_order are are_versions fits read = absurd read
begins es coarser placed weight drift start earliest state (k ∷ ks) (p ∷ ps) (u ∷ us) (v ∷ vs) (n ∷ choice) more (o ∷ os) first later split in_order are are_versions fits read =
    let same : p ≡ first = ap (head-of p) split in
    let time = stated-time (decoding_time p.times) p.stated p.ticks in_order.0.timed in
    record {
      unit = u;
      later = all_outgoing ps us;
      out = ap (λ (x : TimedPicture). outgoing x u ∷ all_outgoing ps us) same;
      time = time.0;
      stands = read-time o u.times _ read.0 ∙ ap decoding_time are.2 ∙ time.1;
      stated = sym (ap (λ (x : TimedPicture). x.stated) same) ∙ time.2;
    }

-- ---- PIDs

sources-many : (start : ℕ) (earliest : ℤ) (streams : List AudioStream) (frames : List (List Frame)) (sources : List AudioSource) → AreAudioSources start earliest streams frames sources
    → length sources ≡ length streams
sources-many start earliest [] [] [] are = refl
sources-many start earliest [] [] (a ∷ more) are = absurd are
sources-many start earliest [] (f ∷ fs) sources are = absurd are
sources-many start earliest (s ∷ ss) [] sources are = absurd are
sources-many start earliest (s ∷ ss) (f ∷ fs) [] are = absurd are
sources-many start earliest (s ∷ ss) (f ∷ fs) (a ∷ more) are = ap suc (sources-many start earliest ss fs more are.1)

pids-in-a-row : (pid : ℕ) (streams : List Stream) → map (λ (stream : Stream). stream.pid) (with_pids_from pid streams) ≡ range_with_len pid (length streams)
pids-in-a-row pid [] = refl
pids-in-a-row pid (s ∷ ss) = ap (λ (pids : List ℕ). pid ∷ pids) (pids-in-a-row (pid + 1) ss)

-- ---- kept units

kept-in-order : (es : List ℕ) (placed : List PlacedPacket) (units kept : List (ℕ × ℕ)) (pictures : List TimedPicture) (dropped : ℕ) → AreKept es placed units kept pictures dropped
    → AreInOrder es placed [] kept pictures
kept-in-order es placed units kept pictures dropped (AreKept.all same in_order none) = in_order
kept-in-order es placed units kept pictures dropped (AreKept.but_last last refusal at split in_order broken one) = in_order

-- ---- early times

early-time : (slot time : ℕ) → slot ≤ 40000 → time ≤ last_time slot → IsEarly time
early-time slot time short within = omega (arith, short, within)

-- ---- one program

-- the law that a file has one answer
abbrev pub OneDemuxed : Type 0
OneDemuxed = (form : Form) (file : List ℕ) (number : ℕ) (drop : List ℕ) (one other : Demuxed) → IsTakenOut form file number drop one → IsTakenOut form file number drop other → one ≡ other

module _ (laws : SpellingLaws) (one : OneDemuxed) (wherever : WhereverItStands) (bytes : List ℕ) (stream : List PacketRecord) (slot start : ℕ) (short : slot ≤ 40000) where
  abbrev Early : List AudioPiece → Type 0
  Early pieces = All (λ (piece : AudioPiece). IsEarly piece.packet.due) pieces × All (λ (piece : AudioPiece). IsEarly piece.packet.gone) pieces

  carries-one : (n : ℕ) (job : ProgramJob) (content : List ℕ) (p : Program) (coarser : List ℕ) (v : List (List UnitVersion)) (choice : List ℕ) (more : List CodedUnit) (contents : List (List ℕ))
      (programs : List Program) → IsNextProgram slot start contents programs job content p → AreVideoVersions p.video coarser None p.units v
      → AllZip HasVersion (unit_rows job.weight job.drift p.units v ++ more) choice → ParsesToProgram bytes content job (with_output_pids n job.number p.map) (sent_units p.units v choice)
      → LeadsToMap bytes job.number (map_pid n) → IsClock stream slot (video_pid n) p.base → CarriesTimes bytes stream slot n job.number (program_row job.weight job.drift p v) choice
  carries-one n job content p coarser v choice more contents programs next versions fits read leads clock =
      let of = next.holds in
      let es : List ℕ = video_bytes of.demuxed in
      let placed : List PlacedPacket = video_packets of.demuxed in
      let is : IsProgram start of.demuxed p = of.program_is in
      let source : read.source ≡ of.demuxed = one job.form content job.program job.drop.items read.source of.demuxed read.source_is of.demuxed_is in
      let video : p.video ≡ es = is.video_is in
      let in_order : AreInOrder es placed [] is.kept is.pictures =
      kept-in-order es placed is.has_pictures.units.cuts is.kept is.pictures is.has_pictures.at_end is.has_pictures.kept_are in
      let of_video : AreVideoVersions es coarser None p.units v = subst (λ (bytes : List ℕ). AreVideoVersions bytes coarser None p.units v) video versions in
      let begin = begins es coarser placed job.weight job.drift start is.earliest None is.kept is.pictures p.units v choice more read.demuxed.video is.first is.has_pictures.later
      is.has_pictures.first_is in_order is.units_are of_video fits read.video in
      let early_units : All (λ (unit : UnitSource). unit.due < 2576980377600) p.units =
      All-weaker (λ (unit : UnitSource). unit.due ≤ last_time slot) (λ (unit : UnitSource). unit.due < 2576980377600)
      (λ unit within. early-time slot unit.due short within) p.units next.within.units in
      let shown : AreDecoded p.base [] read.demuxed.video (all_outgoing is.pictures p.units) =
      decoded laws es coarser placed job.weight job.drift start p.base is.earliest is.base_is [] [] (record { last = tt; all = refl; tells = tt }) tt is.kept is.pictures p.units v choice more read.demuxed.video
      in_order is.units_are of_video fits early_units read.video in
      let audio : AllTaken read.demuxed.audios of.demuxed.audios =
      subst (λ (d : Demuxed). AllTaken read.demuxed.audios d.audios) source (all-taken read.demuxed.audios read.source.audios read.audio) in
      let early_audio : AreEarly p.audios = early-audios p.audios next.within.audio_dues next.within.audio_gones in
      let streams : List Stream = p.map.streams.items in
      let many : length streams ≡ 1 + length (map audio_row p.audios) =
      let own : length streams ≡ length of.demuxed.map.streams.items = ap (λ (m : ProgramMap). length m.streams.items) is.map_is in
      let its = its-streams job.form content job.program job.drop.items of.demuxed of.demuxed_is in
      omega (arith, own, its.as_many, length-map p.audios audio_row, sources-many start is.earliest of.demuxed.audios is.frames p.audios is.audios_are) in
      record {
        demuxed = read.demuxed;
        taken_out = read.taken_out;
        map_pid_is = leads;
        pids = ap pids_of read.map_is ∙ pids-in-a-row (video_pid n) streams ∙ ap (range_with_len (video_pid n)) many;
        base = p.base;
        clock = subst (λ (pid : ℕ). IsClock stream slot pid p.base) (sym (ap (λ (m : ProgramMap). m.pcr_pid) read.map_is)) clock;
        first = outgoing is.first begin.unit;
        later = begin.later;
        decoded = subst (AreDecoded p.base [] read.demuxed.video) begin.out shown;
        dues = dues-are es coarser job.weight job.drift start is.earliest None is.kept is.pictures p.units v is.units_are of_video
            ∙ ap (map (λ (picture : DecodedPicture). picture.at)) begin.out;
        sizes = sizes-are es coarser job.weight job.drift None p.units v choice more read.demuxed.video of_video fits read.video;
        buffer = is.vbv_is;
        begin = begin.time;
        begin_is = begin.stands;
        frames = is.frames;
        have_frames = subst (λ (first : ℤ). HaveFrames first read.demuxed.audios is.frames) begin.stated
            (have-frames-again wherever is.first.stated read.demuxed.audios of.demuxed.audios is.frames audio is.have_frames);
        audios = audios-framed wherever start p.base is.earliest is.first.stated is.base_is read.demuxed.audios of.demuxed.audios is.frames p.audios audio is.have_frames is.audios_are early_audio;
      }
    where
      early-pieces : (pieces : List AudioPiece) → All (λ (piece : AudioPiece). piece.packet.due ≤ last_time slot) pieces → All (λ (piece : AudioPiece). piece.packet.gone ≤ last_time slot) pieces
          → Early pieces
      early-pieces pieces dues gones = (
        All-weaker (λ (piece : AudioPiece). piece.packet.due ≤ last_time slot) (λ (piece : AudioPiece). IsEarly piece.packet.due)
            (λ piece within. early-time slot piece.packet.due short within) pieces dues,
        All-weaker (λ (piece : AudioPiece). piece.packet.gone ≤ last_time slot) (λ (piece : AudioPiece). IsEarly piece.packet.gone)
            (λ piece within. early-time slot piece.packet.gone short within) pieces gones,
      )

      early-audios : (sources : List AudioSource) → All (λ (a : AudioSource). All (λ (piece : AudioPiece). piece.packet.due ≤ last_time slot) a.pieces) sources
          → All (λ (a : AudioSource). All (λ (piece : AudioPiece). piece.packet.gone ≤ last_time slot) a.pieces) sources → AreEarly sources
      early-audios sources dues gones k d within = early-pieces _ (dues k d within) (gones k d within)

  -- ---- all programs

  drop-none : (n : ℕ) → drop {A = ℕ} n [] ≡ []
  drop-none zero = refl
  drop-none (suc n) = refl

  drop-both : (xs ys : List CodedUnit) (zs : List ℕ) → drop (length (xs ++ ys)) zs ≡ drop (length ys) (drop (length xs) zs)
  drop-both [] ys zs = refl
  drop-both (x ∷ xs) ys [] = sym (drop-none (length ys))
  drop-both (x ∷ xs) ys (z ∷ zs) = drop-both xs ys zs

  pub carries-each : (n : ℕ) (jobs : List ProgramJob) (programs : List Program) (versions : List (List (List UnitVersion))) (choice : List ℕ) (read : List (List ℕ)) (done : List Program)
      (further : List (List ℕ)) → AreNextPrograms slot start read done jobs further programs → AreAllVersions programs (ratios_of jobs) versions
      → AllZip HasVersion (flat_map (λ (row : ProgramRow). row.units) (program_rows jobs programs versions)) choice → ParsesTo bytes n jobs further programs versions choice
      → ((place number : ℕ) → slice_get (map (λ (job : ProgramJob). job.number) jobs) place ≡ Some number → LeadsToMap bytes number (map_pid (n + place)))
      → ((place : ℕ) (p : Program) → slice_get programs place ≡ Some p → IsClock stream slot (video_pid (n + place)) p.base)
      → (place number : ℕ) (row : ProgramRow) → slice_get (map (λ (job : ProgramJob). job.number) jobs) place ≡ Some number → slice_get (program_rows jobs programs versions) place ≡ Some row
      → CarriesTimes bytes stream slot (n + place) number row (choice_from (program_rows jobs programs versions) place choice)
  carries-each n [] programs versions choice read done further next are_versions fits back leads clock zero number row there found = absurd (none-some number there)
  carries-each n [] programs versions choice read done further next are_versions fits back leads clock (suc place) number row there found = absurd (none-some number there)
  carries-each n (j ∷ js) [] versions choice read done further next are_versions fits back leads clock zero number row there found = absurd (none-some row found)
  carries-each n (j ∷ js) [] versions choice read done further next are_versions fits back leads clock (suc place) number row there found = absurd (none-some row found)
  carries-each n (j ∷ js) (p ∷ ps) [] choice read done further next are_versions fits back leads clock zero number row there found = absurd (none-some row found)
  carries-each n (j ∷ js) (p ∷ ps) [] choice read done further next are_versions fits back leads clock (suc place) number row there found = absurd (none-some row found)
  carries-each n (j ∷ js) (p ∷ ps) (v ∷ vs) choice read done [] next are_versions fits back leads clock place number row there found = absurd next
  carries-each n (j ∷ js) (p ∷ ps) (v ∷ vs) choice read done (c ∷ cs) next are_versions fits back leads clock zero number row there found =
      let later : List CodedUnit = flat_map (λ (r : ProgramRow). r.units) (program_rows js ps vs) in
      let at : n ≡ n + 0 = omega arith in
      let here : CarriesTimes bytes stream slot n j.number (program_row j.weight j.drift p v) choice =
      carries-one n j c p j.coarser.items v choice later read done next.0 are_versions.0 fits back.0
      (subst (λ (k : ℕ). LeadsToMap bytes j.number (map_pid k)) (sym at) (leads 0 j.number refl))
      (subst (λ (k : ℕ). IsClock stream slot (video_pid k) p.base) (sym at) (clock 0 p refl)) in
      subst (λ (r : ProgramRow). CarriesTimes bytes stream slot (n + 0) number r choice) (same_Some (program_row j.weight j.drift p v) row found)
      (subst (λ (k : ℕ). CarriesTimes bytes stream slot (n + 0) k (program_row j.weight j.drift p v) choice) (same_Some j.number number there)
      (subst (λ (k : ℕ). CarriesTimes bytes stream slot k j.number (program_row j.weight j.drift p v) choice) at here))
  carries-each n (j ∷ js) (p ∷ ps) (v ∷ vs) choice read done (c ∷ cs) next are_versions fits back leads clock (suc place) number row there found =
      let later : List CodedUnit = flat_map (λ (r : ProgramRow). r.units) (program_rows js ps vs) in
      let own : List CodedUnit = unit_rows j.weight j.drift p.units v in
      let before : List CodedUnit = flat_map (λ (r : ProgramRow). r.units) (take place (program_rows js ps vs)) in
      let many : length own ≡ length p.units = unit_rows-count j.weight j.drift p.video j.coarser.items None p.units v are_versions.0 in
      let behind : AllZip HasVersion later (drop (length p.units) choice) = subst (λ (k : ℕ). AllZip HasVersion later (drop k choice)) many (fits-behind own later choice fits) in
      let at : (k : ℕ) → n + 1 + k ≡ n + suc k = λ k. omega arith in
      let part : drop (length before) (drop (length p.units) choice) ≡ drop (length (own ++ before)) choice =
      ap (λ (k : ℕ). drop (length before) (drop k choice)) (sym many) ∙ sym (drop-both own before choice) in
      subst (λ (k : ℕ). CarriesTimes bytes stream slot k number row (drop (length (own ++ before)) choice)) (at place)
      (subst (λ (c : List ℕ). CarriesTimes bytes stream slot (n + 1 + place) number row c) part
      (carries-each (n + 1) js ps vs (drop (length p.units) choice) (read ++ c ∷ []) (done ++ p ∷ []) cs next.1 are_versions.1 behind back.1
      (λ k other stands. subst (λ (m : ℕ). LeadsToMap bytes other (map_pid m)) (sym (at k)) (leads (suc k) other stands))
      (λ k q stands. subst (λ (m : ℕ). IsClock stream slot (video_pid m) q.base) (sym (at k)) (clock (suc k) q stands)) place number row there found))
