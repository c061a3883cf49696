-- What reading accepts the audit refuses for its length, its tables and its clock alone.
use Rattle.std.proofs.Common.{◌≡◌, ◌≢◌, ℕ, ◌+◌, ◌-◌, ◌*◌, ◌/◌, ◌%◌, ◌<◌, ◌≤◌, ◌^◌, List, [], ◌∷◌, ◌++◌, take, map, sum_by, All, Option, Some, None, refl, sym, ap, subst, ◌∙◌, arith, ℤ, pos, negsuc, ◌+ℤ◌, ◌-ℤ◌, ◌*ℤ◌, ◌≤ℤ◌}
use Rattle.std.specs.Option.{option_map}
use Rattle.std.proofs.lemmas.Int.{ints}
use Rattle.std.proofs.lemmas.List.Elements.{All-head, All-tail}
use Rattle.std.proofs.lemmas.List.Sums.{sum_by-cons}
use Rattle.audio_frames.specs.declared.frame.Frame.{Frame}
use Rattle.elementary_streams.specs.Audio.{HasFrames}
use Rattle.es_units.specs.declared.units.Units.{Units}
use Rattle.es_units.specs.Units.{first_sequence}
use Rattle.job_programs.specs.Alone.{IsAlone}
use Rattle.job_programs.specs.Programs.{last_time}
use Rattle.job_report.specs.declared.job.Form.TheVariants.{Ts}
use Rattle.pes_units.specs.declared.times.Times.{Times}
use Rattle.pes_units.specs.Times.{decoding_of, decoding_time}
use Rattle.pes_units.specs.VideoHeader.{AreInRange}
use Rattle.ts_demux.specs.declared.demuxed.AudioStream.{AudioStream}
use Rattle.ts_demux.specs.declared.demuxed.Demuxed.{Demuxed}
use Rattle.ts_demux.specs.Demux.{IsDemuxed}
use Rattle.ts_demux.proofs.OneAnswer.{one_demuxed}
use Rattle.elementary_streams.specs.declared.pes_packets.PlacedPacket.{PlacedPacket}
use Rattle.program_reader.specs.declared.program.Program.{Program}
use Rattle.program_reader.specs.declared.program.UnitSource.{UnitSource}
use Rattle.program_reader.specs.declared.timed_picture.TimedPicture.{TimedPicture}
use Rattle.program_reader.specs.declared.program.AudioSource.{AudioSource}
use Rattle.program_reader.specs.Audio.{AreAudioSources, HaveFrames, IsAudioSource, IsDue}
use Rattle.program_reader.specs.Programs.{AreUnitSources, HasUnits, IsBase, IsProgram, IsTakenOut, StandIn, in_elements, in_packets, video_bytes, video_packets}
use Rattle.program_reader.specs.Units.{AreInOrder, IsTimed}
use Rattle.program_table.proofs.UnitLimits.{kept-in-order}
use Rattle.stream_audit.specs.declared.audit_stop.AuditStop.{AuditStop}
use Rattle.stream_audit.specs.declared.audit_stop.AuditStop.TheVariants as stops
use Rattle.stream_audit.specs.declared.file_clock.FoundClock.{FoundClock}
use Rattle.stream_audit.specs.declared.kept_units.KeptUnits.{KeptUnits}
use Rattle.stream_audit.specs.Refusals.{IsAudioStopped, IsAuditStopped, IsFirstAudioStopped, IsProgramRead, IsProgramStopped, IsVideoSound, IsVideoStopped}
use Rattle.stream_audit.specs.Removals.{first_due, first_time}
use Rattle.stream_audit.proofs.OneAudit.{audio_or_stop, video_or_stop}
use Rattle.tstd_model.specs.declared.decoder_input.Removal.{Removal}
use Rattle.version_source.specs.Sendable.{IsSendable, IsUnitOf}
use Rattle.audit_command.specs.AuditCommand.{kept_units}
use Rattle.audit_command.proofs.Auditable.{last_fits, removal_of}
use Rattle.audit_command.proofs.LastTimes.{stream_in_time}

-- ---- what is taken out

-- of a transport stream
of_packets : (file : List ℕ) (number : ℕ) (drop : List ℕ) (found : Demuxed) (cut : ℕ) → StandIn Ts file number drop found cut → IsDemuxed file number drop found
of_packets file number drop found cut (in_packets is_form is none) = is
of_packets file number drop found cut (in_elements is_form one is) = cc

taken_is : (file : List ℕ) (number : ℕ) (drop : List ℕ) (demuxed : Demuxed) → IsTakenOut Ts file number drop demuxed → IsDemuxed file number drop demuxed
taken_is file number drop demuxed is = subst (IsDemuxed file number drop) (sym is.typed_is) (of_packets file number drop is.found is.cut is.stand)

-- ---- the video

mapped_some : {X Y : Type 0} (f : X → Y) (x : Option X) (y : Y) → option_map f x ≡ Some y → (v : X) × (x ≡ Some v)
mapped_some f None y is = cc
mapped_some f (Some v) y is = (v, refl)

-- a video that is cut into units has a sequence header
video_sound : (demuxed : Demuxed) (units : Units) → HasUnits demuxed units → IsVideoSound demuxed.video
video_sound demuxed units has =
    let found = mapped_some _ (first_sequence (video_bytes demuxed)) units has.units_are in
    record { sound = has.sound; from = found.0; sequence = found.1 }

-- ---- the time of the first picture

in_range : (dts pts : Option ℕ) (v : ℕ) → AreInRange (record { pts = pts; dts = dts }) → decoding_of dts pts ≡ Some v → v < 2 ^ 33
in_range None None v ranges is = cc
in_range None (Some p) v ranges is = let same : p ≡ v = cc in subst (λ (n : ℕ). n < 2 ^ 33) same ranges.0
in_range (Some d) pts v ranges is = let same : d ≡ v = cc in subst (λ (n : ℕ). n < 2 ^ 33) same ranges.1

-- the first picture is timed by what its PES header states
record IsStated (picture : TimedPicture) : Type 0 where
  pub value : ℕ
  pub small : value < 2 ^ 33
  pub stated_is : picture.stated ≡ pos value
  pub ticks_are : picture.ticks ≡ pos 300 *ℤ picture.stated

stated_by : (picture : TimedPicture) (time : Option ℕ) → decoding_time picture.times ≡ time → AreInRange picture.times → IsTimed None time picture.stated picture.ticks → IsStated picture
stated_by picture None is ranges timed = absurd timed
stated_by picture (Some v) is ranges timed =
    record { value = v; small = in_range picture.times.dts picture.times.pts v ranges is; stated_is = timed.0; ticks_are = timed.1 }

-- the first unit, with its picture
record IsFirstUnit (start : ℕ) (earliest : ℤ) (picture : TimedPicture) (units : List UnitSource) : Type 0 where
  pub unit : UnitSource
  pub more : List UnitSource
  pub units_are : units ≡ unit ∷ more
  pub due : IsDue start earliest picture.ticks unit.due
  pub times_are : unit.times ≡ picture.times

first_unit : (start : ℕ) (earliest : ℤ) (kept : List (ℕ × ℕ)) (picture : TimedPicture) (later : List TimedPicture) (units : List UnitSource)
    → AreUnitSources start earliest kept (picture ∷ later) units → IsFirstUnit start earliest picture units
first_unit start earliest [] picture later units are = absurd are
first_unit start earliest (k ∷ ks) picture later [] are = absurd are
first_unit start earliest (k ∷ ks) picture later (unit ∷ units) (begins, ends, times, due, kind, role, are) =
    record { unit = unit; more = units; units_are = refl; due = due; times_are = times }

first_timed : (es : List ℕ) (packets : List PlacedPacket) (kept : List (ℕ × ℕ)) (picture : TimedPicture) (later : List TimedPicture)
    → AreInOrder es packets [] kept (picture ∷ later) → IsTimed None (decoding_time picture.times) picture.stated picture.ticks
first_timed es packets [] picture later in_order = absurd in_order
first_timed es packets (k ∷ ks) picture later in_order = in_order.0.timed

-- a number that is another one, less than a round, and some rounds
by_rounds : (n small : ℕ) (turns : ℤ) → pos n ≡ pos (300 * small) +ℤ turns *ℤ pos 2576980377600 → small < 8589934592 → n % 2576980377600 / 300 ≡ small
by_rounds n small (pos rounds) is less =
    let whole : n ≡ 300 * small + rounds * 2576980377600 = omega (arith, ints, is) in
    omega (arith, whole, less)
by_rounds n small (negsuc rounds) is less = absurd (omega (arith, ints, is, less))

shown : (start base due small : ℕ) (earliest ticks turns : ℤ) → pos due ≡ ((pos start +ℤ ticks) -ℤ earliest) → pos base ≡ ((earliest -ℤ pos start) +ℤ turns *ℤ pos 2576980377600)
    → ticks ≡ pos (300 * small) → pos (base + due) ≡ pos (300 * small) +ℤ turns *ℤ pos 2576980377600
shown start base due small earliest ticks turns is_due is_base is_ticks = omega (arith, ints, is_due, is_base, is_ticks)

-- what that picture states, when it is due, and what the program's clock shows then
record IsShown (start : ℕ) (earliest : ℤ) (picture : TimedPicture) (kept : KeptUnits) : Type 0 where
  pub value : ℕ
  pub stated_is : picture.stated ≡ pos value
  pub ticks_are : picture.ticks ≡ pos (300 * value)
  pub due_is : IsDue start earliest picture.ticks (first_due kept)
  pub time_is : first_time kept ≡ value

ticks_of : (value : ℕ) (stated ticks : ℤ) → stated ≡ pos value → ticks ≡ pos 300 *ℤ stated → ticks ≡ pos (300 * value)
ticks_of value stated ticks is also = omega (arith, ints, is, also)

shown_first : (start : ℕ) (demuxed : Demuxed) (program : Program) (is : IsProgram start demuxed program) → IsSendable program → IsShown start is.earliest is.first (kept_units program)
shown_first start demuxed program is sendable =
    let es = video_bytes demuxed in
    let packets = video_packets demuxed in
    let has = is.has_pictures in
    let in_order : AreInOrder es packets [] is.kept (is.first ∷ has.later) =
    subst (AreInOrder es packets [] is.kept) has.first_is (kept-in-order es packets has.units.cuts is.kept is.pictures has.at_end has.kept_are) in
    let sources : AreUnitSources start is.earliest is.kept (is.first ∷ has.later) program.units =
    subst (λ (ps : List TimedPicture). AreUnitSources start is.earliest is.kept ps program.units) has.first_is is.units_are in
    let unit : IsFirstUnit start is.earliest is.first program.units = first_unit start is.earliest is.kept is.first has.later program.units sources in
    let own : IsUnitOf program.video unit.unit =
    All-head (IsUnitOf program.video) unit.unit unit.more (subst (λ (us : List UnitSource). All (IsUnitOf program.video) us) unit.units_are sendable.units) in
    let ranges : AreInRange is.first.times = subst AreInRange unit.times_are own.in_range in
    let stated : IsStated is.first = stated_by is.first (decoding_time is.first.times) refl ranges (first_timed es packets is.kept is.first has.later in_order) in
    let ticks : is.first.ticks ≡ pos (300 * stated.value) = ticks_of stated.value is.first.stated is.first.ticks stated.stated_is stated.ticks_are in
    let turned = is.base_is.congruent in
    let due : first_due (kept_units program) ≡ unit.unit.due =
    subst (λ (us : List UnitSource). sum_by (λ (removal : Removal). removal.due) (take 1 (map removal_of us)) ≡ unit.unit.due) (sym unit.units_are)
    (omega (arith, sum_by-cons (λ (removal : Removal). removal.due) (removal_of unit.unit) [])) in
    let shows : (program.base + unit.unit.due) % 2576980377600 / 300 ≡ stated.value =
    by_rounds (program.base + unit.unit.due) stated.value turned.0
    (shown start program.base unit.unit.due stated.value is.earliest is.first.ticks turned.0 unit.due turned.1 ticks) stated.small in
    record {
      value = stated.value;
      stated_is = stated.stated_is;
      ticks_are = ticks;
      due_is = subst (λ (d : ℕ). IsDue start is.earliest is.first.ticks d) (sym due) unit.due;
      time_is = ap (λ (d : ℕ). (program.base + d) % 2576980377600 / 300) due ∙ shows;
    }

-- ---- audio streams

-- one of some streams that have frames, and of which this is kept, has them
source_at : (start : ℕ) (earliest first : ℤ) (P : AudioSource → Type 0) (before : List AudioStream) (audio : AudioStream) (more : List AudioStream) (frames : List (List Frame))
    (sources : List AudioSource) → HaveFrames first (before ++ audio ∷ more) frames → AreAudioSources start earliest (before ++ audio ∷ more) frames sources → All P sources
    → (own : List Frame) × (source : AudioSource) × HasFrames first audio own × IsAudioSource start earliest audio own source × P source
source_at start earliest first P [] audio more [] sources have are all = absurd have
source_at start earliest first P [] audio more (f ∷ fs) [] have are all = absurd are
source_at start earliest first P [] audio more (f ∷ fs) (s ∷ ss) have are all = (f, s, have.0, are.0, All-head P s ss all)
source_at start earliest first P (x ∷ xs) audio more [] sources have are all = absurd have
source_at start earliest first P (x ∷ xs) audio more (f ∷ fs) [] have are all = absurd are
source_at start earliest first P (x ∷ xs) audio more (f ∷ fs) (s ∷ ss) have are all = source_at start earliest first P xs audio more fs ss have.1 are.1 (All-tail P s ss all)

due_in_time : (start due value first most : ℕ) (earliest ticks time : ℤ) → pos due ≡ ((pos start +ℤ ticks) -ℤ earliest) → ticks ≡ pos (300 * value) → first ≡ value
    → ((pos start +ℤ time) -ℤ earliest) ≤ℤ pos most → most ≤ 2 ^ 52 → (pos due +ℤ (time -ℤ pos (300 * first))) ≤ℤ pos (2 ^ 52)
due_in_time start due value first most earliest ticks time is_due is_ticks same early few = omega (arith, ints, is_due, is_ticks, same, early, few)

-- it isn't refused
audio_sound : (kept : KeptUnits) (start slot : ℕ) (earliest : ℤ) (picture : TimedPicture) (audio : AudioStream) (own : List Frame) (source : AudioSource) (stop : AuditStop)
    → stop ≢ stops.OutOfMemory → IsShown start earliest picture kept → HasFrames picture.stated audio own → IsAudioSource start earliest audio own source
    → All (λ piece. piece.packet.gone ≤ last_time slot) source.pieces → IsAudioStopped kept audio stop → ⊥
audio_sound kept start slot earliest picture audio own source stop some shown_is has is gones stopped =
    let first : picture.stated ≡ pos (first_time kept) = shown_is.stated_is ∙ ap pos (sym shown_is.time_is) in
    let framed : HasFrames (pos (first_time kept)) audio own = subst (λ (t : ℤ). HasFrames t audio own) first has in
    let early = stream_in_time start earliest picture.stated audio own source (last_time slot) has is gones in
    audio_or_stop kept audio stop some
    (record {
      frames = own;
      framed = framed;
      in_time = λ k d less.
          due_in_time start (first_due kept) shown_is.value (first_time kept) (last_time slot) earliest picture.ticks _ shown_is.due_is shown_is.ticks_are shown_is.time_is (early k d less)
          (last_fits slot);
    }) stopped

-- ---- a program that was read

pub stopped_for : (slot start number : ℕ) (content : List ℕ) (program : Program) (stop : AuditStop) → stop ≢ stops.OutOfMemory → IsAlone slot start number content program → IsSendable program
    → IsAuditStopped content number slot (kept_units program) stop → IsProgramStopped content number slot stop
stopped_for slot start number content program stop some is sendable (IsAuditStopped.bad_program stopped) = stopped
stopped_for slot start number content program stop some is sendable (IsAuditStopped.memory wanted) = absurd (some wanted)
stopped_for slot start number content program stop some is sendable (IsAuditStopped.bad_video demuxed pid clock read stopped) =
    let own = is.holds.demuxed in
    let same : demuxed ≡ own = one_demuxed content number [] demuxed own read.tables.taken_out (taken_is content number [] own is.holds.demuxed_is) in
    let has = is.holds.program_is.has_pictures in
    absurd (video_or_stop own.video stop (video_sound own has.units has.has_units) (subst (λ (d : Demuxed). IsVideoStopped d.video stop) same stopped))
stopped_for slot start number content program stop some is sendable (IsAuditStopped.bad_audio demuxed pid clock read video stopped) =
    let own = is.holds.demuxed in
    let read_is = is.holds.program_is in
    let same : demuxed ≡ own = one_demuxed content number [] demuxed own read.tables.taken_out (taken_is content number [] own is.holds.demuxed_is) in
    let first = subst (λ (d : Demuxed). IsFirstAudioStopped (kept_units program) d.audios stop) same stopped in
    let at = source_at start read_is.earliest read_is.first.stated (λ audio. All (λ piece. piece.packet.gone ≤ last_time slot) audio.pieces) first.before first.audio first.more read_is.frames
    program.audios (subst (λ (xs : List AudioStream). HaveFrames read_is.first.stated xs read_is.frames) first.split read_is.have_frames)
    (subst (λ (xs : List AudioStream). AreAudioSources start read_is.earliest xs read_is.frames program.audios) first.split read_is.audios_are) is.within.audio_gones in
    absurd (audio_sound (kept_units program) start slot read_is.earliest read_is.first first.audio at.0 at.1 stop some (shown_first start own program read_is sendable) at.2 at.3 at.4 first.refused)
