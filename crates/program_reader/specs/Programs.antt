-- The program of a file, and the first refusal of a file, in the order of reading (this project's).
use Rattle.std.specs.Prelude.{◌≡◌, ◌≢◌, ◌⊎◌, ℕ, ◌+◌, ◌-◌, ◌*◌, ◌^◌, ◌<◌, ◌≤◌, min, true, false, List, [], ◌∷◌, ◌++◌, length, map, All, Contains, Some, None, ℤ, pos, ◌+ℤ◌, ◌-ℤ◌, ◌*ℤ◌, ◌≤ℤ◌}
use Rattle.std.specs.List.{flat_map, sum_by}
use Rattle.stream_constants.specs.declared.clock.TheConstants.{TICKS_PER_TIME_UNIT}
use Rattle.audio_frames.specs.declared.frame.Frame.{Frame}
use Rattle.es_units.specs.declared.units.Units.{Units}
use Rattle.es_units.specs.Units.{cut_units}
use Rattle.picture_grammar.specs.Refusal.{Refusal}
use Rattle.ts_demux.specs.declared.demux_fault.DemuxFault.{DemuxFault}
use Rattle.ts_demux.specs.declared.demuxed.Demuxed.{Demuxed}
use Rattle.ts_demux.specs.Demux.{IsDemuxed, IsDemuxRefused}
use Rattle.program_stream.specs.declared.split_fault.SplitFault.{SplitFault}
use Rattle.program_stream.specs.Elements.{Element}
use Rattle.program_stream.specs.Split.{HasElements, IsSplit, IsSplitRefused}
use Rattle.job_report.specs.declared.job.Form.{Form}
use Rattle.job_report.specs.declared.job.Form.TheVariants.{Ts, Ps}
use Rattle.program_reader.specs.declared.limits.TheConstants.{FILE_BYTES_MOST, PES_PACKETS_MOST, UNITS_MOST}
use Rattle.elementary_streams.specs.declared.pes_packets.PlacedPacket.{PlacedPacket}
use Rattle.elementary_streams.specs.declared.stream_fault.StreamFault.{StreamFault}
use Rattle.program_reader.specs.declared.program.Program.{Program}
use Rattle.program_reader.specs.declared.program.UnitSource.{UnitSource}
use Rattle.program_reader.specs.declared.program_fault.ProgramFault.{ProgramFault}
use Rattle.program_reader.specs.declared.program_fault.ProgramFault.TheVariants.{Refused, OutOfMemory}
use Rattle.program_reader.specs.declared.program_fault.SourceKind.TheVariants as kinds
use Rattle.program_reader.specs.declared.timed_picture.TimedPicture.{TimedPicture}
use Rattle.program_reader.specs.Faults.{of_demux, of_split, of_stream}
use Rattle.elementary_streams.specs.Packets.{AreSound, IsPacketFault, taken, packets_dropped, joined, placed_from}
use Rattle.program_reader.specs.Units.{AreKept, IsBroken, IsUnitsFault}
use Rattle.program_reader.specs.Audio.{HaveFrames, IsAudioFault, IsDue, AreAudioSources}
use Rattle.program_reader.specs.AudioTypes.{typed}

-- ---- what is taken out of a file

-- These streams of the program of a number stand in a file of a form, without the audio streams that are to be dropped, and so many last elements of the
-- file are cut by its end: of a transport stream none. A program stream has one program, of number 1.
pub data StandIn (form : Form) (file : List ℕ) (number : ℕ) (drop : List ℕ) (found : Demuxed) (cut : ℕ) : Type 0 where
  in_packets : form ≡ Ts → IsDemuxed file number drop found → cut ≡ 0 → StandIn form file number drop found cut
  in_elements : form ≡ Ps → number ≡ 1 → IsSplit file drop found cut → StandIn form file number drop found cut

-- What is taken out of a file: the streams that stand in it, in the map of a program stream each audio stream with the type of its first frame.
pub record IsTakenOut (form : Form) (file : List ℕ) (number : ℕ) (drop : List ℕ) (demuxed : Demuxed) : Type 0 where
  pub found : Demuxed
  pub cut : ℕ
  pub stand : StandIn form file number drop found cut
  pub typed_is : demuxed ≡ typed form found

-- ---- the video

-- the bytes of the video of what is taken out of a file
abbrev pub video_bytes : Demuxed → List ℕ
video_bytes demuxed = joined (taken true demuxed.video)

-- where its PES packets stand
abbrev pub video_packets : Demuxed → List PlacedPacket
video_packets demuxed = placed_from 0 (taken true demuxed.video)

-- its PES packets have no fault, and it is cut into these units
pub record HasUnits (demuxed : Demuxed) (units : Units) : Type 0 where
  pub sound : AreSound true demuxed.video
  pub units_are : cut_units (video_bytes demuxed) ≡ Some units

-- no unit is left: no sequence header stands, or the only unit breaks a rule of headers or pictures
abbrev pub HasNoSequence : Demuxed → Type 0
HasNoSequence demuxed = AreSound true demuxed.video
    × ((cut_units (video_bytes demuxed) ≡ None)
    ⊎ ((units : Units) × (unit : ℕ × ℕ) × (refusal : Refusal) × (at : ℕ) × (cut_units (video_bytes demuxed) ≡ Some units) × (units.cuts ≡ unit ∷ [])
    × IsBroken (video_bytes demuxed) None unit refusal at))

-- The video keeps these units, as these pictures in order, of which `first` is the first one.
pub record HasPictures (demuxed : Demuxed) (kept : List (ℕ × ℕ)) (first : TimedPicture) (pictures : List TimedPicture) (dropped : ℕ) : Type 0 where
  pub units : Units
  pub has_units : HasUnits demuxed units
  pub at_end : ℕ
  pub kept_are : AreKept (video_bytes demuxed) (video_packets demuxed) units.cuts kept pictures at_end
  pub later : List TimedPicture
  pub first_is : pictures ≡ first ∷ later
  pub dropped_is : dropped ≡ min (units.dropped + at_end) (2 ^ 32 - 1)

-- ---- times

-- the times of all pictures and audio frames, in ticks
abbrev pub all_times : List TimedPicture → List (List Frame) → List ℤ
all_times pictures frames = map (λ picture. picture.ticks) pictures ++ flat_map (map (λ frame. frame.time)) frames

-- one of some times, and no later than any of them
pub record IsEarliest (times : List ℤ) (earliest : ℤ) : Type 0 where
  pub stands : Contains times earliest
  pub least : All (λ time. earliest ≤ℤ time) times

-- ticks in which the 33 bits of a time go round once
abbrev pub clock_round : ℕ
clock_round = TICKS_PER_TIME_UNIT * 2 ^ 33

-- the earliest time less the time at which it is due, modulo the round of the clock
pub record IsBase (start : ℕ) (earliest : ℤ) (base : ℕ) : Type 0 where
  pub below : base < clock_round
  pub congruent : (turns : ℤ) × (pos base ≡ ((earliest -ℤ pos start) +ℤ turns *ℤ pos clock_round))

-- ---- the program

-- units with their times, one for each picture, which tell how it is coded (13818-2, 6.3.9) and what it is of its coded frame
abbrev pub AreUnitSources : ℕ → ℤ → List (ℕ × ℕ) → List TimedPicture → List UnitSource → Type 0
AreUnitSources start earliest [] [] [] = Unit {0}
AreUnitSources start earliest (unit ∷ units) (picture ∷ pictures) (source ∷ sources) =
    (source.begin ≡ unit.0) × (source.end ≡ unit.1) × (source.times ≡ picture.times) × IsDue start earliest picture.ticks source.due
    × (source.kind ≡ picture.coding.kind) × (source.role ≡ picture.role) × AreUnitSources start earliest units pictures sources
AreUnitSources start earliest units pictures sources = ⊥

-- how many PES packets are dropped in all
abbrev pub all_packets_dropped : Demuxed → ℕ
all_packets_dropped demuxed = packets_dropped true demuxed.video + sum_by (λ stream. packets_dropped false stream.units) demuxed.audios

-- The program of what is taken out of a file, with its earliest time due at `start`, but for how many PES packets are dropped.
pub record IsProgram (start : ℕ) (demuxed : Demuxed) (program : Program) : Type 0 where
  pub kept : List (ℕ × ℕ)
  pub first : TimedPicture
  pub pictures : List TimedPicture
  pub has_pictures : HasPictures demuxed kept first pictures program.units_dropped
  pub frames : List (List Frame)
  pub have_frames : HaveFrames first.stated demuxed.audios frames
  pub few : length kept ≤ UNITS_MOST
  pub earliest : ℤ
  pub earliest_is : IsEarliest (all_times pictures frames) earliest
  pub map_is : program.map ≡ demuxed.map
  pub base_is : IsBase start earliest program.base
  pub vbv_is : program.vbv ≡ first.seq.vbv
  pub video_is : program.video ≡ video_bytes demuxed
  pub units_are : AreUnitSources start earliest kept pictures program.units
  pub audios_are : AreAudioSources start earliest demuxed.audios frames program.audios
  pub rest_is : program.rest ≡ demuxed.rest
  pub not_carried_are : program.not_carried ≡ demuxed.not_carried

-- no carried stream has more PES packets than a program may have of one
abbrev pub HasFewPackets : Demuxed → Type 0
HasFewPackets demuxed = (length demuxed.video ≤ PES_PACKETS_MOST) × All (λ stream. length stream.units ≤ PES_PACKETS_MOST) demuxed.audios

-- The program of this number in a file of a form, without the audio streams of some PIDs or stream ids. A last element that the file's end cuts is a
-- PES packet that is dropped.
pub record IsProgramOfFile (form : Form) (file : List ℕ) (number : ℕ) (drop : List ℕ) (start : ℕ) (program : Program) : Type 0 where
  pub within : length file ≤ FILE_BYTES_MOST
  pub demuxed : Demuxed
  pub demuxed_is : IsTakenOut form file number drop demuxed
  pub few_packets : HasFewPackets demuxed
  pub program_is : IsProgram start demuxed program
  pub pes_dropped_is : program.pes_dropped ≡ all_packets_dropped demuxed + demuxed_is.cut

-- ---- what is refused

-- What refuses what is taken out of a file, in this order: the video's PES packets; no unit; its units, one behind the other; the audio streams in
-- their order; the number of units.
pub data IsDemuxedRefused (demuxed : Demuxed) (fault : ProgramFault) : Type 0 where
  bad_packet : (found : StreamFault) → IsPacketFault true demuxed.video found → fault ≡ of_stream found → IsDemuxedRefused demuxed fault
  no_sequence : HasNoSequence demuxed → fault ≡ Refused kinds.NoSequence 0 → IsDemuxedRefused demuxed fault
  bad_unit : (units : Units) → HasUnits demuxed units → IsUnitsFault (video_bytes demuxed) (video_packets demuxed) units.cuts fault → IsDemuxedRefused demuxed fault
  bad_audio : (kept : List (ℕ × ℕ)) (first : TimedPicture) (pictures : List TimedPicture) (dropped : ℕ) → HasPictures demuxed kept first pictures dropped
      → IsAudioFault first.stated demuxed.audios fault → IsDemuxedRefused demuxed fault
  many_units : (kept : List (ℕ × ℕ)) (first : TimedPicture) (pictures : List TimedPicture) (dropped : ℕ) (frames : List (List Frame))
      → HasPictures demuxed kept first pictures dropped → HaveFrames first.stated demuxed.audios frames → UNITS_MOST < length kept
      → fault ≡ Refused kinds.ProgramLimit 0 → IsDemuxedRefused demuxed fault

-- A program stream whose elements aren't refused has another number than this: its one program has number 1.
pub record HasOtherNumber (file : List ℕ) (number : ℕ) : Type 0 where
  pub elements : List Element
  pub cut : ℕ
  pub elements_are : HasElements file elements cut
  pub other : number ≢ 1

-- What refuses the streams of a file, by its form: its transport packets and tables; or its length and elements, then another number than 1, and then its
-- streams.
pub data AreStreamsRefused (form : Form) (file : List ℕ) (number : ℕ) (drop : List ℕ) (fault : ProgramFault) : Type 0 where
  of_packets : (found : DemuxFault) → form ≡ Ts → IsDemuxRefused file number drop found → fault ≡ of_demux found → AreStreamsRefused form file number drop fault
  no_program : form ≡ Ps → HasOtherNumber file number → fault ≡ Refused kinds.NoProgram 0 → AreStreamsRefused form file number drop fault
  of_elements : (found : SplitFault) → form ≡ Ps → ¬ HasOtherNumber file number → IsSplitRefused file drop found → fault ≡ of_split found
      → AreStreamsRefused form file number drop fault

-- The first refusal of a file: its length; its streams; the number of PES packets of a carried stream; then what is taken out of it. Want of memory may
-- come at any time.
pub data IsProgramRefused (form : Form) (file : List ℕ) (number : ℕ) (drop : List ℕ) (fault : ProgramFault) : Type 0 where
  long : FILE_BYTES_MOST < length file → fault ≡ Refused kinds.ProgramLimit 0 → IsProgramRefused form file number drop fault
  streams : length file ≤ FILE_BYTES_MOST → AreStreamsRefused form file number drop fault → IsProgramRefused form file number drop fault
  many_packets : (demuxed : Demuxed) → length file ≤ FILE_BYTES_MOST → IsTakenOut form file number drop demuxed → ¬ HasFewPackets demuxed
      → fault ≡ Refused kinds.ProgramLimit 0 → IsProgramRefused form file number drop fault
  taken_out : (demuxed : Demuxed) → length file ≤ FILE_BYTES_MOST → IsTakenOut form file number drop demuxed → HasFewPackets demuxed
      → IsDemuxedRefused demuxed fault → IsProgramRefused form file number drop fault
  memory : fault ≡ OutOfMemory → IsProgramRefused form file number drop fault
