-- A video that was read as its file passed, and what is taken out of that file at once.
use Rattle.std.proofs.Common.{◌≡◌, ℕ, ◌+◌, ◌<◌, ◌≤◌, List, [], ◌∷◌, length, slice_get, map, All, Some, refl, sym, ap, ◌∙◌, subst, arith}
use Rattle.std.proofs.lemmas.Option.{same_Some}
use Rattle.ts_packets.specs.TransportStream.{piece_count, rest_of}
use Rattle.psi_tables.specs.declared.pmt.TheConstants.{PACKET_SECTION_BYTES}
use Rattle.psi_tables.specs.declared.program_map.ProgramMap.{ProgramMap}
use Rattle.psi_tables.specs.declared.stream.Stream.{Stream}
use Rattle.psi_tables.specs.Pmt.{pids_of, pmt_length}
use Rattle.ts_demux.specs.declared.demux_fault.DemuxFault.{DemuxFault}
use Rattle.ts_demux.specs.declared.demuxed.AudioStream.{AudioStream}
use Rattle.ts_demux.specs.declared.demuxed.Demuxed.{Demuxed}
use Rattle.ts_demux.specs.declared.demuxed.PesUnit.{PesUnit}
use Rattle.ts_demux.specs.Demux.{AreStreamsSound, HasCarriedMap, IsDemuxed, IsDemuxRefused, IsFirstStreamFault, most_audios, pes_packets_on}
use Rattle.ts_demux.specs.Streams.{audios_of, without_video}
use Rattle.job_report.specs.declared.job.Form.TheVariants.{Ts}
use Rattle.program_reader.specs.declared.limits.TheConstants.{FILE_BYTES_MOST, PES_PACKETS_MOST}
use Rattle.program_reader.specs.declared.program_fault.ProgramFault.{ProgramFault}
use Rattle.program_reader.specs.declared.program_fault.ProgramFault.TheVariants.{Refused}
use Rattle.program_reader.specs.declared.program_fault.SourceKind.TheVariants as kinds
use Rattle.program_reader.specs.declared.unit_sizes.SizesWanted.{SizesWanted}
use Rattle.program_reader.specs.declared.video_walk.WalkedVideo.{WalkedVideo}
use Rattle.program_reader.specs.Faults.{of_demux}
use Rattle.program_reader.specs.Programs.{AreStreamsRefused, IsDemuxedRefused, IsProgramRefused, IsTakenOut, StandIn}
use Rattle.program_reader.specs.VideoWalk.{IsVideoWalked}
use Rattle.pes_passing.specs.PassingPackets.{packets_before}
use Rattle.passed_programs.specs.PassedVideo.{HasVideo, IsSoundVideo, IsVideoRead, IsVideoRefused}

-- ---- what is taken out of a file whose map is read

module _ (file : List ℕ) (number : ℕ) (drop : List ℕ) (carried_map : ProgramMap) (others : List ℕ) (has : HasCarriedMap file number drop carried_map others) where
  -- the audio streams behind the video
  abbrev audios_here : List Stream
  audios_here = audios_of drop (has.carried_is.video.pid ∷ []) (without_video has.whole.streams.items)

  abbrev demuxed_here : Demuxed
  demuxed_here = record {
    map = carried_map;
    video = (pes_packets_on file has.carried_is.video).units;
    audios = map (pes_packets_on file) audios_here;
    rest = length (rest_of file);
    not_carried = others;
  }

  demuxed_is : length carried_map.streams.items ≤ 1 + most_audios → pmt_length carried_map ≤ PACKET_SECTION_BYTES → AreStreamsSound file (pids_of carried_map)
      → IsDemuxed file number drop demuxed_here
  demuxed_is few short sound = record {
    tables = has;
    few = few;
    short = short;
    sound = sound;
    video = has.carried_is.video;
    audios = audios_here;
    streams = has.carried_is.streams;
    video_packets = refl;
    audio_packets = refl;
    rest_is = refl;
  }

  pub some_demuxed : length carried_map.streams.items ≤ 1 + most_audios → pmt_length carried_map ≤ PACKET_SECTION_BYTES → AreStreamsSound file (pids_of carried_map)
      → (demuxed : Demuxed) × IsDemuxed file number drop demuxed × (demuxed.map ≡ carried_map) × (demuxed.not_carried ≡ others)
  some_demuxed few short sound = (demuxed_here, demuxed_is few short sound, refl, refl)

  -- or the first packet that is refused
  pub packets_refused : (fault : DemuxFault) → length file ≤ FILE_BYTES_MOST → length carried_map.streams.items ≤ 1 + most_audios → pmt_length carried_map ≤ PACKET_SECTION_BYTES
      → IsFirstStreamFault file (pids_of carried_map) fault → IsProgramRefused Ts file number drop (of_demux fault)
  packets_refused fault within few short first =
      IsProgramRefused.streams within (AreStreamsRefused.of_packets fault refl (IsDemuxRefused.streams carried_map others has few short first) refl)

-- ---- its video

module _ (file : List ℕ) (number : ℕ) (drop : List ℕ) (demuxed : Demuxed) (is : IsDemuxed file number drop demuxed) where
  -- the first PID of the map is that of the video
  pub packets_are : (packets : List PesUnit) → HasVideo file (pids_of demuxed.map) packets → demuxed.video ≡ packets
  packets_are packets has =
      let here : slice_get (map (λ (s : Stream). s.pid) (is.video ∷ is.audios)) 0 ≡ Some has.pid =
      sym (ap (λ (streams : List Stream). slice_get (map (λ (s : Stream). s.pid) streams) 0) is.streams) ∙ has.pid_is in
      is.video_packets ∙ ap (λ (p : ℕ). packets_before file p (piece_count file)) (same_Some is.video.pid has.pid here) ∙ sym has.packets_are

  read_packets : (wanted : SizesWanted) (video : WalkedVideo) (read : IsVideoRead file (pids_of demuxed.map) wanted video) → demuxed.video ≡ read.packets
  read_packets wanted video read = packets_are read.packets read.sound_video.has

  pub video_walked : (wanted : SizesWanted) (video : WalkedVideo) → IsVideoRead file (pids_of demuxed.map) wanted video → IsVideoWalked demuxed video
  video_walked wanted video read = read.walked demuxed (read_packets wanted video read)

  pub video_few : (wanted : SizesWanted) (video : WalkedVideo) → IsVideoRead file (pids_of demuxed.map) wanted video
      → (length file ≤ FILE_BYTES_MOST) × (length demuxed.video ≤ PES_PACKETS_MOST)
  video_few wanted video read =
      (read.sound_video.short, omega (arith, ap (λ (ps : List PesUnit). length ps) (read_packets wanted video read), read.sound_video.few))

  -- ---- what it is refused for

  taken_out_here : IsTakenOut Ts file number drop demuxed
  taken_out_here = record { found = demuxed; cut = 0; stand = StandIn.in_packets refl is refl; typed_is = refl }

  many_refused : (packets : List PesUnit) → HasVideo file (pids_of demuxed.map) packets → length file ≤ FILE_BYTES_MOST → PES_PACKETS_MOST < length packets
      → IsProgramRefused Ts file number drop (Refused kinds.ProgramLimit 0)
  many_refused packets has within many =
      IsProgramRefused.many_packets demuxed within taken_out_here
      (λ has_few. omega (arith, ap (λ (ps : List PesUnit). length ps) (packets_are packets has), many, has_few.0)) refl

  own_refused : (packets : List PesUnit) (fault : ProgramFault) → IsSoundVideo file (pids_of demuxed.map) packets
      → All (λ (stream : AudioStream). length stream.units ≤ PES_PACKETS_MOST) demuxed.audios → IsDemuxedRefused demuxed fault → IsProgramRefused Ts file number drop fault
  own_refused packets fault sound few refused =
      let own_few : length demuxed.video ≤ PES_PACKETS_MOST =
      omega (arith, ap (λ (ps : List PesUnit). length ps) (packets_are packets sound.has), sound.few) in
      IsProgramRefused.taken_out demuxed sound.short taken_out_here (own_few, few) refused

-- a video's refusal, once the map is read
pub video_refused : (file : List ℕ) (number : ℕ) (drop : List ℕ) (carried_map : ProgramMap) (others : List ℕ) (fault : ProgramFault) → HasCarriedMap file number drop carried_map others
    → length carried_map.streams.items ≤ 1 + most_audios → pmt_length carried_map ≤ PACKET_SECTION_BYTES
    → ((demuxed : Demuxed) → IsDemuxed file number drop demuxed → All (λ (stream : AudioStream). length stream.units ≤ PES_PACKETS_MOST) demuxed.audios)
    → IsVideoRefused file (pids_of carried_map) fault → IsProgramRefused Ts file number drop fault
video_refused file number drop carried_map others fault has few short audios (IsVideoRefused.long longer fault_is) = IsProgramRefused.long longer fault_is
video_refused file number drop carried_map others fault has few short audios (IsVideoRefused.many_packets packets sound video within many fault_is) =
    let demuxed = demuxed_here file number drop carried_map others has in
    let is = demuxed_is file number drop carried_map others has few short sound in
    subst (IsProgramRefused Ts file number drop) (sym fault_is) (many_refused file number drop demuxed is packets video within many)
video_refused file number drop carried_map others fault has few short audios (IsVideoRefused.taken_out packets sound refused) =
    let demuxed = demuxed_here file number drop carried_map others has in
    let is = demuxed_is file number drop carried_map others has few short sound.sound in
    own_refused file number drop demuxed is packets fault sound (audios demuxed is) (refused demuxed (packets_are file number drop demuxed is packets sound.has))
