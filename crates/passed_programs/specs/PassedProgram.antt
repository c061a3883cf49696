-- A program that was read while its file passed: the program of the file, without the bytes of its streams (this project's).
use Rattle.std.specs.Prelude.{◌≡◌, ℕ, ◌≤◌, List, length, map, All}
use Rattle.std.specs.List.{AllZip, sum_by}
use Rattle.stream_constants.specs.declared.limits.TheConstants.{AUDIOS_MOST}
use Rattle.ts_demux.specs.declared.demuxed.Demuxed.{Demuxed}
use Rattle.elementary_streams.specs.declared.audio_stream.ReadStream.{ReadStream}
use Rattle.elementary_streams.specs.Audio.{IsStreamRead}
use Rattle.program_reader.specs.declared.limits.TheConstants.{FILE_BYTES_MOST, UNITS_MOST}
use Rattle.program_reader.specs.declared.program.Program.{Program}
use Rattle.program_reader.specs.declared.video_walk.WalkedVideo.{WalkedVideo}
use Rattle.program_reader.specs.Programs.{HasFewPackets, IsProgram, all_packets_dropped}
use Rattle.program_reader.specs.VideoWalk.{IsVideoWalked}
use Rattle.passed_programs.specs.declared.due_program.FoundMap.{FoundMap}
use Rattle.passed_programs.specs.declared.passed_program.PassedProgram.{PassedProgram}

-- This is all of a program but the bytes of its streams.
pub record IsReadOff (program : Program) (passed : PassedProgram) : Type 0 where
  pub map_is : passed.map ≡ program.map
  pub base_is : passed.base ≡ program.base
  pub vbv_is : passed.vbv ≡ program.vbv
  pub units_are : passed.units ≡ program.units
  pub audios_are : passed.audios ≡ map (λ audio. audio.pieces) program.audios
  pub units_dropped_is : passed.units_dropped ≡ program.units_dropped
  pub pes_dropped_is : passed.pes_dropped ≡ program.pes_dropped
  pub rest_is : passed.rest ≡ program.rest
  pub not_carried_are : passed.not_carried ≡ program.not_carried

-- What is taken out of a file was read as it passed: its map, its video and its audio streams, none of which is larger than it may be.
pub record AreRead (demuxed : Demuxed) (found : FoundMap) (video : WalkedVideo) (streams : List ReadStream) : Type 0 where
  pub map_is : demuxed.map ≡ found.map
  pub rest_is : demuxed.rest ≡ found.rest
  pub not_carried_are : demuxed.not_carried ≡ found.not_carried
  pub packets_few : HasFewPackets demuxed
  pub video_few : sum_by (λ packet. length packet.bytes) demuxed.video ≤ FILE_BYTES_MOST
  pub audio_few : All (λ stream. sum_by (λ packet. length packet.bytes) stream.units ≤ FILE_BYTES_MOST) demuxed.audios
  pub audios_few : length demuxed.audios ≤ AUDIOS_MOST
  pub video_read : IsVideoWalked demuxed video
  pub units_few : length video.units.items ≤ UNITS_MOST
  pub audios_read : AllZip (IsStreamRead video.first.stated) demuxed.audios streams

-- This is the program of what is taken out of a file, with its earliest time due at `start`, without the bytes of its streams.
pub record IsPassed (start : ℕ) (demuxed : Demuxed) (passed : PassedProgram) : Type 0 where
  pub program : Program
  pub program_is : IsProgram start demuxed program
  pub pes_dropped_is : program.pes_dropped ≡ all_packets_dropped demuxed
  pub read_off : IsReadOff program passed
