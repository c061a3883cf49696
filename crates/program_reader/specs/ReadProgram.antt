-- A program that was read, whichever file of its name stood there each time that bytes of it came (this project's).
use Rattle.std.specs.Prelude.{◌≡◌, ℕ, suc, ◌+◌, ◌^◌, ◌<◌, ◌≤◌, List, length, All}
use Rattle.std.specs.List.{sum_by}
use Rattle.bit_lists.specs.Fields.{AreBytes}
use Rattle.stream_constants.specs.declared.limits.TheConstants.{AUDIOS_MOST}
use Rattle.psi_tables.specs.declared.pmt.TheConstants.{PACKET_SECTION_BYTES}
use Rattle.psi_tables.specs.declared.program_map.ProgramMap.{ProgramMap}
use Rattle.psi_tables.specs.Pmt.{IsWritableMap, pids_of, pmt_length}
use Rattle.ts_demux.specs.CarriedPackets.{AreDistinct}
use Rattle.ts_demux.specs.declared.demuxed.Demuxed.{Demuxed}
use Rattle.ts_demux.specs.declared.demuxed.PesUnit.{PesUnit}
use Rattle.program_reader.specs.declared.limits.TheConstants.{FILE_BYTES_MOST}
use Rattle.program_reader.specs.declared.program.Program.{Program}
use Rattle.program_reader.specs.Programs.{HasFewPackets, IsProgram, all_packets_dropped}

-- ---- what is taken out of any file

-- A map can be written again, stands in one packet then, its stream types have the 8 bits of their field (ISO/IEC 13818-1, 2.4.4.8), and no two of its streams
-- have one PID.
pub record CanBeWritten (program_map : ProgramMap) : Type 0 where
  pub writable : IsWritableMap program_map
  pub fits : pmt_length program_map ≤ PACKET_SECTION_BYTES
  pub kinds : All (λ stream. stream.kind < 2 ^ 8) program_map.streams.items
  pub apart : AreDistinct (pids_of program_map)

-- There are as many audio streams as the map has streams behind its video, and no more than a program may have.
pub record HasItsStreams (demuxed : Demuxed) : Type 0 where
  pub as_many : length demuxed.map.streams.items ≡ suc (length demuxed.audios)
  pub few : length demuxed.audios ≤ AUDIOS_MOST

-- the PES packets of a stream have no more bytes together than a file may have
abbrev pub IsSmall : List PesUnit → Type 0
IsSmall packets = sum_by (λ packet. length packet.bytes) packets ≤ FILE_BYTES_MOST

-- What holds of all that is taken out of a file, and of the streams that pass where the file is another one each time: the map can be written, each of its
-- streams is there, and none is larger than it may be.
pub record IsWithinLimits (demuxed : Demuxed) : Type 0 where
  pub map_fits : CanBeWritten demuxed.map
  pub its_streams : HasItsStreams demuxed
  pub few_packets : HasFewPackets demuxed
  pub video_small : IsSmall demuxed.video
  pub audios_small : All (λ stream. IsSmall stream.units) demuxed.audios

-- ---- a program

-- A program that was read, with its earliest time due at `start`: the program of such streams, whose video is bytes. At most one element that the file's end
-- cuts is a PES packet that is dropped beside theirs.
pub record IsReadProgram (start : ℕ) (program : Program) : Type 0 where
  pub demuxed : Demuxed
  pub within : IsWithinLimits demuxed
  pub program_is : IsProgram start demuxed program
  pub bytes : AreBytes program.video
  pub cut : ℕ
  pub one_cut : cut ≤ 1
  pub pes_dropped_is : program.pes_dropped ≡ all_packets_dropped demuxed + cut
