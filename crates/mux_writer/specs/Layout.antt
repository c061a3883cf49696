-- The programs of an output stream, and the PIDs of their streams.
use Rattle.std.specs.Prelude.{◌≡◌, ℕ, ◌+◌, ◌*◌, ◌<◌, ◌≤◌, List, [], ◌∷◌, length, All, slice_get, slice_index, Some}
use Rattle.std.specs.List.{flat_map, range_with_len}
use Rattle.psi_tables.specs.declared.pmt.TheConstants.{PACKET_SECTION_BYTES}
use Rattle.psi_tables.specs.declared.program_map.ProgramMap.{ProgramMap}
use Rattle.psi_tables.specs.declared.stream.Stream.{Stream}
use Rattle.psi_tables.specs.Pmt.{IsWritableMap, pids_of, pmt_length}
use Rattle.pcr_writer.specs.declared.pcr.TheConstants.{PCR_MODULUS}
use Rattle.mux_writer.specs.declared.layout.Layout.{Layout}
use Rattle.mux_writer.specs.declared.layout.TheConstants.{FIRST_MAP_PID, PROGRAM_PIDS, PROGRAM_STREAMS_MOST}

-- ---- PIDs

-- the PID of the map of a program, by its number from 0
abbrev pub map_pid : (program : ℕ) → ℕ
map_pid program = FIRST_MAP_PID + PROGRAM_PIDS * program

-- the PID of a program's video, on which its PCR goes too; the audio streams have the PIDs behind it
abbrev pub video_pid : (program : ℕ) → ℕ
video_pid program = map_pid program + 1

-- streams with one PID after another, from a first one on
abbrev pub with_pids_from : (pid : ℕ) → List Stream → List Stream
with_pids_from pid [] = []
with_pids_from pid (stream ∷ streams) = record stream { pid = pid } ∷ with_pids_from (pid + 1) streams

-- a program's map as it goes out under a program_number, with the PIDs of the program of this number from 0
abbrev pub with_output_pids : (program number : ℕ) → ProgramMap → ProgramMap
with_output_pids program number program_map = record program_map {
  number = number;
  pcr_pid = video_pid program;
  streams = record { items = with_pids_from (video_pid program) program_map.streams.items };
}

-- the PIDs of all streams, those of a program behind those of the programs before it
abbrev pub stream_pids : Layout → List ℕ
stream_pids layout = flat_map pids_of layout.maps.items

-- the PID of the stream of this number over all programs
abbrev pub stream_pid : Layout → (stream : ℕ) → ℕ
stream_pid layout stream = slice_index (stream_pids layout) stream

-- ---- what a layout must be

-- the map of the program of this number goes out: it has the program's PIDs, no more streams than that, and its section
-- stands in one packet
pub record IsOutputMap (program : ℕ) (program_map : ProgramMap) : Type 0 where
  pub pcr : program_map.pcr_pid ≡ video_pid program
  pub pids : pids_of program_map ≡ range_with_len (video_pid program) (length program_map.streams.items)
  pub few : length program_map.streams.items ≤ PROGRAM_STREAMS_MOST
  pub writable : IsWritableMap program_map
  pub fits : pmt_length program_map ≤ PACKET_SECTION_BYTES

-- its maps go out, and each program has a clock at the first byte
pub record IsLayout (layout : Layout) : Type 0 where
  pub maps : (program : ℕ) (program_map : ProgramMap) → slice_get layout.maps.items program ≡ Some program_map → IsOutputMap program program_map
  pub one_base_each : length layout.bases.items ≡ length layout.maps.items
  pub bases : All (λ base. base < PCR_MODULUS) layout.bases.items
