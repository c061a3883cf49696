-- Program map sections (ISO/IEC 13818-1, 2.4.4.8).
use Rattle.std.specs.Prelude.{◌≡◌, ℕ, ◌+◌, ◌^◌, ◌<◌, ◌≤◌, List, ◌++◌, length, take, drop, map, All}
use Rattle.std.specs.List.{flat_map, sum_by}
use Rattle.bit_lists.specs.Fields.{bits}
use Rattle.psi_tables.specs.declared.stream.TheConstants.{DESCRIPTOR_BYTES, STREAMS_MOST}
use Rattle.psi_tables.specs.declared.program_map.ProgramMap.{ProgramMap}
use Rattle.psi_tables.specs.Section.{table_id_extension, IsCurrent, IsWholeSection, IsItemRow, content, written_section_header, written_pid, written_length}
use Rattle.psi_tables.specs.Descriptors.{IsDescriptor, count_dropped}
use Rattle.psi_tables.specs.Streams.{StreamInfo, IsStreamInfo, stream_of, IsStreamWritable, written_stream}

-- PCR_PID and program_info_length in the content of a section
abbrev pub PCR_PID : List ℕ → ℕ
PCR_PID bytes = bits bytes 3 13

-- bytes of the program's own descriptors
abbrev pub program_info_length : List ℕ → ℕ
program_info_length bytes = bits bytes 20 12

-- The content of a section says this of a program. Its own descriptors are all dropped.
pub record IsMapContent (program : ProgramMap) (bytes : List ℕ) : Type 0 where
  pub pcr : program.pcr_pid ≡ PCR_PID bytes
  pub room : 4 + program_info_length bytes ≤ length bytes
  pub descriptors : List (List ℕ)
  pub descriptors_are : IsItemRow IsDescriptor descriptors (take (program_info_length bytes) (drop 4 bytes))
  pub streams : List StreamInfo
  pub streams_are : IsItemRow IsStreamInfo streams (drop (4 + program_info_length bytes) bytes)
  pub kept : program.streams.items ≡ map stream_of streams
  pub dropped_are : program.dropped ≡ length descriptors + sum_by (λ info. count_dropped info.descriptors) streams

-- the bytes are a current PMT section of this program
pub record IsPmt (program : ProgramMap) (bytes : List ℕ) : Type 0 where
  pub current : IsCurrent 2 bytes
  pub whole : IsWholeSection bytes
  pub number : program.number ≡ table_id_extension bytes
  pub content_is : IsMapContent program (content bytes)

-- no more streams, and no more descriptor bytes of a stream, than are kept
pub record HasRoom (program : ProgramMap) : Type 0 where
  pub streams : length program.streams.items ≤ STREAMS_MOST
  pub descriptors : All (λ stream. length stream.descriptors.items ≤ DESCRIPTOR_BYTES) program.streams.items

-- the PIDs of the streams of a map
abbrev pub pids_of : ProgramMap → List ℕ
pids_of program_map = map (λ stream. stream.pid) program_map.streams.items

-- ---- how it is written

-- what can be written
pub record IsWritableMap (program : ProgramMap) : Type 0 where
  pub pcr : program.pcr_pid < 2 ^ 13
  pub streams : All IsStreamWritable program.streams.items

-- the streams, each as it is written
abbrev pub written_streams : ProgramMap → List ℕ
written_streams program = flat_map written_stream program.streams.items

-- a written PMT section before its CRC
abbrev pub written_pmt : ProgramMap → List ℕ
written_pmt program = written_section_header 2 (13 + length (written_streams program)) program.number ++ written_pid program.pcr_pid ++ written_length 0 ++ written_streams program

-- a written PMT section's length in bytes
abbrev pub pmt_length : ProgramMap → ℕ
pmt_length program = 16 + length (written_streams program)

-- what is read of what is written
abbrev pub without_dropped : ProgramMap → ProgramMap
without_dropped program = record program { dropped = 0 }
