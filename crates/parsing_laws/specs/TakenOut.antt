-- What a program of an output stream is read as, by the definitions of reading (ISO/IEC 13818-1, 2.4.3 and 2.4.4).
use Rattle.std.specs.Prelude.{◌≡◌, ◌≢◌, ℕ, ◌+◌, ◌<◌, true, List, [], ◌∷◌, length, map, All, Some, slice_get}
use Rattle.psi_tables.specs.declared.program_map.ProgramMap.{ProgramMap}
use Rattle.psi_tables.specs.declared.stream.Stream.{Stream}
use Rattle.psi_tables.specs.Pmt.{without_dropped}
use Rattle.psi_tables.specs.Sections.{Found}
use Rattle.slot_rule.specs.declared.sent.Sent.{Sent}
use Rattle.slot_rule.specs.declared.sent.Sent.TheVariants.{Pat, Pmt}
use Rattle.ts_packets.specs.TransportStream.{rest_of}
use Rattle.ts_demux.specs.declared.demuxed.Demuxed.{Demuxed}
use Rattle.ts_demux.specs.Demux.{pes_packets_on}
use Rattle.ts_demux.specs.Streams.{is_audio, is_video}
use Rattle.ts_demux.specs.Tables.{IsSection, Names, TakesPat, pat_pid}

-- slots begin with the PAT and then the PMTs of so many programs in order
pub record BeginWithTables (programs : ℕ) (rows : List Sent) : Type 0 where
  pub pat : slice_get rows 0 ≡ Some Pat
  pub pmts : (program : ℕ) → program < programs → slice_get rows (program + 1) ≡ Some (Pmt program)

-- a program's map has one video stream, and audio streams behind it
pub record HasStreams (program_map : ProgramMap) (video : Stream) (audios : List Stream) : Type 0 where
  pub streams : program_map.streams.items ≡ video ∷ audios
  pub is_video : is_video video ≡ true
  pub are_audio : All (λ stream. is_audio stream ≡ true) audios

-- the program of this place among the maps is the first one of its number, which isn't 0
pub record IsNumberedIn (maps : List ProgramMap) (program : ℕ) (program_map : ProgramMap) : Type 0 where
  pub there : slice_get maps program ≡ Some program_map
  pub number : program_map.number ≢ 0
  pub first : (other : ℕ) (earlier : ProgramMap) → other < program → slice_get maps other ≡ Some earlier → earlier.number ≢ program_map.number

-- The PAT of a file leads to this PID for the map of a program: the section of PID 0 by which the program's map is read names it, and no section there names
-- another PID for the program (2.4.4.3).
pub record LeadsToMap (file : List ℕ) (program pid : ℕ) : Type 0 where
  pub packet : ℕ
  pub index : ℕ
  pub taken : TakesPat file program packet index pid
  pub only : (n k other : ℕ) (found : Found) → IsSection file pat_pid 0 n k found → Names program found other → other ≡ pid

-- What is taken out of a stream for a program with this video and these audio streams: its map, no stream left out, and the PES packets on the PID of each.
abbrev pub taken_out : (stream : List ℕ) → ProgramMap → (video : Stream) → (audios : List Stream) → Demuxed
taken_out stream program_map video audios = record {
  map = without_dropped program_map;
  video = (pes_packets_on stream video).units;
  audios = map (pes_packets_on stream) audios;
  rest = length (rest_of stream);
  not_carried = [];
}
