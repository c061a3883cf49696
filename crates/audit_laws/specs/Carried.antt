-- The streams of a program in a stream: the packets of each, its PES packets, and what of a table they are (ISO/IEC 13818-1, 2.4.3).
use Rattle.std.specs.Prelude.{◌≡◌, ◌*◌, ℕ, List, length, map, Some, pos}
use Rattle.std.specs.List.{zip}
use Rattle.std.specs.List.Sorted.{IsStrictlyIncreasing}
use Rattle.stream_constants.specs.declared.clock.TheConstants.{TICKS_PER_TIME_UNIT}
use Rattle.audio_frames.specs.declared.frame.Frame.{Frame}
use Rattle.ts_packets.specs.Packet.{PacketRecord}
use Rattle.ts_packets.specs.TransportStream.{packets, piece_count, pid_pieces}
use Rattle.layer_laws.specs.Counted.{AreCounted}
use Rattle.ts_demux.specs.declared.demuxed.AudioStream.{AudioStream}
use Rattle.ts_demux.specs.declared.demuxed.PesUnit.{PesUnit}
use Rattle.ts_demux.specs.Demux.{units_in}
use Rattle.version_table.specs.declared.table.AudioPacket.{AudioPacket}
use Rattle.version_table.specs.declared.table.ProgramRow.{ProgramRow}
use Rattle.version_table.specs.Choice.{version_at}
use Rattle.elementary_streams.specs.Audio.{HasFrames, taken_of}
use Rattle.elementary_streams.specs.Packets.{placed_from}
use Rattle.program_reader.specs.declared.program.AudioPiece.{AudioPiece}
use Rattle.program_reader.specs.Audio.{ArePieces, placed_pieces}

-- The packets of a file are these, those of the PID counted, and its PES packets these: as long as the chosen versions of a row's units, which are due at these times.
pub record CarriesVideo (file : List ℕ) (list : List PacketRecord) (pid : ℕ) (row : ProgramRow) (choice : List ℕ) (pes : List PesUnit) (times : List ℕ) : Type 0 where
  pub read : packets file ≡ map Some list
  pub counted : AreCounted pid list
  pub pes_are : pes ≡ units_in (pid_pieces file pid 0 (piece_count file))
  pub sizes : map (λ chosen. (version_at chosen.0 chosen.1).bytes) (zip row.units choice) ≡ map (λ packet. length packet.bytes) pes
  pub dues : map (λ unit. unit.due) row.units ≡ times
  pub many : length pes ≡ length times
  pub rise : IsStrictlyIncreasing (map (λ unit. unit.due) row.units)

-- The packets of a file are these, those of an audio stream's PID counted, and its PES packets those of the PID. It has frames in a program whose video begins
-- at this time, in units of 1/90,000 s, and these audio packets of a table are its PES packets as they are cut, due and gone as much later than `at` as their
-- frames are later than that time.
pub record CarriesAudio (file : List ℕ) (list : List PacketRecord) (audio : AudioStream) (begin at : ℕ) (rows : List AudioPacket) : Type 0 where
  pub read : packets file ≡ map Some list
  pub counted : AreCounted audio.pid list
  pub units_are : audio.units ≡ units_in (pid_pieces file audio.pid 0 (piece_count file))
  pub frames : List Frame
  pub framed : HasFrames (pos begin) audio frames
  pub pieces : List AudioPiece
  pub pieces_are : ArePieces at (pos (TICKS_PER_TIME_UNIT * begin)) frames (placed_pieces 0 (placed_from 0 (taken_of audio))) pieces
  pub rows_are : rows ≡ map (λ piece. piece.packet) pieces
