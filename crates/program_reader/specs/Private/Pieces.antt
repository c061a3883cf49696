-- Pieces of a PES packet that are added, and the frames that are left behind them.
use Rattle.std.specs.Prelude.{◌≡◌, ℕ, ◌+◌, ◌<◌, ◌≤◌, ◌^◌, List, [], ◌∷◌, ◌++◌, map, ℤ}
use Rattle.audio_frames.specs.declared.frame.Frame.{Frame}
use Rattle.elementary_streams.specs.declared.pes_packets.PlacedPacket.{PlacedPacket}
use Rattle.program_reader.specs.declared.program.AudioPiece.{AudioPiece}
use Rattle.program_reader.specs.Audio.{time_of_byte, payload_place, packet_size, piece_places, ArePieces}

-- a PES packet at a place of its stream: its payload has bytes, and all places are small
pub record IsSized (at : ℕ) (packet : PlacedPacket) : Type 0 where
  pub some : packet.from < packet.end
  pub small : packet.end < 2 ^ 41
  pub place : at + 2 ^ 42 < 2 ^ 64

-- frames tell the same times of payload bytes as others, from a place on
abbrev pub TellsFrom : ℕ → List Frame → List Frame → Type 0
TellsFrom place frames left = (later : ℕ) → place ≤ later → time_of_byte left later ≡ time_of_byte frames later

-- the pieces of a PES packet are added to some
pub record AddsPieces (start : ℕ) (earliest : ℤ) (frames : List Frame) (packet : PlacedPacket) (at : ℕ) (old new : List AudioPiece) : Type 0 where
  pub added : List AudioPiece
  pub new_is : new ≡ old ++ added
  pub pieces : ArePieces start earliest frames (map (λ from. (packet, at, from)) (piece_places (packet_size packet))) added
