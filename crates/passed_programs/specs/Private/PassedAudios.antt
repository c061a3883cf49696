-- The pieces of audio streams that are read.
use Rattle.std.specs.Prelude.{ℕ, ◌≤◌, List, length, All, ℤ}
use Rattle.elementary_streams.specs.declared.audio_stream.ReadStream.{ReadStream}
use Rattle.program_reader.specs.Dues.{Follow, HasTimes}
use Rattle.program_reader.specs.declared.limits.TheConstants.{PES_PACKETS_MOST}
use Rattle.program_reader.specs.declared.program.AudioPiece.{AudioPiece}
use Rattle.program_reader.specs.Audio.{ArePieces, placed_pieces}

-- the PES packets of a stream stand one behind the other, and each of their bytes has a time that isn't before the earliest one
pub record IsReady (earliest : ℤ) (stream : ReadStream) : Type 0 where
  pub few : length stream.packets.items ≤ PES_PACKETS_MOST
  pub follow : Follow 0 stream.packets.items
  pub times : All (HasTimes earliest stream.frames) stream.packets.items

-- these are the pieces of a stream with their times
abbrev pub IsCutUp : (start : ℕ) → (earliest : ℤ) → ReadStream → List AudioPiece → Type 0
IsCutUp start earliest stream pieces = ArePieces start earliest stream.frames (placed_pieces 0 stream.packets.items) pieces
