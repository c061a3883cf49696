-- The audio streams of a program: which is the first that is refused, and their PES packets in pieces (these are this project's).
use Rattle.std.specs.Prelude.{◌≡◌, ℕ, ◌+◌, ◌-◌, ◌*◌, ◌/◌, ◌==◌, nat_lt, min, List, [], ◌∷◌, ◌++◌, map, ℤ, pos, ◌+ℤ◌, ◌-ℤ◌}
use Rattle.std.specs.List.{find, flat_map, range_with_len}
use Rattle.std.specs.Option.{option_map_or}
use Rattle.audio_frames.specs.declared.frame.Frame.{Frame}
use Rattle.ts_demux.specs.declared.demuxed.AudioStream.{AudioStream}
use Rattle.elementary_streams.specs.declared.pes_packets.PlacedPacket.{PlacedPacket}
use Rattle.elementary_streams.specs.declared.stream_fault.StreamFault.{StreamFault}
use Rattle.elementary_streams.specs.Audio.{HasFrames, IsStreamRefused, taken_of}
use Rattle.elementary_streams.specs.Packets.{placed_from}
use Rattle.program_reader.specs.declared.limits.TheConstants.{PIECE_BYTES}
use Rattle.program_reader.specs.declared.program.AudioPiece.{AudioPiece}
use Rattle.program_reader.specs.declared.program.AudioSource.{AudioSource}
use Rattle.program_reader.specs.declared.program_fault.ProgramFault.{ProgramFault}
use Rattle.program_reader.specs.Faults.{of_stream}

-- ---- streams

-- the frames of streams, each with its own
abbrev pub HaveFrames : ℤ → List AudioStream → List (List Frame) → Type 0
HaveFrames first [] [] = Unit {0}
HaveFrames first [] (_ ∷ _) = ⊥
HaveFrames first (_ ∷ _) [] = ⊥
HaveFrames first (stream ∷ streams) (frames ∷ more) = HasFrames first stream frames × HaveFrames first streams more

-- The first stream that is refused: those before it have frames.
pub record IsAudioFault (first : ℤ) (streams : List AudioStream) (fault : ProgramFault) : Type 0 where
  pub before : List AudioStream
  pub stream : AudioStream
  pub more : List AudioStream
  pub split : streams ≡ before ++ stream ∷ more
  pub frames : List (List Frame)
  pub have : HaveFrames first before frames
  pub found : StreamFault
  pub refused : IsStreamRefused first stream found
  pub fault_is : fault ≡ of_stream found

-- ---- its pieces

-- the time of the frame that the payload byte at a place counts with
abbrev pub time_of_byte : List Frame → ℕ → ℤ
time_of_byte frames place = option_map_or (λ frame. frame.time) (find (λ frame. nat_lt place (frame.at + frame.len)) frames) (pos 0)

-- the payload byte that a byte of a PES packet counts with: itself, or the first one for a byte of the header
abbrev pub payload_place : PlacedPacket → ℕ → ℕ
payload_place packet byte = packet.from + (byte - packet.header.len)

-- a time in ticks is due so much later than `start` as it is later than the earliest time of the program
abbrev pub IsDue : ℕ → ℤ → ℤ → ℕ → Type 0
IsDue start earliest time due = pos due ≡ ((pos start +ℤ time) -ℤ earliest)

-- what is sent of a PES packet in one transport packet: so many bytes from a place of the PES packet on
pub record IsPiece (start : ℕ) (earliest : ℤ) (frames : List Frame) (packet : PlacedPacket) (at from size : ℕ) (piece : AudioPiece) : Type 0 where
  pub due : IsDue start earliest (time_of_byte frames (payload_place packet from)) piece.packet.due
  pub gone : IsDue start earliest (time_of_byte frames (payload_place packet (from + size - 1))) piece.packet.gone
  pub bytes : piece.packet.bytes ≡ size
  pub begins : piece.start ≡ (from == 0)
  pub at_is : piece.at ≡ at + from

-- bytes of a PES packet
abbrev pub packet_size : PlacedPacket → ℕ
packet_size packet = packet.header.len + (packet.end - packet.from)

-- where the pieces of a PES packet of so many bytes begin
abbrev pub piece_places : ℕ → List ℕ
piece_places size = map (λ k. PIECE_BYTES * k) (range_with_len 0 ((size + (PIECE_BYTES - 1)) / PIECE_BYTES))

-- the bytes of the piece that begins at a place of a PES packet
abbrev pub piece_size : ℕ → ℕ → ℕ
piece_size size from = min PIECE_BYTES (size - from)

-- where each piece of some PES packets stands: its packet, the place of that among the bytes of the stream, and its own in it
abbrev pub placed_pieces : ℕ → List PlacedPacket → List (PlacedPacket × ℕ × ℕ)
placed_pieces at [] = []
placed_pieces at (packet ∷ packets) = map (λ from. (packet, at, from)) (piece_places (packet_size packet)) ++ placed_pieces (at + packet_size packet) packets

-- pieces, one for each place
abbrev pub ArePieces : ℕ → ℤ → List Frame → List (PlacedPacket × ℕ × ℕ) → List AudioPiece → Type 0
ArePieces start earliest frames [] [] = Unit {0}
ArePieces start earliest frames [] (_ ∷ _) = ⊥
ArePieces start earliest frames (_ ∷ _) [] = ⊥
ArePieces start earliest frames (place ∷ places) (piece ∷ pieces) =
    IsPiece start earliest frames place.0 place.1 place.2 (piece_size (packet_size place.0) place.2) piece × ArePieces start earliest frames places pieces

-- what is kept of an audio stream with these frames: the PES packets that are taken, unchanged, in pieces with their times
pub record IsAudioSource (start : ℕ) (earliest : ℤ) (stream : AudioStream) (frames : List Frame) (source : AudioSource) : Type 0 where
  pub bytes : source.bytes ≡ flat_map (λ packet. packet.bytes) (taken_of stream)
  pub pieces : ArePieces start earliest frames (placed_pieces 0 (placed_from 0 (taken_of stream))) source.pieces

-- each stream with its frames
abbrev pub AreAudioSources : ℕ → ℤ → List AudioStream → List (List Frame) → List AudioSource → Type 0
AreAudioSources start earliest [] [] [] = Unit {0}
AreAudioSources start earliest (stream ∷ streams) (frames ∷ more) (source ∷ sources) =
    IsAudioSource start earliest stream frames source × AreAudioSources start earliest streams more sources
AreAudioSources start earliest streams frames sources = ⊥
