-- Worked examples of pieces: what a check computes, beside what was counted by hand.
use Rattle.std.proofs.Common.{◌≡◌, ℕ, Bool, true, false, List, [], ◌∷◌, length, map, replicate, None, refl}
use Rattle.bit_lists.specs.Payload.{Payload}
use Rattle.pes_units.specs.PesPieces.{pes_pieces}
use Rattle.program_reader.specs.declared.program.AudioPiece.{AudioPiece}
use Rattle.program_reader.specs.declared.program.UnitSource.{UnitSource}
use Rattle.program_reader.specs.declared.timed_picture.Role.TheVariants.{Frame}
use Rattle.version_maker.specs.declared.version.UnitVersion.{UnitVersion}
use Rattle.version_source.specs.Pieces.{audio_payload, pes_packet, video_items}

-- the start flags and lengths of pieces
abbrev cuts : List Payload → List (Bool × ℕ)
cuts pieces = map (λ (piece : Payload). (piece.start, length piece.bytes)) pieces

-- 200 bytes go in two packets, 184 in one, 185 in two
two_pieces : cuts (pes_pieces (replicate 200 7)) ≡ (true, 184) ∷ (false, 16) ∷ []
two_pieces = refl

one_piece : cuts (pes_pieces (replicate 184 7)) ≡ (true, 184) ∷ []
one_piece = refl

a_byte_more : cuts (pes_pieces (replicate 185 7)) ≡ (true, 184) ∷ (false, 1) ∷ []
a_byte_more = refl

-- a unit without times: nine bytes of header, then the version
abbrev unit : UnitSource
unit = record { begin = 0; end = 4; times = record { pts = None; dts = None }; due = 0; kind = 1; role = Frame }

header_first : pes_packet unit (0xB3 ∷ []) ≡ 0x00 ∷ 0x00 ∷ 0x01 ∷ 0xE0 ∷ 0x00 ∷ 0x00 ∷ 0x80 ∷ 0x00 ∷ 0x00 ∷ 0xB3 ∷ []
header_first = refl

-- of two units the first goes in version 0, the second in version 1
abbrev version : ℕ → UnitVersion
version byte = record { bytes = byte ∷ []; distortion = 0 }

chosen : video_items (unit ∷ unit ∷ []) ((version 1 ∷ version 2 ∷ []) ∷ (version 3 ∷ version 4 ∷ []) ∷ []) (0 ∷ 1 ∷ [])
    ≡ pes_pieces (pes_packet unit (1 ∷ [])) ∷ pes_pieces (pes_packet unit (4 ∷ [])) ∷ []
chosen = refl

-- two bytes of an audio stream, from its second one on
abbrev audio_piece : AudioPiece
audio_piece = record { packet = record { due = 0; gone = 0; bytes = 2 }; start = false; at = 1 }

audio : audio_payload (5 ∷ 6 ∷ 7 ∷ 8 ∷ []) audio_piece ≡ record { start = false; bytes = 6 ∷ 7 ∷ [] }
audio = refl
