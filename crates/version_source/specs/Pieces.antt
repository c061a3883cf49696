-- The pieces of programs in chosen versions: what each packet of their streams carries. Streams have numbers in the order of the
-- programs, the video of each before its audio streams. (PES packets by ISO/IEC 13818-1, 2.4.3.6 and 2.4.3.7.)
use Rattle.std.specs.Prelude.{ℕ, ◌+◌, ◌<◌, false, List, [], ◌∷◌, ◌++◌, length, drop, map, slice_range, slice_index_or}
use Rattle.bit_lists.specs.Payload.{Payload}
use Rattle.pes_units.specs.VideoHeader.{written_pes_header}
use Rattle.pes_units.specs.PesPieces.{pes_pieces}
use Rattle.mux_writer.specs.Pieces.{Pieces}
use Rattle.program_reader.specs.declared.program.AudioPiece.{AudioPiece}
use Rattle.program_reader.specs.declared.program.AudioSource.{AudioSource}
use Rattle.program_reader.specs.declared.program.Program.{Program}
use Rattle.program_reader.specs.declared.program.UnitSource.{UnitSource}
use Rattle.version_maker.specs.declared.version.UnitVersion.{UnitVersion}
use Rattle.version_source.specs.Versions.{chosen_bytes}

-- ---- a video

-- the PES packet of a unit in a version: a header with the unit's times, then the version
abbrev pub pes_packet : UnitSource → (version : List ℕ) → List ℕ
pes_packet unit version = written_pes_header unit.times ++ version

-- of each unit the pieces of its PES packet, in the version that the choice names
abbrev pub video_items : List UnitSource → List (List UnitVersion) → (choice : List ℕ) → List (List Payload)
video_items (unit ∷ units) (versions ∷ more) (index ∷ choice) = pes_pieces (pes_packet unit (chosen_bytes versions index)) ∷ video_items units more choice
video_items units versions choice = []

-- ---- an audio stream

-- what the packet of an audio piece carries: its bytes, unchanged
abbrev pub audio_payload : List ℕ → AudioPiece → Payload
audio_payload bytes piece = record { start = piece.start; bytes = slice_range bytes piece.at (piece.at + piece.packet.bytes) }

-- each piece is an item of its own
abbrev pub audio_items : AudioSource → List (List Payload)
audio_items audio = map (λ piece. audio_payload audio.bytes piece ∷ []) audio.pieces

-- ---- all streams

-- the items of all streams, in the order of their numbers; the choice has a version number for each unit of all programs, in order
abbrev pub stream_items : List Program → List (List (List UnitVersion)) → (choice : List ℕ) → List (List (List Payload))
stream_items (program ∷ programs) (versions ∷ more) choice =
    (video_items program.units versions choice ∷ map audio_items program.audios) ++ stream_items programs more (drop (length program.units) choice)
stream_items programs versions choice = []

-- the pieces of an item of a stream; of one that isn't there, none
abbrev pub pieces_at : List (List (List Payload)) → (stream item : ℕ) → List Payload
pieces_at streams stream item = slice_index_or (slice_index_or streams stream []) item []

-- there is such a piece
abbrev pub HasPiece : List (List (List Payload)) → (stream item piece : ℕ) → Type 0
HasPiece streams stream item piece = piece < length (pieces_at streams stream item)

-- each piece; one that isn't there has no bytes
abbrev pub pieces_of : List (List (List Payload)) → Pieces
pieces_of streams stream item piece = slice_index_or (pieces_at streams stream item) piece (record { start = false; bytes = [] })
