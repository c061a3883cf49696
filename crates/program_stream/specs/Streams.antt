-- Which streams of a program stream are carried (stream ids by ISO/IEC 13818-1, Table 2-22; the choice is this project's).
use Rattle.std.specs.Prelude.{ℕ, ◌+◌, ◌==◌, nat_le, Bool, true, false, not, ◌&&◌, List, [], ◌∷◌, ◌++◌, length, map, Option, if◌then◌else◌}
use Rattle.std.specs.List.{find, filter}
use Rattle.pes_units.specs.PesHeader.{is_stream_id}
use Rattle.psi_tables.specs.declared.program_map.ProgramMap.{ProgramMap}
use Rattle.psi_tables.specs.declared.stream.Stream.{Stream}
use Rattle.ts_demux.specs.declared.demuxed.AudioStream.{AudioStream}
use Rattle.ts_demux.specs.declared.demuxed.PesUnit.{PesUnit}
use Rattle.ts_demux.specs.Streams.{is_among}
use Rattle.program_stream.specs.declared.stream_ids.TheConstants.{SYSTEM_HEADER, PROGRAM_STREAM_MAP, PADDING_STREAM}
use Rattle.program_stream.specs.Elements.{Element, element_bytes, element_spelling}

-- ---- the packets of one stream

-- The packets of an id, each at the byte of the file where its start code prefix begins, where `at` bytes stand before the elements.
abbrev pub packets_from : ℕ → ℕ → List Element → List PesUnit
packets_from at id [] = []
packets_from at id (element ∷ elements) =
    if element.id == id then record { at = at + element.zeros; bytes = element_bytes element } ∷ packets_from (at + length (element_spelling element)) id elements
    else packets_from (at + length (element_spelling element)) id elements

-- those of all elements of a file
abbrev pub packets_of : List Element → ℕ → List PesUnit
packets_of elements id = packets_from 0 id elements

-- a stream with its packets
abbrev pub stream_with_id : List Element → ℕ → AudioStream
stream_with_id elements id = record { pid = id; units = packets_of elements id }

-- ---- the ids

-- the ids of all elements in order
abbrev pub ids_of : List Element → List ℕ
ids_of elements = map (λ element. element.id) elements

-- ids in order of first coming: each that is not among those that came before
abbrev pub first_coming : List ℕ → List ℕ → List ℕ
first_coming before [] = []
first_coming before (id ∷ ids) = if is_among before id then first_coming before ids else id ∷ first_coming (before ++ id ∷ []) ids

-- the video stream is the first one that comes
abbrev pub first_video_id : List Element → Option ℕ
first_video_id elements = find (is_stream_id true) (ids_of elements)

-- an audio stream is carried unless its id is to be dropped
abbrev pub is_carried_audio : List ℕ → ℕ → Bool
is_carried_audio drop id = is_stream_id false id && not (is_among drop id)

-- the audio streams that are carried, in order of first coming
abbrev pub carried_audio_ids : List ℕ → List Element → List ℕ
carried_audio_ids drop elements = first_coming [] (filter (is_carried_audio drop) (ids_of elements))

-- a packet that may be of a stream: no pack header and no end code, no system header, no map of the program stream, no padding
abbrev pub may_be_stream : ℕ → Bool
may_be_stream id = nat_le SYSTEM_HEADER id && not (is_among (SYSTEM_HEADER ∷ PROGRAM_STREAM_MAP ∷ PADDING_STREAM ∷ []) id)

-- a stream that is not carried, unless it is the video
abbrev pub is_uncarried : List ℕ → ℕ → Bool
is_uncarried drop id = may_be_stream id && not (is_carried_audio drop id)

-- a stream that is not carried beside this video stream
abbrev pub is_other : List ℕ → ℕ → ℕ → Bool
is_other drop video id = not (id == video) && is_uncarried drop id

-- those streams, in order of first coming
abbrev pub other_stream_ids : List ℕ → ℕ → List Element → List ℕ
other_stream_ids drop video elements = first_coming [] (filter (is_other drop video) (ids_of elements))

-- ---- the map that stands for theirs

-- a stream of a type under its id, without descriptors
abbrev pub map_stream : ℕ → ℕ → Stream
map_stream kind id = record { kind = kind; pid = id; descriptors = record { items = [] } }

-- Program 1, with no clock reference of its own (PID 8191, ISO/IEC 13818-1, 2.4.4.9) and no descriptors: the video of type 02, then
-- audio streams, each of type 03.
abbrev pub map_of : ℕ → List ℕ → ProgramMap
map_of video audios = record { number = 1; pcr_pid = 8191; streams = record { items = map_stream 2 video ∷ map (map_stream 3) audios }; dropped = 0 }
