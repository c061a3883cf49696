-- What a walk over the elements of a program stream has taken.
use Rattle.std.specs.Prelude.{◌≡◌, ℕ, ◌<◌, ◌≤◌, ◌==◌, ◌⊎◌, Bool, true, false, List, [], ◌∷◌, ◌++◌, length, map, Option, Some, None, if◌then◌else◌}
use Rattle.std.specs.List.{AllByRecursion, filter}
use Rattle.std.specs.Option.{option_map_or, option_to_list}
use Rattle.stream_constants.specs.declared.limits.TheConstants.{AUDIOS_MOST}
use Rattle.ts_demux.specs.declared.demuxed.AudioStream.{AudioStream}
use Rattle.ts_demux.specs.declared.demuxed.Demuxed.{Demuxed}
use Rattle.ts_demux.specs.Streams.{is_among}
use Rattle.program_stream.specs.declared.packet_streams.PacketStreams.{PacketStreams}
use Rattle.program_stream.specs.declared.split_fault.SplitFault.{SplitFault}
use Rattle.program_stream.specs.declared.split_fault.SplitFault.TheVariants.{NoVideo, ProgramLimit}
use Rattle.program_stream.specs.declared.stream_walk.StreamWalk.{StreamWalk}
use Rattle.program_stream.specs.Elements.{Element}
use Rattle.program_stream.specs.Streams.{packets_of, stream_with_id, ids_of, first_coming, first_video_id, carried_audio_ids, is_uncarried, other_stream_ids, map_of}

-- ids with one that comes, which is new where it isn't among them
abbrev pub with_id : List ℕ → ℕ → List ℕ
with_id ids id = if is_among ids id then ids else ids ++ id ∷ []

-- the ids of some streams
abbrev pub stream_ids : List AudioStream → List ℕ
stream_ids streams = map (λ stream. stream.pid) streams

-- none of some ids stands there twice
abbrev pub AreApart : List ℕ → Type 0
AreApart [] = Unit {0}
AreApart (id ∷ ids) = (is_among ids id ≡ false) × AreApart ids

-- each stream has the packets of its id
abbrev pub HaveTheirPackets : List Element → List AudioStream → Type 0
HaveTheirPackets elements streams = AllByRecursion (λ stream. stream ≡ stream_with_id elements stream.pid) streams

-- the streams have these ids, which differ, and each has the packets of its own
pub record Holds (elements : List Element) (ids : List ℕ) (held : PacketStreams) : Type 0 where
  pub ids_are : stream_ids held.streams.items ≡ ids
  pub apart : AreApart ids
  pub each : HaveTheirPackets elements held.streams.items

-- the streams that are not carried, beside the video where it has come
abbrev pub others_beside : List ℕ → Option ℕ → List Element → List ℕ
others_beside drop None elements = first_coming [] (filter (is_uncarried drop) (ids_of elements))
others_beside drop (Some video) elements = other_stream_ids drop video elements

-- a video id is that of the stream that came first, or the first one
abbrev pub is_first_video : Option ℕ → ℕ → Bool
is_first_video video id = option_map_or (λ first. first == id) video true

-- a walk has taken these elements
pub record HasWalked (drop : List ℕ) (elements : List Element) (walk : StreamWalk) : Type 0 where
  pub video : Holds elements (option_to_list (first_video_id elements)) walk.video
  pub audios : Holds elements (carried_audio_ids drop elements) walk.audios
  pub others : walk.others ≡ others_beside drop (first_video_id elements) elements

-- what is taken out of these elements
pub record IsOfElements (drop : List ℕ) (elements : List Element) (demuxed : Demuxed) : Type 0 where
  pub video : ℕ
  pub video_is : first_video_id elements ≡ Some video
  pub few : length (carried_audio_ids drop elements) ≤ AUDIOS_MOST
  pub map_is : demuxed.map ≡ map_of video (carried_audio_ids drop elements)
  pub video_packets : demuxed.video ≡ packets_of elements video
  pub audio_packets : demuxed.audios ≡ map (stream_with_id elements) (carried_audio_ids drop elements)
  pub others_are : demuxed.not_carried ≡ other_stream_ids drop video elements
  pub no_rest : demuxed.rest ≡ 0

-- why nothing is: no video stream, or else too many audio streams
abbrev pub IsStreamsFault : List ℕ → List Element → SplitFault → Type 0
IsStreamsFault drop elements fault =
    ((first_video_id elements ≡ None) × (fault ≡ NoVideo 0))
    ⊎ ((video : ℕ) × (first_video_id elements ≡ Some video) × (AUDIOS_MOST < length (carried_audio_ids drop elements)) × (fault ≡ ProgramLimit 0))
