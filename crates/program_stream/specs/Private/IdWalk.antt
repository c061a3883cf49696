-- What a walk over the ids of elements has taken, and what it says of them.
use Rattle.std.specs.Prelude.{◌≡◌, ◌⊎◌, ℕ, ◌≤◌, List, [], length, Some}
use Rattle.stream_constants.specs.declared.limits.TheConstants.{AUDIOS_MOST}
use Rattle.ts_demux.specs.declared.carried_streams.CarriedStreams.{CarriedStreams}
use Rattle.program_stream.specs.declared.id_walk.IdWalk.{IdWalk}
use Rattle.program_stream.specs.declared.split_fault.SplitFault.{SplitFault}
use Rattle.program_stream.specs.declared.split_fault.SplitFault.TheVariants.{OutOfMemory}
use Rattle.program_stream.specs.Elements.{Element, AreElements}
use Rattle.program_stream.specs.Streams.{ids_of, first_coming, first_video_id, carried_audio_ids, other_stream_ids, map_of}
use Rattle.program_stream.specs.Private.Walks.{IsStreamsFault}

-- the ids of these elements, each once, in order of first coming
abbrev pub HasIds : List Element → IdWalk → Type 0
HasIds elements walk = walk.ids ≡ first_coming [] (ids_of elements)

-- all elements of the file are taken
pub record HasAllIds (file : List ℕ) (cut : ℕ) (walk : IdWalk) : Type 0 where
  pub elements : List Element
  pub are : AreElements file elements cut
  pub ids : HasIds elements walk

-- the streams of these elements
pub record AreStreamsOf (drop : List ℕ) (elements : List Element) (carried : CarriedStreams) : Type 0 where
  pub video : ℕ
  pub video_is : first_video_id elements ≡ Some video
  pub few : length (carried_audio_ids drop elements) ≤ AUDIOS_MOST
  pub map_is : carried.map ≡ map_of video (carried_audio_ids drop elements)
  pub others_are : carried.others ≡ other_stream_ids drop video elements

-- why there are none; want of memory may come at any time
abbrev pub AreNoStreams : List ℕ → List Element → SplitFault → Type 0
AreNoStreams drop elements fault = IsStreamsFault drop elements fault ⊎ (fault ≡ OutOfMemory)
