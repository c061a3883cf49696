-- The streams that stand in a program stream, without their packets.
use Rattle.std.specs.Prelude.{◌≡◌, ℕ, ◌≤◌, List, length, Some}
use Rattle.stream_constants.specs.declared.limits.TheConstants.{AUDIOS_MOST}
use Rattle.ts_demux.specs.declared.carried_streams.CarriedStreams.{CarriedStreams}
use Rattle.program_stream.specs.Elements.{Element}
use Rattle.program_stream.specs.Split.{HasElements}
use Rattle.program_stream.specs.Streams.{first_video_id, carried_audio_ids, other_stream_ids, map_of}

-- No element of the file is refused, and so many last ones are cut; the streams that are carried are those of this map, and these are the ids of the others.
pub record HasElementStreams (file drop : List ℕ) (carried : CarriedStreams) (cut : ℕ) : Type 0 where
  pub elements : List Element
  pub elements_are : HasElements file elements cut
  pub video : ℕ
  pub video_is : first_video_id elements ≡ Some video
  pub few : length (carried_audio_ids drop elements) ≤ AUDIOS_MOST
  pub map_is : carried.map ≡ map_of video (carried_audio_ids drop elements)
  pub others_are : carried.others ≡ other_stream_ids drop video elements
