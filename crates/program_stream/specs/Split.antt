-- A program taken out of a program stream: what is answered, or the first refusal.
use Rattle.std.specs.Prelude.{◌≡◌, ℕ, ◌<◌, ◌≤◌, List, length, map, Some, None}
use Rattle.stream_constants.specs.declared.limits.TheConstants.{AUDIOS_MOST}
use Rattle.ts_demux.specs.declared.demuxed.Demuxed.{Demuxed}
use Rattle.program_stream.specs.declared.split_fault.SplitFault.{SplitFault}
use Rattle.program_stream.specs.declared.split_fault.SplitFault.TheVariants.{ShortFile, NoVideo, ProgramLimit, OutOfMemory}
use Rattle.program_stream.specs.declared.stream_ids.TheConstants.{PACK_HEADER_BYTES}
use Rattle.program_stream.specs.Elements.{Element, AreElements, IsFirstRefusal}
use Rattle.program_stream.specs.Streams.{packets_of, stream_with_id, first_video_id, carried_audio_ids, other_stream_ids, map_of}

-- a file that is no shorter than a pack header, with its elements
pub record HasElements (file : List ℕ) (elements : List Element) (cut : ℕ) : Type 0 where
  pub long : PACK_HEADER_BYTES ≤ length file
  pub are : AreElements file elements cut

-- Everything that is taken out of the file, and how many last elements are cut, one at most. A cut element is of no stream.
pub record IsSplit (file drop : List ℕ) (demuxed : Demuxed) (cut : ℕ) : Type 0 where
  pub elements : List Element
  pub elements_are : HasElements file elements cut
  pub video : ℕ
  pub video_is : first_video_id elements ≡ Some video
  pub few : length (carried_audio_ids drop elements) ≤ AUDIOS_MOST
  pub map_is : demuxed.map ≡ map_of video (carried_audio_ids drop elements)
  pub video_packets : demuxed.video ≡ packets_of elements video
  pub audio_packets : demuxed.audios ≡ map (stream_with_id elements) (carried_audio_ids drop elements)
  pub others_are : demuxed.not_carried ≡ other_stream_ids drop video elements
  pub no_rest : demuxed.rest ≡ 0

-- The first refusal: a short file, then the elements' in the order of the file, then no video, then too many audio streams. Want of
-- memory may be said of every file.
pub data IsSplitRefused (file drop : List ℕ) (fault : SplitFault) : Type 0 where
  short_file : length file < PACK_HEADER_BYTES → fault ≡ ShortFile 0 → IsSplitRefused file drop fault
  element : PACK_HEADER_BYTES ≤ length file → IsFirstRefusal file fault → IsSplitRefused file drop fault
  no_video : (elements : List Element) (cut : ℕ) → HasElements file elements cut → first_video_id elements ≡ None → fault ≡ NoVideo 0 → IsSplitRefused file drop fault
  audios : (elements : List Element) (cut video : ℕ) → HasElements file elements cut → first_video_id elements ≡ Some video → AUDIOS_MOST < length (carried_audio_ids drop elements)
      → fault ≡ ProgramLimit 0 → IsSplitRefused file drop fault
  memory : fault ≡ OutOfMemory → IsSplitRefused file drop fault
