-- What is said of a source whose elements all passed.
use Rattle.std.proofs.Common.{◌≡◌, ◌⊎◌, inl, inr, ℕ, ◌≤◌, List, length, map, Option, refl, ap}
use Rattle.ts_demux.specs.declared.carried_streams.CarriedStreams.{CarriedStreams}
use Rattle.ts_demux.specs.declared.demuxed.Demuxed.{Demuxed}
use Rattle.ts_demux.specs.Pass.{HoldsOfFile}
use Rattle.program_stream.specs.declared.id_walk.IdWalk.{IdWalk}
use Rattle.program_stream.specs.declared.split_fault.SplitFault.{SplitFault}
use Rattle.program_stream.specs.ElementStreams.{HasElementStreams}
use Rattle.program_stream.specs.PassingElements.{AreRefused, IsShortFile}
use Rattle.program_stream.specs.Split.{IsSplit, IsSplitRefused, short_file, element, memory}
use Rattle.program_stream.specs.Streams.{packets_of, stream_with_id, carried_audio_ids}
use Rattle.program_stream.specs.Private.IdWalk.{AreNoStreams, AreStreamsOf, HasAllIds}
use Rattle.program_stream.proofs.PassingSteps.{early_on, whole_on}
use Rattle.program_stream.proofs.OneAnswer.{one_split}
use Rattle.program_stream.proofs.Standing.{streams_refused}

-- what is said of a file by what else is
pub holds_on : (left after : Option (List ℕ)) (most most_after : ℕ) (held : List ℕ) (P Q : List ℕ → Type 0) → ((file : List ℕ) → P file → Q file)
    → HoldsOfFile left after most most_after held P → HoldsOfFile left after most most_after held Q
holds_on left after most most_after held P Q on (inl early) = inl (early_on left after most most_after held P Q on early)
holds_on left after most most_after held P Q on (inr whole) = inr (whole_on left after most most_after held P Q on whole)

-- what refuses the elements refuses the file, whatever is to be dropped
pub elements_refused : (file ids : List ℕ) (fault : SplitFault) → IsShortFile file fault ⊎ AreRefused file fault → IsSplitRefused file ids fault
elements_refused file ids fault (inl short) = short_file short.0 short.1
elements_refused file ids fault (inr refused) = element refused.0 refused.1

-- the streams of its elements
pub streams_there : (file ids : List ℕ) (walk : IdWalk) (carried : CarriedStreams) (cut : ℕ) → 14 ≤ length file → (all : HasAllIds file cut walk) → AreStreamsOf ids all.elements carried
    → HasElementStreams file ids carried cut
streams_there file ids walk carried cut long all are = record {
  elements = all.elements;
  elements_are = record { long = long; are = all.are };
  video = are.video;
  video_is = are.video_is;
  few = are.few;
  map_is = are.map_is;
  others_are = are.others_are;
}

-- why there are none
pub no_streams : (file ids : List ℕ) (walk : IdWalk) (fault : SplitFault) (cut : ℕ) → 14 ≤ length file → (all : HasAllIds file cut walk) → AreNoStreams ids all.elements fault
    → IsSplitRefused file ids fault
no_streams file ids walk fault cut long all (inl none) = streams_refused file ids all.elements cut fault (record { long = long; are = all.are }) none
no_streams file ids walk fault cut long all (inr wanting) = memory wanting

-- ---- with their packets

pub split_of : (file ids : List ℕ) (carried : CarriedStreams) (cut : ℕ) → HasElementStreams file ids carried cut → (demuxed : Demuxed) × IsSplit file ids demuxed cut
split_of file ids carried cut has = (
  record {
    map = carried.map;
    video = packets_of has.elements has.video;
    audios = map (stream_with_id has.elements) (carried_audio_ids ids has.elements);
    rest = 0;
    not_carried = carried.others;
  },
  record {
    elements = has.elements;
    elements_are = has.elements_are;
    video = has.video;
    video_is = has.video_is;
    few = has.few;
    map_is = has.map_is;
    video_packets = refl;
    audio_packets = refl;
    others_are = has.others_are;
    no_rest = refl;
  },
)

pub streams_same : (file ids : List ℕ) (carried : CarriedStreams) (cut other : ℕ) (demuxed : Demuxed) → HasElementStreams file ids carried cut → IsSplit file ids demuxed other
    → (demuxed.map ≡ carried.map) × (demuxed.not_carried ≡ carried.others) × (other ≡ cut)
unfolding split_of
streams_same file ids carried cut other demuxed has is =
    let own = split_of file ids carried cut has in
    let same = one_split file ids demuxed own.0 other cut is own.1 in
    (ap (λ (d : Demuxed). d.map) same.0, ap (λ (d : Demuxed). d.not_carried) same.0, same.1)
