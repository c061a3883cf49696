-- The times of audio frames (ISO/IEC 13818-1, 2.4.3.7, says to which frame a PTS belongs; the times between are this project's).
use Rattle.std.specs.Prelude.{
  ◌≡◌,
  ℕ,
  ◌+◌,
  ◌-◌,
  ◌*◌,
  ◌/◌,
  ◌^◌,
  ◌<◌,
  ◌≤◌,
  ◌==◌,
  nat_lt,
  nat_le,
  Bool,
  true,
  false,
  ◌||◌,
  ◌⊎◌,
  List,
  length,
  drop,
  map,
  filter,
  slice_index,
  slice_index_or,
  All,
  Option,
  Some,
  None,
  IfSome,
  option_and_then,
  if◌then◌else◌,
  ℤ,
  pos,
  neg_ℤ,
  ◌+ℤ◌,
  ◌*ℤ◌,
  ◌≤ℤ◌,
  ◌<ℤ◌,
}
use Rattle.std.specs.List.{last_or}
use Rattle.std.specs.List.Sorted.{IsStrictlyIncreasing}
use Rattle.list_types.specs.Spans.{spans}
use Rattle.audio_frames.specs.declared.clock.TheConstants.{FRAME_SAMPLES}
use Rattle.stream_constants.specs.declared.clock.TheConstants.{TICKS_PER_SECOND, TICKS_PER_TIME_UNIT}
use Rattle.audio_frames.specs.declared.audio_fault.AudioFault.{AudioFault}
use Rattle.audio_frames.specs.declared.audio_fault.AudioFault.TheVariants.{NotLayer2, AudioSync, NoAudioTime, TimeOrder, OutOfMemory}
use Rattle.audio_frames.specs.declared.frame.Frame.{Frame}
use Rattle.audio_frames.specs.declared.pes_start.PesStart.{PesStart}
use Rattle.audio_frames.specs.FrameHeader.{sampling_rate}
use Rattle.audio_frames.specs.Frames.{first_frame, AreAllFrames, BreaksAt}

-- ---- what is given

-- The PES packets of a payload of so many bytes: the first one's payload begins at its first byte, each later one's behind
-- that of the packet before. Times are in units of 1/90,000 s.
pub record AreStarts (size : ℕ) (starts : List PesStart) : Type 0 where
  pub first : 0 < size → (0 < length starts) × (slice_index (map (λ start. start.at) starts) 0 ≡ 0)
  pub rising : IsStrictlyIncreasing (map (λ start. start.at) starts)
  pub inside : All (λ start. start.at < size) starts
  pub times : All (λ start. IfSome start.time (λ time. (neg_ℤ (pos (2 ^ 54)) ≤ℤ time) × (time ≤ℤ pos (2 ^ 54)))) starts

-- ---- the time of each frame

-- ticks of so many frames, rounded down
abbrev pub frame_ticks : ℕ → ℕ → ℕ
frame_ticks rate count = count * (FRAME_SAMPLES * TICKS_PER_SECOND) / rate

-- the PES packet with the byte at a place: the last one whose payload begins there or before
abbrev pub pes_packet_of : List PesStart → ℕ → Option PesStart
pes_packet_of starts at = last_or None (filter (λ start. nat_le start.at at) starts)

-- the frame before the k-th one begins before the packet's payload
abbrev pub is_first_frame_in : List ℕ → ℕ → PesStart → Bool
is_first_frame_in places k packet = (k == 0) || nat_lt (slice_index places (k - 1)) packet.at

-- the time that the k-th frame is given: that of the PES packet in which it is the first one to begin
abbrev pub given_time : List PesStart → List ℕ → ℕ → Option ℤ
given_time starts places k =
    option_and_then (λ packet. if is_first_frame_in places k packet then packet.time else None) (pes_packet_of starts (slice_index places k))

-- The time of the k-th frame in ticks: it is the given time of the last frame up to it that has one, and the ticks of the
-- frames from that one on.
pub record IsTimeOf (starts : List PesStart) (places : List ℕ) (rate k : ℕ) (time : ℤ) : Type 0 where
  pub last : ℕ
  pub given : ℤ
  pub up_to : last ≤ k
  pub is_given : given_time starts places last ≡ Some given
  pub none_since : (j : ℕ) → last < j → j ≤ k → given_time starts places j ≡ None
  pub is : time ≡ (pos TICKS_PER_TIME_UNIT *ℤ given) +ℤ pos (frame_ticks rate (k - last))

-- the k-th of some times
abbrev pub frame_time_at : List ℤ → ℕ → ℤ
frame_time_at times k = slice_index_or times k (pos 0)

-- the times of the first frames
abbrev pub AreTimes : List PesStart → List ℕ → ℕ → List ℤ → Type 0
AreTimes starts places rate times = (k : ℕ) → k < length times → IsTimeOf starts places rate k (frame_time_at times k)

-- each of the first times is later than the one before
abbrev pub AreRising : List ℤ → ℕ → Type 0
AreRising times count = (k : ℕ) → k + 1 < count → frame_time_at times k <ℤ frame_time_at times (k + 1)

-- ---- what is answered

-- the sampling rate of the first frame
abbrev pub rate_of : List ℕ → List ℕ → ℕ
rate_of payload places = sampling_rate (drop (slice_index places 0) payload)

-- The frames of a payload. Each has the bytes from its first one up to the next frame's, the first one those before it too,
-- and the last one the rest; so they cover the payload in order.
pub record AreFramesOf (payload : List ℕ) (starts : List PesStart) (frames : List Frame) : Type 0 where
  pub places : List ℕ
  pub all : AreAllFrames payload places
  pub cover : map (λ frame. (frame.at, frame.at + frame.len)) frames ≡ spans 0 (drop 1 places) (length payload)
  pub times : AreTimes starts places (rate_of payload places) (map (λ frame. frame.time) frames)
  pub rising : AreRising (map (λ frame. frame.time) frames) (length frames)

-- the first frame, at this place, is given no time
pub record IsUntimed (payload : List ℕ) (starts : List PesStart) (at : ℕ) : Type 0 where
  pub places : List ℕ
  pub all : AreAllFrames payload places
  pub place : at ≡ slice_index places 0
  pub none : given_time starts places 0 ≡ None

-- The frame at this place isn't later than the one before it, and it is the first such one.
pub record IsOutOfOrder (payload : List ℕ) (starts : List PesStart) (at : ℕ) : Type 0 where
  pub places : List ℕ
  pub all : AreAllFrames payload places
  pub times : List ℤ
  pub before : ℕ
  pub count : length times ≡ before + 2
  pub inside : before + 1 < length places
  pub place : at ≡ slice_index places (before + 1)
  pub are : AreTimes starts places (rate_of payload places) times
  pub rising : AreRising times (before + 1)
  pub not_later : frame_time_at times (before + 1) ≤ℤ frame_time_at times before

-- What refuses a payload. NotLayer2 is said of no first frame, or where twelve ones begin no header of the same format,
-- AudioSync where they don't stand; NoAudioTime and TimeOrder only of a payload that is all frames.
abbrev pub IsAudioRefused : List ℕ → List PesStart → AudioFault → Type 0
IsAudioRefused payload starts (NotLayer2 at) = ((first_frame payload ≡ None) × (at ≡ 0)) ⊎ BreaksAt payload at true
IsAudioRefused payload starts (AudioSync at) = BreaksAt payload at false
IsAudioRefused payload starts (NoAudioTime at) = IsUntimed payload starts at
IsAudioRefused payload starts (TimeOrder at) = IsOutOfOrder payload starts at
IsAudioRefused payload starts OutOfMemory = Unit {0}
