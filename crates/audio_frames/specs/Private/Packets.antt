-- How far the packets are passed, frame by frame, and what is kept of the last given time.
use Rattle.std.specs.Prelude.{◌≡◌, ℕ, ◌-◌, ◌<◌, ◌≤◌, List, length, map, slice_index, slice_index_or, nat_lt, if◌then◌else◌, Option, Some, None, ◌^◌, ℤ, pos, neg_ℤ, ◌+ℤ◌, ◌*ℤ◌, ◌≤ℤ◌}
use Rattle.stream_constants.specs.declared.clock.TheConstants.{TICKS_PER_TIME_UNIT}
use Rattle.audio_frames.specs.declared.audio_fault.AudioFault.{AudioFault}
use Rattle.audio_frames.specs.declared.audio_fault.AudioFault.TheVariants.{NotLayer2, AudioSync, NoAudioTime, TimeOrder, OutOfMemory}
use Rattle.audio_frames.specs.declared.clock.Clock.{Clock}
use Rattle.audio_frames.specs.declared.pes_start.PesStart.{PesStart}
use Rattle.audio_frames.specs.Frames.{AreAllFrames}
use Rattle.audio_frames.specs.Times.{frame_ticks, given_time, rate_of, IsUntimed, IsOutOfOrder}

-- the place where the payload of a packet begins
abbrev pub start_of : List PesStart → ℕ → ℕ
start_of starts k = slice_index (map (λ start. start.at) starts) k

-- the time of a packet
abbrev pub time_of : List PesStart → ℕ → Option ℤ
time_of starts k = slice_index_or (map (λ start. start.time) starts) k None

-- the time of the last of the packets from one number up to another, if there are any and it has one
abbrev pub time_between : List PesStart → ℕ → ℕ → Option ℤ
time_between starts from up_to = if nat_lt from up_to then time_of starts (up_to - 1) else None

-- so many packets have payloads that begin at a place or before
pub record IsCountUpTo (starts : List PesStart) (at count : ℕ) : Type 0 where
  pub within : count ≤ length starts
  pub before : (k : ℕ) → k < count → start_of starts k ≤ at
  pub behind : (k : ℕ) → count ≤ k → k < length starts → at < start_of starts k

-- the last given time up to the k-th frame, and how many frames ago it was
pub record IsLastGiven (starts : List PesStart) (places : List ℕ) (k : ℕ) (given : ℤ) (ago : ℕ) : Type 0 where
  pub up_to : ago ≤ k
  pub is_given : given_time starts places (k - ago) ≡ Some given
  pub none_since : (j : ℕ) → k - ago < j → j ≤ k → given_time starts places j ≡ None

-- What is known at the j-th frame: how many packets begin up to it, the last given time, and its own.
pub record IsClockAt (starts : List PesStart) (places : List ℕ) (j : ℕ) (clock : Clock) : Type 0 where
  pub counted : IsCountUpTo starts (slice_index places j) clock.packets
  pub some : 0 < clock.packets
  pub last : IsLastGiven starts places j clock.given clock.ago
  pub low : neg_ℤ (pos (2 ^ 54)) ≤ℤ clock.given
  pub high : clock.given ≤ℤ pos (2 ^ 54)
  pub rate : (16000 ≤ clock.rate) × (clock.rate ≤ 48000)
  pub time : clock.time ≡ (pos TICKS_PER_TIME_UNIT *ℤ clock.given) +ℤ pos (frame_ticks clock.rate clock.ago)

-- what refuses frames for their times
abbrev pub IsTimeRefused : List ℕ → List PesStart → AudioFault → Type 0
IsTimeRefused payload starts (NoAudioTime at) = IsUntimed payload starts at
IsTimeRefused payload starts (TimeOrder at) = IsOutOfOrder payload starts at
IsTimeRefused payload starts OutOfMemory = Unit {0}
IsTimeRefused payload starts (NotLayer2 _) = ⊥
IsTimeRefused payload starts (AudioSync _) = ⊥

-- a payload of so many bytes that is all frames at these places, with so many samples per second
pub record IsTimedFor (payload places : List ℕ) (size rate : ℕ) : Type 0 where
  pub long : length payload ≡ size
  pub all : AreAllFrames payload places
  pub rate_is : rate ≡ rate_of payload places
