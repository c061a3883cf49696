-- How a walk over the bytes of a payload stands behind those that have come. `IsWalked` links the calls of a walk: a new one has it of
-- no bytes, each `push` hands it on, and `places` and `end` say what it is worth.
use Rattle.std.specs.Prelude.{◌≡◌, ℕ, ◌+◌, ◌<◌, ◌≤◌, ◌==◌, true, false, List, [], ◌++◌, length, drop, Some, if◌then◌else◌}
use Rattle.audio_frames.specs.declared.audio_fault.AudioFault.{AudioFault}
use Rattle.audio_frames.specs.declared.audio_fault.AudioFault.TheVariants.{NotLayer2, AudioSync}
use Rattle.audio_frames.specs.declared.frame_header.FrameHeader.{FrameHeader}
use Rattle.audio_frames.specs.declared.frame_walk.FrameWalk.{FrameWalk}
use Rattle.audio_frames.specs.declared.place_steps.Stage.{Stage}
use Rattle.audio_frames.specs.declared.place_steps.Stage.TheVariants.{Search, Frames, Broken}
use Rattle.audio_frames.specs.Format.{header_of}
use Rattle.audio_frames.specs.FrameHeader.{syncword}
use Rattle.audio_frames.specs.Frames.{first_frame, is_first, goes_on, is_near_end, is_rest, AreFrames, AreAllFrames}

-- ---- what bytes say of each payload that they begin

-- a first frame begins at no place before this one
abbrev pub NeverFirst : List ℕ → ℕ → Type 0
NeverFirst bytes at = (more : List ℕ) → is_first (bytes ++ more) at ≡ false

-- the first frame begins at this place
abbrev pub AlwaysBegun : List ℕ → ℕ → Type 0
AlwaysBegun bytes at = (more : List ℕ) → first_frame (bytes ++ more) ≡ Some at

-- ---- where frames stand

-- the fault of frames that break off where these bytes stand
abbrev pub fault_at : List ℕ → ℕ → AudioFault
fault_at bytes at = if syncword bytes == 0xFFF then NotLayer2 at else AudioSync at

-- frames of the first one's format break off at a place
pub record StopsAt (payload : List ℕ) (first at : ℕ) (fault : AudioFault) : Type 0 where
  pub long : is_near_end payload at ≡ false
  pub other : goes_on payload first at ≡ false
  pub fault_is : fault ≡ fault_at (drop at payload) at

-- frames at these places, up to one; the header of the first is kept
pub record FramesTo (payload places : List ℕ) (at : ℕ) (format : FrameHeader) : Type 0 where
  pub first : ℕ
  pub begun : AlwaysBegun payload first
  pub format_is : header_of (drop first payload) ≡ Some format
  pub frames : AreFrames payload first first places at

-- frames at these places, which break off
pub record BreaksOff (payload places : List ℕ) (fault : AudioFault) : Type 0 where
  pub first : ℕ
  pub stop : ℕ
  pub format : FrameHeader
  pub begun : AlwaysBegun payload first
  pub format_is : header_of (drop first payload) ≡ Some format
  pub frames : AreFrames payload first first places stop
  pub stops : StopsAt payload first stop fault

-- what the stage of a walk says: no first frame yet, frames up to a place with a rest behind them, or frames that break off
abbrev pub IsSettled : List ℕ → List ℕ → ℕ → Stage → Type 0
IsSettled payload places at Search = (places ≡ []) × ((k : ℕ) → k < at → NeverFirst payload k)
IsSettled payload places at (Frames format) = (to : FramesTo payload places at format) × (is_rest payload to.first at ≡ true)
IsSettled payload places at (Broken fault) = BreaksOff payload places fault

-- ---- the walk

-- the places of the frames that are whole
abbrev pub places_of : FrameWalk → List ℕ
places_of walk = walk.places

-- how many bytes are kept
abbrev pub bytes_kept : FrameWalk → ℕ
bytes_kept walk = length walk.kept.items

-- how many bytes have come
abbrev pub bytes_seen : FrameWalk → ℕ
bytes_seen walk = walk.at + bytes_kept walk

-- These bytes have come to the walk.
pub record IsWalked (payload : List ℕ) (walk : FrameWalk) : Type 0 where
  pub within : walk.at ≤ length payload
  pub kept : drop walk.at payload ≡ walk.kept.items
  pub settled : IsSettled payload walk.places walk.at walk.stage

-- Whatever follows some bytes, the places of the payload's frames begin with these.
abbrev pub AreCertain : List ℕ → List ℕ → Type 0
AreCertain bytes places = (more all : List ℕ) → AreAllFrames (bytes ++ more) all → (others : List ℕ) × (all ≡ places ++ others)
