-- What a step of a walk over a payload does.
use Rattle.std.specs.Prelude.{◌≡◌, ◌⊎◌, ℕ, ◌+◌, ◌-◌, ◌<◌, ◌≤◌, true, false, List, [], ◌++◌, length, drop, slice_index, Some, None}
use Rattle.audio_frames.specs.declared.audio_fault.AudioFault.{AudioFault}
use Rattle.audio_frames.specs.declared.audio_fault.AudioFault.TheVariants.{NotLayer2, AudioSync, NoAudioTime, TimeOrder, OutOfMemory}
use Rattle.audio_frames.specs.declared.frame_header.FrameHeader.{FrameHeader}
use Rattle.audio_frames.specs.declared.place_steps.Stage.{Stage}
use Rattle.audio_frames.specs.declared.place_steps.Stage.TheVariants.{Search, Frames, Broken}
use Rattle.audio_frames.specs.declared.place_steps.Stepped.{Stepped}
use Rattle.audio_frames.specs.Format.{header_of}
use Rattle.audio_frames.specs.Frames.{first_frame, AreAllFrames, BreaksAt}
use Rattle.audio_frames.specs.Private.Ahead.{IsRestOf}
use Rattle.audio_frames.specs.Private.Places.{AreApart}
use Rattle.audio_frames.specs.Walk.{NeverFirst, FramesTo, BreaksOff, IsSettled}

-- no first frame begins before a place
abbrev pub NoneBefore : List ℕ → ℕ → Type 0
NoneBefore payload at = (k : ℕ) → k < at → NeverFirst payload k

-- what the stage of a walk says before more bytes are looked at
abbrev pub IsStage : List ℕ → List ℕ → ℕ → Stage → Type 0
IsStage payload given at Search = (given ≡ []) × NoneBefore payload at
IsStage payload given at (Frames format) = FramesTo payload given at format
IsStage payload given at (Broken fault) = BreaksOff payload given fault

-- What a step does with the bytes from a place on, of which `from` are passed: it passes so many in all, keeps few, and adds the places
-- of the frames. It goes on from what `Before` says.
pub record Goes (Before : List ℕ → List ℕ → Type 0) (bytes : List ℕ) (at : ℕ) (old new : List ℕ) (stepped : Stepped) : Type 0 where
  pub within : stepped.done ≤ length bytes
  pub few : length bytes - stepped.done ≤ 3460
  pub more : List ℕ
  pub added : new ≡ old ++ more
  pub apart : AreApart old at → AreApart new (at + stepped.done)
  pub walked : (payload given : List ℕ) → Before payload given → IsRestOf payload at bytes → IsSettled payload (given ++ more) (at + stepped.done) stepped.stage

abbrev pub Steps : Stage → List ℕ → ℕ → List ℕ → List ℕ → Stepped → Type 0
Steps stage bytes at old new stepped = Goes (λ payload given. IsStage payload given at stage) bytes at old new stepped

abbrev pub StepsFrom : FrameHeader → List ℕ → ℕ → ℕ → List ℕ → List ℕ → Stepped → Type 0
StepsFrom format bytes from at old new stepped = Goes (λ payload given. FramesTo payload given (at + from) format) bytes at old new stepped

-- why a payload isn't frames
abbrev pub IsPlaceRefused : List ℕ → AudioFault → Type 0
IsPlaceRefused payload (NotLayer2 at) = ((first_frame payload ≡ None) × (at ≡ 0)) ⊎ BreaksAt payload at true
IsPlaceRefused payload (AudioSync at) = BreaksAt payload at false
IsPlaceRefused payload (NoAudioTime _) = ⊥
IsPlaceRefused payload (TimeOrder _) = ⊥
IsPlaceRefused payload OutOfMemory = Unit {0}

-- A payload whose last bytes, from a place on, end a walk: it is all frames at these places, and the first one's header is this.
pub record IsEnded (payload places : List ℕ) (format : FrameHeader) : Type 0 where
  pub all : AreAllFrames payload places
  pub format_is : header_of (drop (slice_index places 0) payload) ≡ Some format
