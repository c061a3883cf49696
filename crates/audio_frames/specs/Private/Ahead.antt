-- What stands where a frame of a format may begin: in some bytes, and in a payload of which they are the rest.
use Rattle.std.specs.Prelude.{◌≡◌, ◌⊎◌, ℕ, ◌<◌, ◌≤◌, true, false, List, length, drop, Some}
use Rattle.audio_frames.specs.declared.ahead.Ahead.{Ahead}
use Rattle.audio_frames.specs.declared.ahead.Ahead.TheVariants.{Frame, Rest, Broken}
use Rattle.audio_frames.specs.declared.frame_header.FrameHeader.{FrameHeader}
use Rattle.audio_frames.specs.Format.{header_of}
use Rattle.audio_frames.specs.Private.Format.{has_format}
use Rattle.audio_frames.specs.FrameHeader.{frame_length}
use Rattle.audio_frames.specs.Walk.{fault_at}

-- what the bytes begin with: a whole frame of the format, the front of one or of a header, or neither
abbrev pub IsAhead : FrameHeader → List ℕ → ℕ → Ahead → Type 0
IsAhead format bytes at (Frame len) = (has_format format bytes ≡ true) × (len ≡ frame_length bytes) × (24 ≤ len) × (len ≤ length bytes)
IsAhead format bytes at Rest = (length bytes ≤ 3456) × ((length bytes < 4) ⊎ ((has_format format bytes ≡ true) × (length bytes < frame_length bytes)))
IsAhead format bytes at (Broken fault) = (4 ≤ length bytes) × (has_format format bytes ≡ false) × (fault ≡ fault_at bytes at)

-- a payload with its first frame, whose header was kept
abbrev pub IsFormatAt : List ℕ → ℕ → FrameHeader → Type 0
IsFormatAt payload first format = header_of (drop first payload) ≡ Some format

-- the bytes of a payload from a place on
abbrev pub IsRestOf : List ℕ → ℕ → List ℕ → Type 0
IsRestOf payload at bytes = (at ≤ length payload) × (drop at payload ≡ bytes)
