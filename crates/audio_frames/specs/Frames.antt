-- The frames of an audio stream, one behind the other (ISO/IEC 11172-3, 2.4.1; where they begin and end is this project's).
use Rattle.std.specs.Prelude.{◌≡◌, ℕ, ◌+◌, nat_lt, nat_le, Bool, true, false, ◌==◌, ◌&&◌, ◌||◌, List, [], ◌∷◌, length, drop, Option, Some}
use Rattle.std.specs.List.{find, range_with_len}
use Rattle.std.specs.Option.{option_map_or}
use Rattle.audio_frames.specs.FrameHeader.{syncword, id, frame_length, is_header, is_same_format}

-- a header at a place of the payload
abbrev pub has_header : List ℕ → ℕ → Bool
has_header payload at = is_header (drop at payload)

-- the place where the frame of a header ends
abbrev pub end_of : List ℕ → ℕ → ℕ
end_of payload at = at + frame_length (drop at payload)

-- a header of the same format as that at the first place
abbrev pub goes_on : List ℕ → ℕ → ℕ → Bool
goes_on payload first at = has_header payload at && is_same_format (drop first payload) (drop at payload)

-- fewer than four bytes, so no header, follow the place
abbrev pub is_near_end : List ℕ → ℕ → Bool
is_near_end payload at = nat_lt (length payload) (at + 4)

-- A first frame: it is whole, and behind it follows a header of the same format or nothing that could be one.
abbrev pub is_first : List ℕ → ℕ → Bool
is_first payload at =
    has_header payload at && (goes_on payload at (end_of payload at) || (nat_le (end_of payload at) (length payload) && is_near_end payload (end_of payload at)))

-- the least place with a first frame
abbrev pub first_frame : List ℕ → Option ℕ
first_frame payload = find (is_first payload) (range_with_len 0 (length payload))

-- the first frame is one of a low sampling rate (ISO/IEC 13818-3); false where there is none
abbrev pub has_low_rate : List ℕ → Bool
has_low_rate payload = option_map_or (λ first. id (drop first payload) == 0) (first_frame payload) false

-- a whole frame of the same format
abbrev pub is_audio_frame : List ℕ → ℕ → ℕ → Bool
is_audio_frame payload first at = goes_on payload first at && nat_le (end_of payload at) (length payload)

-- whole frames at these places, one behind the other, from a place up to another
abbrev pub AreFrames : List ℕ → ℕ → ℕ → List ℕ → ℕ → Type 0
AreFrames payload first from [] end = from ≡ end
AreFrames payload first from (at ∷ places) end = (from ≡ at) × (is_audio_frame payload first at ≡ true) × AreFrames payload first (end_of payload at) places end

-- the rest behind the last frame: too short for a header, or a frame of the same format that the payload's end cuts
abbrev pub is_rest : List ℕ → ℕ → ℕ → Bool
is_rest payload first at = is_near_end payload at || (goes_on payload first at && nat_lt (length payload) (end_of payload at))

-- frames at these places, from the first one up to a place
pub record FramesUpTo (payload places : List ℕ) (end : ℕ) : Type 0 where
  pub first : ℕ
  pub begun : first_frame payload ≡ Some first
  pub frames : AreFrames payload first first places end

-- all frames of the payload: behind the last one is a rest
pub record AreAllFrames (payload places : List ℕ) : Type 0 where
  pub end : ℕ
  pub all : FramesUpTo payload places end
  pub rest : is_rest payload all.first end ≡ true

-- Frames up to a place where neither a frame nor a rest follows; twelve ones stand there, or they don't.
pub record BreaksAt (payload : List ℕ) (at : ℕ) (has_sync : Bool) : Type 0 where
  pub places : List ℕ
  pub before : FramesUpTo payload places at
  pub long : is_near_end payload at ≡ false
  pub other : goes_on payload before.first at ≡ false
  pub sync : (syncword (drop at payload) == 0xFFF) ≡ has_sync
