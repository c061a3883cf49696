-- Frames that stand one behind the other in the bytes of a payload from a place on.
use Rattle.std.specs.Prelude.{◌≡◌, ℕ, ◌+◌, ◌-◌, ◌≤◌, true, List, ◌++◌, length, IsNone, MatchOption}
use Rattle.audio_frames.specs.declared.followed.Followed.{Followed}
use Rattle.audio_frames.specs.declared.frame_header.FrameHeader.{FrameHeader}
use Rattle.audio_frames.specs.Frames.{is_rest, AreFrames}
use Rattle.audio_frames.specs.Private.Ahead.{IsFormatAt, IsRestOf}
use Rattle.audio_frames.specs.Private.Places.{AreApart}
use Rattle.audio_frames.specs.Walk.{StopsAt}

-- whole frames in so many of the bytes, whose places were added
pub record FollowsUpTo (format : FrameHeader) (bytes : List ℕ) (at : ℕ) (old new : List ℕ) (done : ℕ) : Type 0 where
  pub within : done ≤ length bytes
  pub more : List ℕ
  pub added : new ≡ old ++ more
  pub apart : AreApart old at → AreApart new (at + done)
  pub frames : (payload : List ℕ) (first : ℕ) → IsFormatAt payload first format → IsRestOf payload at bytes → AreFrames payload first at more (at + done)

-- all that stand there; behind them is a rest, or they break off
pub record Follows (format : FrameHeader) (bytes : List ℕ) (at : ℕ) (old new : List ℕ) (followed : Followed) : Type 0 where
  pub up_to : FollowsUpTo format bytes at old new followed.done
  pub few : IsNone followed.broken → length bytes - followed.done ≤ 3456
  pub stops : (payload : List ℕ) (first : ℕ) → IsFormatAt payload first format → IsRestOf payload at bytes
      → MatchOption followed.broken (is_rest payload first (at + followed.done) ≡ true) (StopsAt payload first (at + followed.done))
