-- Frames from the one on that a payload byte counts with.
use Rattle.std.specs.Prelude.{◌≡◌, ℕ, ◌+◌, nat_lt, true, List, [], ◌∷◌}
use Rattle.audio_frames.specs.declared.frame.Frame.{Frame}

-- the first of some frames, if there is one, ends behind a place
abbrev pub IsFirstFrame : ℕ → List Frame → Type 0
IsFirstFrame place [] = Unit {0}
IsFirstFrame place (frame ∷ frames) = nat_lt place (frame.at + frame.len) ≡ true
