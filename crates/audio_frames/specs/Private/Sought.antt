-- Where a first frame begins, whatever follows some bytes.
use Rattle.std.specs.Prelude.{◌≡◌, ℕ, ◌-◌, ◌<◌, ◌≤◌, true, List, ◌++◌, length, drop, Some, MatchOption}
use Rattle.audio_frames.specs.declared.sought.Candidate.{Candidate}
use Rattle.audio_frames.specs.declared.sought.Candidate.TheVariants.{Open, First, Other}
use Rattle.audio_frames.specs.declared.sought.Sought.{Sought}
use Rattle.audio_frames.specs.Format.{header_of}
use Rattle.audio_frames.specs.Frames.{is_first}
use Rattle.audio_frames.specs.Walk.{NeverFirst}

-- a first frame begins at a place of each payload that these bytes begin
abbrev pub AlwaysFirst : List ℕ → ℕ → Type 0
AlwaysFirst bytes at = (more : List ℕ) → is_first (bytes ++ more) at ≡ true

-- what bytes say of their first place; open is only what fewer bytes than a frame and a header behind it say
abbrev pub IsCandidate : List ℕ → Candidate → Type 0
IsCandidate bytes Open = length bytes ≤ 3460
IsCandidate bytes (First header) = (header_of bytes ≡ Some header) × AlwaysFirst bytes 0
IsCandidate bytes Other = NeverFirst bytes 0

-- how far bytes are searched
pub record IsSought (bytes : List ℕ) (sought : Sought) : Type 0 where
  pub within : sought.at ≤ length bytes
  pub passed : (k : ℕ) → k < sought.at → NeverFirst bytes k
  pub found : MatchOption sought.first (length bytes - sought.at ≤ 3460) (λ header. (header_of (drop sought.at bytes) ≡ Some header) × AlwaysFirst bytes sought.at)
