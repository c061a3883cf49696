use Rattle.std.proofs.Common.{ℕ, List, inl, inr}
use Rattle.ts_demux.specs.Demux.{IsFirstStreamFault}
use Rattle.ts_demux.proofs.PassSteps.{told_early, told_whole}
use Rattle.passed_programs.specs.PassedVideo.{IsVideoRead, IsVideoRefused}
use Rattle.passed_programs.proofs.video_laws.of_told_file.Goals as goal

pub returns-clause-video : goal.returns-clause-video
returns-clause-video c = λ file after most most_after held pids wanted video is.
    told_whole file after most most_after held (λ (whole : List ℕ). IsVideoRead whole pids wanted video) is

pub returns-clause-packets : goal.returns-clause-packets
returns-clause-packets c = λ file after most most_after held pids fault is. elim is [
  | inl memory ↦ inl memory
  | inr early ↦ inr (told_early file after most most_after held (λ (whole : List ℕ). IsFirstStreamFault whole pids fault) early)
]

pub returns-clause-refused : goal.returns-clause-refused
returns-clause-refused c = λ file after most most_after held pids fault is. elim is [
  | inl memory ↦ inl memory
  | inr whole ↦ inr (told_whole file after most most_after held (λ (f : List ℕ). IsVideoRefused f pids fault) whole)
]
