-- What a program takes of the table of its job.
use Rattle.std.specs.Prelude.{ℕ, ◌≤◌, List, length}
use Rattle.std.specs.List.{sum_by}
use Rattle.program_reader.specs.declared.program.AudioSource.{AudioSource}
use Rattle.program_reader.specs.declared.program.Program.{Program}
use Rattle.job_programs.specs.declared.limits.TheConstants.{AUDIO_PACKETS_MOST}
use Rattle.job_programs.specs.Distortions.{KeepsDistortions}

-- the packets of some audio streams together
abbrev pub audio_packets : List AudioSource → ℕ
audio_packets audios = sum_by (λ audio. length audio.pieces) audios

-- a program takes no more of a table than one of eight may: its audio packets, and its distortions
pub record KeepsShare (weight drift : ℕ) (coarser : List ℕ) (program : Program) : Type 0 where
  pub packets : audio_packets program.audios ≤ AUDIO_PACKETS_MOST
  pub distortions : KeepsDistortions weight drift coarser program
