-- What is kept of the videos of programs whose units are sent.
use Rattle.std.specs.Prelude.{◌≡◌, ℕ, ◌<◌, ◌≤◌, List, [], ◌∷◌, length, take, drop, All, Some, None, slice_index, slice_index_or}
use Rattle.job_report.specs.declared.job.ProgramJob.{ProgramJob}
use Rattle.program_reader.specs.declared.program.Program.{Program}
use Rattle.program_reader.specs.declared.program.UnitSource.{UnitSource}
use Rattle.version_source.specs.declared.sent_video.SentVideo.{SentVideo}
use Rattle.version_source.specs.Sendable.{IsSendable, IsUnitOf, SpellInOrder}
use Rattle.version_source.specs.Versions.{NamesVersions, ratios_of}
use Rattle.version_source.specs.Private.Sending.{IsPacketOf, LeaveBehind}

-- a video can be sent: its units spell pictures in order, and each has a version of the number that is chosen
pub record IsVideo (es coarser : List ℕ) (units : List UnitSource) (choice : List ℕ) : Type 0 where
  pub units_stand : All (IsUnitOf es) units
  pub pictures : SpellInOrder es None units
  pub chosen : All (λ index. index ≤ length coarser) choice
  pub enough : length units ≤ length choice

-- of a unit the state before it, and its PES packet in the chosen version, once it was asked for
pub record IsKept (es coarser : List ℕ) (units : List UnitSource) (choice : List ℕ) (kept : SentVideo) : Type 0 where
  pub within : kept.unit ≤ length units
  pub before_is : LeaveBehind es None units kept.unit kept.before
  pub packet_is : (packet : List ℕ) (other : UnitSource) → kept.packet ≡ Some packet → kept.unit < length units
      → IsPacketOf es coarser kept.before (slice_index_or units kept.unit other) (slice_index choice kept.unit) packet

-- nothing is sent yet
abbrev pub nothing : SentVideo
nothing = record { unit = 0; before = None; packet = None }

-- this is kept of the video of each program, whose units have the first numbers of the choice
abbrev pub AreKept : List Program → (ratios : List (List ℕ)) → (choice : List ℕ) → List SentVideo → Type 0
AreKept [] [] choice [] = Unit {0}
AreKept (program ∷ programs) (coarser ∷ ratios) choice (kept ∷ others) =
    IsKept program.video coarser program.units (take (length program.units) choice) kept × AreKept programs ratios (drop (length program.units) choice) others
AreKept programs ratios choice kept = ⊥

-- programs can be sent in the versions that are chosen, and of each video a state and a PES packet are kept
pub record AreSent (programs : List Program) (jobs : List ProgramJob) (choice : List ℕ) (sent : List SentVideo) : Type 0 where
  pub as_many : length jobs ≡ length programs
  pub sendable : All IsSendable programs
  pub names : NamesVersions programs (ratios_of jobs) choice
  pub kept : AreKept programs (ratios_of jobs) choice sent
