-- The video of a file that its source told.
use Rattle.std.proofs.Common.{◌≡◌, List, ℕ, Result, Ok, Err, IfErr, IfOk, map, subst}
use Rattle.psi_tables.specs.declared.stream.Stream.{Stream}
use Rattle.program_reader.specs.declared.program_fault.ProgramFault.{ProgramFault}
use Rattle.program_reader.specs.declared.unit_sizes.SizesWanted.{SizesWanted}
use Rattle.program_reader.specs.declared.video_walk.WalkedVideo.{WalkedVideo}
use Rattle.passed_programs.specs.declared.read_fault.ReadFault.{ReadFault}
use Rattle.passed_programs.specs.PassedVideo.{IsVideoRead, IsVideoRefused}

-- what follows of a video
pub video_then : (result : Result WalkedVideo ReadFault) (P Q : WalkedVideo → Type 0) → ((video : WalkedVideo) → P video → Q video) → IfOk result P → IfOk result Q
video_then (Ok video) P Q on said = on video said
video_then (Err fault) P Q on said = tt

-- and of a fault
pub fault_then : (result : Result WalkedVideo ReadFault) (P : ReadFault → Type 0) (fault : ReadFault) → result ≡ Err fault → IfErr result P → P fault
fault_then result P fault same said = subst (λ (r : Result WalkedVideo ReadFault). IfErr r P) same said

-- streams as a slice
abbrev pub pids_in : List Stream → List ℕ
pids_in streams = map (λ (stream : Stream). stream.pid) streams

module _ (file told : List ℕ) (streams slice : List Stream) (file_is : told ≡ file) (slice_is : slice ≡ streams) where
  pub read_of : (wanted : SizesWanted) (video : WalkedVideo) → IsVideoRead told (pids_in slice) wanted video → IsVideoRead file (pids_in streams) wanted video
  read_of wanted video read =
      subst (λ (f : List ℕ). IsVideoRead f (pids_in streams) wanted video) file_is (subst (λ (s : List Stream). IsVideoRead told (pids_in s) wanted video) slice_is read)

  pub refused_of : (fault : ProgramFault) → IsVideoRefused told (pids_in slice) fault → IsVideoRefused file (pids_in streams) fault
  refused_of fault refused =
      subst (λ (f : List ℕ). IsVideoRefused f (pids_in streams) fault) file_is (subst (λ (s : List Stream). IsVideoRefused told (pids_in s) fault) slice_is refused)
