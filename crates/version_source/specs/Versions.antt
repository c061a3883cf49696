-- All versions of the units of programs.
use Rattle.std.specs.Prelude.{◌≡◌, ℕ, ◌≤◌, List, [], ◌∷◌, ◌++◌, length, map, All, Option, Some, None}
use Rattle.std.specs.Option.{option_map_or}
use Rattle.std.specs.List.{slice_get}
use Rattle.syntax_types.specs.declared.picture.SeqState.{SeqState}
use Rattle.job_report.specs.declared.job.ProgramJob.{ProgramJob}
use Rattle.program_reader.specs.declared.program.Program.{Program}
use Rattle.program_reader.specs.declared.program.UnitSource.{UnitSource}
use Rattle.version_maker.specs.declared.version.UnitVersion.{UnitVersion}
use Rattle.version_maker.specs.Versions.{AreVersions}
use Rattle.version_source.specs.Sendable.{LeavesState, bytes_of_unit}

-- the versions of units of a video at some ratios, each unit behind the state that the one before leaves
abbrev pub AreVideoVersions : (es coarser : List ℕ) → Option SeqState → List UnitSource → List (List UnitVersion) → Type 0
AreVideoVersions es coarser before [] [] = Unit {0}
AreVideoVersions es coarser before (unit ∷ units) (versions ∷ more) =
    (after : SeqState) × LeavesState before (bytes_of_unit es unit) after × AreVersions before (bytes_of_unit es unit) coarser versions
    × AreVideoVersions es coarser (Some after) units more
AreVideoVersions es coarser before units versions = ⊥

-- the versions of all units of programs, program by program, each at ratios of its own
abbrev pub AreAllVersions : List Program → (ratios : List (List ℕ)) → List (List (List UnitVersion)) → Type 0
AreAllVersions [] [] [] = Unit {0}
AreAllVersions (program ∷ programs) (coarser ∷ ratios) (versions ∷ more) =
    AreVideoVersions program.video coarser None program.units versions × AreAllVersions programs ratios more
AreAllVersions programs ratios versions = ⊥

-- the bytes of the version of this number; where there is none, none
abbrev pub chosen_bytes : List UnitVersion → (index : ℕ) → List ℕ
chosen_bytes versions index = option_map_or (λ version. version.bytes) (slice_get versions index) []

-- how coarse the versions of each program are, as a job says
abbrev pub ratios_of : List ProgramJob → List (List ℕ)
ratios_of jobs = map (λ job. job.coarser.items) jobs

-- a choice names a version of each unit of the programs, in order: the unit itself, or one at a ratio
abbrev pub NamesVersions : List Program → (ratios : List (List ℕ)) → (choice : List ℕ) → Type 0
NamesVersions [] [] choice = choice ≡ []
NamesVersions (program ∷ programs) (coarser ∷ ratios) choice =
    (own rest : List ℕ) × (choice ≡ own ++ rest) × (length own ≡ length program.units) × All (λ index. index ≤ length coarser) own × NamesVersions programs ratios rest
NamesVersions programs ratios choice = ⊥
