-- The sizes of all versions of the units of a job's programs.
use Rattle.std.specs.Prelude.{List, [], ◌∷◌}
use Rattle.job_report.specs.declared.job.ProgramJob.{ProgramJob}
use Rattle.program_reader.specs.declared.program.Program.{Program}
use Rattle.program_reader.specs.declared.unit_sizes.UnitSizes.{UnitSizes}
use Rattle.program_reader.specs.Sizes.{AreProgramSizes}

-- each program's, at the ratios that the job gives it
abbrev pub AreJobSizes : List ProgramJob → List Program → List (List UnitSizes) → Type 0
AreJobSizes [] [] [] = Unit {0}
AreJobSizes (job ∷ jobs) (program ∷ programs) (sizes ∷ more) = AreProgramSizes program job.coarser.items sizes × AreJobSizes jobs programs more
AreJobSizes jobs programs sizes = ⊥
