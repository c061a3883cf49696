-- The files of programs that a command names itself: no program of a job is one of these.
use Rattle.std.specs.Prelude.{ℕ, ◌+◌, if◌then◌else◌, List, [], ◌∷◌, ◌++◌, codes}
use Rattle.std.specs.List.{list_any}
use Rattle.std.specs.Str.{bytes_eq}
use Rattle.job_report.specs.declared.job.ProgramJob.{ProgramJob}
use Rattle.job_report.specs.Refusal.{FieldRefusal, OfField, place_of_program}

-- what is wrong with the file of the program of this number, from 0, where a command names these files
abbrev pub refusals_of_file : (named : List (List ℕ)) → ℕ → ProgramJob → List FieldRefusal
refusals_of_file named n program =
    if list_any (bytes_eq program.file) named then OfField (place_of_program n ++ codes "file") ∷ [] else []

-- what is wrong with the files of programs in order, the first of which has this number
abbrev pub refusals_of_files : (named : List (List ℕ)) → ℕ → List ProgramJob → List FieldRefusal
refusals_of_files named n [] = []
refusals_of_files named n (program ∷ programs) = refusals_of_file named n program ++ refusals_of_files named (n + 1) programs
