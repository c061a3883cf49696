-- What `gen` writes and leaves.
use Rattle.std.proofs.Common.{◌≡◌, ℕ, List, Option, inl, inr, refl}
use Rattle.shelf_io.specs.Files.{Files, with_content}
use Rattle.shelf_io.specs.WholeFile.{HoldsPrefix}
use Rattle.job_report.specs.Report.{report_line}
use Rattle.program_maker.specs.Program.{IsGeneratedProgram}
use Rattle.command_words.specs.Outside.{OnFiles}
use Rattle.command_words.proofs.Told.{HoldsPart, on_content, on_prefix}
use Rattle.gen_command.specs.GenCommand.{GenDone, GenLeaves}
use Rattle.gen_command.specs.Report.{gen_report}

-- a front of the program is what `gen` may leave
gen_leaves : (seed pictures : ℕ) (out program : List ℕ) (files after : Files) → IsGeneratedProgram seed pictures program → HoldsPart out program files after
    → GenLeaves seed pictures out files after
gen_leaves seed pictures out program files after is (inl same) = inl same
gen_leaves seed pictures out program files after is (inr (k, few, written)) = inr (program, is, k, few, written)

pub part_left : (seed pictures : ℕ) (out program : List ℕ) (old new : Option Files) → IsGeneratedProgram seed pictures program → HoldsPrefix old new out program
    → OnFiles old new (GenLeaves seed pictures out)
part_left seed pictures out program old new is holds =
    on_prefix old new out program (GenLeaves seed pictures out) holds (λ held after told part. gen_leaves seed pictures out program held after is part)

-- and all of it the work
pub whole_written : (seed pictures : ℕ) (out program : List ℕ) (old new : Option Files) → IsGeneratedProgram seed pictures program → new ≡ with_content old out program
    → OnFiles old new (λ held after. GenDone seed pictures out held (report_line (gen_report program pictures)) after)
whole_written seed pictures out program old new is written =
    on_content old new out program (λ held after. GenDone seed pictures out held (report_line (gen_report program pictures)) after) written
    (λ held told. (program, is, refl, refl))
