-- What `probe` writes and leaves.
use Rattle.std.proofs.Common.{◌≡◌, ◌+◌, ◌≤◌, ◌∙◌, ℕ, List, length, take, Option, Some, refl, ap, subst, inl, inr}
use Rattle.std.specs.FinMap.{insert}
use Rattle.job_report.specs.Report.{report_line}
use Rattle.program_reader.specs.declared.program.Program.{Program}
use Rattle.program_reader.specs.declared.limits.TheConstants.{FILE_BYTES_MOST}
use Rattle.shelf_io.specs.Asked.{AsksUpTo}
use Rattle.shelf_io.specs.Files.{Files, with_content}
use Rattle.shelf_io.specs.WholeFile.{HoldsPrefix}
use Rattle.command_words.specs.Outside.{OnFiles}
use Rattle.command_words.specs.Task.{AsksOnly}
use Rattle.command_words.proofs.Counted.{asks_one}
use Rattle.command_words.proofs.Told.{HoldsPart, on_content, on_prefix}
use Rattle.probe_command.specs.declared.steps.Probed.{Probed}
use Rattle.probe_command.specs.Private.Probed.{IsProbedText}
use Rattle.probe_command.specs.ProbeCommand.{HasProbed, HoldsProbed, ProbeDone, ProbeLeaves, probe_task}
use Rattle.probe_command.specs.Report.{probe_report}

pub has_probed : (told : Option Files) (file : List ℕ) (number : ℕ) (program : Program) (probed : Probed) (is : IsProbedText program probed)
    → HoldsProbed told file number program → HasProbed told file number program is.made
has_probed told file number program probed is holds = record { holds = holds; is_table = is.is_table; is_text = is.is_text }

-- a program that a shelf holds, its told files hold
on_held : (old : Option Files) (file : List ℕ) (number : ℕ) (program : Program) (held : Files) → old ≡ Some held → HoldsProbed old file number program
    → HoldsProbed (Some held) file number program
on_held old file number program held told holds = subst (λ (t : Option Files). HoldsProbed t file number program) told holds

-- the text was written whole
pub whole_written : (file : List ℕ) (number : ℕ) (table : List ℕ) (old new : Option Files) (program : Program) (probed : Probed) (bytes : List ℕ) → IsProbedText program probed
    → bytes ≡ probed.text → HoldsProbed old file number program → new ≡ with_content old table bytes
    → OnFiles old new (λ held after. ProbeDone file number table held (report_line (probe_report program)) after)
whole_written file number table old new program probed bytes is text holds written =
    on_content old new table bytes (λ held after. ProbeDone file number table held (report_line (probe_report program)) after) written
    (λ held told. (
      program,
      is.made,
      has_probed (Some held) file number program probed is (on_held old file number program held told holds),
      refl,
      ap (insert held table) (text ∙ is.spelled),
    ))

-- a front of the text is what `probe` may leave
front_left : (file : List ℕ) (number : ℕ) (table : List ℕ) (held after : Files) (program : Program) (probed : Probed) → IsProbedText program probed
    → HoldsPart table probed.text held after → HoldsProbed (Some held) file number program → ProbeLeaves file number table held after
front_left file number table held after program probed is (inl same) holds = inl same
front_left file number table held after program probed is (inr (k, few, written)) holds =
    inr (
      program,
      is.made,
      has_probed (Some held) file number program probed is holds,
      k,
      subst (λ (t : List ℕ). k ≤ length t) is.spelled few,
      written ∙ ap (λ (t : List ℕ). insert held table (take k t)) is.spelled,
    )

-- the text was broken off
pub part_left : (file : List ℕ) (number : ℕ) (table : List ℕ) (old new : Option Files) (program : Program) (probed : Probed) (bytes : List ℕ) → IsProbedText program probed
    → bytes ≡ probed.text → HoldsProbed old file number program → HoldsPrefix old new table bytes → OnFiles old new (ProbeLeaves file number table)
part_left file number table old new program probed bytes is text holds part =
    on_prefix old new table probed.text (ProbeLeaves file number table) (subst (λ (b : List ℕ). HoldsPrefix old new table b) text part)
    (λ held after told left. front_left file number table held after program probed is left (on_held old file number program held told holds))

-- `probe` asks for FILE alone
pub asks_file : (file : List ℕ) (number : ℕ) (table : List ℕ) (told : Option Files) (old new : List ℕ → ℕ) → AsksUpTo file (FILE_BYTES_MOST + 1) old new
    → AsksOnly (probe_task file number table) told old new
asks_file file number table told old new asks = asks_one (probe_task file number table) told file FILE_BYTES_MOST old new (refl, refl) (λ name limit is. is) asks
