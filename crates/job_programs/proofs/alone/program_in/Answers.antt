use Rattle.std.proofs.Common.{rules, ◌≡◌, ℕ, List, [], true, false, refl}
use Rattle.job_report.specs.declared.job.Form.TheVariants.{Ts}
use Rattle.program_reader.specs.declared.program_fault.ProgramFault.{ProgramFault}
use Rattle.program_reader.specs.declared.program_fault.ProgramFault.TheVariants.{Refused, OutOfMemory}
use Rattle.program_reader.specs.Programs.{IsProgramRefused}
use Rattle.job_programs.specs.Alone.{IsAloneRefused}
use Rattle.job_programs.specs.Private.Alone.{IsAloneFault}
use Rattle.job_programs.proofs.Forms.{kept}
use Rattle.job_programs.proofs.alone.program_in.Goals as goal

by-file : (slot start number : ℕ) (content : List ℕ) (fault : ProgramFault) → IsProgramRefused Ts content number [] fault → IsAloneFault slot start number content fault
by-file slot start number content (Refused kind at) bad = IsAloneRefused.file bad
by-file slot start number content OutOfMemory bad = tt

pub returns-in-Err : goal.returns-in-Err
returns-in-Err c = by-file c.args.slot c.args.start c.args.number c.args.content.now c.in-Err.fault c.in-Err.ensures

pub returns-then-not-is_within_time : goal.returns-then-not-is_within_time
returns-then-not-is_within_time c =
    let program = c.in-Ok.program in
    let fails : c.is_within_time.result ≡ false = search rules in
    rw c.passes_limit.ensures
    (IsAloneRefused.late program c.in-Ok.ensures
    (λ within. let yes : c.is_within_time.result ≡ true = c.is_within_time.ensures.1 (kept c.args.slot program within) in let no : c.is_within_time.result ≡ false = fails in cc) refl refl)
