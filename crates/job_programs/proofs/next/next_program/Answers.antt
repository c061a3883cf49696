use Rattle.std.proofs.Common.{rules, ◌≡◌, ℕ, List, ◌+◌, ◌<◌, ◌≤◌, ◌↔◌, Bool, true, false, IsTrue, inl, inr, length, refl, subst, arith}
use Rattle.bit_lists.specs.Fields.{AreBytes}
use Rattle.job_report.specs.declared.job.Form.{Form}
use Rattle.program_reader.specs.declared.limits.TheConstants.{FILE_BYTES_MOST, UNITS_MOST}
use Rattle.std.proofs.lemmas.Result.{err_from_is_err_and}
use Rattle.program_reader.specs.declared.program_fault.ProgramFault.{ProgramFault}
use Rattle.program_reader.specs.declared.program_fault.ProgramFault.TheVariants.{Refused, OutOfMemory}
use Rattle.program_reader.specs.Programs.{IsProgramRefused}
use Rattle.program_reader.specs.declared.program.Program.{Program}
use Rattle.job_programs.specs.Share.{KeepsShare}
use Rattle.job_programs.specs.Private.Behind.{file, many_units, late, far}
use Rattle.job_programs.specs.Private.Next.{IsNextFault}
use Rattle.job_programs.proofs.NextLemmas.{is-not}
use Rattle.job_programs.proofs.next.next_program.Goals as goal

by-file : (slot start bytes units : ℕ) (form : Form) (number : ℕ) (drop : List ℕ) (keeps : Program → Type 0) (content : List ℕ) (fault : ProgramFault) → bytes + length content ≤ FILE_BYTES_MOST → IsProgramRefused form content number drop fault
    → IsNextFault slot start bytes units form number drop keeps content fault
by-file slot start bytes units form number drop keeps content (Refused kind at) few bad = file few bad
by-file slot start bytes units form number drop keeps content OutOfMemory few bad = tt

pub returns-in_err-sized-clause-program : goal.returns-in_err-sized-clause-program
returns-in_err-sized-clause-program c =
    let p = err_from_is_err_and c.from_residual.result c.from_residual.ensures.1 in
    let w = c.args.wanted.now in
    let few : w.bytes + length c.args.content.now ≤ FILE_BYTES_MOST = omega (arith, c.if-content-wanted.false, c.requires.bytes) in
    rw (p.1, p.2) (by-file w.slot w.start w.bytes w.units w.form w.number w.drop.now (KeepsShare w.weight w.drift w.coarser.now) c.args.content.now c.in_err-sized.field-0.0 few c.in_err-sized.ensures.program)

pub returns-then-len-wanted-clause-program : goal.returns-then-len-wanted-clause-program
returns-then-len-wanted-clause-program c =
    let program = c.in_ok-sized.sized.program in
    let few : c.args.wanted.now.bytes + length c.args.content.now ≤ FILE_BYTES_MOST = omega (arith, c.if-content-wanted.false, c.requires.bytes) in
    let many : UNITS_MOST < c.args.wanted.now.units + length program.units = omega (arith, c.if-len-wanted.true, c.len.ensures, c.requires.units) in
    rw c.passes_limit-then-len-wanted.ensures (many_units program few c.in_ok-sized.ensures.program many refl refl)

pub returns-then-not-is_within_time-clause-program : goal.returns-then-not-is_within_time-clause-program
returns-then-not-is_within_time-clause-program c =
    let program = c.in_ok-sized.sized.program in
    let few : c.args.wanted.now.bytes + length c.args.content.now ≤ FILE_BYTES_MOST = omega (arith, c.if-content-wanted.false, c.requires.bytes) in
    let fails : c.is_within_time.result ≡ false = search rules in
    rw c.passes_limit-then-not-is_within_time.ensures (late program few c.in_ok-sized.ensures.program (is-not c.is_within_time.result _ c.is_within_time.ensures fails) refl refl)

pub returns-then-not-keeps_share-clause-program : goal.returns-then-not-keeps_share-clause-program
returns-then-not-keeps_share-clause-program c =
    let program = c.in_ok-sized.sized.program in
    let few : c.args.wanted.now.bytes + length c.args.content.now ≤ FILE_BYTES_MOST = omega (arith, c.if-content-wanted.false, c.requires.bytes) in
    let fails : c.keeps_share.result ≡ false = search rules in
    rw c.passes_limit-then-not-keeps_share.ensures (far program few c.in_ok-sized.ensures.program (is-not c.keeps_share.result _ c.keeps_share.ensures fails) refl refl)

pub returns-clause-read : goal.returns-clause-read
returns-clause-read c =
    let w = c.args.wanted.now in
    let program = c.in_ok-sized.sized.program in
    c.programs_of_files_are_read.ensures w.form c.args.content.now w.number w.drop.now w.start program c.in_ok-sized.ensures.program
    (subst AreBytes c.as_slice.ensures c.see_bytes.ensures)
