use Rattle.std.proofs.Common.{subst}
use Rattle.job_programs.specs.Told.{HasReadCause}
use Rattle.job_programs.specs.declared.source_fault.ProgramsFault.{ProgramsFault}
use Rattle.job_files.proofs.Ends.{missing_ends, unread_ends}
use Rattle.command_words.proofs.Ends.{programs_end}
use Rattle.job_files.proofs.Steps.{is_passed_of, missing_program, program_at, unread_program}
use Rattle.job_files.proofs.pass.pass_table_of_job.Goals as goal

pub returns-in-Ok-table_of_passes-clause-table : goal.returns-in-Ok-table_of_passes-clause-table
returns-in-Ok-table_of_passes-clause-table g c =
    let on = c.in-Ok.ensures.programs in
    is_passed_of (g.K.Shelf.files c.args.shelf.now) c.args.job c.in-Ok.read c.in-Ok-table_of_passes.table on (c.in-Ok-table_of_passes.ensures.table on.programs on.off)

pub returns-in-Err-Failed-clause-stop : goal.returns-in-Err-Failed-clause-stop
returns-in-Err-Failed-clause-stop g c =
    let told = g.K.Shelf.files c.args.shelf.now in
    let old = g.K.Shelf.counts c.args.shelf.now in
    let new = g.K.Shelf.counts c.pass_sized_programs.new.shelf in
    let since = g.K.Shelf.since_fault c.pass_sized_programs.new.shelf in
    let (stopped, stops, rose, last) = subst (λ (fault : ProgramsFault). HasReadCause told c.args.job old new since fault) c.in-Err-Failed.field-0-is c.in-Err-Failed.ensures.cause in
    unread_program told c.args.job c.in-Err-Failed.number stopped c.file_of.result.now old new since c.unread.result stops rose last
    (c.file_of.ensures stopped (program_at told c.args.job c.in-Err-Failed.number stopped stops)) c.unread.ensures

pub returns-in-Err-Missing-clause-stop : goal.returns-in-Err-Missing-clause-stop
returns-in-Err-Missing-clause-stop g c =
    let told = g.K.Shelf.files c.args.shelf.now in
    let old = g.K.Shelf.counts c.args.shelf.now in
    let new = g.K.Shelf.counts c.pass_sized_programs.new.shelf in
    let since = g.K.Shelf.since_fault c.pass_sized_programs.new.shelf in
    let (stopped, stops, lacks, rose, last) = subst (λ (fault : ProgramsFault). HasReadCause told c.args.job old new since fault) c.in-Err-Missing.field-0-is c.in-Err-Missing.ensures.cause in
    missing_program told c.args.job c.in-Err-Missing.number stopped c.file_of-in-Err-Missing.result.now old new since c.missing.result stops lacks rose last
    (c.file_of-in-Err-Missing.ensures stopped (program_at told c.args.job c.in-Err-Missing.number stopped stops)) c.missing.ensures

pub returns-in-Err-Refused-clause-ends : goal.returns-in-Err-Refused-clause-ends
returns-in-Err-Refused-clause-ends g c =
    programs_end (g.K.Shelf.counts c.args.shelf.now) (g.K.Shelf.counts c.pass_sized_programs.new.shelf)
    (g.K.Shelf.since_fault c.pass_sized_programs.new.shelf) c.in-Err-Refused.field-0-is (λ no. absurd no) (λ no. absurd no) c.in-Err-Refused.ensures.ends

pub returns-in-Err-Failed-clause-ends : goal.returns-in-Err-Failed-clause-ends
returns-in-Err-Failed-clause-ends g c =
    programs_end (g.K.Shelf.counts c.args.shelf.now) (g.K.Shelf.counts c.pass_sized_programs.new.shelf)
    (g.K.Shelf.since_fault c.pass_sized_programs.new.shelf) c.in-Err-Failed.field-0-is (λ is. unread_ends c.file_of.result.now c.unread.result c.unread.ensures) (λ no. absurd no) c.in-Err-Failed.ensures.ends

pub returns-in-Err-Missing-clause-ends : goal.returns-in-Err-Missing-clause-ends
returns-in-Err-Missing-clause-ends g c =
    programs_end (g.K.Shelf.counts c.args.shelf.now) (g.K.Shelf.counts c.pass_sized_programs.new.shelf)
    (g.K.Shelf.since_fault c.pass_sized_programs.new.shelf) c.in-Err-Missing.field-0-is (λ no. absurd no) (λ is. missing_ends c.file_of-in-Err-Missing.result.now c.missing.result c.missing.ensures) c.in-Err-Missing.ensures.ends

pub returns-clause-ends : goal.returns-clause-ends
returns-clause-ends g c =
    programs_end (g.K.Shelf.counts c.args.shelf.now) (g.K.Shelf.counts c.pass_sized_programs.new.shelf)
    (g.K.Shelf.since_fault c.pass_sized_programs.new.shelf) c.in-Err-OutOfMemory.field-0-is (λ no. absurd no) (λ no. absurd no) c.in-Err-OutOfMemory.ensures.ends
