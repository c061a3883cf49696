use Rattle.shelf_io.proofs.Counted.{never_failed}
use Rattle.job_programs.proofs.AloneLemmas.{alone-cause, alone-on}
use Rattle.job_programs.proofs.Ends.{ends_read, ends_so, failed_isnt_missing, memory_isnt_failed, memory_isnt_missing, missing_isnt_failed}
use Rattle.job_programs.proofs.alone.read_alone.Goals as goal

pub returns-in-Ok-clause-program : goal.returns-in-Ok-clause-program
returns-in-Ok-clause-program g c =
    alone-on (g.K.Shelf.files c.args.shelf.now) c.args.name.now c.args.slot c.args.start c.args.number c.in-Ok.content c.alone_in.result
    c.in-Ok.ensures.length c.in-Ok.ensures.told c.alone_in.ensures.program

pub returns-in-Ok-clause-cause : goal.returns-in-Ok-clause-cause
returns-in-Ok-clause-cause g c =
    alone-cause (g.K.Shelf.files c.args.shelf.now) c.args.name.now c.args.slot c.args.start c.args.number c.in-Ok.content
    (g.K.Shelf.counts c.args.shelf.now) (g.K.Shelf.counts c.read_file.new.shelf) (g.K.Shelf.since_fault c.read_file.new.shelf) c.alone_in.result
    c.in-Ok.ensures.length c.in-Ok.ensures.told c.alone_in.ensures.fault

pub returns-in-Ok-clause-ends : goal.returns-in-Ok-clause-ends
returns-in-Ok-clause-ends g c =
    ends_so (λ is. absurd (never_failed c.in-Ok.content is)) (λ is. absurd (never_failed c.in-Ok.content is))
    (ends_read c.in-Ok.ensures.causes c.in-Ok.ensures.failed_last c.in-Ok.ensures.missing_last)

pub returns-in-Err-Failed-clause-ends : goal.returns-in-Err-Failed-clause-ends
returns-in-Err-Failed-clause-ends g c =
    ends_so (λ is. tt) (λ is. absurd (failed_isnt_missing c.in-Err-Failed.field-0 c.in-Err-Failed.field-0-is is))
    (ends_read c.in-Err-Failed.ensures.causes c.in-Err-Failed.ensures.failed_last c.in-Err-Failed.ensures.missing_last)

pub returns-in-Err-Missing-clause-ends : goal.returns-in-Err-Missing-clause-ends
returns-in-Err-Missing-clause-ends g c =
    ends_so (λ is. absurd (missing_isnt_failed c.in-Err-Missing.field-0 c.in-Err-Missing.field-0-is is)) (λ is. tt)
    (ends_read c.in-Err-Missing.ensures.causes c.in-Err-Missing.ensures.failed_last c.in-Err-Missing.ensures.missing_last)

pub returns-in-Err-OutOfMemory-clause-ends : goal.returns-in-Err-OutOfMemory-clause-ends
returns-in-Err-OutOfMemory-clause-ends g c =
    ends_so (λ is. absurd (memory_isnt_failed c.in-Err-OutOfMemory.field-0 c.in-Err-OutOfMemory.field-0-is is))
    (λ is. absurd (memory_isnt_missing c.in-Err-OutOfMemory.field-0 c.in-Err-OutOfMemory.field-0-is is))
    (ends_read c.in-Err-OutOfMemory.ensures.causes c.in-Err-OutOfMemory.ensures.failed_last c.in-Err-OutOfMemory.ensures.missing_last)
