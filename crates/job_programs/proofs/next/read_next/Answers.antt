use Rattle.std.proofs.Common.{◌-◌, ◌+◌, ◌≡◌, arith}
use Rattle.program_reader.specs.declared.limits.TheConstants.{FILE_BYTES_MOST}
use Rattle.shelf_io.proofs.Counted.{never_failed}
use Rattle.job_programs.specs.Share.{KeepsShare}
use Rattle.job_programs.proofs.Ends.{ends_read, ends_so, failed_isnt_missing, memory_isnt_failed, memory_isnt_missing, missing_isnt_failed}
use Rattle.job_programs.proofs.NextLemmas.{next-on, cause-on}
use Rattle.job_programs.proofs.next.read_next.Goals as goal

pub returns-in-Ok-clause-next : goal.returns-in-Ok-clause-next
returns-in-Ok-clause-next g c =
    let w = c.args.wanted.now in
    let room : w.bytes + (FILE_BYTES_MOST - w.bytes) ≡ FILE_BYTES_MOST = omega (arith, c.requires.bytes) in
    next-on (g.K.Shelf.files c.args.shelf.now) w.file.now w.slot w.start w.bytes w.units w.form w.number w.drop.now (KeepsShare w.weight w.drift w.coarser.now) (FILE_BYTES_MOST - w.bytes) c.in-Ok.content c.as_slice.result.now
    c.from_content.result room c.in-Ok.ensures.told c.as_slice.ensures c.from_content.ensures.next c.from_content.ensures.read

pub returns-in-Ok-clause-cause : goal.returns-in-Ok-clause-cause
returns-in-Ok-clause-cause g c =
    let w = c.args.wanted.now in
    let room : w.bytes + (FILE_BYTES_MOST - w.bytes) ≡ FILE_BYTES_MOST = omega (arith, c.requires.bytes) in
    cause-on (g.K.Shelf.files c.args.shelf.now) w.file.now w.slot w.start w.bytes w.units w.form w.number w.drop.now (KeepsShare w.weight w.drift w.coarser.now) w.place (FILE_BYTES_MOST - w.bytes) c.in-Ok.content c.as_slice.result.now
    (g.K.Shelf.counts c.args.shelf.now) (g.K.Shelf.counts c.read_file.new.shelf) (g.K.Shelf.since_fault c.read_file.new.shelf)
    c.from_content.result room c.in-Ok.ensures.told c.as_slice.ensures c.from_content.ensures.fault

pub returns-in-Ok-clause-ends : goal.returns-in-Ok-clause-ends
returns-in-Ok-clause-ends g c =
    ends_so (λ is. absurd (never_failed c.in-Ok.content is)) (λ is. absurd (never_failed c.in-Ok.content is))
    (ends_read c.in-Ok.ensures.causes c.in-Ok.ensures.failed_last c.in-Ok.ensures.missing_last)

pub returns-in-Err-Failed-clause-ends : goal.returns-in-Err-Failed-clause-ends
returns-in-Err-Failed-clause-ends g c =
    ends_so (λ is. tt) (λ is. absurd (failed_isnt_missing c.in-Err-Failed.field-0 c.in-Err-Failed.field-0-is is))
    (ends_read c.in-Err-Failed.ensures.causes c.in-Err-Failed.ensures.failed_last c.in-Err-Failed.ensures.missing_last)

pub returns-in-Err-Missing-clause-ends : goal.returns-in-Err-Missing-clause-ends
returns-in-Err-Missing-clause-ends g c =
    ends_so (λ is. absurd (missing_isnt_failed c.in-Err-Missing.field-0 c.in-Err-Missing.field-0-is is)) (λ is. tt)
    (ends_read c.in-Err-Missing.ensures.causes c.in-Err-Missing.ensures.failed_last c.in-Err-Missing.ensures.missing_last)

pub returns-in-Err-OutOfMemory-clause-ends : goal.returns-in-Err-OutOfMemory-clause-ends
returns-in-Err-OutOfMemory-clause-ends g c =
    ends_so (λ is. absurd (memory_isnt_failed c.in-Err-OutOfMemory.field-0 c.in-Err-OutOfMemory.field-0-is is))
    (λ is. absurd (memory_isnt_missing c.in-Err-OutOfMemory.field-0 c.in-Err-OutOfMemory.field-0-is is))
    (ends_read c.in-Err-OutOfMemory.ensures.causes c.in-Err-OutOfMemory.ensures.failed_last c.in-Err-OutOfMemory.ensures.missing_last)
