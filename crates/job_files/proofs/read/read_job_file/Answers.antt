use Rattle.std.proofs.Common.{ap, Err, map, subst, List, ℕ, IfOk, IfErr}
use Rattle.shelf_io.proofs.Counted.{never_failed}
use Rattle.job_programs.proofs.Ends.{ends_read, ends_so, failed_isnt_missing, memory_isnt_failed, memory_isnt_missing, missing_isnt_failed}
use Rattle.job_files.specs.JobFile.{IsJobOfText}
use Rattle.job_files.specs.Private.Texts.{IsTextStop}
use Rattle.job_files.proofs.Ends.{missing_ends, unread_ends}
use Rattle.job_files.proofs.Steps.{jobs_held, missing_stops, reads_once, texts_stop, unread_stops}
use Rattle.job_files.proofs.Texts.{holds_job, holds_refused}
use Rattle.job_files.proofs.read.read_job_file.Goals as goal

pub returns-in-Ok-clause-job : goal.returns-in-Ok-clause-job
returns-in-Ok-clause-job g c =
    let told = g.K.Shelf.files c.args.shelf.now in
    let named = map (λ file. file.now) c.args.named.now in
    jobs_held told c.args.name.now c.in-Ok.text named c.job_of_text.result
    (λ job is. holds_job told c.args.name.now c.in-Ok.text named job c.in-Ok.ensures.length c.in-Ok.ensures.told is)
    (subst (λ (t : List ℕ). IfOk c.job_of_text.result (IsJobOfText t named)) c.as_slice.ensures c.job_of_text.ensures.job)

pub returns-in-Ok-clause-stop : goal.returns-in-Ok-clause-stop
returns-in-Ok-clause-stop g c =
    let told = g.K.Shelf.files c.args.shelf.now in
    let named = map (λ file. file.now) c.args.named.now in
    texts_stop told c.args.name.now c.in-Ok.text named (g.K.Shelf.counts c.args.shelf.now) (g.K.Shelf.counts c.read_file.new.shelf) (g.K.Shelf.since_fault c.read_file.new.shelf)
    c.job_of_text.result (λ refusal refused. holds_refused told c.args.name.now c.in-Ok.text named refusal c.in-Ok.ensures.length c.in-Ok.ensures.told refused)
    (subst (λ (t : List ℕ). IfErr c.job_of_text.result (IsTextStop t named)) c.as_slice.ensures c.job_of_text.ensures.stop)

pub returns-in-Ok-clause-counts : goal.returns-in-Ok-clause-counts
returns-in-Ok-clause-counts g c = reads_once c.in-Ok.ensures.causes

pub returns-in-Ok-clause-ends : goal.returns-in-Ok-clause-ends
returns-in-Ok-clause-ends g c =
    ends_so (λ is. absurd (never_failed c.in-Ok.text is)) (λ is. absurd (never_failed c.in-Ok.text is))
    (ends_read c.in-Ok.ensures.causes c.in-Ok.ensures.failed_last c.in-Ok.ensures.missing_last)

pub returns-in-Err-Failed-clause-stop : goal.returns-in-Err-Failed-clause-stop
returns-in-Err-Failed-clause-stop g c =
    unread_stops (g.K.Shelf.files c.args.shelf.now) c.args.name.now (map (λ file. file.now) c.args.named.now)
    (g.K.Shelf.counts c.args.shelf.now) (g.K.Shelf.counts c.read_file.new.shelf) (g.K.Shelf.since_fault c.read_file.new.shelf) c.unread.result
    (c.in-Err-Failed.ensures.causes.failed_rose (ap Err c.in-Err-Failed.field-0-is)) (c.in-Err-Failed.ensures.failed_last (ap Err c.in-Err-Failed.field-0-is)) c.unread.ensures

pub returns-in-Err-Failed-clause-ends : goal.returns-in-Err-Failed-clause-ends
returns-in-Err-Failed-clause-ends g c =
    ends_so (λ is. unread_ends c.args.name.now c.unread.result c.unread.ensures) (λ is. absurd (failed_isnt_missing c.in-Err-Failed.field-0 c.in-Err-Failed.field-0-is is))
    (ends_read c.in-Err-Failed.ensures.causes c.in-Err-Failed.ensures.failed_last c.in-Err-Failed.ensures.missing_last)

pub returns-in-Err-Missing-clause-stop : goal.returns-in-Err-Missing-clause-stop
returns-in-Err-Missing-clause-stop g c =
    missing_stops (g.K.Shelf.files c.args.shelf.now) c.args.name.now (map (λ file. file.now) c.args.named.now)
    (g.K.Shelf.counts c.args.shelf.now) (g.K.Shelf.counts c.read_file.new.shelf) (g.K.Shelf.since_fault c.read_file.new.shelf) c.missing.result
    (c.in-Err-Missing.ensures.lacking (ap Err c.in-Err-Missing.field-0-is)) (c.in-Err-Missing.ensures.causes.missing_rose (ap Err c.in-Err-Missing.field-0-is))
    (c.in-Err-Missing.ensures.missing_last (ap Err c.in-Err-Missing.field-0-is)) c.missing.ensures

pub returns-in-Err-Missing-clause-ends : goal.returns-in-Err-Missing-clause-ends
returns-in-Err-Missing-clause-ends g c =
    ends_so (λ is. absurd (missing_isnt_failed c.in-Err-Missing.field-0 c.in-Err-Missing.field-0-is is)) (λ is. missing_ends c.args.name.now c.missing.result c.missing.ensures)
    (ends_read c.in-Err-Missing.ensures.causes c.in-Err-Missing.ensures.failed_last c.in-Err-Missing.ensures.missing_last)

pub returns-in-Err-OutOfMemory-clause-ends : goal.returns-in-Err-OutOfMemory-clause-ends
returns-in-Err-OutOfMemory-clause-ends g c =
    ends_so (λ is. absurd (memory_isnt_failed c.in-Err-OutOfMemory.field-0 c.in-Err-OutOfMemory.field-0-is is))
    (λ is. absurd (memory_isnt_missing c.in-Err-OutOfMemory.field-0 c.in-Err-OutOfMemory.field-0-is is))
    (ends_read c.in-Err-OutOfMemory.ensures.causes c.in-Err-OutOfMemory.ensures.failed_last c.in-Err-OutOfMemory.ensures.missing_last)
