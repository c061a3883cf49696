use Rattle.std.proofs.Common.{◌≡◌, ◌+◌, ◌-◌, ◌≤◌, None, refl, sym, subst, arith}
use Rattle.passed_programs.specs.PassedFile.{stop_of}
use Rattle.program_reader.specs.declared.limits.TheConstants.{FILE_BYTES_MOST}
use Rattle.job_programs.specs.declared.source_fault.ProgramsFault.{ProgramsFault}
use Rattle.job_programs.specs.Private.Next.{HasNextCause}
use Rattle.job_programs.specs.Share.{KeepsShare}
use Rattle.job_programs.specs.Told.{EndsFailed, EndsMissing, ReadsEnd}
use Rattle.job_programs.proofs.PassedLemmas.{cause-fault, cause-limits, few-bytes, few-units, next-passed, sized-off}
use Rattle.job_programs.proofs.PassedSteps.{asks_short, counts_read, ends_fault, ends_none}
use Rattle.job_programs.proofs.passed_next.pass_next.Goals as goal

pub within_limits-requires-clause-sized : goal.within_limits-requires-clause-sized
within_limits-requires-clause-sized g c =
    let is = c.in-Ok.ensures.program in
    (is.program, sized-off _ _ _ _ _ refl is)

pub returns-in-Ok-clause-next : goal.returns-in-Ok-clause-next
returns-in-Ok-clause-next g c =
    let w = c.args.wanted.now in
    let room : w.bytes + (FILE_BYTES_MOST - w.bytes) ≡ FILE_BYTES_MOST = omega (arith, c.requires.bytes) in
    let is = c.in-Ok.ensures.program in
    next-passed (g.K.Shelf.files c.args.shelf.now) w.file.now w.slot w.start w.bytes w.units w.form w.number w.drop.now w.weight w.drift (FILE_BYTES_MOST - w.bytes) _ c.in-Ok.passed c.within_limits.result
    room refl is (c.within_limits.ensures.kept is.program (sized-off _ _ _ _ _ refl is))

pub returns-in-Ok-clause-cause : goal.returns-in-Ok-clause-cause
returns-in-Ok-clause-cause g c =
    let w = c.args.wanted.now in
    let room : w.bytes + (FILE_BYTES_MOST - w.bytes) ≡ FILE_BYTES_MOST = omega (arith, c.requires.bytes) in
    let is = c.in-Ok.ensures.program in
    cause-limits (g.K.Shelf.files c.args.shelf.now) w.file.now w.slot w.start w.bytes w.units w.form w.number w.drop.now (KeepsShare w.weight w.drift w.coarser.now) w.place (FILE_BYTES_MOST - w.bytes) _
    c.in-Ok.passed (g.K.Shelf.counts c.args.shelf.now) (g.K.Shelf.counts c.pass_program.new.shelf) (g.K.Shelf.since_fault c.pass_program.new.shelf) c.within_limits.result room is
    (c.within_limits.ensures.refused is.program (sized-off _ _ _ _ _ refl is))

pub returns-in-Ok-clause-few_bytes : goal.returns-in-Ok-clause-few_bytes
returns-in-Ok-clause-few_bytes g c =
    let w = c.args.wanted.now in
    few-bytes (g.K.Shelf.files c.args.shelf.now) w.file.now w.slot w.start w.bytes w.units w.form w.number w.drop.now w.weight w.drift w.coarser.now c.within_limits.result
    (returns-in-Ok-clause-next g c)

pub returns-in-Ok-clause-few_units : goal.returns-in-Ok-clause-few_units
returns-in-Ok-clause-few_units g c =
    let w = c.args.wanted.now in
    few-units (g.K.Shelf.files c.args.shelf.now) w.file.now w.slot w.start w.bytes w.units w.form w.number w.drop.now w.weight w.drift w.coarser.now c.within_limits.result
    (returns-in-Ok-clause-next g c)

pub returns-in-Ok-clause-files : goal.returns-in-Ok-clause-files
returns-in-Ok-clause-files g c = c.in-Ok.ensures.reads.same_files

pub returns-in-Ok-clause-asked : goal.returns-in-Ok-clause-asked
returns-in-Ok-clause-asked g c =
    let w = c.args.wanted.now in
    asks_short w.file.now ((FILE_BYTES_MOST - w.bytes) + 1) (FILE_BYTES_MOST + 1) (g.K.Shelf.asked c.args.shelf.now) (g.K.Shelf.asked c.pass_program.new.shelf) (omega arith) c.in-Ok.ensures.reads.asks

pub returns-in-Ok-clause-counts : goal.returns-in-Ok-clause-counts
returns-in-Ok-clause-counts g c =
    counts_read None (g.K.Shelf.files c.args.shelf.now) c.args.wanted.now.file.now (g.K.Shelf.counts c.args.shelf.now) (g.K.Shelf.counts c.pass_program.new.shelf)
    (g.K.Shelf.since_fault c.pass_program.new.shelf) c.in-Ok.ensures.reads.same_write_faults c.in-Ok.ensures.reads.stops

pub returns-in-Ok-clause-ends : goal.returns-in-Ok-clause-ends
returns-in-Ok-clause-ends g c =
    ends_none (g.K.Shelf.counts c.args.shelf.now) (g.K.Shelf.counts c.pass_program.new.shelf) (g.K.Shelf.since_fault c.pass_program.new.shelf) c.in-Ok.ensures.reads.stops

pub returns-in-Err-clause-cause : goal.returns-in-Err-clause-cause
returns-in-Err-clause-cause g c =
    let w = c.args.wanted.now in
    let room : w.bytes + (FILE_BYTES_MOST - w.bytes) ≡ FILE_BYTES_MOST = omega (arith, c.requires.bytes) in
    let told = g.K.Shelf.files c.args.shelf.now in
    let old = g.K.Shelf.counts c.args.shelf.now in
    let new = g.K.Shelf.counts c.pass_program.new.shelf in
    let since = g.K.Shelf.since_fault c.pass_program.new.shelf in
    subst (λ (said : ProgramsFault). HasNextCause told w.file.now w.slot w.start w.bytes w.units w.form w.number w.drop.now (KeepsShare w.weight w.drift w.coarser.now) w.place old new since said)
    (sym c.fault_at.ensures)
    (cause-fault told w.file.now w.slot w.start w.bytes w.units w.form w.number w.drop.now (KeepsShare w.weight w.drift w.coarser.now) w.place (FILE_BYTES_MOST - w.bytes) old new since c.in-Err.fault room
    c.in-Err.ensures.refused c.in-Err.ensures.reads.stops)

pub returns-in-Err-clause-files : goal.returns-in-Err-clause-files
returns-in-Err-clause-files g c = c.in-Err.ensures.reads.same_files

pub returns-in-Err-clause-asked : goal.returns-in-Err-clause-asked
returns-in-Err-clause-asked g c =
    let w = c.args.wanted.now in
    asks_short w.file.now ((FILE_BYTES_MOST - w.bytes) + 1) (FILE_BYTES_MOST + 1) (g.K.Shelf.asked c.args.shelf.now) (g.K.Shelf.asked c.pass_program.new.shelf) (omega arith) c.in-Err.ensures.reads.asks

pub returns-in-Err-clause-counts : goal.returns-in-Err-clause-counts
returns-in-Err-clause-counts g c =
    counts_read (stop_of c.in-Err.fault) (g.K.Shelf.files c.args.shelf.now) c.args.wanted.now.file.now (g.K.Shelf.counts c.args.shelf.now) (g.K.Shelf.counts c.pass_program.new.shelf)
    (g.K.Shelf.since_fault c.pass_program.new.shelf) c.in-Err.ensures.reads.same_write_faults c.in-Err.ensures.reads.stops

pub returns-in-Err-clause-ends : goal.returns-in-Err-clause-ends
returns-in-Err-clause-ends g c =
    let old = g.K.Shelf.counts c.args.shelf.now in
    let new = g.K.Shelf.counts c.pass_program.new.shelf in
    let since = g.K.Shelf.since_fault c.pass_program.new.shelf in
    subst (λ (said : ProgramsFault). ReadsEnd (EndsFailed said) (EndsMissing said) old new since) (sym c.fault_at.ensures)
    (ends_fault c.args.wanted.now.place c.in-Err.fault (g.K.Shelf.files c.args.shelf.now) c.args.wanted.now.file.now old new since c.in-Err.ensures.reads.stops)
