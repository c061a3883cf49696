use Rattle.std.proofs.Common.{◌≡◌, ◌<◌, ◌≤◌, ℕ, List, length, drop, refl, ap, sym, ◌∙◌, arith}
use Rattle.std.proofs.lemmas.List.{drop_all}
use Rattle.job_report.specs.declared.job.ProgramJob.{ProgramJob}
use Rattle.passed_programs.specs.declared.passed_program.PassedProgram.{PassedProgram}
use Rattle.program_reader.specs.declared.program.Program.{Program}
use Rattle.program_reader.specs.declared.unit_sizes.UnitSizes.{UnitSizes}
use Rattle.program_table.proofs.PassedRows.{program-at, read-at, sizes-at, zip-many}
use Rattle.program_table.proofs.Rows.{all-programs, one-more-program}
use Rattle.program_table.proofs.SizedRows.{job-sizes-many, job-valid}
use Rattle.program_table.proofs.passed_table.table_of_passed.Goals as goal

pub bounds-sizes-i : goal.bounds-sizes-i
bounds-sizes-i c =
    let (programs, read, off) = c.requires.read in
    let many = job-sizes-many c.args.job.now.programs programs c.args.read.now.sizes off.are_sizes in
    let zipped = zip-many programs c.args.read.now.programs off.read_off in
    let slice = ap (λ (ps : List PassedProgram). length ps) c.as_slice-programs.ensures in
    let sizes = ap (λ (ss : List (List UnitSizes)). length ss) c.as_slice-sizes.ensures in
    omega (arith, c.loop-i-test.true, many.0, many.1, zipped, slice, sizes)

pub bounds-jobs-i : goal.bounds-jobs-i
bounds-jobs-i c =
    let (programs, read, off) = c.requires.read in
    let many = job-sizes-many c.args.job.now.programs programs c.args.read.now.sizes off.are_sizes in
    let zipped = zip-many programs c.args.read.now.programs off.read_off in
    let slice = ap (λ (ps : List PassedProgram). length ps) c.as_slice-programs.ensures in
    let jobs = ap (λ (js : List ProgramJob). length js) c.as_slice-jobs.ensures in
    omega (arith, c.loop-i-test.true, many.0, zipped, slice, jobs)

pub row_of_passed_program-requires-clause-read : goal.row_of_passed_program-requires-clause-read
row_of_passed_program-requires-clause-read c =
    let (programs, read, off) = c.requires.read in
    let job = c.args.job.now in
    let own = c.index-jobs-i.result in
    let zipped = zip-many programs c.args.read.now.programs off.read_off in
    let slice = ap (λ (ps : List PassedProgram). length ps) c.as_slice-programs.ensures in
    let within : c.loop-i.i < length programs = omega (arith, c.loop-i-test.true, zipped, slice) in
    let here = program-at programs c.args.read.now.programs c.as_slice-programs.result.now c.loop-i.i c.index-programs-i.result c.as_slice-programs.ensures c.index-programs-i.is c.loop-i-test.true off.read_off in (
      job.start,
      here.program,
      own.coarser.items,
      read-at job.slot job.start job.programs programs c.loop-i.i here.program within here.item read.each,
      here.off,
      sizes-at job.programs c.as_slice-jobs.result.now programs c.args.read.now.sizes c.as_slice-sizes.result.now c.loop-i.i own here.program c.index-sizes-i.result c.as_slice-own.result.now
          c.as_slice-jobs.ensures c.as_slice-sizes.ensures c.index-jobs-i.is here.item c.index-sizes-i.is c.as_slice-own.ensures within off.are_sizes,
    )

pub row_of_passed_program-requires-clause-weight : goal.row_of_passed_program-requires-clause-weight
row_of_passed_program-requires-clause-weight c =
    let (programs, read, off) = c.requires.read in
    let many = job-sizes-many c.args.job.now.programs programs c.args.read.now.sizes off.are_sizes in
    let zipped = zip-many programs c.args.read.now.programs off.read_off in
    let slice = ap (λ (ps : List PassedProgram). length ps) c.as_slice-programs.ensures in
    (job-valid c.args.job.now.programs c.as_slice-jobs.result.now c.loop-i.i c.index-jobs-i.result c.as_slice-jobs.ensures c.index-jobs-i.is (omega (arith, c.loop-i-test.true, many.0, zipped, slice))
    c.requires.job.programs).weight

pub row_of_passed_program-requires-clause-drift : goal.row_of_passed_program-requires-clause-drift
row_of_passed_program-requires-clause-drift c =
    let (programs, read, off) = c.requires.read in
    let many = job-sizes-many c.args.job.now.programs programs c.args.read.now.sizes off.are_sizes in
    let zipped = zip-many programs c.args.read.now.programs off.read_off in
    let slice = ap (λ (ps : List PassedProgram). length ps) c.as_slice-programs.ensures in
    (job-valid c.args.job.now.programs c.as_slice-jobs.result.now c.loop-i.i c.index-jobs-i.result c.as_slice-jobs.ensures c.index-jobs-i.is (omega (arith, c.loop-i-test.true, many.0, zipped, slice))
    c.requires.job.programs).drift

pub loop-i-preserved : goal.loop-i-preserved
loop-i-preserved c = λ programs off.
    let job = c.args.job.now in
    let i = c.loop-i.i in
    let own = c.index-jobs-i.result in
    let many = job-sizes-many job.programs programs c.args.read.now.sizes off.are_sizes in
    let zipped = zip-many programs c.args.read.now.programs off.read_off in
    let slice = ap (λ (ps : List PassedProgram). length ps) c.as_slice-programs.ensures in
    let within : i < length programs = omega (arith, c.loop-i-test.true, zipped, slice) in
    let jobs_within : i < length job.programs = omega (arith, within, many.0) in
    let here = program-at programs c.args.read.now.programs c.as_slice-programs.result.now i c.index-programs-i.result c.as_slice-programs.ensures c.index-programs-i.is c.loop-i-test.true off.read_off in
    let sized = sizes-at job.programs c.as_slice-jobs.result.now programs c.args.read.now.sizes c.as_slice-sizes.result.now i own here.program c.index-sizes-i.result c.as_slice-own.result.now
    c.as_slice-jobs.ensures c.as_slice-sizes.ensures c.index-jobs-i.is here.item c.index-sizes-i.is c.as_slice-own.ensures within off.are_sizes in
    one-more-program job.programs c.as_slice-jobs.result.now programs i own own own.coarser.items here.program c.loop-i.rows c.push.new.self c.in_ok-row.row jobs_within within c.as_slice-jobs.ensures
    c.index-jobs-i.is c.index-jobs-i.is refl here.item c.in_ok-push.ensures.ok (c.loop-i.invariant programs off) (c.in_ok-row.ensures here.program own.coarser.items here.off sized)

pub returns : goal.returns
returns c = λ programs off.
    let jobs = c.args.job.now.programs in
    let many = job-sizes-many jobs programs c.args.read.now.sizes off.are_sizes in
    let zipped = zip-many programs c.args.read.now.programs off.read_off in
    let slice = ap (λ (ps : List PassedProgram). length ps) c.as_slice-programs.ensures in
    let none : length programs ≤ c.loop-i.i = omega (arith, c.loop-i-test.false, zipped, slice) in
    let no_jobs : length jobs ≤ c.loop-i.i = omega (arith, none, many.0) in
    all-programs c.args.job.now programs (drop c.loop-i.i programs) (drop c.loop-i.i jobs) _ (drop_all c.loop-i.i programs none) (drop_all c.loop-i.i jobs no_jobs) (c.loop-i.invariant programs off) refl refl refl
