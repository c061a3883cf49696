use Rattle.std.proofs.Common.{◌<◌, ◌≤◌, List, length, drop, refl, ap, arith}
use Rattle.job_report.specs.declared.job.ProgramJob.{ProgramJob}
use Rattle.std.proofs.lemmas.List.{drop_all}
use Rattle.program_table.proofs.Rows.{all-programs, one-more-program}
use Rattle.program_table.proofs.SizedRows.{job-sizes-many, job-valid, sizes-here}
use Rattle.program_table.proofs.table.table_of.Goals as goal

pub bounds-sizes-i : goal.bounds-sizes-i
bounds-sizes-i c =
    let many = job-sizes-many c.args.job.now.programs c.args.programs.now c.args.sizes.now c.requires.sizes in
    omega (arith, c.loop-i-test.true, many.0, many.1)

pub bounds-jobs-i : goal.bounds-jobs-i
bounds-jobs-i c =
    let many = job-sizes-many c.args.job.now.programs c.args.programs.now c.args.sizes.now c.requires.sizes in
    omega (arith, c.loop-i-test.true, many.0, ap (λ (jobs : List ProgramJob). length jobs) c.as_slice-jobs.ensures)

pub row_of_sized_program-requires-clause-sizes : goal.row_of_sized_program-requires-clause-sizes
row_of_sized_program-requires-clause-sizes c = (
  c.index-jobs-i.result.coarser.items,
  sizes-here c.args.job.now.programs c.as_slice-jobs.result.now c.args.programs.now c.args.sizes.now c.loop-i.i c.index-jobs-i.result c.index-programs-i.result c.index-sizes-i.result
      c.as_slice-own.result.now c.as_slice-jobs.ensures c.index-jobs-i.is c.index-programs-i.is c.index-sizes-i.is c.as_slice-own.ensures c.loop-i-test.true c.requires.sizes,
)

pub loop-i-preserved : goal.loop-i-preserved
loop-i-preserved c =
    let jobs = c.args.job.now.programs in
    let many = job-sizes-many jobs c.args.programs.now c.args.sizes.now c.requires.sizes in
    let within : c.loop-i.i < length jobs = omega (arith, c.loop-i-test.true, many.0) in
    let job = c.index-jobs-i.result in
    let sized = sizes-here jobs c.as_slice-jobs.result.now c.args.programs.now c.args.sizes.now c.loop-i.i job c.index-programs-i.result c.index-sizes-i.result
    c.as_slice-own.result.now c.as_slice-jobs.ensures c.index-jobs-i.is c.index-programs-i.is c.index-sizes-i.is c.as_slice-own.ensures c.loop-i-test.true c.requires.sizes in
    one-more-program jobs c.as_slice-jobs.result.now c.args.programs.now c.loop-i.i job job job.coarser.items c.index-programs-i.result c.loop-i.rows c.push.new.self c.in_ok-row.row within
    c.loop-i-test.true c.as_slice-jobs.ensures c.index-jobs-i.is c.index-jobs-i.is refl c.index-programs-i.is c.in_ok-push.ensures.ok c.loop-i.invariant
    (c.in_ok-row.ensures job.coarser.items sized)

pub returns : goal.returns
returns c =
    let jobs = c.args.job.now.programs in
    let many = job-sizes-many jobs c.args.programs.now c.args.sizes.now c.requires.sizes in
    let none : length jobs ≤ c.loop-i.i = omega (arith, c.loop-i-test.false, many.0) in
    all-programs c.args.job.now c.args.programs.now (drop c.loop-i.i c.args.programs.now) (drop c.loop-i.i jobs) _ (drop_all c.loop-i.i c.args.programs.now c.loop-i-test.false)
    (drop_all c.loop-i.i jobs none) c.loop-i.invariant refl refl refl

pub row_of_sized_program-requires-clause-weight : goal.row_of_sized_program-requires-clause-weight
row_of_sized_program-requires-clause-weight c =
    let many = job-sizes-many c.args.job.now.programs c.args.programs.now c.args.sizes.now c.requires.sizes in
    (job-valid c.args.job.now.programs c.as_slice-jobs.result.now c.loop-i.i c.index-jobs-i.result c.as_slice-jobs.ensures c.index-jobs-i.is (omega (arith, c.loop-i-test.true, many.0))
    c.requires.job.programs).weight

pub row_of_sized_program-requires-clause-drift : goal.row_of_sized_program-requires-clause-drift
row_of_sized_program-requires-clause-drift c =
    let many = job-sizes-many c.args.job.now.programs c.args.programs.now c.args.sizes.now c.requires.sizes in
    (job-valid c.args.job.now.programs c.as_slice-jobs.result.now c.loop-i.i c.index-jobs-i.result c.as_slice-jobs.ensures c.index-jobs-i.is
    (omega (arith, c.loop-i-test.true, many.0)) c.requires.job.programs).drift
