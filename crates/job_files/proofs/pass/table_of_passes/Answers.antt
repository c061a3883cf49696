use Rattle.std.proofs.Common.{refl}
use Rattle.job_files.proofs.Steps.{table_made_valid}
use Rattle.job_files.proofs.pass.table_of_passes.Goals as goal

pub returns-clause-valid : goal.returns-clause-valid
returns-clause-valid c =
    let (programs, read, off) = c.requires.read in
    table_made_valid c.table_is_valid.ensures c.args.job.now programs programs refl c.requires.job read c.table_of_passed.result (c.table_of_passed.ensures programs off)
