use Rattle.std.proofs.Common.{List, sym, subst}
use Rattle.job_programs.specs.Sizes.{AreJobSizes}
use Rattle.program_reader.specs.declared.program.Program.{Program}
use Rattle.program_reader.specs.declared.unit_sizes.UnitSizes.{UnitSizes}
use Rattle.job_files.proofs.Steps.{programs_can_go, table_made_valid}
use Rattle.job_files.proofs.read.table_of_programs.Goals as goal

pub table_of-requires-clause-sizes : goal.table_of-requires-clause-sizes
table_of-requires-clause-sizes c =
    let jobs = c.args.job.now.programs in
    subst (λ (sizes : List (List UnitSizes)). AreJobSizes jobs c.as_slice.result.now sizes) (sym c.as_slice-2.ensures)
    (subst (λ (programs : List Program). AreJobSizes jobs programs c.args.read.now.sizes) (sym c.as_slice.ensures) c.requires.sizes)

pub table_of-requires-clause-sendable : goal.table_of-requires-clause-sendable
table_of-requires-clause-sendable c =
    programs_can_go c.programs_can_be_sent.ensures.read c.args.job.now c.args.read.now.programs c.as_slice.result.now c.as_slice.ensures c.requires.programs

pub returns-clause-valid : goal.returns-clause-valid
returns-clause-valid c =
    table_made_valid c.table_is_valid.ensures c.args.job.now c.args.read.now.programs c.as_slice.result.now c.as_slice.ensures c.requires.job c.requires.programs
    c.table_of.result c.table_of.ensures
