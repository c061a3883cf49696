use Rattle.program_table.proofs.Rows.{one-table}
use Rattle.program_table.proofs.laws.one_table.Goals as goal

pub returns : goal.returns
returns c = one-table c.one_list_of_versions.ensures
