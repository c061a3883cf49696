use Rattle.program_table.proofs.TableLimits.{table-valid}
use Rattle.program_table.proofs.laws.table_is_valid.Goals as goal

pub returns : goal.returns
returns c = table-valid c.versions_have_places.ensures
