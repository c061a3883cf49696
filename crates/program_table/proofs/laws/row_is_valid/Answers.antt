use Rattle.program_table.proofs.TableLimits.{row-valid}
use Rattle.program_table.proofs.laws.row_is_valid.Goals as goal

pub returns : goal.returns
returns c = row-valid c.versions_have_places.ensures
