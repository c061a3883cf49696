use Rattle.version_table.proofs.Ends.{some_reading}
use Rattle.version_table.proofs.text_laws.some_reading.Goals as goal

pub returns : goal.returns
returns c = some_reading
