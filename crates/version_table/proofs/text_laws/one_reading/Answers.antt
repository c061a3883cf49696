use Rattle.version_table.proofs.Readings.{one_reading}
use Rattle.version_table.proofs.text_laws.one_reading.Goals as goal

pub returns : goal.returns
returns c = one_reading
