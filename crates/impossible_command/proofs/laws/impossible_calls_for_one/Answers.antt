use Rattle.impossible_command.proofs.OneStatus as one
use Rattle.impossible_command.proofs.laws.impossible_calls_for_one.Goals as goal

pub returns : goal.returns
returns c = one.impossible_calls_for_one c.one_reading.ensures
