use Rattle.gen_command.proofs.OneStatus as statuses
use Rattle.gen_command.proofs.laws.gen_calls_for_one.Goals as goal

pub returns : goal.returns
returns c = statuses.gen_calls_for_one
