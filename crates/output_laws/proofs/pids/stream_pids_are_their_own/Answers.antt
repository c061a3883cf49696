use Rattle.output_laws.proofs.OwnPids.{streams-own}
use Rattle.output_laws.proofs.pids.stream_pids_are_their_own.Goals as goal

pub returns : goal.returns
returns c = streams-own
