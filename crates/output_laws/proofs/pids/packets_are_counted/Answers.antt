use Rattle.output_laws.proofs.Rows.{counted}
use Rattle.output_laws.proofs.pids.packets_are_counted.Goals as goal

pub returns : goal.returns
returns c layout slot pieces rows pid are = counted layout slot pieces rows are.each pid
