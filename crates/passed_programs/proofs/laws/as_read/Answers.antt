use Rattle.passed_programs.proofs.OfFile.{are_read}
use Rattle.passed_programs.proofs.laws.as_read.Goals as goal

pub returns : goal.returns
returns c = are_read
