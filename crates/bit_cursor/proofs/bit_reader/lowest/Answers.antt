use Rattle.std.proofs.Common.{arith}
use Rattle.bit_cursor.proofs.Words.{and_lowest}
use Rattle.bit_cursor.proofs.bit_reader.lowest.Goals as goal

pub returns : goal.returns
returns c = and_lowest c.args.word c.args.n (omega arith)
