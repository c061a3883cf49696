use Rattle.std.proofs.Common.{arith}
use Rattle.macroblock_reader.proofs.Macroblocks.{codes-below}
use Rattle.macroblock_reader.proofs.motion.codes_of.Goals as goal

pub returns-clause-horizontal : goal.returns-clause-horizontal
returns-clause-horizontal c = codes-below c.args.coding.now.f_code c.args.direction 0 c.requires.coding.f_code.0 c.requires.coding.f_code.1 c.requires.direction (omega arith)

pub returns-clause-vertical : goal.returns-clause-vertical
returns-clause-vertical c = codes-below c.args.coding.now.f_code c.args.direction 1 c.requires.coding.f_code.0 c.requires.coding.f_code.1 c.requires.direction (omega arith)
