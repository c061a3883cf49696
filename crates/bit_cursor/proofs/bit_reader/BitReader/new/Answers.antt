use Rattle.bit_cursor.proofs.Left.{told_none}
use Rattle.bit_cursor.proofs.bit_reader.BitReader.new.Goals as goal

pub returns-clause-left : goal.returns-clause-left
returns-clause-left g c = told_none (g.S.Source.left c.args.source.now) 0
