use Rattle.macroblock_reader.specs.Private.Parts.{EscapesRead}
use Rattle.macroblock_reader.proofs.address.read_increment.Given as goal

abbrev pub invariant-escapes : goal.invariant-escapes
invariant-escapes g l = EscapesRead l.fn.most l.left l.fn.from l.from

abbrev pub decreases-escapes : goal.decreases-escapes
decreases-escapes g l = l.left
