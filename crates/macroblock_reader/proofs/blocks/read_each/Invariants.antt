use Rattle.macroblock_reader.specs.Private.Parts.{BlocksRead}
use Rattle.macroblock_reader.proofs.blocks.read_each.Given as goal

abbrev pub invariant-loop-i : goal.invariant-loop-i
invariant-loop-i g l = BlocksRead l.coding l.kind l.pattern l.i l.into l.fn.from l.from
