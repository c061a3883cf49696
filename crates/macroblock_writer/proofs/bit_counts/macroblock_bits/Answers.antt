use Rattle.std.proofs.Common.{◌+◌, arith}
use Rattle.macroblock_writer.proofs.Parts.{parts-length}
use Rattle.macroblock_writer.proofs.bit_counts.macroblock_bits.Goals as goal

pub returns-clause-value : goal.returns-clause-value
returns-clause-value c = omega (arith, c.head_bits.ensures.value, c.motion_bits.ensures.value, c.blocks_bits.ensures.value, parts-length c.args.coding.now c.args.macroblock.now)
