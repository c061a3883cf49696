use Rattle.std.proofs.Common.{◌+◌, arith}
use Rattle.macroblock_writer.proofs.Parts.{alone-length}
use Rattle.macroblock_writer.proofs.bit_counts.motion_and_dc_bits.Goals as goal

pub returns-clause-whole : goal.returns-clause-whole
returns-clause-whole c = λ alone. omega (arith, c.motion_bits.ensures.value, c.dc_bits.ensures.value, alone-length c.args.coding.now c.args.macroblock.now alone)
