use Rattle.std.proofs.Common.{◌≡◌, ◌<◌, ◌≤◌, length, get_or, arith}
use Rattle.syntax_types.specs.declared.block.Block.{Block}
use Rattle.requantiser.proofs.Patterns.{bit_of, bit_of-code, bit_of-most, one_block_bit, one_bit_more, only_pattern}
use Rattle.requantiser.proofs.macroblock.pattern_of.Goals as goal

pub loop-block-preserved : goal.loop-block-preserved
loop-block-preserved c =
    let within : c.loop-block.block-index < length c.args.blocks.now = omega (arith, c.loop-block-test.true, c.type_inv.blocks) in
    let block : Block = get_or c.args.blocks.now c.loop-block.block-index c.block-item.result in
    let bit : c.from.result ≡ bit_of block = bit_of-code block c.is_empty.result c.from.result c.is_empty.ensures c.from.ensures in
    let most : c.from.result ≤ 1 = omega (arith, bit, bit_of-most block) in
    record {
      rest = one_block_bit c.loop-block.pattern c.from.result c.loop-block.block-index c.args.blocks.now c.block-item.result _ within c.type_inv.blocks bit c.loop-block.invariant.rest;
      bits = one_bit_more c.loop-block.pattern c.from.result c.loop-block.block-index c.loop-block.invariant.bits most;
    }

pub returns-clause-value : goal.returns-clause-value
returns-clause-value c =
    only_pattern c.loop-block.pattern c.loop-block.block-index c.args.blocks.now _ (omega (arith, c.loop-block-test.false, c.type_inv.blocks)) c.type_inv.blocks c.loop-block.invariant.rest
