use Rattle.std.proofs.Common.{◌+◌, ◌∙◌, refl, arith, take}
use Rattle.std.proofs.lemmas.Grind.{take-set_at}
use Rattle.std.proofs.lemmas.List.{length-set}
use Rattle.program_maker.specs.Macroblocks.{block_at}
use Rattle.program_maker.proofs.Drawing.{drawn-more}
use Rattle.program_maker.proofs.macroblocks.draw_blocks.Goals as goal

pub loop-i-preserved : goal.loop-i-preserved
loop-i-preserved c =
    let i = c.loop-i.i in
    let b = c.draw_block_at.new.into in
    let more = drawn-more (block_at c.args.kind c.args.pattern) i c.args.draws.now.state (take i c.loop-i.into) _ b
    c.loop-i.draws.state c.draw_block_at.new.draws.state (c.loop-i.invariant.0, c.loop-i.invariant.1)
    c.draw_block_at.ensures.drawn c.draw_block_at.ensures.state (take-set_at c.loop-i.into i (i + 1) b refl (omega (arith, c.loop-i.invariant.2, c.loop-i-test.true))) in
    (more.0, more.1, length-set c.loop-i.into i b ∙ c.loop-i.invariant.2)
