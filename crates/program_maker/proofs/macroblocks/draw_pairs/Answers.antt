use Rattle.std.proofs.Common.{◌≡◌, length, ap, ◌∙◌, arith}
use Rattle.program_maker.specs.Macroblocks.{run_level}
use Rattle.program_maker.proofs.Drawing.{drawn-more, number-each}
use Rattle.program_maker.proofs.macroblocks.draw_pairs.Goals as goal

pub push-requires : goal.push-requires
push-requires c =
    let size : length c.loop-i.into.items ≡ c.loop-i._i = ap length c.loop-i.invariant.0 ∙ number-each (λ _. run_level) c.loop-i._i c.args.draws.now.state in
    (omega arith, omega (arith, size, c.loop-i-test.true, c.requires))

pub loop-i-preserved : goal.loop-i-preserved
loop-i-preserved c =
    drawn-more (λ _. run_level) c.loop-i._i c.args.draws.now.state c.loop-i.into.items c.push.new.self.items c.draw_run_level.result
    c.loop-i.draws.state c.draw_run_level.new.draws.state c.loop-i.invariant c.draw_run_level.ensures.drawn c.draw_run_level.ensures.state c.push.ensures.items
