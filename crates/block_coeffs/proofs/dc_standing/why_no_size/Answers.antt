use Rattle.std.proofs.Common.{arith}
use Rattle.block_coeffs.proofs.Dcs.{no_size-end, no_size-none}
use Rattle.block_coeffs.proofs.dc_standing.why_no_size.Goals as goal

pub returns-then-begins_code : goal.returns-then-begins_code
returns-then-begins_code c = λ bits shows.
    no_size-end c.args.table c.requires.table c.args.window c.requires.none bits shows c.loop-size.size (c.begins_code.ensures.0 c.if-begins_code.true)

pub returns : goal.returns
returns c = λ bits shows.
    no_size-none c.args.table c.requires.table c.args.window c.requires.none bits shows (λ s lt. c.loop-size.invariant s (omega arith))
