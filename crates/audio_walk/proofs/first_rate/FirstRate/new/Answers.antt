use Rattle.std.proofs.Common.{sym, arith}
use Rattle.audio_walk.proofs.first_rate.FirstRate.new.Goals as goal

pub returns : goal.returns
returns c = (0, omega arith, sym c.new.ensures.items, λ k lt. absurd (omega (arith, lt)))
