use Rattle.std.proofs.Common.{ap, ◌∙◌, arith, ℕ, ◌*◌, ◌+◌, ◌/◌, ◌%◌, subst, sym, ◌≡◌}
use Rattle.audio_frames.specs.Times.{frame_ticks}
use Rattle.audio_frames.proofs.Tables.{quotient_apart}
use Rattle.audio_frames.proofs.clock.ticks_of.Goals as goal

pub returns-clause-ticks : goal.returns-clause-ticks
returns-clause-ticks c =
    let same : c.from-rate.result ≡ c.args.rate = c.from-rate.ensures in
    subst (λ (d : ℕ). c.args.count * (31104000000 / d) + c.args.count * (31104000000 % d) / d ≡ frame_ticks c.args.rate c.args.count) (sym same)
    (quotient_apart c.args.count 31104000000 c.args.rate c.requires.rate.0)
