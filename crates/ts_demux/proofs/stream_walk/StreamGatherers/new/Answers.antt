use Rattle.std.proofs.Common.{sym, ◌∙◌, arith}
use Rattle.ts_demux.proofs.stream_walk.StreamGatherers.new.Goals as goal

pub returns : goal.returns
returns c = (
  c.in-Ok.ensures.0,
  c.in-Ok-new_gatherers.ensures.1 ∙ sym c.in-Ok.ensures.0,
  λ file. record {
    stand = c.in-Ok.ensures.1 file;
    all = c.in-Ok-new_gatherers.ensures.0 file;
    sound = λ m fault below is. absurd (omega (arith, below));
  },
)
