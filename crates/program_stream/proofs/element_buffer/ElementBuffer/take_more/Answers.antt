use Rattle.std.proofs.Common.{◌∙◌, Ok, ap, arith}
use Rattle.ts_demux.specs.SourceBuffer.{held_bytes}
use Rattle.program_stream.proofs.PassingSteps.{passes_fewer, passes_same}
use Rattle.program_stream.proofs.element_buffer.ElementBuffer.take_more.Goals as goal

pub returns-then-count-eq0-clause-end : goal.returns-then-count-eq0-clause-end
returns-then-count-eq0-clause-end g c is = (
  passes_same (g.S.Source.left c.args.source.now) (g.S.Source.left c.take_some.new.source) (g.S.Source.most c.args.source.now) (g.S.Source.most c.take_some.new.source)
      (held_bytes c.self.inside.bytes) (held_bytes c.take_some.new.self) c.in_ok-count.ensures.passes (omega (arith, c.in_ok-count.ensures.count, c.if-count-eq0.true)) ∙ c.self.view_is,
  c.in_ok-count.ensures.end (ap Ok c.if-count-eq0.true),
)

pub returns-clause-more : goal.returns-clause-more
returns-clause-more g c is =
    passes_fewer (g.S.Source.left c.args.source.now) (g.S.Source.left c.take_some.new.source) (g.S.Source.most c.args.source.now) (g.S.Source.most c.take_some.new.source) c.in_ok-count.count
    (held_bytes c.self.inside.bytes) (held_bytes c.take_some.new.self) c.in_ok-count.ensures.passes c.in_ok-count.ensures.count (omega (arith, c.if-count-eq0.false))
