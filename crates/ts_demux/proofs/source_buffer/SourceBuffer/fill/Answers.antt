use Rattle.std.proofs.Common.{[], refl, ◌∙◌, arith}
use Rattle.ts_demux.proofs.Passing.{passes_none, passes_twice}
use Rattle.ts_demux.specs.SourceBuffer.{held_bytes}
use Rattle.ts_demux.proofs.source_buffer.SourceBuffer.fill.Goals as goal

pub loop-self-init : goal.loop-self-init
loop-self-init g c = record {
  room = refl;
  passes = passes_none (g.S.Source.left c.args.source.now) (g.S.Source.most c.args.source.now) (held_bytes c.args.self.now);
  faults = omega arith;
  absences = omega arith;
  keeps = g.met.S.Source.keeps_itself c.args.source.now;
}

pub loop-self-preserved : goal.loop-self-preserved
loop-self-preserved g c = record {
  room = c.in_ok-count.ensures.room ∙ c.loop-self.invariant.room;
  passes = passes_twice (g.S.Source.left c.args.source.now) (g.S.Source.left c.loop-self.source) (g.S.Source.left c.take_some.new.source)
      (g.S.Source.most c.args.source.now) (g.S.Source.most c.loop-self.source) (g.S.Source.most c.take_some.new.source)
      (held_bytes c.args.self.now) [] (held_bytes c.loop-self.self) [] (held_bytes c.take_some.new.self) c.loop-self.invariant.passes c.in_ok-count.ensures.passes;
  faults = omega (arith, c.in_ok-count.ensures.causes.faults_grow, c.loop-self.invariant.faults);
  absences = omega (arith, c.in_ok-count.ensures.causes.absences_grow, c.loop-self.invariant.absences);
  keeps = g.met.S.Source.keeps_on _ _ _ c.loop-self.invariant.keeps c.in_ok-count.ensures.keeps;
}

pub returns-in_err-count-clause-passes : goal.returns-in_err-count-clause-passes
returns-in_err-count-clause-passes g c =
    passes_twice (g.S.Source.left c.args.source.now) (g.S.Source.left c.loop-self.source) (g.S.Source.left c.take_some.new.source)
    (g.S.Source.most c.args.source.now) (g.S.Source.most c.loop-self.source) (g.S.Source.most c.take_some.new.source)
    (held_bytes c.args.self.now) [] (held_bytes c.loop-self.self) [] (held_bytes c.take_some.new.self) c.loop-self.invariant.passes c.in_err-count.ensures.passes

pub returns-then-count-eq0-clause-passes : goal.returns-then-count-eq0-clause-passes
returns-then-count-eq0-clause-passes g c =
    passes_twice (g.S.Source.left c.args.source.now) (g.S.Source.left c.loop-self.source) (g.S.Source.left c.take_some.new.source)
    (g.S.Source.most c.args.source.now) (g.S.Source.most c.loop-self.source) (g.S.Source.most c.take_some.new.source)
    (held_bytes c.args.self.now) [] (held_bytes c.loop-self.self) [] (held_bytes c.take_some.new.self) c.loop-self.invariant.passes c.in_ok-count.ensures.passes
