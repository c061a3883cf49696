use Rattle.std.proofs.Common.{ℕ, List, [], ◌∙◌, refl, sym, subst, arith}
use Rattle.ts_demux.specs.PacketBuffer.{Passes}
use Rattle.ts_demux.proofs.Passing.{passes_none, passes_twice}
use Rattle.program_stream.specs.Private.Waiting.{waiting_of}
use Rattle.program_stream.proofs.PassingSteps.{few_more, keeps_two, passes_behind}
use Rattle.program_stream.proofs.passing_elements.PassingElements.find.Goals as goal

pub loop-front-init : goal.loop-front-init
loop-front-init g c = record {
  passes = passes_none (g.S.Source.left c.args.source.now) (g.S.Source.most c.args.source.now) (waiting_of c.args.self.now);
  two = c.requires.two;
  few = c.requires.few;
  same = (refl, refl);
  faults = omega arith;
  absences = omega arith;
  keeps = g.met.S.Source.keeps_itself c.args.source.now;
}

pub loop-front-preserved : goal.loop-front-preserved
loop-front-preserved g c =
    let was = c.loop-front.invariant in
    let mid = c.pass_zeros.new.self in
    let said = c.pass_zeros.ensures in
    let more = c.in-Ok-true.ensures in
    let source = c.loop-front.source in
    let after = c.take_more.new.source in
    record {
      passes = passes_twice (g.S.Source.left c.args.source.now) (g.S.Source.left source) (g.S.Source.left after) (g.S.Source.most c.args.source.now) (g.S.Source.most source) (g.S.Source.most after)
          (waiting_of c.args.self.now) [] (waiting_of mid) [] _
          (subst (λ (held : List ℕ). Passes (g.S.Source.left c.args.source.now) (g.S.Source.left source) (g.S.Source.most c.args.source.now) (g.S.Source.most source) (waiting_of c.args.self.now) [] held)
          (sym said.waiting) was.passes)
          (passes_behind (g.S.Source.left source) (g.S.Source.left after) (g.S.Source.most source) (g.S.Source.most after) mid.zeros mid.buffer c.take_more.new.self more.passes);
      two = keeps_two (g.S.Source.left source) (g.S.Source.left after) (g.S.Source.most source) (g.S.Source.most after) mid.zeros mid.buffer c.take_more.new.self more.passes said.behind.two;
      few = few_more (g.S.Source.left source) (g.S.Source.left after) (g.S.Source.most source) (g.S.Source.most after) mid.place mid.zeros mid.buffer c.take_more.new.self more.passes
          (omega (arith, was.few, said.size, said.same.0));
      same = (said.same.0 ∙ was.same.0, said.same.1 ∙ was.same.1);
      faults = omega (arith, was.faults, more.causes.faults_grow);
      absences = omega (arith, was.absences, more.causes.absences_grow);
      keeps = g.met.S.Source.keeps_on c.args.source.now source after was.keeps more.keeps;
    }

pub returns-in-Err-take_more-clause-passes : goal.returns-in-Err-take_more-clause-passes
returns-in-Err-take_more-clause-passes g c =
    let mid = c.pass_zeros.new.self in
    let source = c.loop-front.source in
    let after = c.take_more.new.source in
    passes_twice (g.S.Source.left c.args.source.now) (g.S.Source.left source) (g.S.Source.left after) (g.S.Source.most c.args.source.now) (g.S.Source.most source) (g.S.Source.most after)
    (waiting_of c.args.self.now) [] (waiting_of mid) [] _
    (subst (λ (held : List ℕ). Passes (g.S.Source.left c.args.source.now) (g.S.Source.left source) (g.S.Source.most c.args.source.now) (g.S.Source.most source) (waiting_of c.args.self.now) [] held)
    (sym c.pass_zeros.ensures.waiting) c.loop-front.invariant.passes)
    (passes_behind (g.S.Source.left source) (g.S.Source.left after) (g.S.Source.most source) (g.S.Source.most after) mid.zeros mid.buffer c.take_more.new.self c.in-Err-take_more.ensures.passes)
