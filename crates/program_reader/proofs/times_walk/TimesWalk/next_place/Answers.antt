use Rattle.std.proofs.Common.{◌<◌, arith}
use Rattle.std.proofs.lemmas.List.Elements.{All-more}
use Rattle.program_reader.proofs.TimesWalked.{next_of}
use Rattle.program_reader.proofs.times_walk.TimesWalk.next_place.Goals as goal

pub returns-then-at-begin-clause-next : goal.returns-then-at-begin-clause-next
returns-then-at-begin-clause-next c = (omega (arith, c.if-at-begin.true), next_of c.args.places.now c.loop-self.self.place 0 (omega (arith, c.loop-self-test.true)))

pub loop-self-preserved : goal.loop-self-preserved
loop-self-preserved c = record {
  within = omega (arith, c.loop-self-test.true);
  before = All-more (λ place. place < c.args.begin) c.args.places.now c.loop-self.self.place 0 (omega (arith, c.loop-self-test.true)) c.loop-self.invariant.before (omega (arith, c.if-at-begin.false));
  packet = c.loop-self.invariant.packet;
}
