use Rattle.std.proofs.Common.{arith}
use Rattle.std.proofs.lemmas.Grind.{common_steps}
use Rattle.shelf_io.proofs.Taken.{takes_twice, after_front, fills_more, few_more, full_or_end}
use Rattle.shelf_io.proofs.source.take_full.Goals as goal

pub loop-done-preserved : goal.loop-done-preserved
loop-done-preserved g c = record {
  within = grind (arith, common_steps);
  taken = takes_twice _ _ _ _ _ _ _ _ c.loop-done.invariant.taken c.in_ok-count.ensures.ok;
  front = after_front (g.S.Source.left c.args.source.now) (g.S.Source.left c.loop-done.source) c.loop-done.done _ _ _ c.loop-done.invariant.taken.rest
      c.loop-done.invariant.front c.in_ok-count.ensures.told (λ bytes before fills. (
        fills_more bytes c.args.buf.now c.loop-done.buf c.take.new.buf c.loop-done.done c.in_ok-count.count before.1 before.0 fills,
        few_more bytes c.args.buf.now c.loop-done.buf c.take.new.buf c.loop-done.done c.in_ok-count.count before.1 before.0 fills,
      ));
  faults = omega (arith, c.in_ok-count.ensures.causes.faults_grow, c.loop-done.invariant.faults);
  absences = omega (arith, c.in_ok-count.ensures.causes.absences_grow, c.loop-done.invariant.absences);
  keeps = g.met.S.Source.keeps_on _ _ _ c.loop-done.invariant.keeps c.in_ok-count.ensures.keeps;
}

pub returns-then-count-eq0-clause-told : goal.returns-then-count-eq0-clause-told
returns-then-count-eq0-clause-told g c = after_front (g.S.Source.left c.args.source.now)
    (g.S.Source.left c.loop-done.source) c.loop-done.done _ _ _ c.loop-done.invariant.taken.rest c.loop-done.invariant.front
    c.in_ok-count.ensures.told (λ bytes before fills.
    full_or_end bytes c.args.buf.now c.loop-done.buf c.take.new.buf c.loop-done.done before.1 c.loop-done-test.true c.loop-done.auto.buf before.0 (rw c.if-count-eq0.true at fills))
