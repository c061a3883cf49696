use Rattle.std.proofs.Common.{arith, ◌≤◌, ◌-◌, length}
use Rattle.std.proofs.lemmas.Grind.{common_steps}
use Rattle.shelf_io.proofs.Counted.{never_failed, unfailed}
use Rattle.shelf_io.proofs.Written.{with_bytes_twice}
use Rattle.shelf_io.proofs.sink.put_all.Goals as goal

pub loop-done-preserved : goal.loop-done-preserved
loop-done-preserved g c =
    let count : c.in_ok-done.field-0 ≤ length c.args.piece.now - c.loop-done.done = grind (arith, common_steps) in
    record {
      within = omega arith;
      told = with_bytes_twice _ _ _ c.args.piece.now c.loop-done.done c.in_ok-done.field-0 count c.loop-done.invariant.told c.in_ok-done.ensures.ok;
      faults = unfailed _ _ _ c.loop-done.invariant.faults c.in_ok-done.ensures.causes.faults_grow (λ rise. never_failed c.in_ok-done.field-0 (c.in_ok-done.ensures.only_failed rise));
      keeps = g.met.K.Sink.keeps_on _ _ _ c.loop-done.invariant.keeps c.in_ok-done.ensures.keeps;
    }
