-- A take of a source over bytes in memory always answers Ok.
use Rattle.std.proofs.Common.{arith}
use Rattle.shelf_io.proofs.Infallible.{if_ok, on_err, never_err, takes, takes_byte, takes_number}
use Rattle.shelf_io.proofs.slice_source.SliceSourceSource.TheImpl.Goals as goal

pub take-tells : goal.take-tells
take-tells g c = record {
  count = if_ok c.result _ c.ensures.count;
  told = if_ok c.result _ c.ensures.fills;
  kept = on_err c.result _ _ c.ensures.count;
  ok = takes c.result c.args.self.now c.new.self.now c.args.buf.now c.new.buf.now c.ensures.bounded c.ensures.fills c.ensures.taken;
  err = on_err c.result _ _ c.ensures.count;
  within = omega arith;
  causes = record {
    failed_rose = λ is. absurd (never_err c.result _ _ c.ensures.count is);
    missing_rose = λ is. absurd (never_err c.result _ _ c.ensures.count is);
    faults_grow = omega arith;
    absences_grow = omega arith;
  };
  keeps = tt;
}

pub take_byte-tells : goal.take_byte-tells
take_byte-tells g c = record {
  told = if_ok c.result _ c.ensures.first;
  ok = takes_byte c.result c.args.self.now c.new.self.now c.ensures.bounded c.ensures.first c.ensures.taken;
  err = on_err c.result _ _ c.ensures.first;
  causes = record {
    failed_rose = λ is. absurd (never_err c.result _ _ c.ensures.first is);
    missing_rose = λ is. absurd (never_err c.result _ _ c.ensures.first is);
    faults_grow = omega arith;
    absences_grow = omega arith;
  };
  keeps = tt;
}

pub take_number-tells : goal.take_number-tells
take_number-tells g c = record {
  told = if_ok c.result _ c.ensures.front;
  below = if_ok c.result _ c.ensures.below;
  ok = takes_number c.result c.args.self.now c.new.self.now c.args.count c.ensures.bounded c.requires.few c.ensures.enough c.ensures.taken;
  err = on_err c.result _ _ c.ensures.front;
  causes = record {
    failed_rose = λ is. absurd (never_err c.result _ _ c.ensures.front is);
    missing_rose = λ is. absurd (never_err c.result _ _ c.ensures.front is);
    faults_grow = omega arith;
    absences_grow = omega arith;
  };
  keeps = tt;
}
