-- A sink that tells nothing and counts its faults exactly meets what a sink promises.
use Rattle.std.proofs.Common.{refl}
use Rattle.shelf_kinds.proofs.Counted.{if_ok, on_err, put_causes, put_only_failed}
use Rattle.shelf_kinds.proofs.out_sink.OutSinkSink.TheImpl.Goals as goal

pub put-tells : goal.put-tells
put-tells g c = record {
  count = c.ensures.count;
  progress = c.ensures.progress;
  ok = if_ok c.result _ (λ n. refl);
  err = on_err c.result _ refl;
  causes = put_causes (λ faults. faults) c.result c.args.self.now c.new.self.now c.ensures.never_missing c.ensures.after;
  only_failed = put_only_failed c.result c.args.self.now c.new.self.now c.ensures.never_missing c.ensures.after;
  fault_last = on_err c.result _ refl;
  keeps = tt;
}
