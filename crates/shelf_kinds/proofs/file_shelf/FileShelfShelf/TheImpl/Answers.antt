-- A shelf that tells no files and counts its faults exactly meets what a shelf promises.
use Rattle.std.proofs.Common.{refl, arith}
use Rattle.shelf_kinds.proofs.Counted.{if_ok, on_err, asks_uncounted, read_causes, write_causes}
use Rattle.shelf_kinds.proofs.file_shelf.FileShelfShelf.TheImpl.Goals as goal

pub read-tells : goal.read-tells
read-tells g c = record {
  count = c.ensures.count;
  held = if_ok c.result _ (λ n. tt);
  kept = c.ensures.kept;
  files = refl;
  lacking = λ is. tt;
  asked = asks_uncounted c.args.name.now _;
  causes = read_causes c.result c.args.self.now c.new.self.now c.ensures.after;
  fault_last = on_err c.result _ refl;
}

pub start-tells : goal.start-tells
start-tells g c = record {
  ok = if_ok c.result _ (λ done. refl);
  err = on_err c.result _ refl;
  asked = λ name. omega arith;
  causes = write_causes c.result c.args.self.now c.new.self.now c.ensures.never_missing c.ensures.after;
  fault_last = on_err c.result _ refl;
}

pub append-tells : goal.append-tells
append-tells g c = record {
  count = c.ensures.count;
  progress = c.ensures.progress;
  ok = if_ok c.result _ (λ n. refl);
  err = on_err c.result _ refl;
  asked = λ name. omega arith;
  causes = write_causes c.result c.args.self.now c.new.self.now c.ensures.never_missing c.ensures.after;
  fault_last = on_err c.result _ refl;
}

pub distrust-tells : goal.distrust-tells
distrust-tells g c = record {
  counted = c.ensures.after;
  files = refl;
  asked = refl;
  since = refl;
}
