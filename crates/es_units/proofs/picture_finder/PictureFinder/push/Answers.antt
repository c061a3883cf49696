use Rattle.std.proofs.Common.{◌++◌, None, refl, take, arith, rules}
use Rattle.es_units.specs.PictureFinder.{found_of}
use Rattle.es_units.proofs.PicturesFound.{found_on, found_still}
use Rattle.es_units.proofs.picture_finder.PictureFinder.push.Goals as goal

pub loop-count-init : goal.loop-count-init
loop-count-init c = record {
  within = omega arith;
  none = λ _. refl;
  pushed = omega arith;
  found = λ pushed found has. found_still pushed found c.args.self.now (record { pushed = c.args.self.now.pushed; tail = c.args.self.now.tail; group = c.args.self.now.group; found = None }) refl refl refl refl has;
}

pub loop-count-preserved : goal.loop-count-preserved
loop-count-preserved c =
    let count = c.loop-count.count in
    let more = c.step-count.result in
    let step = c.step-count.ensures in
    record {
      within = omega (arith, c.loop-count.invariant.within, step.within.1);
      none = λ zero. absurd (omega (arith, zero, step.within.0));
      pushed = omega (arith, c.loop-count.invariant.pushed, step.pushed);
      found = λ pushed found has.
          found_on pushed found c.loop-count.self c.step-count.new.self c.args.piece.now count more (search rules) c.loop-count.invariant.within
          (step.found (pushed ++ take count c.args.piece.now) (found ++ found_of c.loop-count.self) (c.loop-count.invariant.found pushed found has));
    }
