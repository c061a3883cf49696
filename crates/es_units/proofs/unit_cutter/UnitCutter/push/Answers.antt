use Rattle.std.proofs.Common.{◌++◌, take, ◌∙◌, arith, rules}
use Rattle.es_units.specs.UnitCutter.{ended_of}
use Rattle.es_units.proofs.CutterPushes.{pushed_on}
use Rattle.es_units.proofs.unit_cutter.UnitCutter.push.Goals as goal

pub loop-count-preserved : goal.loop-count-preserved
loop-count-preserved c =
    let count = c.loop-count.count in
    let more = c.in_ok-count.field-0 in
    let step = c.in_ok-count.ensures in
    record {
      within = omega (arith, c.loop-count.invariant.within, step.within.1);
      none = λ zero. absurd (omega (arith, zero, step.within.0));
      pushed = omega (arith, c.loop-count.invariant.pushed, step.pushed);
      most = step.most ∙ c.loop-count.invariant.most;
      cut = λ pushed given has.
          pushed_on pushed given c.loop-count.self c.step.new.self c.args.piece.now count more (search rules) c.loop-count.invariant.within
          (step.cut (pushed ++ take count c.args.piece.now) (given ++ ended_of c.loop-count.self) (c.loop-count.invariant.cut pushed given has));
    }
