use Rattle.std.proofs.Common.{arith}
use Rattle.std.proofs.lemmas.Int.{ints}
use Rattle.multiplier_search.proofs.Steps.{changed-next, changes-more, greater-next}
use Rattle.multiplier_search.proofs.changes.best_change.Goals as goal

pub loop-place-preserved : goal.loop-place-preserved
loop-place-preserved c =
    let table = c.args.table.now in
    let fixed = c.args.fixed.now in
    let start = c.args.start.now in
    let place = c.loop-place.place in
    let before = c.loop-place.best.items in
    let changed = c.replaced-changed.result.items in
    let best = c.of_greater_value-best.result.items in
    let greater = c.of_greater_value-best.ensures in
    let value = c.loop-place.invariant.value in
    let first = greater.first in
    record {
      next = greater-next table fixed start 0 before changed best c.loop-place.invariant.next
          (changed-next start changed place _ c.best_lambda-lambda.result c.loop-place-test.true c.replaced-changed.ensures c.best_lambda-lambda.ensures.most c.requires.searched) greater;
      value = omega (arith, ints);
      changes = changes-more table fixed start before changed best place _ c.best_lambda-lambda.result c.loop-place-test.true c.loop-place.invariant.changes c.best_lambda-lambda.ensures.rises
          c.best_lambda-lambda.ensures.ends c.replaced-changed.ensures greater;
    }
