use Rattle.std.proofs.Common.{ℕ, ◌+◌, ◌<ℤ◌, inr, arith, ℤ}
use Rattle.std.proofs.lemmas.Int.{ints}
use Rattle.multiplier_search.specs.Private.Lambda.{value_with}
use Rattle.multiplier_search.proofs.Beside.{with-concave}
use Rattle.multiplier_search.proofs.Rises.{rises_upto}
use Rattle.multiplier_search.proofs.lambda.best_lambda.Goals as goal

pub loop-low-preserved-then-value-next : goal.loop-low-preserved-then-value-next
loop-low-preserved-then-value-next c =
    let middle = c.next_try-middle.result in
    let value : ℕ → ℤ = value_with c.args.table.now c.args.fixed.now c.args.windows.now c.args.place c.args.window.from c.args.window.due in
    let here = c.value_with-value.ensures in
    let next = c.value_with-next.ensures in
    let rise : value middle <ℤ value (middle + 1) = omega (arith, ints, c.if-value-next.true) in
    record {
      order = omega arith;
      most = c.loop-low.invariant.most;
      rises = rises_upto value (with-concave c.args.table.now c.args.fixed.now c.args.windows.now c.args.place c.args.window.from c.args.window.due c.requires.place) middle rise;
      ends = c.loop-low.invariant.ends;
    }

pub loop-low-preserved : goal.loop-low-preserved
loop-low-preserved c =
    let least = c.next_try-middle.ensures.least in
    let greatest = c.next_try-middle.ensures.greatest in
    let limit = c.loop-low.invariant.most in
    let here = c.value_with-value.ensures in
    let next = c.value_with-next.ensures in
    record {
      order = least;
      most = omega arith;
      rises = c.loop-low.invariant.rises;
      ends = inr (omega (arith, ints, c.if-value-next.false));
    }
