use Rattle.std.proofs.Common.{ℕ, ◌+◌, ◌<ℤ◌, inr, arith, ℤ}
use Rattle.std.proofs.lemmas.Int.{ints}
use Rattle.multiplier_search.specs.Private.Lambda.{value_beside}
use Rattle.multiplier_search.proofs.Best.{values_concave}
use Rattle.multiplier_search.proofs.Rises.{le_beside, less_beside, rises_upto}
use Rattle.multiplier_search.proofs.at_due.between_lambda.Goals as goal

pub loop-low-preserved-then-value-next : goal.loop-low-preserved-then-value-next
loop-low-preserved-then-value-next c =
    let middle = c.next_try-middle.result in
    record {
      order = omega arith;
      most = c.loop-low.invariant.most;
      rises = λ table fixed windows from due at free room-is.
          (let value : ℕ → ℤ = value_beside table fixed windows from due in
          let here = c.between_value-value.ensures table fixed windows from due at free room-is in
          let next = c.between_value-next.ensures table fixed windows from due at free room-is in
          let rise : value middle <ℤ value (middle + 1) = less_beside _ _ _ _ _ here next (grind (arith, ints)) in
          rises_upto value (values_concave table fixed windows from due) middle rise);
      ends = c.loop-low.invariant.ends;
    }

pub loop-low-preserved : goal.loop-low-preserved
loop-low-preserved c =
    let least = c.next_try-middle.ensures.least in
    let greatest = c.next_try-middle.ensures.greatest in
    let limit = c.loop-low.invariant.most in
    record {
      order = least;
      most = omega arith;
      rises = c.loop-low.invariant.rises;
      ends = λ table fixed windows from due at free room-is.
          (let here = c.between_value-value.ensures table fixed windows from due at free room-is in
          let next = c.between_value-next.ensures table fixed windows from due at free room-is in
          inr (le_beside _ _ _ _ _ next here (omega (arith, ints, c.if-value-next.false))));
    }
