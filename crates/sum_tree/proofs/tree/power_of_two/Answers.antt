use Rattle.std.proofs.Common.{◌≡◌, ◌^◌, subst, arith}
use Rattle.sum_tree.proofs.Powers.{two_more, two_most}
use Rattle.sum_tree.proofs.tree.power_of_two.Goals as goal

pub overflow_mul-product : goal.overflow_mul-product
overflow_mul-product c = omega (arith, two_most c.loop-level._level (omega arith), c.loop-level.invariant)

pub loop-level-preserved : goal.loop-level-preserved
loop-level-preserved c = omega (arith, two_more c.loop-level._level, c.loop-level.invariant)

pub returns : goal.returns
returns c =
    let same : c.loop-level._level ≡ c.args.power = omega arith in
    subst (λ n. c.loop-level.product ≡ 2 ^ n) same c.loop-level.invariant
