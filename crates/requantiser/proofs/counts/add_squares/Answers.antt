use Rattle.std.proofs.Common.{◌≡◌, ◌<◌, ◌+◌, ◌∙◌, ℕ, length, get_or, ap, arith}
use Rattle.std.proofs.lemmas.List.{length-set}
use Rattle.requantiser.proofs.BlockTallies.{one_more_is}
use Rattle.requantiser.proofs.Tallies.{others_stay}
use Rattle.requantiser.proofs.counts.add_squares.Goals as goal

pub overflow_add-squares : goal.overflow_add-squares
overflow_add-squares c =
    let k : ℕ = c.loop-k.k in
    let below : k < 8 = omega (arith, c.loop-k-test.true) in
    let here : get_or c.loop-k.squares k 0 ≡ get_or c.args.squares.now k 0 = c.loop-k.invariant.stay k 0 (omega arith) in
    omega (arith, here, c.requires.room k below, c.requires.small k below)

pub loop-k-preserved : goal.loop-k-preserved
loop-k-preserved c =
    let k : ℕ = c.loop-k.k in
    let within : k < length c.loop-k.squares = omega (arith, c.loop-k-test.true, c.loop-k.invariant.len) in
    let here : get_or c.loop-k.squares k 0 ≡ get_or c.args.squares.now k 0 = c.loop-k.invariant.stay k 0 (omega arith) in
    record {
      len = length-set c.loop-k.squares k _ ∙ c.loop-k.invariant.len;
      went = one_more_is (λ j (v : ℕ). v ≡ get_or c.args.squares.now j 0 + get_or c.args.more.now j 0) c.loop-k.squares k
          (get_or c.loop-k.squares k 0 + get_or c.args.more.now k 0) within (ap (λ n. n + get_or c.args.more.now k 0) here) c.loop-k.invariant.went;
      stay = others_stay c.args.squares.now c.loop-k.squares k (get_or c.loop-k.squares k 0 + get_or c.args.more.now k 0) c.loop-k.invariant.stay;
    }

pub returns : goal.returns
returns c = λ k below. c.loop-k.invariant.went k 0 (omega (arith, below, c.loop-k-test.false))
