use Rattle.std.proofs.Common.{◌≡◌, ◌<◌, ◌+◌, ◌*◌, ◌∙◌, ℕ, length, get_or, ap, arith}
use Rattle.std.proofs.lemmas.List.{length-set}
use Rattle.requantiser.proofs.BlockTallies.{one_more_is}
use Rattle.requantiser.proofs.Tallies.{others_stay}
use Rattle.requantiser.proofs.block_ends.add_blocks.Goals as goal

pub loop-k-preserved : goal.loop-k-preserved
loop-k-preserved c =
    let k : ℕ = c.loop-k.k in
    let within : k < length c.loop-k.patterns = omega (arith, c.loop-k-test.true, c.loop-k.invariant.len) in
    let here : get_or c.loop-k.patterns k 0 ≡ get_or c.args.patterns.now k 0 = c.loop-k.invariant.stay k 0 (omega arith) in
    let value : ℕ = 2 * get_or c.loop-k.patterns k 0 + get_or c.args.coded.now k 0 in
    record {
      len = length-set c.loop-k.patterns k _ ∙ c.loop-k.invariant.len;
      went = one_more_is (λ j (v : ℕ). v ≡ 2 * get_or c.args.patterns.now j 0 + get_or c.args.coded.now j 0) c.loop-k.patterns k
          value within (ap (λ n. 2 * n + get_or c.args.coded.now k 0) here) c.loop-k.invariant.went;
      stay = others_stay c.args.patterns.now c.loop-k.patterns k value c.loop-k.invariant.stay;
    }

pub returns : goal.returns
returns c = λ k below. c.loop-k.invariant.went k 0 (omega (arith, below, c.loop-k-test.false))
