use Rattle.std.proofs.Common.{◌≡◌, ◌<◌, ◌+◌, ◌*◌, ◌∙◌, ℕ, length, get_or, ap₂, arith}
use Rattle.std.proofs.lemmas.List.{length-set}
use Rattle.requantiser.proofs.BlockTallies.{one_more_is}
use Rattle.requantiser.proofs.Tallies.{others_stay}
use Rattle.requantiser.proofs.block_ends.add_to_coded.Goals as goal

pub end_at-requires-clause-flag : goal.end_at-requires-clause-flag
end_at-requires-clause-flag c = c.requires.flags c.loop-k.k (omega (arith, c.loop-k-test.true))

pub overflow_add-bits : goal.overflow_add-bits
overflow_add-bits c =
    let k : ℕ = c.loop-k.k in
    let below : k < 8 = omega (arith, c.loop-k-test.true) in
    let here : get_or c.loop-k.bits k 0 ≡ get_or c.args.bits.now k 0 = c.loop-k.invariant.stay k 0 (omega arith) in
    omega (arith, here, c.requires.room k below, c.end_at.ensures.few)

pub loop-k-preserved : goal.loop-k-preserved
loop-k-preserved c =
    let k : ℕ = c.loop-k.k in
    let within : k < length c.loop-k.bits = omega (arith, c.loop-k-test.true, c.loop-k.invariant.len) in
    let here : get_or c.loop-k.bits k 0 ≡ get_or c.args.bits.now k 0 = c.loop-k.invariant.stay k 0 (omega arith) in
    record {
      len = length-set c.loop-k.bits k _ ∙ c.loop-k.invariant.len;
      went = one_more_is (λ j (v : ℕ). v ≡ get_or c.args.bits.now j 0 + c.args.end * get_or c.args.coded.now j 0) c.loop-k.bits k
          (get_or c.loop-k.bits k 0 + c.end_at.result) within (ap₂ (λ a b. a + b) here c.end_at.ensures.value) c.loop-k.invariant.went;
      stay = others_stay c.args.bits.now c.loop-k.bits k (get_or c.loop-k.bits k 0 + c.end_at.result) c.loop-k.invariant.stay;
    }

pub returns : goal.returns
returns c = λ k below. c.loop-k.invariant.went k 0 (omega (arith, below, c.loop-k-test.false))
