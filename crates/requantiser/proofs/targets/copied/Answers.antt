use Rattle.std.proofs.Common.{◌≡◌, ◌<◌, ◌∙◌, ℕ, length, get_or, refl, arith}
use Rattle.std.proofs.lemmas.List.{length-set}
use Rattle.requantiser.proofs.BlockTallies.{one_more_is}
use Rattle.requantiser.proofs.targets.copied.Goals as goal

pub loop-k-preserved : goal.loop-k-preserved
loop-k-preserved c =
    let k : ℕ = c.loop-k.k in
    let within : k < length c.loop-k.kept = omega (arith, c.loop-k-test.true, c.requires, c.loop-k.invariant.len) in
    record {
      len = length-set c.loop-k.kept k _ ∙ c.loop-k.invariant.len;
      went = one_more_is (λ j (v : ℕ). v ≡ get_or c.args.ratios.now j 0) c.loop-k.kept k (get_or c.args.ratios.now k 0) within refl c.loop-k.invariant.went;
    }

pub returns : goal.returns
returns c = λ k below. c.loop-k.invariant.went k 0 (omega (arith, below, c.loop-k-test.false))
