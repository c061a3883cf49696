use Rattle.std.proofs.Common.{◌<◌, ◌∙◌, ℕ, length, get_or, arith}
use Rattle.std.proofs.lemmas.List.{length-set}
use Rattle.requantiser.specs.Private.Lengths.{IsRow}
use Rattle.requantiser.proofs.BlockTallies.{one_more_is}
use Rattle.requantiser.proofs.ladder.rows_of.Goals as goal

pub loop-k-preserved : goal.loop-k-preserved
loop-k-preserved c =
    let within : c.loop-k.k < length c.loop-k.rows = omega (arith, c.loop-k-test.true, c.loop-k.invariant.len) in
    record {
      len = length-set c.loop-k.rows c.loop-k.k c.row_of.result ∙ c.loop-k.invariant.len;
      each = one_more_is (λ j (row : ℕ). IsRow row (get_or c.args.sizes.now j 0)) c.loop-k.rows c.loop-k.k c.row_of.result within c.row_of.ensures c.loop-k.invariant.each;
    }

pub returns : goal.returns
returns c = λ k below. c.loop-k.invariant.each k 0 (omega (arith, below, c.loop-k-test.false))
