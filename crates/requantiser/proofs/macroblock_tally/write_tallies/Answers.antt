use Rattle.std.proofs.Common.{◌<◌, ◌∙◌, length, arith}
use Rattle.std.proofs.lemmas.List.{length-set}
use Rattle.requantiser.specs.Private.Counts.{IsTheTally}
use Rattle.requantiser.proofs.BlockTallies.{one_more_is}
use Rattle.requantiser.proofs.macroblock_tally.write_tallies.Goals as goal

pub loop-k-preserved : goal.loop-k-preserved
loop-k-preserved c =
    let within : c.loop-k.k < length c.loop-k.tallies = omega (arith, c.loop-k-test.true, c.requires.count, c.loop-k.invariant.len) in
    record {
      len = length-set c.loop-k.tallies c.loop-k.k c.tally.result ∙ c.loop-k.invariant.len;
      each = one_more_is (λ j tally. IsTheTally c.args.targets.now c.args.counts.now j tally) c.loop-k.tallies c.loop-k.k c.tally.result within c.tally.ensures c.loop-k.invariant.each;
    }
