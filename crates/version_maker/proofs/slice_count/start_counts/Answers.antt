use Rattle.std.proofs.Common.{◌<◌, ◌∙◌, length, arith}
use Rattle.std.specs.Prelude.{slice_index}
use Rattle.std.proofs.lemmas.List.{length-set}
use Rattle.requantiser.proofs.BlockTallies.{one_more_is}
use Rattle.version_maker.specs.declared.slice_count.VersionCount.{VersionCount}
use Rattle.version_maker.specs.Private.Counts.{IsStartCount}
use Rattle.version_maker.proofs.slice_count.start_counts.Goals as goal

pub loop-k-preserved : goal.loop-k-preserved
loop-k-preserved c =
    let within : c.loop-k.k < length c.loop-k.counts = omega (arith, c.loop-k-test.true, c.requires.ratios, c.loop-k.invariant.len) in
    record {
      len = length-set c.loop-k.counts c.loop-k.k c.new.result ∙ c.loop-k.invariant.len;
      each = one_more_is (λ j (count : VersionCount). IsStartCount c.args.coding.now (slice_index c.args.ratios.now j) c.args.code count)
          c.loop-k.counts c.loop-k.k c.new.result within c.new.ensures c.loop-k.invariant.each;
    }
