use Rattle.std.proofs.Common.{◌≡◌, ◌<◌, ◌∙◌, ℕ, length, get_or, arith}
use Rattle.std.specs.Prelude.{◌==◌, not}
use Rattle.std.proofs.lemmas.List.{length-set}
use Rattle.bit_lists.specs.Fields.{flag}
use Rattle.requantiser.proofs.Counted.{flag_byte}
use Rattle.requantiser.proofs.BlockTallies.{one_more_is}
use Rattle.requantiser.proofs.block_ends.coded_in.Goals as goal

pub loop-k-preserved : goal.loop-k-preserved
loop-k-preserved c =
    let k : ℕ = c.loop-k.k in
    let within : k < length c.loop-k.coded = omega (arith, c.loop-k-test.true, c.loop-k.invariant.len) in
    record {
      len = length-set c.loop-k.coded k _ ∙ c.loop-k.invariant.len;
      went = one_more_is (λ j (v : ℕ). v ≡ flag (not (get_or c.args.next.now j 0 == c.args.first))) c.loop-k.coded k c.from.result within (c.from.ensures ∙ flag_byte _) c.loop-k.invariant.went;
    }

pub returns : goal.returns
returns c = λ k below. c.loop-k.invariant.went k 0 (omega (arith, below, c.loop-k-test.false))
