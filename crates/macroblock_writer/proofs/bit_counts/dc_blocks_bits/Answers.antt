use Rattle.std.proofs.Common.{◌≡◌, ◌+◌, ◌-◌, ◌∙◌, length, ap, arith}
use Rattle.std.specs.List.{flat_map, range_with_len}
use Rattle.macroblock_writer.proofs.Counts.{one_number_counted}
use Rattle.macroblock_writer.proofs.bit_counts.dc_blocks_bits.Invariants.{dc_of}
use Rattle.macroblock_writer.proofs.bit_counts.dc_blocks_bits.Goals as goal

pub loop-i-preserved : goal.loop-i-preserved
loop-i-preserved c =
    let written = dc_of c.args.coding.now c.args.macroblock.now in
    let all = length (flat_map written (range_with_len 0 6)) in
    record {
      rest = ap (λ n. c.loop-i.bits + n + length (flat_map written (range_with_len (c.loop-i.i + 1) (6 - (c.loop-i.i + 1))))) c.dc_bits_at-bits.ensures.value
          ∙ one_number_counted written 6 c.loop-i.i c.loop-i.bits all c.loop-i.invariant.rest (omega (arith, c.loop-i-test.true));
      few = omega (arith, c.loop-i.invariant.few, c.dc_bits_at-bits.ensures.few);
    }
