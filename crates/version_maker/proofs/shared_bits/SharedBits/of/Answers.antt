use Rattle.std.proofs.Common.{arith}
use Rattle.version_maker.proofs.shared_bits.SharedBits.of.Goals as goal

pub returns : goal.returns
returns c = record {
  motion_and_dc = c.motion_and_dc_bits-motion_and_dc.ensures.value;
  few = omega (arith, c.motion_and_dc_bits-motion_and_dc.ensures.few);
  kinds = c.of-kinds.ensures;
  stayed = c.of.ensures c.args.coding.now c.of-kinds.ensures;
}
