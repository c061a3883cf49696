use Rattle.std.proofs.Common.{◌<◌, ◌≤◌, ℕ, subst, arith}
use Rattle.ts_demux.proofs.CarriedMapSteps.{refused_carry, refused_long, refused_many}
use Rattle.ts_demux.proofs.carried_map.streams_of.Goals as goal

pub returns-in-Err : goal.returns-in-Err
returns-in-Err c = refused_carry c.args.drop.now c.args.whole c.in-Err.fault c.in-Err.ensures

pub returns-then-len-gt-STREAMS_CARRIED : goal.returns-then-len-gt-STREAMS_CARRIED
returns-then-len-gt-STREAMS_CARRIED c =
    refused_many c.args.drop.now c.args.whole c.in-Ok.carried c.in-Ok.ensures (omega (arith, c.len.ensures.value, c.if-len-gt-STREAMS_CARRIED.true))

pub returns-then-pmt_length-gt-PACKET_SECTION_BYTES : goal.returns-then-pmt_length-gt-PACKET_SECTION_BYTES
returns-then-pmt_length-gt-PACKET_SECTION_BYTES c =
    refused_long c.args.drop.now c.args.whole c.in-Ok.carried c.in-Ok.ensures (omega (arith, c.len.ensures.value, c.if-len-gt-STREAMS_CARRIED.false))
    (subst (λ (n : ℕ). 183 < n) c.pmt_length.ensures c.if-pmt_length-gt-PACKET_SECTION_BYTES.true)

pub returns : goal.returns
returns c = record {
  carried_is = c.in-Ok.ensures;
  few = omega (arith, c.len.ensures.value, c.if-len-gt-STREAMS_CARRIED.false);
  short = subst (λ (n : ℕ). n ≤ 183) c.pmt_length.ensures c.if-pmt_length-gt-PACKET_SECTION_BYTES.false;
}
