use Rattle.std.proofs.Common.{drop, arith}
use Rattle.program_reader.specs.Carry as spec
use Rattle.program_reader.proofs.CarryLemmas.{counted-more}
use Rattle.program_reader.proofs.carry.p_frames.Goals as goal

pub loop-at-preserved : goal.loop-at-preserved
loop-at-preserved c = record {
  few = omega (arith, c.loop-at.invariant.few, c.if-count-eq-FRAMES_CARRIED_MOST.false, c.p_more-count.ensures.most);
  counted = counted-more c.args.units.now c.loop-at.at _ c.loop-at.count c.p_more-count.result (spec.p_frames (drop c.args.from c.args.units.now)) c.begins_i.result c.loop-at-test.true
      c.begins_i.ensures c.if-begins_i.false c.p_more-count.ensures.value c.loop-at.invariant.counted;
}
