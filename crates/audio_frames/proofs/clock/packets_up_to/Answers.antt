use Rattle.std.proofs.Common.{None, below_more, arith}
use Rattle.std.proofs.lemmas.List.{get_or-map, length-map}
use Rattle.audio_frames.specs.declared.pes_start.PesStart.{PesStart}
use Rattle.audio_frames.proofs.Given.{all_behind}
use Rattle.audio_frames.proofs.clock.packets_up_to.Goals as goal

pub loop-count-preserved : goal.loop-count-preserved
loop-count-preserved c =
    let start = get_or-map (λ (start : PesStart). start.at) c.args.starts.now c.loop-count.count (record { at = 0; time = None }) 0 c.loop-count-test.true in
    record {
      begun = omega arith;
      within = omega arith;
      before = below_more _ _ c.loop-count.invariant.before (omega (arith, start, c.if-starts-count.true));
    }

pub returns-else-starts-count-clause-count : goal.returns-else-starts-count-clause-count
returns-else-starts-count-clause-count c =
    let start = get_or-map (λ (start : PesStart). start.at) c.args.starts.now c.loop-count.count (record { at = 0; time = None }) 0 c.loop-count-test.true in
    record {
      within = c.loop-count.invariant.within;
      before = c.loop-count.invariant.before;
      behind = all_behind c.args.starts.now c.args.at c.loop-count.count c.requires.rising
          (length-map c.args.starts.now (λ (start : PesStart). start.at)) (omega (arith, start, c.if-starts-count.false));
    }
