use Rattle.std.proofs.Common.{arith, length-set, ◌∙◌}
use Rattle.mux_writer.specs.Layout.{video_pid}
use Rattle.mux_writer.proofs.Pids.{with_pids-more}
use Rattle.mux_writer.proofs.layout.output_map.Goals as goal

pub loop-stream-preserved : goal.loop-stream-preserved
loop-stream-preserved c = record {
  pid = omega (arith, c.loop-stream.invariant.pid);
  size = length-set _ _ _ ∙ c.loop-stream.invariant.size;
  streams = with_pids-more (video_pid c.args.program) c.as_mut_slice-stream-items.result.now c.loop-stream.stream-items c.loop-stream.stream-index c.loop-stream.pid c.stream-item.result
      c.loop-stream-test.true c.loop-stream.invariant.pid c.loop-stream.invariant.streams;
}
