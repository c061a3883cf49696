use Rattle.std.proofs.Common.{◌≡◌, ◌+◌, ◌++◌, length, take, drop}
use Rattle.mux_writer.specs.Layout.{video_pid, with_pids_from}
use Rattle.mux_writer.proofs.layout.output_map.Given as goal

abbrev pub invariant-loop-stream : goal.invariant-loop-stream
invariant-loop-stream l = record {
  pid : l.pid ≡ video_pid l.program + l.stream-index;
  size : length l.stream-items ≡ length l.initial.stream-items;
  streams : l.stream-items ≡ with_pids_from (video_pid l.program) (take l.stream-index l.initial.stream-items) ++ drop l.stream-index l.initial.stream-items;
}
