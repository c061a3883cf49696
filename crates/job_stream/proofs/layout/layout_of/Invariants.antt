use Rattle.std.proofs.Common.{◌≡◌, ◌++◌, length, map, drop}
use Rattle.mux_writer.specs.Layout.{IsLayout}
use Rattle.job_stream.specs.Stream.{output_maps}
use Rattle.job_stream.proofs.layout.layout_of.Given as goal

abbrev pub invariant-loop-i : goal.invariant-loop-i
invariant-loop-i l = record {
  layout : IsLayout l.layout;
  id : l.layout.stream_id ≡ l.job.stream_id;
  count : length l.layout.maps.items ≡ l.i;
  maps : l.layout.maps.items ++ output_maps l.i (drop l.i l.jobs) (drop l.i l.programs) ≡ output_maps 0 l.jobs l.programs;
  bases : l.layout.bases.items ++ map (λ program. program.base) (drop l.i l.programs) ≡ map (λ program. program.base) l.programs;
}
