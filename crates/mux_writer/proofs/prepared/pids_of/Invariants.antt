use Rattle.std.proofs.Common.{◌≡◌, ◌*◌, ◌≤◌, length, take}
use Rattle.std.specs.List.{flat_map}
use Rattle.psi_tables.specs.Pmt.{pids_of}
use Rattle.mux_writer.proofs.prepared.pids_of.Given as goal

abbrev pub invariant-loop-map : goal.invariant-loop-map
invariant-loop-map l = record {
  size : length l.pids.items ≤ 9 * l.map-index;
  pids : l.pids.items ≡ flat_map pids_of (take l.map-index l.map-items);
}
