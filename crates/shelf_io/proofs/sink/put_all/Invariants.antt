use Rattle.std.proofs.Common.{length, ◌-◌, ◌≡◌, ◌≤◌, take}
use Rattle.shelf_io.specs.Sink.{with_bytes}
use Rattle.shelf_io.proofs.sink.put_all.Given as goal

abbrev pub invariant-loop-done : goal.invariant-loop-done
invariant-loop-done g l = record {
  within : l.done ≤ length l.piece;
  told : g.K.Sink.written l.sink ≡ with_bytes (g.K.Sink.written l.fn.sink) (take l.done l.piece);
  faults : g.K.Sink.faults l.fn.sink ≡ g.K.Sink.faults l.sink;
  keeps : g.K.Sink.keeps l.fn.sink l.sink;
}

abbrev pub decreases-loop-done : goal.decreases-loop-done
decreases-loop-done g l = length l.piece - l.done
