use Rattle.std.proofs.Common.{◌≡◌, All, length}
use Rattle.bench_streams.specs.Private.Rows.{IsMade}
use Rattle.bench_streams.proofs.mux.made_rows.made_rows.Given as goal

abbrev pub invariant-loop-n : goal.invariant-loop-n
invariant-loop-n l = record {
  size : length l.rows ≡ l.n;
  made : All IsMade l.rows;
}
