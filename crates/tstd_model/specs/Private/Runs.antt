-- Runs of bytes as instants; no public clause cites these.
use Rattle.std.specs.Prelude.{ℕ, List, replicate}
use Rattle.std.specs.List.{flat_map}
use Rattle.tstd_model.specs.declared.runs.Run.{Run}

-- the instants of runs, one behind the other
unfoldable pub run_bytes : List Run → List ℕ
run_bytes runs = flat_map (λ run. replicate run.count run.at) runs
