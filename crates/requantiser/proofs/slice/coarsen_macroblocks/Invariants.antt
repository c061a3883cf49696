use Rattle.std.proofs.Common.{◌≡◌, ◌+◌, ◌≤◌, ◌++◌, true, drop}
use Rattle.std.specs.Prelude.{◌==◌}
use Rattle.std.specs.List.{sum_by}
use Rattle.requantiser.specs.Private.Walk.{coarsened_macroblocks}
use Rattle.requantiser.proofs.MacroblockSteps.{span_of}
use Rattle.requantiser.proofs.slice.coarsen_macroblocks.Given as goal

-- what is made so far, and what becomes of the other macroblocks, are what becomes of all
abbrev pub invariant-loop-i : goal.invariant-loop-i
invariant-loop-i l = record {
  ratio : l.state.m ≡ l.initial.state.m;
  rest : l.made ++ coarsened_macroblocks l.picture.seq.now l.picture.coding.now l.initial.state.m (l.i == 0) l.state.source_code l.state.version_code l.state.skipped (drop l.i l.macroblocks)
      ≡ coarsened_macroblocks l.picture.seq.now l.picture.coding.now l.initial.state.m true l.initial.state.source_code l.initial.state.version_code l.initial.state.skipped l.macroblocks;
  room : l.state.skipped + sum_by span_of (drop l.i l.macroblocks) ≤ 65535;
}
