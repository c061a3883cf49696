use Rattle.std.proofs.Common.{◌≡◌, ◌≤◌, ◌^◌, take}
use Rattle.buffer_windows.proofs.OwnedCosts.{costs_held, least_or_none, or_nothing}
use Rattle.buffer_windows.proofs.values.least_of_versions.Given as goal

abbrev pub invariant-loop-version : goal.invariant-loop-version
invariant-loop-version l = record {
  least : l.least ≡ least_or_none (costs_held l.prices l.vbv (take l.version-index l.versions));
  small : or_nothing l.least ≤ 2 ^ 80;
}
