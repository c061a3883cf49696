use Rattle.std.proofs.Common.{◌≢◌, ℕ, ◌<◌}
use Rattle.version_table.specs.Choice.{VersionGoesBefore, version_at}
use Rattle.version_table.proofs.choices.smallest_version.Given as goal

-- the best so far goes before each other version so far
abbrev pub invariant-loop-k : goal.invariant-loop-k
invariant-loop-k l = record {
  passed : l.best < l.k;
  first : (j : ℕ) → j < l.k → j ≢ l.best → VersionGoesBefore (version_at l.unit l.best) l.best (version_at l.unit j) j;
}
