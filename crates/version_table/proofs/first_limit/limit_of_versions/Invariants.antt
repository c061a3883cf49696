use Rattle.std.proofs.Common.{◌≡◌, drop}
use Rattle.std.specs.List.{flat_map}
use Rattle.version_table.specs.Limits.{first_failing, version_tests}
use Rattle.version_table.proofs.first_limit.limit_of_versions.Given as goal

-- the versions so far keep their limits
abbrev pub invariant-loop-version : goal.invariant-loop-version
invariant-loop-version l = first_failing (flat_map version_tests (drop l.version-index l.versions)) ≡ first_failing (flat_map version_tests l.versions)
