use Rattle.std.proofs.Common.{◌≡◌, ◌-◌, ◌≤◌, length}
use Rattle.version_table.specs.declared.limits.TheConstants.{VERSIONS_MOST}
use Rattle.version_table.specs.Private.Reading.{versions_at}
use Rattle.version_table.proofs.Versions.{with_front}
use Rattle.version_table.proofs.reading.versions_at.Given as goal

abbrev pub invariant-loop-front : goal.invariant-loop-front
invariant-loop-front l = record {
  few : length l.versions.items ≤ VERSIONS_MOST;
  whole : with_front l.versions.items (versions_at (VERSIONS_MOST - length l.versions.items) l.rest) ≡ versions_at VERSIONS_MOST l.text;
}

abbrev pub decreases-loop-front : goal.decreases-loop-front
decreases-loop-front l = VERSIONS_MOST - length l.versions.items
