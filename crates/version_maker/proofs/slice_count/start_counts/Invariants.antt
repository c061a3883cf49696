use Rattle.std.proofs.Common.{◌≡◌, ◌<◌, ℕ, length, get_or}
use Rattle.std.specs.Prelude.{slice_index}
use Rattle.version_maker.specs.declared.slice_count.VersionCount.{VersionCount}
use Rattle.version_maker.specs.Private.Counts.{IsStartCount}
use Rattle.version_maker.proofs.slice_count.start_counts.Given as goal

-- the first versions are started
abbrev pub invariant-loop-k : goal.invariant-loop-k
invariant-loop-k l = record {
  len : length l.counts ≡ 8;
  each : (j : ℕ) (d : VersionCount) → j < l.k → IsStartCount l.coding (slice_index l.ratios j) l.code (get_or l.counts j d);
}
