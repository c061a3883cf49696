use Rattle.std.proofs.Common.{◌≡◌, ◌<◌, ◌≤◌, ℕ, length, get_or}
use Rattle.version_maker.specs.declared.slice_count.VersionCount.{VersionCount}
use Rattle.version_maker.specs.Private.Counts.{IsCountedMacroblock}
use Rattle.version_maker.proofs.slice_count.count_macroblock.Given as goal

-- in the versions before this one the macroblock was counted, the others are as they were
abbrev pub invariant-loop-k : goal.invariant-loop-k
invariant-loop-k l = record {
  len : length l.counts ≡ 8;
  went : (j : ℕ) (d : VersionCount) → j < l.k → IsCountedMacroblock l.picture.seq.now l.picture.coding.now l.inner l.from (get_or l.initial.counts j d) (get_or l.counts j d);
  stay : (j : ℕ) (d : VersionCount) → l.k ≤ j → get_or l.counts j d ≡ get_or l.initial.counts j d;
}
