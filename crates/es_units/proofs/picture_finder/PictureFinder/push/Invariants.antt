use Rattle.std.proofs.Common.{◌≡◌, ℕ, ◌+◌, ◌-◌, ◌≤◌, List, ◌++◌, length, take, None}
use Rattle.es_units.specs.PictureFinder.{HasFound, found_of}
use Rattle.es_units.proofs.picture_finder.PictureFinder.push.Given as goal

abbrev pub invariant-loop-count : goal.invariant-loop-count
invariant-loop-count l = record {
  within : l.count ≤ length l.piece;
  none : l.count ≡ 0 → l.self.found ≡ None;
  pushed : l.self.pushed ≡ l.fn.self.pushed + l.count;
  found : (pushed found : List ℕ) → HasFound pushed found l.fn.self → HasFound (pushed ++ take l.count l.piece) (found ++ found_of l.self) l.self;
}

abbrev pub decreases-loop-count : goal.decreases-loop-count
decreases-loop-count l = length l.piece - l.count
