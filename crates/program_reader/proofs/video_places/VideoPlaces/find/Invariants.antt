use Rattle.std.proofs.Common.{◌≡◌, ℕ, ◌+◌, ◌-◌, ◌≤◌, List, ◌++◌, length, take}
use Rattle.es_units.specs.PictureFinder.{HasFound, bytes_passed}
use Rattle.program_reader.proofs.video_places.VideoPlaces.find.Given as goal

abbrev pub invariant-loop-count : goal.invariant-loop-count
invariant-loop-count l = record {
  within : l.count ≤ length l.bytes;
  passed : bytes_passed l.self.finder ≡ bytes_passed l.fn.self.finder + l.count;
  packets : l.self.packets.items ≡ l.fn.self.packets.items;
  bytes : l.self.bytes ≡ l.fn.self.bytes;
  found : (es : List ℕ) → HasFound es l.fn.self.pictures.items l.fn.self.finder → HasFound (es ++ take l.count l.bytes) l.self.pictures.items l.self.finder;
}

abbrev pub decreases-loop-count : goal.decreases-loop-count
decreases-loop-count l = length l.bytes - l.count
