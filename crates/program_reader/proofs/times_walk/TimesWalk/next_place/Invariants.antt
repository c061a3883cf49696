use Rattle.std.proofs.Common.{◌≡◌, ◌-◌, ◌<◌, ◌≤◌, length, take, All}
use Rattle.program_reader.proofs.times_walk.TimesWalk.next_place.Given as goal

abbrev pub invariant-loop-self : goal.invariant-loop-self
invariant-loop-self l = record {
  within : l.self.place ≤ length l.places;
  before : All (λ place. place < l.begin) (take l.self.place l.places);
  packet : l.self.packet ≡ l.fn.self.packet;
}

abbrev pub decreases-loop-self : goal.decreases-loop-self
decreases-loop-self l = length l.places - l.self.place
