use Rattle.std.proofs.Common.{◌≡◌, length, vec_capacity}
use Rattle.certificate_checker.specs.Private.Tallies.{ArePlaces}
use Rattle.certificate_checker.proofs.tally.place_units.Given as goal

-- the units before this place have theirs
abbrev pub invariant-loop-place : goal.invariant-loop-place
invariant-loop-place l = record {
  places : ArePlaces l.order l.places.items l.place;
  size : length l.places.items ≡ length l.order;
  room : vec_capacity l.places ≡ vec_capacity l.fn.places;
}
