use Rattle.std.proofs.Common.{◌≡◌, take}
use Rattle.stream_audit.specs.Clock.{HasSeen}
use Rattle.stream_audit.proofs.clock.clock_in.Given as goal

abbrev pub invariant-loop-place : goal.invariant-loop-place
invariant-loop-place l = record {
  slot : l.clock.slot ≡ l.slot;
  seen : HasSeen l.slot (take l.place-index l.places) l.clock;
}
