use Rattle.std.proofs.Common.{◌≡◌, ◌++◌, drop}
use Rattle.stream_audit.specs.PesBytes.{brought_by_all}
use Rattle.stream_audit.proofs.arrivals.arrivals_in.Given as goal

abbrev pub invariant-loop-place : goal.invariant-loop-place
invariant-loop-place l = brought_by_all l.places l.initial.parts ≡ l.arrivals ++ brought_by_all (drop l.place-index l.places) l.parts
