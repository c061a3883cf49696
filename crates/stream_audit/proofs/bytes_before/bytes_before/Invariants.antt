use Rattle.std.proofs.Common.{◌≡◌, ◌+◌, ◌*◌, ◌≤◌, drop}
use Rattle.stream_audit.specs.PesBytes.{bytes_before}
use Rattle.stream_audit.proofs.bytes_before.bytes_before.Given as goal

abbrev pub invariant-loop-place : goal.invariant-loop-place
invariant-loop-place l = record {
  rest : bytes_before l.places ≡ l.bytes + bytes_before (drop l.place-index l.places);
  few : l.bytes ≤ 188 * l.place-index;
}
