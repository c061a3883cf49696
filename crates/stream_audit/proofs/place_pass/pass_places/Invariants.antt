use Rattle.std.proofs.Common.{◌≡◌, ◌+◌, ◌*◌, ◌≤◌, [], ◌++◌, ℕ, List, length}
use Rattle.ts_demux.specs.PacketBuffer.{Passes}
use Rattle.stream_audit.specs.Private.PlacePass.{StandsBefore}
use Rattle.stream_audit.proofs.place_pass.pass_places.Given as goal

abbrev pub invariant-packets : goal.invariant-packets
invariant-packets g l = record {
  seen : List ℕ;
  passes : Passes (g.S.Source.left l.fn.source) (g.S.Source.left l.source) (g.S.Source.most l.fn.source) (g.S.Source.most l.source) [] seen l.buffer;
  count : length seen ≡ 188 * l.n;
  pid : l.reader.pid ≡ l.fn.pid;
  every : (more : List ℕ) → StandsBefore (seen ++ more) l.fn.pid l.n l.reader (λ places. g.W.PlaceWalk.has_taken l.fn.walk places l.walk);
  faults : g.S.Source.faults l.fn.source ≤ g.S.Source.faults l.source;
  absences : g.S.Source.absences l.fn.source ≤ g.S.Source.absences l.source;
  keeps : g.S.Source.keeps l.fn.source l.source;
}

abbrev pub decreases-packets : goal.decreases-packets
decreases-packets g l = g.S.Source.most l.source + length l.buffer
