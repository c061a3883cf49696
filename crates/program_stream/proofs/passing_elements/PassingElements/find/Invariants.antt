use Rattle.std.proofs.Common.{◌≡◌, ◌+◌, ◌<◌, ◌≤◌, ◌^◌, [], length}
use Rattle.ts_demux.specs.PacketBuffer.{Passes}
use Rattle.program_stream.specs.PassingElements.{KeepsTwo}
use Rattle.program_stream.specs.Private.Waiting.{waiting_of}
use Rattle.program_stream.proofs.passing_elements.PassingElements.find.Given as goal

abbrev pub invariant-loop-front : goal.invariant-loop-front
invariant-loop-front g l = record {
  passes : Passes (g.S.Source.left l.fn.source) (g.S.Source.left l.source) (g.S.Source.most l.fn.source) (g.S.Source.most l.source) (waiting_of l.fn.self) [] (waiting_of l.self);
  two : KeepsTwo l.self.zeros l.self.buffer;
  few : l.self.place + l.self.zeros + length l.self.buffer + g.S.Source.most l.source < 2 ^ 64;
  same : (l.self.place ≡ l.fn.self.place) × (l.self.len ≡ l.fn.self.len);
  faults : g.S.Source.faults l.fn.source ≤ g.S.Source.faults l.source;
  absences : g.S.Source.absences l.fn.source ≤ g.S.Source.absences l.source;
  keeps : g.S.Source.keeps l.fn.source l.source;
}

abbrev pub decreases-loop-front : goal.decreases-loop-front
decreases-loop-front g l = g.S.Source.most l.source
