use Rattle.std.proofs.Common.{◌≡◌, ◌+◌, ◌≤◌, ℕ, List, Option, None, length}
use Rattle.ts_demux.specs.declared.demuxed.PesUnit.{PesUnit}
use Rattle.program_stream.specs.PassingElements.{rest_of}
use Rattle.pes_passing.specs.ElementPackets.{HasPassed, id_of}
use Rattle.pes_passing.proofs.element_packets.ElementPackets.next.Given as goal

abbrev pub invariant-loop-fault : goal.invariant-loop-fault
invariant-loop-fault g l = record {
  passed : (left : Option (List ℕ)) (most : ℕ) (ended : List PesUnit) → HasPassed left (g.S.Source.left l.fn.source) most (g.S.Source.most l.fn.source) ended l.fn.self
      → HasPassed left (g.S.Source.left l.source) most (g.S.Source.most l.source) ended l.self;
  turned : l.self.pes.begun ≡ None;
  id : id_of l.self ≡ id_of l.fn.self;
  faults : g.S.Source.faults l.fn.source ≤ g.S.Source.faults l.source;
  absences : g.S.Source.absences l.fn.source ≤ g.S.Source.absences l.source;
  keeps : g.S.Source.keeps l.fn.source l.source;
}

abbrev pub decreases-loop-fault : goal.decreases-loop-fault
decreases-loop-fault g l = g.S.Source.most l.source + length (rest_of l.self.elements)
