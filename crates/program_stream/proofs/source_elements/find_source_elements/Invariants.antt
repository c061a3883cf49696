use Rattle.std.proofs.Common.{◌≤◌, ◌+◌, List, length}
use Rattle.program_stream.specs.Elements.{Element}
use Rattle.program_stream.specs.PassingElements.{HasPassed, rest_of}
use Rattle.program_stream.proofs.source_elements.find_source_elements.Given as goal

abbrev pub invariant-loop-cut : goal.invariant-loop-cut
invariant-loop-cut g l = record {
  elements : List Element;
  passed : HasPassed (g.S.Source.left l.fn.source) (g.S.Source.left l.source) (g.S.Source.most l.fn.source) (g.S.Source.most l.source) elements l.passing;
  faults : g.S.Source.faults l.fn.source ≤ g.S.Source.faults l.source;
  absences : g.S.Source.absences l.fn.source ≤ g.S.Source.absences l.source;
  keeps : g.S.Source.keeps l.fn.source l.source;
}

abbrev pub decreases-loop-cut : goal.decreases-loop-cut
decreases-loop-cut g l = g.S.Source.most l.source + length (rest_of l.passing)
