use Rattle.std.proofs.Common.{◌≤◌, ◌-◌, List, length}
use Rattle.program_stream.specs.Elements.{Element}
use Rattle.program_stream.specs.Private.Steps.{AreBefore}
use Rattle.program_stream.proofs.found_elements.find_elements.Given as goal

abbrev pub invariant-loop-cut : goal.invariant-loop-cut
invariant-loop-cut l = record {
  within : l.at ≤ length l.file;
  before : (elements : List Element) × AreBefore l.file elements l.at;
}

abbrev pub decreases-loop-cut : goal.decreases-loop-cut
decreases-loop-cut l = length l.file - l.at
