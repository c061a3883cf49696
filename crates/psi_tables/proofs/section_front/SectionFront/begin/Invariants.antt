use Rattle.std.proofs.Common.{◌-◌, length}
use Rattle.psi_tables.proofs.Steps.{PassesOver}
use Rattle.psi_tables.proofs.section_front.SectionFront.begin.Given as goal

abbrev pub invariant-loop-at : goal.invariant-loop-at
invariant-loop-at l = PassesOver l.bytes l.at l.self

abbrev pub decreases-loop-at : goal.decreases-loop-at
decreases-loop-at l = length l.bytes - l.at
