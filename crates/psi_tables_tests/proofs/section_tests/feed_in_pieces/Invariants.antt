use Rattle.std.proofs.Common.{◌≡◌, ◌-◌, [], length}
use Rattle.psi_tables.specs.Sections.{sections_of}
use Rattle.psi_tables_tests.proofs.section_tests.feed_in_pieces.Given as goal

abbrev pub invariant-loop-at : goal.invariant-loop-at
invariant-loop-at l = sections_of l.builder ≡ []

abbrev pub decreases-loop-at : goal.decreases-loop-at
decreases-loop-at l = length l.bytes - l.at
