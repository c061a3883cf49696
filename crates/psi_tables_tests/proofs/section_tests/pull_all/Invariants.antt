use Rattle.std.proofs.Common.{List, length, map}
use Rattle.bit_lists.specs.Payload.{Payload}
use Rattle.psi_tables.specs.Sections.{sections_of, GivesInTurn}
use Rattle.psi_tables.specs.SectionBuilder.{found_of}
use Rattle.psi_tables_tests.proofs.section_tests.pull_all.Given as goal

abbrev pub invariant-loop-next : goal.invariant-loop-next
invariant-loop-next l =
    (fed : List Payload) → GivesInTurn fed (map found_of l.initial.found.items) l.initial.builder → GivesInTurn fed (map found_of l.found.items) l.builder

abbrev pub decreases-loop-next : goal.decreases-loop-next
decreases-loop-next l = length (sections_of l.builder)
