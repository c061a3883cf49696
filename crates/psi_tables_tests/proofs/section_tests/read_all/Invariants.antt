use Rattle.std.proofs.Common.{◌≡◌, ℕ, Bool, List, [], map, take}
use Rattle.std.specs.Borrow.{Bor}
use Rattle.bit_lists.specs.Payload.{Payload}
use Rattle.psi_tables.specs.Sections.{sections_of, GivesInTurn}
use Rattle.psi_tables.specs.SectionBuilder.{found_of}
use Rattle.psi_tables_tests.proofs.section_tests.read_all.Given as goal

abbrev pub fed_as : Bool × Bor (List ℕ) → Payload
fed_as fed = record { start = fed.0; bytes = fed.1.now }

abbrev pub invariant-loop-fed : goal.invariant-loop-fed
invariant-loop-fed l =
    GivesInTurn (map fed_as (take l.fed-index l.payloads)) (map found_of l.found.items) l.builder × (sections_of l.builder ≡ [])
