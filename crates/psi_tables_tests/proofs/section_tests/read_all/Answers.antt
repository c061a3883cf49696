-- Where nothing waits behind the last payload, all sections were given.
use Rattle.std.proofs.Common.{◌≡◌, ℕ, Bool, List, map, take, ap, ◌∙◌, arith}
use Rattle.std.specs.Borrow.{Bor}
use Rattle.std.proofs.lemmas.List.{take_all}
use Rattle.bit_lists.specs.Payload.{Payload}
use Rattle.psi_tables.specs.Sections.{sections_of}
use Rattle.psi_tables.specs.SectionBuilder.{found_of}
use Rattle.psi_tables.proofs.Turns.{turn-all}
use Rattle.psi_tables_tests.proofs.section_tests.read_all.Goals as goal
use Rattle.psi_tables_tests.proofs.section_tests.read_all.Invariants.{fed_as}

pub returns : goal.returns
returns c =
    let payloads = c.args.payloads.now in
    let all : take c.loop-fed.fed-index payloads ≡ payloads = take_all c.loop-fed.fed-index payloads (omega arith) in
    turn-all (map fed_as (take c.loop-fed.fed-index payloads)) (map found_of c.loop-fed.found.items) c.loop-fed.builder c.loop-fed.invariant.0 c.loop-fed.invariant.1
    ∙ ap (λ (fed : List (Bool × Bor (List ℕ))). sections_of (map fed_as fed)) all
