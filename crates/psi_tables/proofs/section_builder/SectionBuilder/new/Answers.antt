-- Nothing is held.
use Rattle.std.proofs.Common.{ℕ, List, [], ◌++◌, ap}
use Rattle.psi_tables.specs.Sections.{sections_of}
use Rattle.psi_tables.specs.SectionBuilder.{payloads_of}
use Rattle.psi_tables.proofs.section_builder.SectionBuilder.new.Goals as goal

pub returns-clause-nothing_waits : goal.returns-clause-nothing_waits
unfolding sections_of
returns-clause-nothing_waits c = ap (λ (bytes : List ℕ). sections_of (payloads_of (bytes ++ []))) c.new.ensures.bytes
