use Rattle.std.proofs.Common.{◌≡◌, ℕ, List, length}
use Rattle.psi_tables.specs.Sections.{sections_of}
use Rattle.ts_demux.specs.Private.TableWalk.{IsInTable, reader_on}
use Rattle.ts_demux.proofs.table_walk.TableWalk.read_sections.Given as goal

abbrev pub invariant-loop-map : goal.invariant-loop-map
invariant-loop-map l = (file : List ℕ) → IsInTable l.on file l.n l.fn.self → IsInTable l.on file l.n l.self × (l.self.program ≡ l.fn.self.program)

abbrev pub decreases-loop-map : goal.decreases-loop-map
decreases-loop-map l = length (sections_of (reader_on l.on l.self).builder)
