-- What comes of a section, by its cases.
use Rattle.std.proofs.Common.{◌≡◌, ℕ, List, Ok, subst}
use Rattle.psi_tables.specs.declared.program_map.ProgramMap.{ProgramMap}
use Rattle.ts_demux.specs.declared.table_walk.Reading.{Reading}
use Rattle.ts_demux.specs.declared.table_walk.Reading.TheVariants.{AllRead, GoesOn, Map}
use Rattle.ts_demux.specs.declared.table_walk.Known.{Known}
use Rattle.ts_demux.specs.Tables.{StopsFirst, take}
use Rattle.ts_demux.specs.TableWalk.{IsPidKnown}
use Rattle.ts_demux.specs.Private.TableWalk.{KnowsWhereRead, Reads}

module _ (file : List ℕ) (program : ℕ) (reading : Reading) (On Behind : Type 0) (reads : Reads file program (Ok reading) On Behind) where
  pub goes_on : reading ≡ GoesOn → On
  goes_on is = subst (λ (r : Reading). Reads file program (Ok r) On Behind) is reads

  pub all_read : reading ≡ AllRead → Behind
  all_read is = subst (λ (r : Reading). Reads file program (Ok r) On Behind) is reads

  pub map_read : (map : ProgramMap) → reading ≡ Map map → StopsFirst file program (take map)
  map_read map is = subst (λ (r : Reading). Reads file program (Ok r) On Behind) is reads

-- where it is the map its PID is known
pub knows_pid : (file : List ℕ) (program : ℕ) (reading : Reading) (known : Known) → KnowsWhereRead file program (Ok reading) known → (map : ProgramMap) → reading ≡ Map map →
    IsPidKnown file program known
knows_pid file program reading known knows map is = subst (λ (r : Reading). KnowsWhereRead file program (Ok r) known) is knows
