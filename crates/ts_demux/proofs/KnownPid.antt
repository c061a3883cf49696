-- Where a walk gives the map of a program, the PID of the map is known.
use Rattle.std.proofs.Common.{◌≡◌, ◌+◌, ℕ, true, List, Option, Some, None, unwrap_or, Result, Ok, Err, sym, ap, subst}
use Rattle.psi_tables.specs.declared.program_map.ProgramMap.{ProgramMap}
use Rattle.ts_demux.specs.declared.demux_fault.DemuxFault.{DemuxFault}
use Rattle.ts_demux.specs.declared.table_walk.Known.{Known}
use Rattle.ts_demux.specs.declared.table_walk.Known.TheVariants.{Nothing, OtherPrograms, MapOn}
use Rattle.ts_demux.specs.declared.table_walk.Reading.{Reading}
use Rattle.ts_demux.specs.declared.table_walk.Reading.TheVariants.{AllRead, GoesOn, Map}
use Rattle.ts_demux.specs.declared.table_walk.TableWalk.{TableWalk}
use Rattle.ts_demux.specs.Tables.{IsMapPid}
use Rattle.ts_demux.specs.TableWalk.{IsKnown, IsNamed, IsPidKnown, KnowsOnMap, map_pid_of}
use Rattle.ts_demux.specs.Private.TableWalk.{IsInMap, IsInPat, IsKnownBehind, KnowsWhereRead, is_on_pat_pid}

-- a PAT section that is taken says it
said : (file : List ℕ) (program packet rank pid from : ℕ) → IsNamed file program packet rank pid from → IsMapPid file program pid
said file program packet rank pid from named = record { packet = named.at; index = named.index; takes = named.takes }

-- on PID 0 too
known_on_pat : (file : List ℕ) (program packet rank : ℕ) (known : Known) → IsKnown file program packet rank known → is_on_pat_pid known ≡ true → IsPidKnown file program known
known_on_pat file program packet rank Nothing is on = absurd cc
known_on_pat file program packet rank OtherPrograms is on = absurd cc
known_on_pat file program packet rank (MapOn pid from) is on = said file program packet rank pid from is

-- it stays known
still_known : (file : List ℕ) (program : ℕ) (section : List ℕ) (n : ℕ) (known after : Known) → IsPidKnown file program known → IsKnownBehind program section n known after →
    IsPidKnown file program after
still_known file program section n Nothing after is behind = absurd is
still_known file program section n OtherPrograms after is behind = absurd is
still_known file program section n (MapOn pid from) after is behind = subst (λ (k : Known). IsPidKnown file program k) (sym behind) is

-- what is known serves every answer
where_read : (file : List ℕ) (program : ℕ) (known : Known) (result : Result Reading DemuxFault) → IsPidKnown file program known → KnowsWhereRead file program result known
where_read file program known (Ok AllRead) is = tt
where_read file program known (Ok GoesOn) is = tt
where_read file program known (Ok (Map map)) is = is
where_read file program known (Err fault) is = tt

-- ---- sections

pub pat_section_knows : (file : List ℕ) (n : ℕ) (walk : TableWalk) (section : List ℕ) (after : Known) (result : Result Reading DemuxFault) → IsInPat file n walk →
    is_on_pat_pid walk.known ≡ true → IsKnownBehind walk.program section n walk.known after → KnowsWhereRead file walk.program result after
pat_section_knows file n walk section after result within on behind =
    where_read file walk.program after result
    (still_known file walk.program section n walk.known after (known_on_pat file walk.program n (within.done + 1) walk.known within.known on) behind)

in_map : (file : List ℕ) (n : ℕ) (walk : TableWalk) → IsInMap file n walk → IsPidKnown file walk.program walk.known
in_map file n walk within =
    subst (λ (k : Known). IsPidKnown file walk.program k) (sym within.known_is) (said file walk.program n (within.done + 1) within.pid within.from within.named)

pub map_section_knows : (file : List ℕ) (n : ℕ) (walk : TableWalk) (result : Result Reading DemuxFault) → IsInMap file n walk → KnowsWhereRead file walk.program result walk.known
map_section_knows file n walk result within = where_read file walk.program walk.known result (in_map file n walk within)

-- ---- the walk's own answer

pub pid_there : (file : List ℕ) (program pid : ℕ) (known : Known) → IsPidKnown file program known → map_pid_of known ≡ Some pid → IsMapPid file program pid
pid_there file program pid Nothing is there = absurd is
pid_there file program pid OtherPrograms is there = absurd is
pid_there file program pid (MapOn map_pid from) is there = subst (λ (p : ℕ). IsMapPid file program p) (ap (λ found. unwrap_or found 0) there) is

pub pid_nowhere : (file : List ℕ) (program : ℕ) (known : Known) → IsPidKnown file program known → map_pid_of known ≡ None → ⊥
pid_nowhere file program Nothing is none = is
pid_nowhere file program OtherPrograms is none = is
pid_nowhere file program (MapOn pid from) is none = absurd cc

-- by its cases
pub knows_map : (file : List ℕ) (program : ℕ) (found : Option ProgramMap) (map : ProgramMap) (known : Known) → KnowsOnMap file program (Ok found) known → found ≡ Some map →
    IsPidKnown file program known
knows_map file program found map known knows is = subst (λ (o : Option ProgramMap). KnowsOnMap file program (Ok o) known) is knows
