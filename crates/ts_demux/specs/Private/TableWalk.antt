-- Where a walk over the packets of a file stands that reads the tables of a program.
use Rattle.std.specs.Prelude.{◌≡◌, ◌≢◌, ℕ, ◌+◌, ◌<◌, ◌≤◌, ◌==◌, Bool, true, false, List, [], drop, Result, Ok, Err, if◌then◌else◌}
use Rattle.ts_packets.specs.TransportStream.{piece_count, is_of_pid, pid_pieces}
use Rattle.psi_tables.specs.declared.program_map.ProgramMap.{ProgramMap}
use Rattle.psi_tables.specs.Sections.{Found}
use Rattle.psi_tables.specs.declared.section.SectionFault.{SectionFault}
use Rattle.psi_tables.specs.Section.{IsCurrent}
use Rattle.ts_demux.specs.declared.demux_fault.DemuxFault.{DemuxFault}
use Rattle.ts_demux.specs.declared.demux_fault.DemuxFault.TheVariants.{ShortFile}
use Rattle.ts_demux.specs.Faults.{of_section}
use Rattle.ts_demux.specs.declared.table_walk.Known.{Known}
use Rattle.ts_demux.specs.declared.table_walk.Known.TheVariants.{Nothing, OtherPrograms, MapOn}
use Rattle.ts_demux.specs.declared.table_walk.Reading.{Reading}
use Rattle.ts_demux.specs.declared.table_walk.Reading.TheVariants.{AllRead, GoesOn, Map}
use Rattle.ts_demux.specs.declared.table_walk.TablePid.{TablePid}
use Rattle.ts_demux.specs.declared.table_walk.TablePid.TheVariants.{OfPat, OfMap}
use Rattle.ts_demux.specs.declared.table_walk.TableWalk.{TableWalk}
use Rattle.ts_demux.specs.Tables.{pat_pid, Names, IsBadPat, IsBadPmt, IsMapOf, refuse, take, StopsFirst, sections_at}
use Rattle.ts_demux.specs.declared.section_reader.SectionReader.{SectionReader}
use Rattle.ts_demux.specs.SectionReader.{Waits}
use Rattle.ts_demux.specs.TableWalk.{IsQuiet, IsNamed, IsKnown, IsMapReader, IsPidKnown, missing_of}

-- the sections of a packet of PID 0 are read, the first ones done
pub record IsInPat (file : List ℕ) (packet : ℕ) (walk : TableWalk) : Type 0 where
  pub within : packet < piece_count file
  pub of_pid : is_of_pid file pat_pid packet ≡ true
  pub done : ℕ
  pub waiting : List Found
  pub quiet : IsQuiet file walk.program packet (done + 1)
  pub known : IsKnown file walk.program packet (done + 1) walk.known
  pub pat : Waits (pid_pieces file pat_pid 0 (packet + 1)) waiting walk.pat
  pub waiting_is : drop done (sections_at file pat_pid 0 packet) ≡ waiting
  pub map : IsMapReader file (packet + 1) walk.known walk.map

-- the sections of a packet of the PMT's PID, which isn't PID 0, are read, the first ones done
pub record IsInMap (file : List ℕ) (packet : ℕ) (walk : TableWalk) : Type 0 where
  pub pid : ℕ
  pub from : ℕ
  pub within : packet < piece_count file
  pub known_is : walk.known ≡ MapOn pid from
  pub other : pid ≢ pat_pid
  pub of_pid : is_of_pid file pid packet ≡ true
  pub behind : from ≤ packet
  pub done : ℕ
  pub waiting : List Found
  pub quiet : IsQuiet file walk.program packet (done + 1)
  pub named : IsNamed file walk.program packet (done + 1) pid from
  pub map : Waits (pid_pieces file pid from (packet + 1)) waiting walk.map
  pub waiting_is : drop done (sections_at file pid from packet) ≡ waiting
  pub pat : Waits (pid_pieces file pat_pid 0 (packet + 1)) [] walk.pat

-- the sections of a packet of one of both PIDs are read, the first ones done
abbrev pub IsInTable : TablePid → List ℕ → ℕ → TableWalk → Type 0
IsInTable OfPat = IsInPat
IsInTable OfMap = IsInMap

-- the reader of the sections of one of both PIDs
abbrev pub reader_on : TablePid → TableWalk → SectionReader
reader_on OfPat walk = walk.pat
reader_on OfMap walk = walk.map

-- what comes of one section, where a walk stands behind it as `on` says, or behind all as `behind` does
abbrev pub Reads : List ℕ → ℕ → Result Reading DemuxFault → Type 0 → Type 0 → Type 0
Reads file program (Ok AllRead) on behind = behind
Reads file program (Ok GoesOn) on behind = on
Reads file program (Ok (Map map)) on behind = StopsFirst file program (take map)
Reads file program (Err fault) on behind = StopsFirst file program (refuse fault)

-- where a section gives the map its PID is known
abbrev pub KnowsWhereRead : List ℕ → ℕ → Result Reading DemuxFault → Known → Type 0
KnowsWhereRead file program (Ok AllRead) known = Unit {0}
KnowsWhereRead file program (Ok GoesOn) known = Unit {0}
KnowsWhereRead file program (Ok (Map map)) known = IsPidKnown file program known
KnowsWhereRead file program (Err fault) known = Unit {0}

-- the n-th packet is of the PMT's PID, which isn't PID 0
abbrev pub IsOnMapPid : List ℕ → ℕ → Known → Type 0
IsOnMapPid file packet Nothing = ⊥
IsOnMapPid file packet OtherPrograms = ⊥
IsOnMapPid file packet (MapOn pid from) = (pid ≢ pat_pid) × (is_of_pid file pid packet ≡ true)

-- the PMT is on PID 0
abbrev pub is_on_pat_pid : Known → Bool
is_on_pat_pid Nothing = false
is_on_pat_pid OtherPrograms = false
is_on_pat_pid (MapOn pid from) = pid == pat_pid

-- the PMT is on this PID
abbrev pub is_map_on : Known → ℕ → Bool
is_map_on Nothing other = false
is_map_on OtherPrograms other = false
is_map_on (MapOn pid from) other = other == pid

-- why there is no map behind so many packets, which are all
abbrev pub missing_behind : ℕ → Known → DemuxFault
missing_behind packets known = if packets == 0 then ShortFile 0 else missing_of known

-- ---- what a section says

-- it doesn't name the program
abbrev pub NamesNone : ℕ → List ℕ → Type 0
NamesNone program section = (pid : ℕ) → Names program (Ok section) pid → ⊥

-- what is known behind a section of PID 0 that the n-th packet completes, by what was known before it
abbrev pub IsKnownBehind : ℕ → List ℕ → ℕ → Known → Known → Type 0
IsKnownBehind program section n (MapOn pid from) after = after ≡ MapOn pid from
IsKnownBehind program section n Nothing (MapOn pid from) = Names program (Ok section) pid × (from ≡ n + 1) × ((other : ℕ) → Names program (Ok section) other → other ≡ pid)
IsKnownBehind program section n Nothing OtherPrograms = NamesNone program section × IsCurrent 0 section
IsKnownBehind program section n Nothing Nothing = NamesNone program section × (IsCurrent 0 section → ⊥)
IsKnownBehind program section n OtherPrograms (MapOn pid from) = Names program (Ok section) pid × (from ≡ n + 1) × ((other : ℕ) → Names program (Ok section) other → other ≡ pid)
IsKnownBehind program section n OtherPrograms OtherPrograms = NamesNone program section
IsKnownBehind program section n OtherPrograms Nothing = ⊥

-- what comes of a section of PID 0
abbrev pub ReadsPat : ℕ → List ℕ → ℕ → Known → Result Known SectionFault → Type 0
ReadsPat program section n known (Ok after) = ((fault : SectionFault) → IsBadPat (Ok section) fault → ⊥) × IsKnownBehind program section n known after
ReadsPat program section n known (Err fault) = IsBadPat (Ok section) fault

-- what comes of a section of the PMT's PID that a packet at a place completes
abbrev pub ReadsMap : ℕ → List ℕ → ℕ → Result Reading DemuxFault → Type 0
ReadsMap program section at (Ok AllRead) = ⊥
ReadsMap program section at (Ok GoesOn) = ((fault : SectionFault) → IsBadPmt (Ok section) fault → ⊥) × ((map : ProgramMap) → IsMapOf program (Ok section) map → ⊥)
ReadsMap program section at (Ok (Map map)) = IsMapOf program (Ok section) map
ReadsMap program section at (Err fault) = (found : SectionFault) × IsBadPmt (Ok section) found × (fault ≡ of_section at found)
