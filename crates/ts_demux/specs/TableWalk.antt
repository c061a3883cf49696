-- Where a walk over the packets of a file stands that reads the tables of a program, and what comes of a packet.
use Rattle.std.specs.Prelude.{◌≡◌, ◌≢◌, ℕ, ◌+◌, ◌<◌, ◌≤◌, ◌==◌, List, [], Option, Some, None, Result, Ok, Err, if◌then◌else◌}
use Rattle.ts_packets.specs.TransportStream.{piece_at, piece_count, pid_pieces}
use Rattle.psi_tables.specs.declared.program_map.ProgramMap.{ProgramMap}
use Rattle.psi_tables.specs.Sections.{Found}
use Rattle.ts_demux.specs.declared.demux_fault.DemuxFault.{DemuxFault}
use Rattle.ts_demux.specs.declared.demux_fault.DemuxFault.TheVariants.{NoPat, NoProgram, NoPmt}
use Rattle.ts_demux.specs.declared.section_reader.SectionReader.{SectionReader}
use Rattle.ts_demux.specs.declared.table_walk.Known.{Known}
use Rattle.ts_demux.specs.declared.table_walk.Known.TheVariants.{Nothing, OtherPrograms, MapOn}
use Rattle.ts_demux.specs.declared.table_walk.TableWalk.{TableWalk}
use Rattle.ts_demux.specs.Tables.{pat_pid, IsBefore, IsSection, Names, TakesPat, HasPat, IsPatSection, IsMapPid, Stop, refuse, take, StopsAt, StopsFirst}
use Rattle.ts_demux.specs.SectionReader.{Waits}

-- nothing ends the reading of the tables before a place
abbrev pub IsQuiet : List ℕ → ℕ → ℕ → ℕ → Type 0
IsQuiet file program packet rank = (n other : ℕ) (stop : Stop) → IsBefore n other packet rank → StopsAt file program n other stop → ⊥

-- no section of PID 0 before a place names the program; the k-th section of a packet has rank k + 1
abbrev pub IsUnnamed : List ℕ → ℕ → ℕ → ℕ → Type 0
IsUnnamed file program packet rank = (n k pid : ℕ) (found : Found) → IsBefore n (k + 1) packet rank → IsSection file pat_pid 0 n k found → Names program found pid → ⊥

-- no current PAT section is before a place
abbrev pub IsWithoutPat : List ℕ → ℕ → ℕ → Type 0
IsWithoutPat file packet rank = (n k : ℕ) (found : Found) → IsBefore n (k + 1) packet rank → IsSection file pat_pid 0 n k found → IsPatSection found → ⊥

-- the PAT section that is taken stands before a place, and says this PID; packets count from the one behind it
pub record IsNamed (file : List ℕ) (program packet rank pid from : ℕ) : Type 0 where
  pub at : ℕ
  pub index : ℕ
  pub takes : TakesPat file program at index pid
  pub before : IsBefore at (index + 1) packet rank
  pub from_is : from ≡ at + 1
  pub only : (n k other : ℕ) → TakesPat file program n k other → (n ≡ at) × (k ≡ index) × (other ≡ pid)

-- what is known before a place
abbrev pub IsKnown : List ℕ → ℕ → ℕ → ℕ → Known → Type 0
IsKnown file program packet rank Nothing = IsUnnamed file program packet rank × IsWithoutPat file packet rank
IsKnown file program packet rank OtherPrograms = IsUnnamed file program packet rank × HasPat file
IsKnown file program packet rank (MapOn pid from) = IsNamed file program packet rank pid from

-- where the reader of the PMT's PID stands, before a packet; it isn't used before the PID is known, nor where that is PID 0
abbrev pub IsMapReader : List ℕ → ℕ → Known → SectionReader → Type 0
IsMapReader file packet Nothing reader = Waits [] [] reader
IsMapReader file packet OtherPrograms reader = Waits [] [] reader
IsMapReader file packet (MapOn pid from) reader = pid ≢ pat_pid → (from ≤ packet) × Waits (pid_pieces file pid from packet) [] reader

-- a walk stands before a packet
pub record IsBetween (file : List ℕ) (packet : ℕ) (walk : TableWalk) : Type 0 where
  pub quiet : IsQuiet file walk.program packet 0
  pub known : IsKnown file walk.program packet 0 walk.known
  pub pat : Waits (pid_pieces file pat_pid 0 packet) [] walk.pat
  pub map : IsMapReader file packet walk.known walk.map

-- a walk stands before the n-th packet of some file, which has these bytes
pub record StandsBefore (n : ℕ) (bytes : List ℕ) (walk : TableWalk) : Type 0 where
  pub file : List ℕ
  pub within : n < piece_count file
  pub bytes_are : bytes ≡ piece_at file n
  pub between : IsBetween file n walk

-- what comes of a packet, behind which a walk stands as `on` says
abbrev pub Ends : List ℕ → ℕ → Result (Option ProgramMap) DemuxFault → Type 0 → Type 0
Ends file program (Ok None) on = on
Ends file program (Ok (Some map)) on = StopsFirst file program (take map)
Ends file program (Err fault) on = StopsFirst file program (refuse fault)

-- why no PMT section was taken
abbrev pub missing_of : Known → DemuxFault
missing_of Nothing = NoPat 0
missing_of OtherPrograms = NoProgram 0
missing_of (MapOn pid from) = NoPmt 0

-- the PID of the map, once it is known
abbrev pub map_pid_of : Known → Option ℕ
map_pid_of Nothing = None
map_pid_of OtherPrograms = None
map_pid_of (MapOn pid from) = Some pid

-- the PID of the map is known
abbrev pub IsPidKnown : List ℕ → ℕ → Known → Type 0
IsPidKnown file program Nothing = ⊥
IsPidKnown file program OtherPrograms = ⊥
IsPidKnown file program (MapOn pid from) = IsMapPid file program pid

-- where a packet gives the map its PID is known
abbrev pub KnowsOnMap : List ℕ → ℕ → Result (Option ProgramMap) DemuxFault → Known → Type 0
KnowsOnMap file program (Ok None) known = Unit {0}
KnowsOnMap file program (Ok (Some map)) known = IsPidKnown file program known
KnowsOnMap file program (Err fault) known = Unit {0}
