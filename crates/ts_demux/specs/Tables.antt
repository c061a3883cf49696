-- The PAT and the PMT section of a program in a file (ISO/IEC 13818-1, 2.4.4.3 and 2.4.4.8; which ones are taken is this
-- project's).
use Rattle.std.specs.Prelude.{◌≡◌, ◌≢◌, ℕ, ◌+◌, ◌*◌, ◌<◌, ◌≤◌, ◌==◌, ◌⊎◌, true, List, length, drop, map, slice_get, Some, None, Ok, Err, if◌then◌else◌}
use Rattle.stream_constants.specs.declared.packets.TheConstants.{PACKET_BYTES}
use Rattle.bit_lists.specs.Payload.{Payload}
use Rattle.ts_packets.specs.declared.pid_fault.PidFault.{PidFault}
use Rattle.ts_packets.specs.Packet.{sync_byte}
use Rattle.ts_packets.specs.TransportStream.{Piece, piece_at, piece_count, is_of_pid, pid_pieces}
use Rattle.ts_packets.specs.Carried.{carried, pid_fault}
use Rattle.psi_tables.specs.declared.program_map.ProgramMap.{ProgramMap}
use Rattle.psi_tables.specs.declared.section.SectionFault.{SectionFault}
use Rattle.psi_tables.specs.declared.section.SectionFault.TheVariants.{BadSection}
use Rattle.psi_tables.specs.Section.{IsCurrent}
use Rattle.psi_tables.specs.Sections.{Found, sections_of}
use Rattle.psi_tables.specs.Pat.{IsPat, pat_map_pid}
use Rattle.psi_tables.specs.PmtOf.{pmt_of}
use Rattle.ts_demux.specs.declared.demux_fault.DemuxFault.{DemuxFault}
use Rattle.ts_demux.specs.declared.demux_fault.DemuxFault.TheVariants.{Sync, NoPat, NoProgram, NoPmt}
use Rattle.ts_demux.specs.declared.placed_map.PlacedMap.{PlacedMap}
use Rattle.ts_demux.specs.Faults.{of_pid, of_section}

-- ---- packets and their sections

-- the PID of the PAT (ISO/IEC 13818-1, Table 2-3)
abbrev pub pat_pid : ℕ
pat_pid = 0

-- the n-th packet as a piece
abbrev pub piece : List ℕ → ℕ → Piece
piece file n = record { at = PACKET_BYTES * n; bytes = piece_at file n }

-- the n-th packet has no sync byte
pub record HasNoSync (file : List ℕ) (n : ℕ) : Type 0 where
  pub within : n < piece_count file
  pub no_sync : sync_byte (piece_at file n) ≢ 0x47

-- the n-th packet is of the PID, and has this fault behind the packets of the PID from number `from` on
pub record HasPidFault (file : List ℕ) (pid from n : ℕ) (fault : PidFault) : Type 0 where
  pub within : n < piece_count file
  pub behind : from ≤ n
  pub of_pid : is_of_pid file pid n ≡ true
  pub fault_is : pid_fault (pid_pieces file pid from n) (piece file n) ≡ Some fault

-- the payloads that pieces carry
abbrev pub payloads_in : List Piece → List Payload
payloads_in pieces = map (λ carried. carried.payload) (carried pieces)

-- the sections in them
abbrev pub sections_in : List Piece → List Found
sections_in pieces = sections_of (payloads_in pieces)

-- the sections that the n-th packet completes or breaks: what it adds to those in the packets of the PID before it, from
-- number `from` on
abbrev pub sections_at : List ℕ → ℕ → ℕ → ℕ → List Found
sections_at file pid from n = drop (length (sections_in (pid_pieces file pid from n))) (sections_in (pid_pieces file pid from (n + 1)))

-- this is the k-th section that the n-th packet completes or breaks
pub record IsSection (file : List ℕ) (pid from n k : ℕ) (found : Found) : Type 0 where
  pub within : n < piece_count file
  pub stands : slice_get (sections_at file pid from n) k ≡ Some found

-- in the order of reading one place is before another: in an earlier packet, or earlier in the same one
abbrev pub IsBefore : ℕ → ℕ → ℕ → ℕ → Type 0
IsBefore packet rank other other_rank = (packet < other) ⊎ ((packet ≡ other) × (rank < other_rank))

-- ---- the PAT section that is taken

-- a current PAT section says that the map of the program is on this PID
abbrev pub Names : ℕ → Found → ℕ → Type 0
Names program (Ok section) pid = (programs : List (ℕ × ℕ)) × IsPat programs section × (pat_map_pid program programs ≡ Some pid)
Names program (Err fault) pid = ⊥

-- The first section of PID 0 that names the program: the number of the packet that completes it, its number among those that
-- this packet completes, and the PID that it says.
pub record TakesPat (file : List ℕ) (program packet index pid : ℕ) : Type 0 where
  pub found : Found
  pub section : IsSection file pat_pid 0 packet index found
  pub names : Names program found pid
  pub first : (n k other : ℕ) (before : Found) → IsBefore n k packet index → IsSection file pat_pid 0 n k before → Names program before other → ⊥

-- ---- the PMT section

-- The packets of the PMT's PID count from the one behind the packet that completes the PAT section; on PID 0 all do.
abbrev pub pmt_from : ℕ → ℕ → ℕ
pmt_from packet pid = if pid == pat_pid then 0 else packet + 1

-- A section of the PMT's PID that is looked at; on PID 0 only those behind the taken PAT section are.
pub record IsPmtSection (file : List ℕ) (program n k : ℕ) (found : Found) : Type 0 where
  pub packet : ℕ
  pub index : ℕ
  pub pid : ℕ
  pub pat : TakesPat file program packet index pid
  pub section : IsSection file pid (pmt_from packet pid) n k found
  pub behind : IsBefore packet index n k

-- ---- what is refused

-- a PAT section whose programs don't fill it, or what is no section
abbrev pub IsBadPat : Found → SectionFault → Type 0
IsBadPat (Ok section) fault = (fault ≡ BadSection) × IsCurrent 0 section × ((programs : List (ℕ × ℕ)) → IsPat programs section → ⊥)
IsBadPat (Err found) fault = found ≡ fault

-- a PMT section whose loops don't fill it or that has more than is kept, or what is no section
abbrev pub IsBadPmt : Found → SectionFault → Type 0
IsBadPmt (Ok section) fault = (fault ≡ BadSection) × IsCurrent 2 section × (pmt_of section ≡ None)
IsBadPmt (Err found) fault = found ≡ fault

-- a current PMT section of the program
abbrev pub IsMapOf : ℕ → Found → ProgramMap → Type 0
IsMapOf program (Ok section) map = (pmt_of section ≡ Some map) × (map.number ≡ program)
IsMapOf program (Err fault) map = ⊥

-- ---- what ends the reading of the tables

-- a refusal, or the PMT section that is taken
pub data Stop : Type 0 where
  refuse : DemuxFault → Stop
  take : ProgramMap → Stop

-- What could end the reading of the tables at the n-th packet. Its own faults come first (rank 0), then its sections in order
-- (rank 1 and their number).
pub data StopsAt (file : List ℕ) (program n rank : ℕ) (stop : Stop) : Type 0 where
  no_sync : rank ≡ 0 → HasNoSync file n → stop ≡ refuse (Sync (PACKET_BYTES * n)) → StopsAt file program n rank stop
  pat_packet : (fault : PidFault) → rank ≡ 0 → HasPidFault file pat_pid 0 n fault → stop ≡ refuse (of_pid (PACKET_BYTES * n) fault) → StopsAt file program n rank stop
  pmt_packet : (packet index pid : ℕ) (fault : PidFault) → rank ≡ 0 → TakesPat file program packet index pid → pid ≢ pat_pid
      → HasPidFault file pid (packet + 1) n fault → stop ≡ refuse (of_pid (PACKET_BYTES * n) fault) → StopsAt file program n rank stop
  pat_section : (k : ℕ) (found : Found) (fault : SectionFault) → rank ≡ k + 1 → IsSection file pat_pid 0 n k found → IsBadPat found fault
      → stop ≡ refuse (of_section (PACKET_BYTES * n) fault) → StopsAt file program n rank stop
  pmt_section : (k : ℕ) (found : Found) (fault : SectionFault) → rank ≡ k + 1 → IsPmtSection file program n k found → IsBadPmt found fault
      → stop ≡ refuse (of_section (PACKET_BYTES * n) fault) → StopsAt file program n rank stop
  map_section : (k : ℕ) (found : Found) (map : ProgramMap) → rank ≡ k + 1 → IsPmtSection file program n k found → IsMapOf program found map → stop ≡ take map → StopsAt file program n rank stop

-- the first of all that could end it
pub record StopsFirst (file : List ℕ) (program : ℕ) (stop : Stop) : Type 0 where
  pub packet : ℕ
  pub rank : ℕ
  pub stops : StopsAt file program packet rank stop
  pub first : (n other : ℕ) (before : Stop) → IsBefore n other packet rank → StopsAt file program n other before → ⊥

-- a current PAT section
abbrev pub IsPatSection : Found → Type 0
IsPatSection (Ok section) = IsCurrent 0 section
IsPatSection (Err fault) = ⊥

-- one stands on PID 0
pub record HasPat (file : List ℕ) : Type 0 where
  pub packet : ℕ
  pub index : ℕ
  pub found : Found
  pub section : IsSection file pat_pid 0 packet index found
  pub current : IsPatSection found

-- one of them names the program
pub record HasProgram (file : List ℕ) (program : ℕ) : Type 0 where
  pub packet : ℕ
  pub index : ℕ
  pub pid : ℕ
  pub pat : TakesPat file program packet index pid

-- nothing ends the reading of the tables before the file's end
abbrev pub NothingStops : List ℕ → ℕ → Type 0
NothingStops file program = (n rank : ℕ) (stop : Stop) → StopsAt file program n rank stop → ⊥

-- why the tables of a program aren't read
abbrev pub IsTablesFault : List ℕ → ℕ → DemuxFault → Type 0
IsTablesFault file program (NoPat at) = (at ≡ 0) × NothingStops file program × (HasPat file → ⊥)
IsTablesFault file program (NoProgram at) = (at ≡ 0) × NothingStops file program × HasPat file × (HasProgram file program → ⊥)
IsTablesFault file program (NoPmt at) = (at ≡ 0) × NothingStops file program × HasProgram file program
IsTablesFault file program fault = StopsFirst file program (refuse fault)

-- the tables of the program are read, and its map is this one
abbrev pub HasMap : List ℕ → ℕ → ProgramMap → Type 0
HasMap file program map = StopsFirst file program (take map)

-- ---- the PID of the map

-- the map of the program is on this PID: the PAT section that is taken says it
pub record IsMapPid (file : List ℕ) (program pid : ℕ) : Type 0 where
  pub packet : ℕ
  pub index : ℕ
  pub takes : TakesPat file program packet index pid

-- The tables of the program are read, and its map is this one, on this PID.
pub record IsPlacedMap (file : List ℕ) (program : ℕ) (placed : PlacedMap) : Type 0 where
  pub map_is : HasMap file program placed.map
  pub pid_is : IsMapPid file program placed.pid
