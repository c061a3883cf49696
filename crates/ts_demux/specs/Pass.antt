-- What a pass over the packets of a source, from its front, says of the file that the source gives.
use Rattle.std.specs.Prelude.{◌≡◌, ℕ, ◌<◌, ◌≤◌, ◌⊎◌, List, [], ◌++◌, length, Option}
use Rattle.stream_constants.specs.declared.packets.TheConstants.{PACKET_BYTES}
use Rattle.psi_tables.specs.declared.program_map.ProgramMap.{ProgramMap}
use Rattle.ts_demux.specs.declared.demux_fault.DemuxFault.{DemuxFault}
use Rattle.ts_demux.specs.declared.demux_fault.DemuxFault.TheVariants.{ShortFile}
use Rattle.ts_demux.specs.declared.pass_fault.PassFault.{PassFault}
use Rattle.ts_demux.specs.declared.pass_fault.PassFault.TheVariants.{Outside, Refused}
use Rattle.ts_demux.specs.PacketBuffer.{Passes, IsAtEnd}
use Rattle.ts_demux.specs.Tables.{HasMap, IsTablesFault}

-- P holds of every file that begins with the packets that were passed
pub record IsEarly (left left_after : Option (List ℕ)) (most most_after : ℕ) (held_after : List ℕ) (P : List ℕ → Type 0) : Type 0 where
  pub seen : List ℕ
  pub passes : Passes left left_after most most_after [] seen held_after
  pub every : (more : List ℕ) → P (seen ++ more)

-- the source has ended, and P holds of all that was read
pub record IsWhole (left left_after : Option (List ℕ)) (most most_after : ℕ) (held_after : List ℕ) (P : List ℕ → Type 0) : Type 0 where
  pub seen : List ℕ
  pub passes : Passes left left_after most most_after [] seen held_after
  pub end : IsAtEnd left_after
  pub whole : P (seen ++ held_after)

-- P holds of the file, as far as it was read
abbrev pub HoldsOfFile : Option (List ℕ) → Option (List ℕ) → ℕ → ℕ → List ℕ → (List ℕ → Type 0) → Type 0
HoldsOfFile left left_after most most_after held_after P = IsEarly left left_after most most_after held_after P ⊎ IsWhole left left_after most most_after held_after P

-- what is said of a refusal; a fault of the outside has its cause in the counts
abbrev pub OnRefused : PassFault → (DemuxFault → Type 0) → Type 0
OnRefused (Outside fault) P = Unit {0}
OnRefused (Refused fault) P = P fault

-- the tables of the program are read in a file of a packet or more
abbrev pub HasMapOf : ℕ → ProgramMap → List ℕ → Type 0
HasMapOf program map file = (PACKET_BYTES ≤ length file) × HasMap file program map

-- a file that is short, or else why the tables of the program aren't read
abbrev pub IsFrontRefused : ℕ → DemuxFault → List ℕ → Type 0
IsFrontRefused program fault file = ((length file < PACKET_BYTES) × (fault ≡ ShortFile 0)) ⊎ ((PACKET_BYTES ≤ length file) × IsTablesFault file program fault)
