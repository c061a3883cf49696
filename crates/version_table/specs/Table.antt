-- What a table holds, and which tables are valid.
use Rattle.std.specs.Prelude.{ℕ, ◌*◌, ◌<◌, ◌≤◌, List, length, map, All, fold, max, sum_by}
use Rattle.std.specs.List.{flat_map}
use Rattle.std.specs.List.Sorted.{IsNonDecreasing, IsStrictlyIncreasing}
use Rattle.version_table.specs.declared.limits.TheConstants.{
  SLOT_LEAST,
  SLOT_MOST,
  NODES_MOST,
  EVALUATIONS_MOST,
  PROGRAMS_MOST,
  AUDIOS_MOST,
  UNITS_MOST,
  VERSIONS_MOST,
  VERSION_BYTES_MOST,
  DISTORTION_LIMIT,
  DISTORTIONS_LIMIT,
  TIME_SLOTS_MOST,
  AUDIO_PACKETS_LIMIT,
}
use Rattle.stream_constants.specs.declared.packets.TheConstants.{PAYLOAD_BYTES}
use Rattle.stream_constants.specs.declared.main_level.TheConstants.{VBV_MOST}
use Rattle.version_table.specs.declared.table.Version.{Version}
use Rattle.version_table.specs.declared.table.Unit.{Unit as CodedUnit}
use Rattle.version_table.specs.declared.table.AudioPacket.{AudioPacket}
use Rattle.version_table.specs.declared.table.ProgramRow.{ProgramRow}
use Rattle.version_table.specs.declared.table.Table.{Table}

-- the units of all programs, in program order
abbrev pub units_of : Table → List CodedUnit
units_of table = flat_map (λ program. program.units) table.programs

-- the audio packets of all streams, in stream order
abbrev pub audio_packets_of : Table → List AudioPacket
audio_packets_of table = flat_map (λ program. flat_map (λ packets. packets) program.audios) table.programs

-- the greatest of these numbers; of none 0
abbrev pub greatest : List ℕ → ℕ
greatest numbers = fold max 0 numbers

-- the greatest distortion of a unit, over its versions
abbrev pub greatest_distortion : CodedUnit → ℕ
greatest_distortion unit = greatest (map (λ version. version.distortion) unit.versions.items)

-- what the units of a table cost at most: the sum of their greatest distortions
abbrev pub greatest_distortions : Table → ℕ
greatest_distortions table = sum_by greatest_distortion (units_of table)

-- a version has bytes, and its bytes and distortion are within the limits
pub record IsValidVersion (version : Version) : Type 0 where
  pub some_bytes : 1 ≤ version.bytes
  pub bytes : version.bytes ≤ VERSION_BYTES_MOST
  pub distortion : version.distortion < DISTORTION_LIMIT

-- a unit's due time and versions, where a slot lasts this many ticks
pub record IsValidUnit (slot : ℕ) (unit : CodedUnit) : Type 0 where
  pub due : unit.due ≤ TIME_SLOTS_MOST * slot
  pub some_version : 1 ≤ length unit.versions.items
  pub few_versions : length unit.versions.items ≤ VERSIONS_MOST
  pub versions : All IsValidVersion unit.versions.items

-- an audio packet: it is gone no earlier than it is due, and its bytes fit a transport packet's payload
pub record IsValidPacket (slot : ℕ) (packet : AudioPacket) : Type 0 where
  pub due : packet.due ≤ packet.gone
  pub gone : packet.gone ≤ TIME_SLOTS_MOST * slot
  pub some_bytes : 1 ≤ packet.bytes
  pub bytes : packet.bytes ≤ PAYLOAD_BYTES

-- an audio stream: neither due nor gone times fall
pub record IsValidAudio (slot : ℕ) (packets : List AudioPacket) : Type 0 where
  pub each : All (IsValidPacket slot) packets
  pub dues : IsNonDecreasing (map (λ packet. packet.due) packets)
  pub gones : IsNonDecreasing (map (λ packet. packet.gone) packets)

-- a program: its units' due times rise strictly
pub record IsValidProgram (slot : ℕ) (program : ProgramRow) : Type 0 where
  pub some_vbv : 1 ≤ program.vbv
  pub vbv : program.vbv ≤ VBV_MOST
  pub units : All (IsValidUnit slot) program.units
  pub dues : IsStrictlyIncreasing (map (λ unit. unit.due) program.units)
  pub few_audios : length program.audios ≤ AUDIOS_MOST
  pub audios : All (IsValidAudio slot) program.audios

-- a table whose numbers and counts are within the limits
pub record IsValidTable (table : Table) : Type 0 where
  pub slot_least : SLOT_LEAST ≤ table.slot
  pub slot_most : table.slot ≤ SLOT_MOST
  pub some_nodes : 1 ≤ table.nodes
  pub nodes : table.nodes ≤ NODES_MOST
  pub evaluations : table.evaluations ≤ EVALUATIONS_MOST
  pub few_programs : length table.programs ≤ PROGRAMS_MOST
  pub programs : All (IsValidProgram table.slot) table.programs
  pub units : length (units_of table) ≤ UNITS_MOST
  pub audio_packets : length (audio_packets_of table) < AUDIO_PACKETS_LIMIT
  pub distortions : greatest_distortions table < DISTORTIONS_LIMIT
