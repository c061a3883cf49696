-- The decoders of a table's rows have no fault.
use Rattle.std.specs.Prelude.{◌≡◌, ℕ, List, [], slice_get, Some}
use Rattle.version_table.specs.declared.table.Table.{Table}
use Rattle.slot_rule.specs.declared.queue_kind.QueueKind.TheVariants.{Video, Audio}
use Rattle.slot_rule.specs.declared.queued_packet.QueuedPacket.{QueuedPacket}
use Rattle.slot_rule.specs.declared.row.Row.{Row}
use Rattle.slot_rule.specs.Queues.{queues_of}
use Rattle.tstd_model.specs.declared.decoder_input.BufferKind.TheVariants.{Video as VideoBuffers, Audio as AudioBuffers, System as SystemBuffers}
use Rattle.tstd_model.specs.declared.decoder_input.Removal.{Removal}
use Rattle.tstd_model.specs.declared.fault.TstdFault.{TstdFault}
use Rattle.tstd_model.specs.Faults.{IsFault}
use Rattle.tstd_bridge.specs.Arrivals.{Headers, arrivals_from}
use Rattle.tstd_bridge.specs.Removals.{AreWithin, LeaveData, IsAllowed}
use Rattle.tstd_bridge.specs.Sections.{sections_from}

-- no decoder of a video stream, of an audio stream or of a program's sections has a fault under the rows, whatever PES headers
-- its packets have and whichever allowed removals there are; sections leak, and none are removed (13818-1, 2.4.2)
pub record AreClean (table : Table) (choice : List ℕ) (rows : List Row) : Type 0 where
  pub videos : (stream program vbv : ℕ) (packets : List QueuedPacket) (headers : Headers) (removals : List Removal) (fault : TstdFault)
      → slice_get (queues_of table choice) stream ≡ Some (record { kind = Video program vbv; packets = packets })
      → LeaveData headers packets → IsAllowed (Video program vbv) headers packets removals
      → IsFault table.slot (VideoBuffers vbv) (arrivals_from 0 stream (Video program vbv) headers rows) removals fault → ⊥
  pub audios : (stream : ℕ) (packets : List QueuedPacket) (headers : Headers) (removals : List Removal) (fault : TstdFault)
      → slice_get (queues_of table choice) stream ≡ Some (record { kind = Audio; packets = packets })
      → AreWithin headers packets → IsAllowed Audio headers packets removals
      → IsFault table.slot AudioBuffers (arrivals_from 0 stream Audio headers rows) removals fault → ⊥
  pub sections : (program : ℕ) (fault : TstdFault) → IsFault table.slot SystemBuffers (sections_from 0 program rows) [] fault → ⊥
