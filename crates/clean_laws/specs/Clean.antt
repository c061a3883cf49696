-- The bytes of a stream are clean: read by themselves, they give no decoder of the stream a fault (ISO/IEC 13818-1, 2.4.2).
use Rattle.std.specs.Prelude.{◌≡◌, ℕ, ◌+◌, ◌<◌, List, [], length, map, slice_get, Some}
use Rattle.std.specs.List.{AllZip}
use Rattle.bit_lists.specs.Payload.{Payload}
use Rattle.ts_packets.specs.Packet.{PacketRecord}
use Rattle.ts_packets.specs.TransportStream.{packets, rest_of}
use Rattle.ts_packets.specs.Carried.{payloads_on}
use Rattle.version_table.specs.declared.table.AudioPacket.{AudioPacket}
use Rattle.version_table.specs.declared.table.ProgramRow.{ProgramRow}
use Rattle.version_table.specs.declared.table.Table.{Table}
use Rattle.slot_rule.specs.declared.queued_packet.QueuedPacket.{QueuedPacket}
use Rattle.slot_rule.specs.Queues.{Queue, audio_of, video_queue}
use Rattle.slot_rule.specs.Sent.{choice_from}
use Rattle.tstd_model.specs.declared.decoder_input.BufferKind.TheVariants.{System}
use Rattle.tstd_model.specs.declared.decoder_input.Removal.{Removal}
use Rattle.tstd_model.specs.declared.fault.TstdFault.{TstdFault}
use Rattle.tstd_model.specs.Faults.{IsFault}
use Rattle.tstd_bridge.specs.Arrivals.{Headers, buffers_of}
use Rattle.tstd_bridge.specs.Removals.{IsAllowed}
use Rattle.mux_writer.specs.Layout.{map_pid, video_pid}
use Rattle.clean_laws.specs.Arrivals.{arrivals_on, header_bytes, section_arrivals}

-- a payload is that of a packet of a queue: as long, and with as many bytes of PES header
pub record IsPayloadOf (headers : Headers) (payload : Payload) (packet : QueuedPacket) : Type 0 where
  pub size : length payload.bytes ≡ packet.payload
  pub header : header_bytes payload ≡ headers packet

-- The payloads of a PID are those of the packets of a queue, in order, each once; and what the packets of the PID bring to the stream's decoder
-- gives it no fault, whichever removals take each byte between its packet's due and gone times. There are such removals.
pub record IsCleanOn (slot pid : ℕ) (queue : Queue) (stream : List PacketRecord) : Type 0 where
  pub headers : Headers
  pub payloads : AllZip (IsPayloadOf headers) (payloads_on pid stream) queue.packets
  pub allowed : (removals : List Removal) × IsAllowed queue.kind headers queue.packets removals
  pub clean : (removals : List Removal) (fault : TstdFault) → IsAllowed queue.kind headers queue.packets removals
      → IsFault slot (buffers_of queue.kind) (arrivals_on pid stream) removals fault → ⊥

-- The bytes are whole packets, and none of the decoders of a table's programs has a fault over them: of each video stream and each audio stream,
-- whose bytes are removed by the times of the table under the choice, and of each program's sections, the PAT and its map.
pub record IsCleanStream (table : Table) (choice : List ℕ) (bytes : List ℕ) : Type 0 where
  pub stream : List PacketRecord
  pub read : packets bytes ≡ map Some stream
  pub whole : rest_of bytes ≡ []
  pub videos : (program : ℕ) (row : ProgramRow) → slice_get table.programs program ≡ Some row
      → IsCleanOn table.slot (video_pid program) (video_queue program row (choice_from table.programs program choice)) stream
  pub audios : (program audio : ℕ) (row : ProgramRow) (audio_packets : List AudioPacket) → slice_get table.programs program ≡ Some row
      → slice_get row.audios audio ≡ Some audio_packets → IsCleanOn table.slot (video_pid program + 1 + audio) (audio_of audio_packets) stream
  pub sections : (program : ℕ) → program < length table.programs → (fault : TstdFault)
      → IsFault table.slot System (section_arrivals (map_pid program) stream) [] fault → ⊥
