-- The queues of a table under a choice: of each elementary stream the packets in the order in which they are sent.
use Rattle.std.specs.Prelude.{ℕ, ◌+◌, ◌-◌, ◌*◌, ◌/◌, List, [], ◌∷◌, ◌++◌, length, map, drop, replicate}
use Rattle.std.specs.List.{flat_map, zip, enumerate_from}
use Rattle.version_table.specs.declared.table.AudioPacket.{AudioPacket}
use Rattle.version_table.specs.declared.table.ProgramRow.{ProgramRow}
use Rattle.version_table.specs.declared.table.Table.{Table}
use Rattle.version_table.specs.Choice.{version_at}
use Rattle.stream_constants.specs.declared.packets.TheConstants.{PAYLOAD_BYTES}
-- the video of a program, with the size of its elementary buffer in units of 2,048 bytes, or an audio stream
pub use Rattle.slot_rule.specs.declared.queue_kind.QueueKind.{QueueKind}
pub use Rattle.slot_rule.specs.declared.queue_kind.QueueKind.TheVariants.{Video, Audio}
-- a packet of an elementary stream that waits to be sent: the unit or audio packet that it is of, its place within it, its payload bytes, and when these are wanted and gone, in ticks
pub use Rattle.slot_rule.specs.declared.queued_packet.QueuedPacket.{QueuedPacket}

-- the packets of an elementary stream, in order
pub record Queue : Type 0 where
  pub kind : QueueKind
  pub packets : List QueuedPacket

-- the payloads that carry this many bytes: full ones, and a last one
abbrev pub payloads : ℕ → List ℕ
payloads bytes =
    let full = (bytes - 1) / PAYLOAD_BYTES in
    replicate full PAYLOAD_BYTES ++ (bytes - PAYLOAD_BYTES * full) ∷ []

-- the packets of unit `item`, of so many bytes, which is removed at its due time
abbrev pub unit_packets : (item due bytes : ℕ) → List QueuedPacket
unit_packets item due bytes =
    map (λ (piece, payload). record { item = item; piece = piece; payload = payload; due = due; gone = due }) (enumerate_from 0 (payloads bytes))

-- a program's video, each unit in the version that the choice names
abbrev pub video_queue : (program : ℕ) → ProgramRow → List ℕ → Queue
video_queue program row choice = record {
  kind = Video program row.vbv;
  packets = flat_map (λ (item, (unit, k)). unit_packets item unit.due (version_at unit k).bytes) (enumerate_from 0 (zip row.units choice));
}

-- an audio stream, each packet as it stands in the table
abbrev pub audio_of : List AudioPacket → Queue
audio_of packets = record {
  kind = Audio;
  packets = map (λ (item, packet). record { item = item; piece = 0; payload = packet.bytes; due = packet.due; gone = packet.gone }) (enumerate_from 0 packets);
}

-- the queues of these programs, of which the first has this number: of each the video, then its audio streams
abbrev pub queues_from : (program : ℕ) → List ProgramRow → List ℕ → List Queue
queues_from program [] choice = []
queues_from program (row ∷ rows) choice =
    (video_queue program row choice ∷ map audio_of row.audios)
    ++ queues_from (program + 1) rows (drop (length row.units) choice)

-- the queues of a table under a choice, in order
abbrev pub queues_of : Table → List ℕ → List Queue
queues_of table choice = queues_from 0 table.programs choice
