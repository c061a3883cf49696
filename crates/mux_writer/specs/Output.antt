-- The packets of an output stream (ISO/IEC 13818-1, 2.4.3): in each slot the packet of what stands there.
use Rattle.std.specs.Prelude.{ℕ, ◌+◌, ◌%◌, ◌<◌, ◌==◌, Bool, true, false, ◌&&◌, List, [], length, take, map, replicate, count_by, slice_index, slice_index_or, None, Some, if◌then◌else◌}
use Rattle.std.specs.List.{flat_map, range_with_len}
use Rattle.stream_constants.specs.declared.packets.TheConstants.{PAYLOAD_BYTES}
use Rattle.bit_lists.specs.Payload.{Payload}
use Rattle.ts_packets.specs.declared.adaptation_field.AdaptationField.{AdaptationField}
use Rattle.ts_packets.specs.Packet.{PacketRecord, written}
use Rattle.pcr_writer.specs.PcrPacket.{pcr_at, pcr_record}
use Rattle.slot_rule.specs.declared.sent.Sent.{Sent}
use Rattle.slot_rule.specs.declared.sent.Sent.TheVariants.{Null, Pat, Pmt, Pcr, Video, Audio}
use Rattle.mux_writer.specs.declared.layout.Layout.{Layout}
use Rattle.mux_writer.specs.declared.packets.TheConstants.{NULL_PID, PAT_PID}
use Rattle.mux_writer.specs.Layout.{map_pid, video_pid, stream_pid, stream_pids}
use Rattle.mux_writer.specs.Pieces.{Pieces}
use Rattle.mux_writer.specs.Tables.{pat_payload, pmt_payloads}

-- ---- what stands in a slot

-- what stands there is of the layout, and a piece is one that the source has
abbrev pub IsOfLayout : Layout → (has : (stream item piece : ℕ) → Type 0) → Sent → Type 0
IsOfLayout layout has Null = Unit {0}
IsOfLayout layout has Pat = Unit {0}
IsOfLayout layout has (Pmt program) = program < length layout.maps.items
IsOfLayout layout has (Pcr program) = program < length layout.maps.items
IsOfLayout layout has (Video stream unit piece) = (stream < length (stream_pids layout)) × has stream unit piece
IsOfLayout layout has (Audio stream packet) = (stream < length (stream_pids layout)) × has stream packet 0

-- the PID of its packet
abbrev pub pid_of : Layout → Sent → ℕ
pid_of layout Null = NULL_PID
pid_of layout Pat = PAT_PID
pid_of layout (Pmt program) = map_pid program
pid_of layout (Pcr program) = video_pid program
pid_of layout (Video stream unit piece) = stream_pid layout stream
pid_of layout (Audio stream packet) = stream_pid layout stream

-- its packet has payload, which a packet with a PCR alone has not
abbrev pub carries_payload : Sent → Bool
carries_payload (Pcr program) = false
carries_payload _ = true

-- how many packets with payload a PID has in some slots
abbrev pub payload_count : Layout → (pid : ℕ) → List Sent → ℕ
payload_count layout pid rows = count_by (λ sent. carries_payload sent && (pid_of layout sent == pid)) rows

-- ---- its packet

-- null packets: their counter may be any, and their payload too (2.4.3.3)
abbrev pub null_record : PacketRecord
null_record = record { pid = NULL_PID; start = false; counter = 0; field = None; payload = replicate PAYLOAD_BYTES 0xFF }

-- a packet with a section, or with nothing but payload that fills it
abbrev pub full_record : (pid : ℕ) → (start : Bool) → (counter : ℕ) → (payload : List ℕ) → PacketRecord
full_record pid start counter payload = record { pid = pid; start = start; counter = counter; field = None; payload = payload }

-- an adaptation field that says nothing: it is there for the bytes that it takes
abbrev pub stuffing_field : AdaptationField
stuffing_field = record { discontinuity = false; pcr = None }

-- a packet with payload of a stream, stuffed where that doesn't fill it
abbrev pub piece_record : (pid counter : ℕ) → Payload → PacketRecord
piece_record pid counter payload = record {
  pid = pid;
  start = payload.start;
  counter = counter;
  field = if length payload.bytes == PAYLOAD_BYTES then None else Some stuffing_field;
  payload = payload.bytes;
}

-- The packet of slot n, behind `count` packets with payload of its PID: the first of these has the counter 0, and a packet
-- with a PCR alone the counter of the last of them, 15 before the first.
abbrev pub output_packet : Layout → (slot : ℕ) → Pieces → (count n : ℕ) → Sent → PacketRecord
output_packet layout slot pieces count n Null = null_record
output_packet layout slot pieces count n Pat = full_record PAT_PID true (count % 16) (pat_payload layout)
output_packet layout slot pieces count n (Pmt program) = full_record (map_pid program) true (count % 16) (slice_index_or (pmt_payloads layout) program [])
output_packet layout slot pieces count n (Pcr program) = pcr_record (video_pid program) ((count + 15) % 16) (pcr_at (slice_index layout.bases.items program) n slot)
output_packet layout slot pieces count n (Video stream unit piece) = piece_record (stream_pid layout stream) (count % 16) (pieces stream unit piece)
output_packet layout slot pieces count n (Audio stream packet) = piece_record (stream_pid layout stream) (count % 16) (pieces stream packet 0)

-- ---- the stream

-- what stands in slot n
abbrev pub sent_in : List Sent → ℕ → Sent
sent_in rows n = slice_index_or rows n Null

-- the packet in slot n, its counter a count over the slots before
abbrev pub packet_in : Layout → (slot : ℕ) → Pieces → List Sent → ℕ → PacketRecord
packet_in layout slot pieces rows n = output_packet layout slot pieces (payload_count layout (pid_of layout (sent_in rows n)) (take n rows)) n (sent_in rows n)

-- the packets of the first n slots
abbrev pub packets_of_first : Layout → (slot : ℕ) → Pieces → List Sent → ℕ → List PacketRecord
packets_of_first layout slot pieces rows n = map (packet_in layout slot pieces rows) (range_with_len 0 n)

-- the packets of all slots, in order
abbrev pub output_packets : Layout → (slot : ℕ) → Pieces → List Sent → List PacketRecord
output_packets layout slot pieces rows = packets_of_first layout slot pieces rows (length rows)

-- the bytes of the output stream
abbrev pub output_stream : Layout → (slot : ℕ) → Pieces → List Sent → List ℕ
output_stream layout slot pieces rows = flat_map written (output_packets layout slot pieces rows)
