-- What a list of rows brings to the decoder of a queue: the packets of its PID, and the buffers that they go through.
use Rattle.std.specs.Prelude.{ℕ, ◌+◌, ◌==◌, List, [], ◌∷◌, ◌++◌, replicate, if◌then◌else◌}
use Rattle.slot_rule.specs.declared.queue_kind.QueueKind.{QueueKind}
use Rattle.slot_rule.specs.declared.queued_packet.QueuedPacket.{QueuedPacket}
use Rattle.slot_rule.specs.declared.queue_kind.QueueKind.TheVariants.{Video, Audio}
use Rattle.slot_rule.specs.Buffers.{packets_in, payload_in}
use Rattle.slot_rule.specs.declared.row.Row.{Row}
use Rattle.slot_rule.specs.declared.row.Row.TheVariants.{Reserved, Carries, Empty}
use Rattle.tstd_model.specs.declared.decoder_input.Arrival.{Arrival}
use Rattle.tstd_model.specs.declared.decoder_input.BufferKind.{BufferKind}
use Rattle.tstd_model.specs.declared.decoder_input.BufferKind.TheVariants.{Video as VideoBuffers, Audio as AudioBuffers}

-- the buffers that a queue's packets go through (13818-1, 2.4.2.3)
abbrev pub buffers_of : QueueKind → BufferKind
buffers_of (Video program vbv) = VideoBuffers vbv
buffers_of Audio = AudioBuffers

-- how many bytes of PES header each packet's payload begins with
abbrev pub Headers : Type 0
Headers = QueuedPacket → ℕ

-- the PES header bytes of the queue in the row; a PCR packet has none
abbrev pub header_in : (stream : ℕ) → Headers → Row → ℕ
header_in stream headers (Carries s packet) = if s == stream then headers packet else 0
header_in stream headers (Reserved sent) = 0
header_in stream headers Empty = 0

-- the packet that the row brings onto the queue's PID, in the slot of this number: a packet of the queue, or a PCR packet
-- without payload; none where the row is another's
unfoldable pub arrival_in : (stream : ℕ) → QueueKind → Headers → (slot_no : ℕ) → Row → List Arrival
arrival_in stream kind headers slot_no row =
    replicate (packets_in stream kind row) (record { slot_no = slot_no; header = header_in stream headers row; payload = payload_in stream row })

-- the packets that the rows bring onto the queue's PID, where the first row stands in the slot of this number
unfoldable pub arrivals_from : (slot_no stream : ℕ) → QueueKind → Headers → List Row → List Arrival
arrivals_from slot_no stream kind headers [] = []
arrivals_from slot_no stream kind headers (row ∷ rows) = arrival_in stream kind headers slot_no row ++ arrivals_from (slot_no + 1) stream kind headers rows
