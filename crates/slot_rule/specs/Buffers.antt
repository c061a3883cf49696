-- What waits in a decoder's buffers after some slots: greatest values and sums over the whole list of rows.
use Rattle.std.specs.Prelude.{ℕ, ◌+◌, ◌-◌, ◌*◌, ◌≤◌, ◌==◌, nat_lt, List, [], ◌∷◌, length, map, max, sum, sum_by, Bool, false, ◌&&◌, if◌then◌else◌}
use Rattle.slot_rule.specs.declared.constants.TheConstants.{VIDEO_TB_GATE, AUDIO_TB_GATE, MB_SPARE_BYTES}
use Rattle.stream_constants.specs.declared.clock.TheConstants.{SUBTICKS_PER_TICK}
use Rattle.stream_constants.specs.declared.decoder.TheConstants.{VIDEO_TB_SUBTICKS, AUDIO_TB_SUBTICKS, MB_SUBTICKS, EB_UNIT_BYTES, VIDEO_BYTES, AUDIO_BYTES}
use Rattle.stream_constants.specs.declared.packets.TheConstants.{PACKET_BYTES}
use Rattle.slot_rule.specs.declared.sent.Sent.TheVariants.{Pcr}
use Rattle.slot_rule.specs.Queues.{QueueKind, Video, Audio}
-- what stands in a slot: what the timetable has there, a packet of a queue, or a null packet
pub use Rattle.slot_rule.specs.declared.row.Row.{Row}
pub use Rattle.slot_rule.specs.declared.row.Row.TheVariants.{Reserved, Carries, Empty}

-- the row carries a packet of the queue of this number
abbrev pub is_of : ℕ → Row → Bool
is_of stream (Carries s packet) = s == stream
is_of stream (Reserved sent) = false
is_of stream Empty = false

-- the row is the PCR of the program
abbrev pub is_pcr_of : ℕ → Row → Bool
is_pcr_of program (Reserved (Pcr p)) = p == program
is_pcr_of program _ = false

-- the payload bytes of the queue in the row
abbrev pub payload_in : ℕ → Row → ℕ
payload_in stream (Carries s packet) = if s == stream then packet.payload else 0
payload_in stream (Reserved sent) = 0
payload_in stream Empty = 0

-- the packets in the row that enter the queue's TB; a program's PCR goes on the PID of its video
abbrev pub packets_in : ℕ → QueueKind → Row → ℕ
packets_in stream (Video program vbv) row =
    (if is_of stream row then 1 else 0) + (if is_pcr_of program row then 1 else 0)
packets_in stream Audio row = if is_of stream row then 1 else 0

-- the work that waits after some slots, of which each brought the work in the list and each drained so much: the
-- greatest, over every slot to count from, of what came less what drained, and at least 0
abbrev pub waiting : (drain : ℕ) → List ℕ → ℕ
waiting drain [] = 0
waiting drain (work ∷ later) = max (sum (work ∷ later) - drain * length (work ∷ later)) (waiting drain later)

-- subticks that a byte takes to leave TB (13818-1, 2.4.2.3: Rx)
abbrev pub queue_tb_subticks : QueueKind → ℕ
queue_tb_subticks (Video program vbv) = VIDEO_TB_SUBTICKS
queue_tb_subticks Audio = AUDIO_TB_SUBTICKS

-- subticks of a slot
abbrev pub slot_subticks : ℕ → ℕ
slot_subticks slot = SUBTICKS_PER_TICK * slot

-- the work that waits in the queue's TB after these rows, in subticks
abbrev pub tb_work : (slot stream : ℕ) → QueueKind → List Row → ℕ
tb_work slot stream kind rows =
    waiting (slot_subticks slot) (map (λ row. PACKET_BYTES * queue_tb_subticks kind * packets_in stream kind row) rows)

-- the work that waits in the video queue's MB after these rows, in subticks
abbrev pub mb_work : (slot stream : ℕ) → List Row → ℕ
mb_work slot stream rows = waiting (slot_subticks slot) (map (λ row. MB_SUBTICKS * payload_in stream row) rows)

-- the payload bytes of the queue in the row, where they are gone later than a time
abbrev pub outstanding_in : (stream time : ℕ) → Row → ℕ
outstanding_in stream time (Carries s packet) = if (s == stream) && nat_lt time packet.gone then packet.payload else 0
outstanding_in stream time (Reserved sent) = 0
outstanding_in stream time Empty = 0

-- the payload bytes of the queue that were sent in these rows and are gone later than a time
abbrev pub outstanding : (stream time : ℕ) → List Row → ℕ
outstanding stream time rows = sum_by (outstanding_in stream time) rows

-- the bytes of the buffer from which units or frames are removed: EB of video, B of audio (13818-1, 2.4.2.3)
abbrev pub eb_or_b_bytes : QueueKind → ℕ
eb_or_b_bytes (Video program vbv) = EB_UNIT_BYTES * vbv
eb_or_b_bytes Audio = AUDIO_BYTES

-- the work that may wait in TB where a packet goes
abbrev pub tb_gate : QueueKind → ℕ
tb_gate (Video program vbv) = VIDEO_TB_GATE * VIDEO_TB_SUBTICKS
tb_gate Audio = AUDIO_TB_GATE * AUDIO_TB_SUBTICKS

-- the work that may wait in MB where a packet goes: MB's bytes less some that stay free
abbrev pub mb_gate : (vbv : ℕ) → ℕ
mb_gate vbv = (VIDEO_BYTES - EB_UNIT_BYTES * vbv - MB_SPARE_BYTES) * MB_SUBTICKS

-- a packet may go where so much work waits in MB; audio has none
abbrev pub MbPermits : QueueKind → (work : ℕ) → Type 0
MbPermits (Video program vbv) work = work ≤ mb_gate vbv
MbPermits Audio work = Unit {0}
