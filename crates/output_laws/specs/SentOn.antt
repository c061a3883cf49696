-- What is sent on a PID in the slots of an output stream (ISO/IEC 13818-1, 2.4.3.3).
use Rattle.std.specs.Prelude.{ℕ, ◌-◌, ◌≤◌, ◌==◌, Bool, true, false, ◌&&◌, List, [], All, filter, length, map, replicate, take, drop, slice_index_or}
use Rattle.stream_constants.specs.declared.packets.TheConstants.{PAYLOAD_BYTES}
use Rattle.bit_lists.specs.Payload.{Payload}
use Rattle.slot_rule.specs.declared.sent.Sent.{Sent}
use Rattle.slot_rule.specs.declared.sent.Sent.TheVariants.{Null, Pat, Pmt, Pcr, Video, Audio}
use Rattle.mux_writer.specs.declared.layout.Layout.{Layout}
use Rattle.version_table.specs.declared.limits.TheConstants.{PROGRAMS_MOST}
use Rattle.mux_writer.specs.Layout.{IsLayout}
use Rattle.mux_writer.specs.Output.{IsOfLayout, carries_payload, pid_of}
use Rattle.mux_writer.specs.Pieces.{IsPayload, Pieces}
use Rattle.mux_writer.specs.Tables.{pat_payload, pmt_payloads}
use Rattle.output_laws.specs.Fields.{HaveNumbersInRange}

-- what the packet of a slot carries, with its start flag: a table's section begins in each of its packets; a PCR goes without payload
abbrev pub payload_sent : Layout → Pieces → Sent → Payload
payload_sent layout pieces Null = record { start = false; bytes = replicate PAYLOAD_BYTES 0xFF }
payload_sent layout pieces Pat = record { start = true; bytes = pat_payload layout }
payload_sent layout pieces (Pmt program) = record { start = true; bytes = slice_index_or (pmt_payloads layout) program [] }
payload_sent layout pieces (Pcr program) = record { start = false; bytes = [] }
payload_sent layout pieces (Video stream unit piece) = pieces stream unit piece
payload_sent layout pieces (Audio stream packet) = pieces stream packet 0

-- the slot sends payload on the PID
abbrev pub is_sent_on : Layout → (pid : ℕ) → Sent → Bool
is_sent_on layout pid sent = carries_payload sent && (pid_of layout sent == pid)

-- the payloads that slots send on a PID, in order
abbrev pub payloads_sent_on : Layout → Pieces → (pid : ℕ) → List Sent → List Payload
payloads_sent_on layout pieces pid rows = map (payload_sent layout pieces) (filter (is_sent_on layout pid) rows)

-- the slots from a number up to another, which isn't one of them
abbrev pub slots_between : List Sent → (from to : ℕ) → List Sent
slots_between rows from to = take (to - from) (drop from rows)

-- Rows of an output stream: they are of its layout, whose programs are no more and whose numbers no greater than there is room
-- for, and each piece that they name fits a packet.
pub record AreRowsOf (layout : Layout) (pieces : Pieces) (rows : List Sent) : Type 0 where
  pub is_layout : IsLayout layout
  pub few : length layout.maps.items ≤ PROGRAMS_MOST
  pub in_range : HaveNumbersInRange layout
  pub each : All (IsOfLayout layout (IsPayload pieces)) rows
