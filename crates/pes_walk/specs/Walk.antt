-- Where a walk over the payloads of a stream stands (ISO/IEC 13818-1, 2.4.3.3).
use Rattle.std.specs.Prelude.{◌≡◌, ℕ, ◌-◌, Bool, List, [], ◌++◌, take, drop, Option, Some, None, if◌then◌else◌}
use Rattle.std.specs.List.{flat_map}
use Rattle.std.specs.Option.{option_map, option_to_list}
use Rattle.bit_lists.specs.Payload.{CarriedPayload, is_start}
use Rattle.pes_units.specs.PesHeader.{header_length}
use Rattle.pes_units.specs.PesPackets.{Gathered, gathered}
use Rattle.pes_walk.specs.declared.walk.PesWalk.{PesWalk}
use Rattle.pes_walk.specs.declared.walk.TheConstants.{FRONT_BYTES}

-- it is of a video stream, or else of an audio stream
abbrev pub is_video : PesWalk → Bool
is_video walk = walk.video

-- ---- one payload more

-- a payload with its flag, of the transport packet at a place
abbrev pub carried_as : (at : ℕ) → (start : Bool) → List ℕ → CarriedPayload
carried_as at start bytes = record { at = at; payload = record { start = start; bytes = bytes } }

-- the PES packet that begins in a payload, as far as it has come
abbrev pub begun_in : CarriedPayload → Gathered
begun_in carried = record { at = carried.at; bytes = carried.payload.bytes }

-- a PES packet that goes on in a payload
abbrev pub with_more : CarriedPayload → Gathered → Gathered
with_more carried packet = record { at = packet.at; bytes = packet.bytes ++ carried.payload.bytes }

-- the PES packets that are ended behind one payload more: one that begins in it ends the open one
abbrev pub closed_behind : List Gathered → Option Gathered → CarriedPayload → List Gathered
closed_behind closed last carried = if is_start carried.payload then closed ++ option_to_list last else closed

-- the open PES packet behind one payload more
abbrev pub open_behind : Option Gathered → CarriedPayload → Option Gathered
open_behind last carried = if is_start carried.payload then Some (begun_in carried) else option_map (with_more carried) last

-- ---- what is kept

-- the first bytes of a PES packet, as many as are kept at most
abbrev pub front_of : List ℕ → List ℕ
front_of bytes = take FRONT_BYTES bytes

-- what is kept of the open PES packet
abbrev pub kept_of : Option Gathered → List ℕ
kept_of None = []
kept_of (Some packet) = front_of packet.bytes

-- The payloads carry these PES packets: some that are ended, and an open one, with which the next payload may go on. None is open
-- before the first one begins alone; what comes before it is in none of them.
pub record HasWalked (carried : List CarriedPayload) (closed : List Gathered) (last : Option Gathered) (walk : PesWalk) : Type 0 where
  pub packets : gathered carried ≡ closed ++ option_to_list last
  pub none : last ≡ None → closed ≡ []
  pub place : walk.begun ≡ option_map (λ packet. packet.at) last
  pub front : walk.front.items ≡ kept_of last

-- ---- the bytes behind headers

-- the bytes of a PES packet behind its header, as far as they have come (PES_packet_data_byte, 2.4.3.7)
abbrev pub packet_data : Gathered → List ℕ
packet_data packet = drop (header_length packet.bytes) packet.bytes

-- those of PES packets, one behind the other
abbrev pub all_data : List Gathered → List ℕ
all_data packets = flat_map packet_data packets

-- those of the open PES packet, as far as they are kept
abbrev pub kept_data : Option Gathered → List ℕ
kept_data None = []
kept_data (Some packet) = take (FRONT_BYTES - header_length packet.bytes) (packet_data packet)
