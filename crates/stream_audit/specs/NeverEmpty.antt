-- A transport buffer that isn't empty once in a second, as each must be (ISO/IEC 13818-1, 2.4.2.6).
use Rattle.std.specs.Prelude.{◌≡◌, ℕ, ◌+◌, ◌<◌, ◌≤◌, List, map, Option, Some, None}
use Rattle.stream_constants.specs.declared.clock.TheConstants.{SUBTICKS_PER_SECOND}
use Rattle.stream_constants.specs.declared.decoder.TheConstants.{TB_BYTES}
use Rattle.tstd_model.specs.Instants.{departures}
use Rattle.tstd_model.specs.declared.decoder_input.Arrival.{Arrival}
use Rattle.tstd_model.specs.PacketBytes.{arrives}
use Rattle.tstd_model.specs.Decoder.{DecoderBuffer, bytes_in}

-- at each instant from one on up to another, which isn't one of them, a byte is in the buffer
abbrev pub IsNeverEmpty : DecoderBuffer → (from to : ℕ) → Type 0
IsNeverEmpty buffer from to = (at : ℕ) → from ≤ at → at < to → 0 < bytes_in buffer at

-- at this instant the buffer hasn't been empty for a second
pub record IsBusyAt (buffer : DecoderBuffer) (at : ℕ) : Type 0 where
  pub from : ℕ
  pub second : at ≡ from + SUBTICKS_PER_SECOND
  pub busy : IsNeverEmpty buffer from at

-- the first such instant, or none where there is none
abbrev pub IsFirstBusy : DecoderBuffer → Option ℕ → Type 0
IsFirstBusy buffer (Some at) = IsBusyAt buffer at × ((other : ℕ) → IsBusyAt buffer other → at ≤ other)
IsFirstBusy buffer None = (at : ℕ) → IsBusyAt buffer at → ⊥

-- a packet in a slot, of which nothing goes on from TB
abbrev pub packet_in : ℕ → Arrival
packet_in slot_no = record { slot_no = slot_no; header = 0; payload = 0 }

-- TB that these packets come into, in slots of so many ticks, and that a byte takes so many subticks to leave
abbrev pub buffer_with : (slot subticks : ℕ) → List Arrival → DecoderBuffer
buffer_with slot subticks arrivals = record { size = TB_BYTES; ins = arrives slot arrivals; outs = departures subticks 0 (arrives slot arrivals) }

-- the same, where packets come in these slots
abbrev pub buffer_of : (slot subticks : ℕ) → (packets : List ℕ) → DecoderBuffer
buffer_of slot subticks packets = buffer_with slot subticks (map packet_in packets)
