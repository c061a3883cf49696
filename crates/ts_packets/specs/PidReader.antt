-- Where a reader of the packets of a PID stands.
use Rattle.std.specs.Prelude.{◌≡◌, ℕ, Bool, true, false, List, [], ◌∷◌, Option, Some, None}
use Rattle.std.specs.Option.{option_map}
use Rattle.bit_lists.specs.Payload.{CarriedPayload}
use Rattle.ts_packets.specs.declared.packet.Packet.{Packet}
use Rattle.ts_packets.specs.declared.pid_reader.PidReader.{PidReader}
use Rattle.ts_packets.specs.Packet.{record_of}
use Rattle.ts_packets.specs.TransportStream.{Piece}
use Rattle.ts_packets.specs.Carried.{last_payload, carried_by}
use Rattle.ts_packets.specs.LastPayload.{numbered}

-- no packet is there
abbrev pub is_none_there : List Piece → Bool
is_none_there [] = true
is_none_there (_ ∷ _) = false

-- the reader has taken these packets, and keeps counter and payload of the last one with payload
pub record IsBehind (before : List Piece) (reader : PidReader) : Type 0 where
  pub first : reader.is_first ≡ is_none_there before
  pub last : reader.last ≡ option_map (λ placed. numbered placed.packet) (last_payload before)

-- what a taken packet carries, from its place in the file; nothing where none is taken
abbrev pub carried_at : ℕ → Option Packet → List CarriedPayload
carried_at at None = []
carried_at at (Some packet) = carried_by (record { at = at; packet = record_of packet }) ∷ []
