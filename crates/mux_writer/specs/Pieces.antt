-- The payloads of the packets of streams, and how a buffer holds one.
use Rattle.std.specs.Prelude.{◌≡◌, ℕ, ◌≤◌, List, length, take}
use Rattle.stream_constants.specs.declared.packets.TheConstants.{PAYLOAD_BYTES}
use Rattle.bit_lists.specs.Payload.{Payload}
use Rattle.mux_writer.specs.declared.piece_source.Filled.{Filled}

-- for each stream, item of it and piece of the item, the payload with its start flag
abbrev pub Pieces : Type 0
Pieces = (stream item piece : ℕ) → Payload

-- a packet's payload has at least one byte, and no more than a packet has room for
pub record HasPayloadSize (bytes : ℕ) : Type 0 where
  pub some : 1 ≤ bytes
  pub fits : bytes ≤ PAYLOAD_BYTES

-- a piece is a packet's payload
abbrev pub IsPayload : Pieces → (stream item piece : ℕ) → Type 0
IsPayload pieces stream item piece = HasPayloadSize (length (pieces stream item piece).bytes)

-- a buffer holds the payload in its front: its flag and its length were answered
pub record IsFilledWith (payload : Payload) (filled : Filled) (buffer : List ℕ) : Type 0 where
  pub start : payload.start ≡ filled.start
  pub bytes : payload.bytes ≡ take filled.bytes buffer
