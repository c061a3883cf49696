-- What cursors over a decoder's bytes still give; no public clause cites these.
use Rattle.std.specs.Prelude.{◌≡◌, ℕ, ◌+◌, ◌*◌, List, [], ◌∷◌, ◌++◌, replicate, map, filter, max, Bool, Option, Some, None}
use Rattle.std.specs.List.{flat_map}
use Rattle.stream_constants.specs.declared.packets.TheConstants.{PACKET_BYTES}
use Rattle.tstd_model.specs.declared.packet_bytes.PacketByte.{PacketByte}
use Rattle.tstd_model.specs.declared.packet_bytes.PartsLeft.{PartsLeft}
use Rattle.tstd_model.specs.declared.passing.Wanted.{Wanted}
pub use Rattle.tstd_model.specs.Wanted.{is_wanted}
use Rattle.tstd_model.specs.PacketBytes.{Arrival, PacketPart, Overhead, PesHeader, Data, parts_of}

-- one step of a cursor: an item and what is left behind it, or none where nothing is left
abbrev pub Gives : {X : Type 0} → Option X → (before after : List X) → Type 0
Gives None before after = (before ≡ []) × (after ≡ [])
Gives (Some x) before after = before ≡ x ∷ after

-- the first item of a list, or none where there is no item
abbrev pub IsFirstOf : {X : Type 0} → Option X → List X → Type 0
IsFirstOf None items = items ≡ []
IsFirstOf {X} (Some x) items = (later : List X) × (items ≡ x ∷ later)

-- the parts of a packet's bytes that are still to come
abbrev pub parts_left : PartsLeft → List PacketPart
parts_left parts = replicate parts.overhead Overhead ++ replicate parts.header PesHeader ++ replicate parts.data Data

-- bytes of these parts, the first of which comes here, and each one step after the one before
unfoldable pub bytes_at : (step at : ℕ) → List PacketPart → List PacketByte
bytes_at step at [] = []
bytes_at step at (part ∷ parts) = record { part = part; at = at } ∷ bytes_at step (at + step) parts

-- the bytes of a packet
unfoldable pub bytes_of : (step : ℕ) → Arrival → List PacketByte
bytes_of step arrival = bytes_at step (PACKET_BYTES * arrival.slot_no * step) (parts_of arrival)

-- the bytes of packets
unfoldable pub bytes_of_all : (step : ℕ) → List Arrival → List PacketByte
bytes_of_all step arrivals = flat_map (bytes_of step) arrivals

-- what is left of packets: bytes of these parts, the first of which comes here, and those of the later packets
abbrev pub packets_left : (step at : ℕ) → List PacketPart → List Arrival → List PacketByte
packets_left step at parts later = bytes_at step at parts ++ bytes_of_all step later

-- bytes as they leave a buffer that each takes so many subticks to leave
unfoldable pub passed : (subticks before : ℕ) → List PacketByte → List PacketByte
passed subticks before [] = []
passed subticks before (byte ∷ bytes) =
    record { part = byte.part; at = max byte.at before + subticks } ∷ passed subticks (max byte.at before + subticks) bytes

-- the instants of bytes
abbrev pub instants_of : List PacketByte → List ℕ
instants_of bytes = map (λ byte. byte.at) bytes

-- what bytes belong to
abbrev pub parts_in : List PacketByte → List PacketPart
parts_in bytes = map (λ byte. byte.part) bytes

-- the bytes whose part passes a test
abbrev pub bytes_with : (PacketPart → Bool) → List PacketByte → List PacketByte
bytes_with test bytes = filter (λ byte. test byte.part) bytes

-- the instants of the wanted bytes
abbrev pub wanted_instants : Wanted → List PacketByte → List ℕ
wanted_instants wanted bytes = instants_of (bytes_with (is_wanted wanted) bytes)
