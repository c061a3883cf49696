-- The bytes of the packets that come, in order: what each belongs to, and lists with an entry for each byte.
use Rattle.std.specs.Prelude.{ℕ, ◌-◌, ◌*◌, ◌≤◌, List, [], ◌∷◌, ◌++◌, replicate, Bool, true, false, if◌then◌else◌}
use Rattle.std.specs.List.{flat_map}
use Rattle.stream_constants.specs.declared.clock.TheConstants.{BYTE_SUBTICKS_PER_TICK}
use Rattle.stream_constants.specs.declared.packets.TheConstants.{PACKET_BYTES}
pub use Rattle.tstd_model.specs.declared.decoder_input.Arrival.{Arrival}
pub use Rattle.tstd_model.specs.declared.decoder_input.PacketPart.{PacketPart}
pub use Rattle.tstd_model.specs.declared.decoder_input.PacketPart.TheVariants.{Overhead, PesHeader, Data}
use Rattle.tstd_model.specs.Instants.{spaced}

-- a PES header is within the payload, and the payload within the packet
abbrev pub HasHeaderWithin : Arrival → Type 0
HasHeaderWithin arrival = (arrival.header ≤ arrival.payload) × (arrival.payload ≤ PACKET_BYTES)

-- the parts of a packet's bytes
unfoldable pub parts_of : Arrival → List PacketPart
parts_of arrival =
    replicate (PACKET_BYTES - arrival.payload) Overhead
    ++ replicate arrival.header PesHeader
    ++ replicate (arrival.payload - arrival.header) Data

-- the parts of all bytes
unfoldable pub parts : List Arrival → List PacketPart
parts arrivals = flat_map parts_of arrivals

-- subticks from byte to byte of the multiplex, by the ticks of a slot
abbrev pub byte_subticks : (slot : ℕ) → ℕ
byte_subticks slot = BYTE_SUBTICKS_PER_TICK * slot

-- the instants at which the bytes of a packet come: byte k of slot n is byte 188 n + k of the multiplex
unfoldable pub arrives_in : (slot : ℕ) → Arrival → List ℕ
arrives_in slot arrival = spaced (PACKET_BYTES * arrival.slot_no * byte_subticks slot) (byte_subticks slot) PACKET_BYTES

-- the instants at which all bytes come
unfoldable pub arrives : (slot : ℕ) → List Arrival → List ℕ
arrives slot arrivals = flat_map (arrives_in slot) arrivals

-- payload, with PES headers
abbrev pub is_payload : PacketPart → Bool
is_payload Overhead = false
is_payload PesHeader = true
is_payload Data = true

-- payload without PES headers
abbrev pub is_data : PacketPart → Bool
is_data Overhead = false
is_data PesHeader = false
is_data Data = true

-- of a list with an entry for each byte, the entries of those bytes whose part passes a test
unfoldable pub kept : (PacketPart → Bool) → List PacketPart → List ℕ → List ℕ
kept test [] entries = []
kept test (part ∷ parts) [] = []
kept test (part ∷ parts) (entry ∷ entries) = if test part then entry ∷ kept test parts entries else kept test parts entries

-- the instants at which payload bytes leave a buffer, from those at which its data moves on: a byte of a PES header
-- vanishes with the next byte of data
unfoldable pub with_headers : List PacketPart → (moves : List ℕ) → List ℕ
with_headers [] moves = []
with_headers (Overhead ∷ parts) moves = with_headers parts moves
with_headers (PesHeader ∷ parts) [] = []
with_headers (PesHeader ∷ parts) (move ∷ later) = move ∷ with_headers parts (move ∷ later)
with_headers (Data ∷ parts) [] = []
with_headers (Data ∷ parts) (move ∷ later) = move ∷ with_headers parts later
