-- The packets of one PID in a file, one by one: which clock reference, and how much payload each brings to a decoder (ISO/IEC 13818-1, 2.4.3.2 to 2.4.3.5).
use Rattle.std.specs.Prelude.{◌≡◌, ◌⊎◌, ℕ, ◌+◌, List, [], ◌∷◌, ◌++◌, length, drop, map, filter, Option, option_and_then, Result, Ok, Err}
use Rattle.std.specs.List.{flat_map, list_any, range_with_len}
use Rattle.std.specs.Option.{option_to_list}
use Rattle.bit_lists.specs.Payload.{CarriedPayload, is_start}
use Rattle.ts_packets.specs.Packet.{packet_of}
use Rattle.ts_packets.specs.TransportStream.{piece_at, piece_count, is_of_pid, pid_pieces}
use Rattle.ts_packets.specs.PidReader.{IsBehind}
use Rattle.ts_demux.specs.declared.demux_fault.DemuxFault.{DemuxFault}
use Rattle.ts_demux.specs.declared.pid_places.Place.{Place}
use Rattle.ts_demux.specs.declared.pid_places.PlaceReader.{PlaceReader}
use Rattle.ts_demux.specs.CarriedPackets.{carried_before}
use Rattle.ts_demux.specs.Demux.{AreStreamsSound, IsFirstStreamFault, IsStreamFault}
use Rattle.ts_demux.specs.Faults.{IsMemory}

-- ---- one packet

-- what the n-th packet adds to what a PID carries before it: its payload, or nothing where it has none or where that comes again
abbrev pub added_at : List ℕ → ℕ → ℕ → List CarriedPayload
added_at file pid n = drop (length (carried_before file pid n)) (carried_before file pid (n + 1))

-- the program clock reference of bytes, where they are a packet that has one, also of a packet that comes again (2.4.3.5)
abbrev pub pcr_in : List ℕ → Option ℕ
pcr_in bytes = option_and_then (λ packet. option_and_then (λ field. field.pcr) packet.field) (packet_of bytes)

-- the packet of a number, with these bytes, that adds this to what its PID carries
abbrev pub place_with : ℕ → List ℕ → List CarriedPayload → Place
place_with n bytes added = record {
  packet = n;
  pcr = pcr_in bytes;
  start = list_any (λ carried. is_start carried.payload) added;
  payload = length (flat_map (λ carried. carried.payload.bytes) added);
}

-- the n-th packet, which is one of the PID
abbrev pub place_at : List ℕ → ℕ → ℕ → Place
place_at file pid n = place_with n (piece_at file n) (added_at file pid n)

-- ---- all of a PID

-- the packets of a PID before the n-th packet of the file, in order
abbrev pub places_before : List ℕ → ℕ → ℕ → List Place
places_before file pid n = map (place_at file pid) (filter (is_of_pid file pid) (range_with_len 0 n))

-- the packets of a PID
abbrev pub places_on : List ℕ → ℕ → List Place
places_on file pid = places_before file pid (piece_count file)

-- The packets of a PID are these, and none of the file is refused for it: each has its sync byte, and those of the PID are whole and follow each other.
pub record ArePlaces (file : List ℕ) (pid : ℕ) (places : List Place) : Type 0 where
  pub sound : AreStreamsSound file (pid ∷ [])
  pub places_are : places ≡ places_on file pid

-- memory was wanted, or this is the fault of the first packet that is refused for the PID
abbrev pub IsPlacesFault : List ℕ → ℕ → DemuxFault → Type 0
IsPlacesFault file pid fault = IsMemory fault ⊎ IsFirstStreamFault file (pid ∷ []) fault

-- ---- packet by packet

-- a reader has taken the packets of its PID before the n-th packet of the file
abbrev pub IsBeforePlace : List ℕ → ℕ → PlaceReader → Type 0
IsBeforePlace file n reader = IsBehind (pid_pieces file reader.pid 0 n) reader.packets

-- The n-th packet isn't refused, and is this place where it is one of the PID.
pub record AddsPlace (file : List ℕ) (pid n : ℕ) (found : Option Place) : Type 0 where
  pub sound : (fault : DemuxFault) → IsStreamFault file (pid ∷ []) n fault → ⊥
  pub added : places_before file pid (n + 1) ≡ places_before file pid n ++ option_to_list found

-- what comes of the n-th packet
abbrev pub TakesPlace : List ℕ → ℕ → ℕ → Result (Option Place) DemuxFault → Type 0
TakesPlace file pid n (Ok found) = AddsPlace file pid n found
TakesPlace file pid n (Err fault) = IsStreamFault file (pid ∷ []) n fault
