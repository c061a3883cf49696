-- The PES packets of a PID (ISO/IEC 13818-1, 2.4.3.3 and 2.4.3.6).
use Rattle.std.specs.Prelude.{ℕ, ◌+◌, ◌==◌, ◌≡◌, ◌<◌, nat_lt, Bool, true, false, not, ◌&&◌, ◌||◌, List, [], ◌∷◌, ◌++◌, length, drop, All, Option, Some, None, is_some, if◌then◌else◌}
use Rattle.std.specs.List.{find, flat_map}
use Rattle.bit_lists.specs.Payload.{CarriedPayload, is_start}
use Rattle.pes_units.specs.declared.pes_fault.PesFault.{PesFault}
use Rattle.pes_units.specs.declared.pes_fault.PesFault.TheVariants.{BadPrefix, Scrambled, BadMarker, BadLength}
use Rattle.pes_units.specs.declared.pes_header.PesHeader.{PesHeader}
use Rattle.pes_units.specs.PesHeader.{pes_packet_length, header_length, pes_fields_of, has_pes_fault, is_header_whole, pes_refusal}

-- ---- how they are gathered

-- the bytes of a PES packet, and the place of its first transport packet
pub record Gathered : Type 0 where
  pub at : ℕ
  pub bytes : List ℕ

-- the bytes before the next payload in which a PES packet begins
abbrev pub up_to_start : List CarriedPayload → List ℕ
up_to_start [] = []
up_to_start (carried ∷ more) = if is_start carried.payload then [] else carried.payload.bytes ++ up_to_start more

-- from each payload in which a PES packet begins up to the next one; what comes before the first is dropped
abbrev pub gathered : List CarriedPayload → List Gathered
gathered [] = []
gathered (carried ∷ more) =
    if is_start carried.payload then record { at = carried.at; bytes = carried.payload.bytes ++ up_to_start more } ∷ gathered more else gathered more

-- a PES packet cut into payloads: the first one, at its place, has bytes and the start flag, the others no flag
pub record IsCut (packet : Gathered) (pieces : List CarriedPayload) : Type 0 where
  pub first : List ℕ
  pub others : List CarriedPayload
  pub pieces_are : pieces ≡ record { at = packet.at; payload = record { start = true; bytes = first } } ∷ others
  pub some : 0 < length first
  pub flags : All (λ carried. carried.payload.start ≡ false) others
  pub joined : packet.bytes ≡ first ++ flat_map (λ carried. carried.payload.bytes) others

-- each packet cut in some way, one behind the other
abbrev pub AreCuts : List Gathered → List (List CarriedPayload) → Type 0
AreCuts [] [] = Unit {0}
AreCuts [] (_ ∷ _) = ⊥
AreCuts (_ ∷ _) [] = ⊥
AreCuts (packet ∷ packets) (pieces ∷ cuts) = IsCut packet pieces × AreCuts packets cuts

-- ---- the last one, which the end of the stream may cut

-- a last packet is cut: it has fewer bytes than it states, or too few to state it; no end is stated where video states 0
abbrev pub is_cut : Bool → List ℕ → Bool
is_cut video bytes = nat_lt (length bytes) 6 || (video && (pes_packet_length bytes == 0)) || nat_lt (length bytes) (6 + pes_packet_length bytes)

-- a packet that isn't cut is as long as it states; only video may state nothing
abbrev pub is_length_sound : Bool → List ℕ → Bool
is_length_sound video bytes = if pes_packet_length bytes == 0 then video else length bytes == 6 + pes_packet_length bytes

-- the first fault of a packet that isn't cut: its header's, or a length that it doesn't have
abbrev pub packet_refusal : Bool → List ℕ → Option PesFault
packet_refusal video bytes = if is_some (pes_refusal video bytes) then pes_refusal video bytes else if is_length_sound video bytes then None else Some BadLength

-- what refuses a last packet: where it is cut, that it is short or not as long as it states is no fault
abbrev pub last_refusal : Bool → List ℕ → Option PesFault
last_refusal video bytes =
    if not (is_cut video bytes) then packet_refusal video bytes
    else if is_header_whole bytes then find (has_pes_fault video bytes) (BadPrefix ∷ Scrambled ∷ BadMarker ∷ [])
    else find (has_pes_fault video bytes) (BadPrefix ∷ [])

-- a cut packet is dropped, but in video it is taken as it is where its header is whole
abbrev pub is_dropped : Bool → List ℕ → Bool
is_dropped video bytes = is_cut video bytes && not (video && is_header_whole bytes)
