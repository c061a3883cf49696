-- The PES packets of a program that is taken out of a stream.
use Rattle.std.proofs.Common.{◌≡◌, ℕ, ◌<◌, List, [], ◌∷◌, ◌++◌, All, length, map, drop, Some, refl, sym, ap, ap₂, ◌∙◌, subst}
use Rattle.std.specs.List.{concat, flat_map}
use Rattle.std.proofs.lemmas.List.Elements.{All-head, All-tail}
use Rattle.bit_lists.specs.Payload.{CarriedPayload, Payload}
use Rattle.pes_units.specs.declared.times.Times.{Times}
use Rattle.pes_units.specs.PesHeader.{header_length}
use Rattle.pes_units.specs.PesPackets.{Gathered, gathered}
use Rattle.pes_units.specs.VideoHeader.{AreInRange, IsBesidePts, written_pes_header}
use Rattle.psi_tables.specs.declared.stream.Stream.{Stream}
use Rattle.ts_packets.specs.TransportStream.{piece_count, pid_pieces}
use Rattle.ts_packets.specs.Carried.{carried}
use Rattle.ts_demux.specs.declared.demuxed.AudioStream.{AudioStream}
use Rattle.ts_demux.specs.declared.demuxed.PesUnit.{PesUnit}
use Rattle.ts_demux.specs.Demux.{pes_packets_on}
use Rattle.layer_laws.specs.PesPieces.{CarryAll}
use Rattle.layer_laws.specs.VideoPackets.{IsReadAsVideo}
use Rattle.parsing_laws.specs.Parsed.{AreReadAs, CanBeSaid, CarriesPackets, CarryPackets, SentUnit, bytes_of_packets, joined_payloads, sent_packet}

-- ---- the laws below, as this crate calls them

abbrev pub GatheredAgain : Type 0
GatheredAgain =
    (packets : List (List ℕ)) (cuts : List (List Payload)) (carried : List CarriedPayload) → CarryAll packets cuts
    → map (λ (carried : CarriedPayload). carried.payload) carried ≡ flat_map (λ (payloads : List Payload). payloads) cuts → map (λ (packet : Gathered). packet.bytes) (gathered carried) ≡ packets

abbrev pub VideoAsWritten : Type 0
VideoAsWritten = (times : Times) (payload : List ℕ) → AreInRange times → IsBesidePts times → 0 < length payload → IsReadAsVideo times payload (written_pes_header times ++ payload)

-- ---- the PES packets of a stream

bytes-are : (packets : List Gathered) → bytes_of_packets (map (λ (packet : Gathered). record { at = packet.at; bytes = packet.bytes }) packets) ≡ map (λ (packet : Gathered). packet.bytes) packets
bytes-are [] = refl
bytes-are (packet ∷ packets) = ap (λ (rest : List (List ℕ)). packet.bytes ∷ rest) (bytes-are packets)

pub stream-packets : GatheredAgain → (file : List ℕ) (stream : Stream) (packets : List (List ℕ)) → CarriesPackets file stream.pid packets → bytes_of_packets (pes_packets_on file stream).units ≡ packets
stream-packets law file stream packets has =
    bytes-are (gathered (carried (pid_pieces file stream.pid 0 (piece_count file))))
    ∙ law packets has.cuts (carried (pid_pieces file stream.pid 0 (piece_count file))) has.each has.carried_are

pub audio-packets : GatheredAgain → (file : List ℕ) (audios : List Stream) (packets : List (List (List ℕ))) → CarryPackets file audios packets
    → map (λ (audio : AudioStream). bytes_of_packets audio.units) (map (pes_packets_on file) audios) ≡ packets
audio-packets law file [] [] carry = refl
audio-packets law file [] (p ∷ ps) carry = absurd carry
audio-packets law file (a ∷ more) [] carry = absurd carry
audio-packets law file (a ∷ more) (p ∷ ps) carry =
    ap₂ (λ (one : List (List ℕ)) (rest : List (List (List ℕ))). one ∷ rest) (stream-packets law file a p carry.0) (audio-packets law file more ps carry.1)

-- ---- video

pub units-read : VideoAsWritten → (units : List SentUnit) → All CanBeSaid units → AreReadAs units (map sent_packet units)
units-read law [] can = tt
units-read law (unit ∷ units) can =
    let one : CanBeSaid unit = All-head CanBeSaid unit units can in
    (law unit.times unit.bytes one.in_range one.beside one.some, units-read law units (All-tail CanBeSaid unit units can))

pub payloads-joined : (units : List SentUnit) (packets : List (List ℕ)) → AreReadAs units packets → joined_payloads packets ≡ concat (map (λ (unit : SentUnit). unit.bytes) units)
payloads-joined [] [] read = refl
payloads-joined [] (p ∷ ps) read = absurd read
payloads-joined (u ∷ us) [] read = absurd read
payloads-joined (u ∷ us) (p ∷ ps) read = ap₂ (λ (one rest : List ℕ). one ++ rest) read.0.payload_is (payloads-joined us ps read.1)
