-- The PES packets of a stream that are taken, and what refuses them (ISO/IEC 13818-1, 2.4.3.6; what the end of a file may cut is
-- this project's).
use Rattle.std.specs.Prelude.{◌≡◌, ℕ, ◌+◌, Bool, List, [], ◌∷◌, ◌++◌, length, drop, All, Option, Some, None, if◌then◌else◌}
use Rattle.std.specs.List.{flat_map}
use Rattle.pes_units.specs.declared.pes_fault.PesFault.{PesFault}
use Rattle.pes_units.specs.PesHeader.{pes_fields_of, header_length}
use Rattle.pes_units.specs.PesPackets.{packet_refusal, last_refusal, is_dropped}
use Rattle.ts_demux.specs.declared.demuxed.PesUnit.{PesUnit}
use Rattle.elementary_streams.specs.declared.pes_packets.PlacedPacket.{PlacedPacket}
use Rattle.elementary_streams.specs.declared.stream_fault.StreamFault.{StreamFault}
use Rattle.elementary_streams.specs.declared.stream_fault.StreamFault.TheVariants.{Pes}

-- ---- what refuses them

-- the first fault of a PES packet, whole where others follow it; the last one the file's end may cut
abbrev pub fault_before : (video : Bool) → List PesUnit → PesUnit → Option PesFault
fault_before video [] packet = last_refusal video packet.bytes
fault_before video (_ ∷ _) packet = packet_refusal video packet.bytes

-- no PES packet of a stream has a fault
abbrev pub AreSound : (video : Bool) → List PesUnit → Type 0
AreSound video [] = Unit {0}
AreSound video (packet ∷ more) = (fault_before video more packet ≡ None) × AreSound video more

-- The first PES packet of a stream with a fault; those before it have none.
pub record IsPacketFault (video : Bool) (packets : List PesUnit) (fault : StreamFault) : Type 0 where
  pub before : List PesUnit
  pub packet : PesUnit
  pub more : List PesUnit
  pub split : packets ≡ before ++ packet ∷ more
  pub sound : All (λ earlier. packet_refusal video earlier.bytes ≡ None) before
  pub found : PesFault
  pub refused : fault_before video more packet ≡ Some found
  pub fault_is : fault ≡ Pes packet.at found

-- ---- what is taken

-- all PES packets of a stream, but a last one that is cut and dropped
abbrev pub taken : (video : Bool) → List PesUnit → List PesUnit
taken video [] = []
taken video (packet ∷ []) = if is_dropped video packet.bytes then [] else packet ∷ []
taken video (packet ∷ next ∷ more) = packet ∷ taken video (next ∷ more)

-- how many are dropped
abbrev pub packets_dropped : (video : Bool) → List PesUnit → ℕ
packets_dropped video [] = 0
packets_dropped video (packet ∷ []) = if is_dropped video packet.bytes then 1 else 0
packets_dropped video (packet ∷ next ∷ more) = packets_dropped video (next ∷ more)

-- the bytes behind the header of a PES packet
abbrev pub pes_payload_of : PesUnit → List ℕ
pes_payload_of packet = drop (header_length packet.bytes) packet.bytes

-- the payloads of PES packets, one behind the other: the elementary stream
abbrev pub joined : List PesUnit → List ℕ
joined packets = flat_map pes_payload_of packets

-- where the payload of each PES packet stands in the elementary stream, that of the first one from this place on
abbrev pub placed_from : (from : ℕ) → List PesUnit → List PlacedPacket
placed_from from [] = []
placed_from from (packet ∷ more) =
    record { from = from; end = from + length (pes_payload_of packet); header = pes_fields_of packet.bytes } ∷ placed_from (from + length (pes_payload_of packet)) more
