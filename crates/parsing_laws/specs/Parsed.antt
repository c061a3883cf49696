-- What it is that a program was read back: its map, its coded units with their times, and its audio PES packets (ISO/IEC 13818-1, 2.4).
use Rattle.std.specs.Prelude.{◌≡◌, ℕ, ◌<◌, List, [], ◌∷◌, ◌++◌, length, drop, map}
use Rattle.std.specs.List.{flat_map}
use Rattle.bit_lists.specs.Payload.{Payload}
use Rattle.pes_units.specs.declared.times.Times.{Times}
use Rattle.pes_units.specs.PesHeader.{header_length}
use Rattle.pes_units.specs.VideoHeader.{AreInRange, IsBesidePts, written_pes_header}
use Rattle.psi_tables.specs.declared.program_map.ProgramMap.{ProgramMap}
use Rattle.psi_tables.specs.declared.stream.Stream.{Stream}
use Rattle.psi_tables.specs.Pmt.{without_dropped}
use Rattle.ts_packets.specs.TransportStream.{piece_count, pid_pieces}
use Rattle.ts_packets.specs.Carried.{carried}
use Rattle.ts_demux.specs.declared.demuxed.Demuxed.{Demuxed}
use Rattle.ts_demux.specs.declared.demuxed.PesUnit.{PesUnit}
use Rattle.ts_demux.specs.Demux.{IsDemuxed}
use Rattle.layer_laws.specs.PesPieces.{CarryAll}
use Rattle.layer_laws.specs.VideoPackets.{IsReadAsVideo}

-- ---- what is sent

-- a coded unit as it goes out: its times, and the bytes of the version that is sent
pub record SentUnit : Type 0 where
  pub times : Times
  pub bytes : List ℕ

-- a PES header can say its times, and it has bytes
pub record CanBeSaid (unit : SentUnit) : Type 0 where
  pub in_range : AreInRange unit.times
  pub beside : IsBesidePts unit.times
  pub some : 0 < length unit.bytes

-- its PES packet: a header with its times, then its bytes
abbrev pub sent_packet : SentUnit → List ℕ
sent_packet unit = written_pes_header unit.times ++ unit.bytes

-- a PID of a stream carries these PES packets and nothing else, each cut into payloads of its own
pub record CarriesPackets (stream : List ℕ) (pid : ℕ) (packets : List (List ℕ)) : Type 0 where
  pub cuts : List (List Payload)
  pub each : CarryAll packets cuts
  pub carried_are : map (λ carried. carried.payload) (carried (pid_pieces stream pid 0 (piece_count stream))) ≡ flat_map (λ payloads. payloads) cuts

-- the PID of each of some streams carries PES packets of its own
abbrev pub CarryPackets : (stream : List ℕ) → List Stream → List (List (List ℕ)) → Type 0
CarryPackets stream [] [] = Unit {0}
CarryPackets stream [] (_ ∷ _) = ⊥
CarryPackets stream (_ ∷ _) [] = ⊥
CarryPackets stream (audio ∷ audios) (packets ∷ more) = CarriesPackets stream audio.pid packets × CarryPackets stream audios more

-- ---- what is read

-- the bytes of PES packets
abbrev pub bytes_of_packets : List PesUnit → List (List ℕ)
bytes_of_packets packets = map (λ packet. packet.bytes) packets

-- PES packets, one for each unit in order, each read as a video packet of that unit's times, with its bytes behind the header
abbrev pub AreReadAs : List SentUnit → List (List ℕ) → Type 0
AreReadAs [] [] = Unit {0}
AreReadAs [] (_ ∷ _) = ⊥
AreReadAs (_ ∷ _) [] = ⊥
AreReadAs (unit ∷ units) (packet ∷ packets) = IsReadAsVideo unit.times unit.bytes packet × AreReadAs units packets

-- the bytes behind the headers of PES packets, joined
abbrev pub joined_payloads : List (List ℕ) → List ℕ
joined_payloads packets = flat_map (λ packet. drop (header_length packet) packet) packets

-- A stream is read as a program of this map, with these units and the PES packets of its audio streams: it is taken out of the stream with no refusal, its map
-- says the same streams with their kinds and descriptors, none is left out, its video has one PES packet for each unit, of the unit's times and with its bytes,
-- and each audio stream has these PES packets byte for byte.
pub record ParsesProgram (stream : List ℕ) (program_map : ProgramMap) (units : List SentUnit) (audios : List (List (List ℕ))) (demuxed : Demuxed) : Type 0 where
  pub taken_out : IsDemuxed stream program_map.number [] demuxed
  pub map_is : demuxed.map ≡ without_dropped program_map
  pub whole : demuxed.not_carried ≡ []
  pub video : AreReadAs units (bytes_of_packets demuxed.video)
  pub audio : map (λ audio. bytes_of_packets audio.units) demuxed.audios ≡ audios
