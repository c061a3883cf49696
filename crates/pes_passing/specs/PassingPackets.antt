-- The PES packets of a stream of a file that have passed, and the one that is open (ISO/IEC 13818-1, 2.4.3.3).
use Rattle.std.specs.Prelude.{◌≡◌, ℕ, ◌+◌, ◌*◌, ◌<◌, ◌≤◌, Bool, true, false, List, [], ◌∷◌, ◌++◌, length, slice_get, Option, Some, None}
use Rattle.std.specs.List.{sum_by}
use Rattle.std.specs.Option.{option_to_list}
use Rattle.stream_constants.specs.declared.packets.TheConstants.{PACKET_BYTES}
use Rattle.shelf_io.specs.Source.{source_bytes_most}
use Rattle.ts_packets.specs.TransportStream.{piece_count, pid_pieces}
use Rattle.ts_demux.specs.declared.demux_fault.DemuxFault.{DemuxFault}
use Rattle.ts_demux.specs.declared.demuxed.PesUnit.{PesUnit}
use Rattle.ts_demux.specs.CarriedPackets.{pids_read, StandsAt}
use Rattle.ts_demux.specs.Demux.{AreStreamsSound, IsStreamFault, units_in}
use Rattle.ts_demux.specs.PacketBuffer.{Passes}
use Rattle.ts_demux.specs.Pass.{IsWhole}
use Rattle.pes_passing.specs.declared.open_packet.OpenPacket.{OpenPacket}
use Rattle.pes_passing.specs.declared.passing_packets.PassingPackets.{PassingPackets}

-- ---- the walk

-- the PIDs whose packets are read
abbrev pub pids_of : PassingPackets → List ℕ
pids_of packets = pids_read packets.packets

-- the number among them of the one whose PES packets are given
abbrev pub index_of : PassingPackets → ℕ
index_of packets = packets.index

-- how many packets of the file were read
abbrev pub read_of : PassingPackets → ℕ
read_of packets = packets.read

-- how many PES packets have ended
abbrev pub count_of : PassingPackets → ℕ
count_of packets = packets.pes.count

-- the PES packet that has ended last, or is open
abbrev pub held_of : PassingPackets → Option PesUnit
held_of packets = packets.pes.held

-- a PES packet of which one payload has come
abbrev pub begun_packet : (at : ℕ) → List ℕ → PesUnit
begun_packet at payload = record { at = at; bytes = payload }

-- where the next one has begun that one is open, else the held one
abbrev pub open_between : (begun : Option ℕ) → (first : List ℕ) → (held : Option PesUnit) → Option PesUnit
open_between None first held = held
open_between (Some at) first held = Some (begun_packet at first)

-- the PES packet with which the next payload may go on
abbrev pub open_of : OpenPacket → Option PesUnit
open_of packet = open_between packet.begun packet.first.items packet.held

-- ---- where it stands in a file

-- the PES packets of a PID, as far as the packets before the n-th one of a file carry them
abbrev pub packets_before : (file : List ℕ) → (pid n : ℕ) → List PesUnit
packets_before file pid n = units_in (pid_pieces file pid 0 n)

-- how many bytes some PES packets have
abbrev pub size_of : List PesUnit → ℕ
size_of packets = sum_by (λ packet. length packet.bytes) packets

-- All of some PES packets have ended, but for an open one behind them. Only where there are none is none open.
pub record AreSplit (all ended : List PesUnit) (last : Option PesUnit) : Type 0 where
  pub packets : all ≡ ended ++ option_to_list last
  pub none : last ≡ None → ended ≡ []

-- It stands behind the packets of a file that were read, none of which is refused, and these PES packets have ended there. They are no more than those, and
-- have no more bytes.
pub record StandsIn (file : List ℕ) (ended : List PesUnit) (packets : PassingPackets) : Type 0 where
  pub stand : StandsAt file packets.read packets.packets
  pub sound : (n : ℕ) (fault : DemuxFault) → n < packets.read → IsStreamFault file (pids_of packets) n fault → ⊥
  pub pid : ℕ
  pub pid_is : slice_get (pids_of packets) packets.index ≡ Some pid
  pub split : AreSplit (packets_before file pid packets.read) ended (open_of packets.pes)
  pub count_is : count_of packets ≡ length ended
  pub few : length ended ≤ packets.read
  pub few_bytes : size_of (ended ++ option_to_list (open_of packets.pes)) ≤ PACKET_BYTES * packets.read

-- ---- what has passed of a source

-- The packets of a source from its front on have passed, and in every file that begins with them these PES packets have ended.
pub record HasPassed (left left_after : Option (List ℕ)) (most most_after : ℕ) (held : List ℕ) (ended : List PesUnit) (packets : PassingPackets) : Type 0 where
  pub most_few : most ≤ source_bytes_most
  pub seen : List ℕ
  pub passes : Passes left left_after most most_after [] seen held
  pub count : length seen ≡ PACKET_BYTES * packets.read
  pub every : (more : List ℕ) → StandsIn (seen ++ more) ended packets

-- It stands behind the last packet of a file, of which none is refused, and all PES packets of the stream are those that have ended, and a last one.
pub record StandsAtEnd (file : List ℕ) (ended : List PesUnit) (packets : PassingPackets) : Type 0 where
  pub read_is : packets.read ≡ piece_count file
  pub sound : AreStreamsSound file (pids_of packets)
  pub pid : ℕ
  pub pid_is : slice_get (pids_of packets) packets.index ≡ Some pid
  pub split : AreSplit (packets_before file pid (piece_count file)) ended (held_of packets)
  pub count_is : count_of packets ≡ length ended
  pub few : length ended ≤ packets.read
  pub few_bytes : size_of (ended ++ option_to_list (held_of packets)) ≤ PACKET_BYTES * packets.read

-- what comes of a step: one PES packet more has ended, which is held; or the source has, the held one is the last, and the bytes behind the last transport packet
-- are those that the buffer holds
abbrev pub Goes : (more : Bool) → (left left_after : Option (List ℕ)) → (most most_after : ℕ) → (held : List ℕ) → (ended : List PesUnit) → PassingPackets → Type 0
Goes true left left_after most most_after held ended packets =
    (packet : PesUnit) × (held_of packets ≡ Some packet) × HasPassed left left_after most most_after held (ended ++ packet ∷ []) packets
Goes false left left_after most most_after held ended packets =
    IsWhole left left_after most most_after held (λ file. StandsAtEnd file ended packets × (length file ≡ PACKET_BYTES * packets.read + length held))
