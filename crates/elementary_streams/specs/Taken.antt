-- What is held of the PES packets of a stream.
use Rattle.std.specs.Prelude.{◌≡◌, Bool, List}
use Rattle.ts_demux.specs.declared.demuxed.PesUnit.{PesUnit}
use Rattle.elementary_streams.specs.declared.pes_packets.TakenPackets.{TakenPackets}
use Rattle.elementary_streams.specs.Packets.{AreSound, joined, packets_dropped, placed_from, taken}

-- these packets are held
pub record Holds (packets : List PesUnit) (held : TakenPackets) : Type 0 where
  pub payload : held.payload.items ≡ joined packets
  pub placed : held.packets.items ≡ placed_from 0 packets

-- all that is taken of the PES packets of a stream
pub record AreTaken (video : Bool) (packets : List PesUnit) (held : TakenPackets) : Type 0 where
  pub sound : AreSound video packets
  pub holds : Holds (taken video packets) held
  pub dropped : held.dropped ≡ packets_dropped video packets
