use Rattle.std.proofs.Common.{◌≤◌, arith}
use Rattle.std.proofs.lemmas.List.Elements.{All-more}
use Rattle.elementary_streams.specs.declared.pes_packets.PlacedPacket.{PlacedPacket}
use Rattle.program_reader.specs.PictureTimes.{no_times}
use Rattle.program_reader.proofs.TimesWalked.{next_of}
use Rattle.program_reader.proofs.times_walk.TimesWalk.packet_of.Goals as goal

-- a packet that an item is where none stands
abbrev nothing : PlacedPacket
nothing = record { from = 0; end = 0; header = record { stream_id = 0; stated = 0; times = no_times; len = 0 } }

pub returns-then-packet-at-clause-next : goal.returns-then-packet-at-clause-next
returns-then-packet-at-clause-next c = (omega (arith, c.if-packet-at.true), next_of c.args.packets.now c.loop-self.self.packet nothing (omega (arith, c.loop-self-test.true)))

pub loop-self-preserved : goal.loop-self-preserved
loop-self-preserved c = record {
  within = omega (arith, c.loop-self-test.true);
  before = All-more (λ packet. packet.end ≤ c.args.at) c.args.packets.now c.loop-self.self.packet nothing (omega (arith, c.loop-self-test.true)) c.loop-self.invariant.before (omega (arith, c.if-packet-at.false));
  place = c.loop-self.invariant.place;
}
