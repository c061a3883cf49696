use Rattle.std.proofs.Common.{◌≡◌, ◌-◌, ◌≤◌, length, take, All}
use Rattle.program_reader.proofs.times_walk.TimesWalk.packet_of.Given as goal

abbrev pub invariant-loop-self : goal.invariant-loop-self
invariant-loop-self l = record {
  within : l.self.packet ≤ length l.packets;
  before : All (λ packet. packet.end ≤ l.at) (take l.self.packet l.packets);
  place : l.self.place ≡ l.fn.self.place;
}

abbrev pub decreases-loop-self : goal.decreases-loop-self
decreases-loop-self l = length l.packets - l.self.packet
