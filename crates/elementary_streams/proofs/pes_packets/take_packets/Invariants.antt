use Rattle.std.proofs.Common.{◌≡◌, All, take}
use Rattle.elementary_streams.specs.Taken.{Holds}
use Rattle.elementary_streams.proofs.TakenLemmas.{IsWhole}
use Rattle.elementary_streams.proofs.pes_packets.take_packets.Given as goal

abbrev pub invariant-loop-packet : goal.invariant-loop-packet
invariant-loop-packet l = Holds (take l.packet-index l.others) l.held × All (IsWhole l.video) (take l.packet-index l.others) × (l.held.dropped ≡ 0)
