use Rattle.std.proofs.Common.{◌≡◌, ◌+◌, ◌*◌, ◌^◌, ◌≤◌, length}
use Rattle.tstd_model.specs.Private.Cursors.{parts_left, packets_left}
use Rattle.tstd_model.proofs.packet_bytes.PacketBytes.next_byte.Given as goal

abbrev pub invariant-packets : goal.invariant-packets
invariant-packets l = record {
  same : packets_left l.self-inside.step l.self-inside.at (parts_left l.self-inside.parts) l.self-inside.later.now
      ≡ packets_left l.initial.self-inside.step l.initial.self-inside.at (parts_left l.initial.self-inside.parts) l.initial.self-inside.later.now;
  small : l.self-inside.step ≤ 2 ^ 19;
  fits : l.self-inside.at + 2 ^ 19 * length (parts_left l.self-inside.parts) ≤ 2 ^ 60;
}

abbrev pub decreases-packets : goal.decreases-packets
decreases-packets l = length l.self-inside.later.now
