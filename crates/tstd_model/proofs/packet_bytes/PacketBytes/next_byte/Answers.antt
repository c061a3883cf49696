use Rattle.std.proofs.Common.{◌≡◌, [], ◌∷◌, sym, ◌∙◌, arith}
use Rattle.std.proofs.lemmas.List.{nil_from_length}
use Rattle.tstd_model.specs.Private.Cursors.{parts_left}
use Rattle.tstd_model.proofs.CursorSteps.{packets_left-byte, packets_left-none, packets_left-packet}
use Rattle.tstd_model.proofs.packet_bytes.PacketBytes.next_byte.Goals as goal

pub returns-in-Some : goal.returns-in-Some
returns-in-Some c =
    let inside = c.packets.self-inside in
    let next : parts_left inside.parts ≡ c.in-Some.part ∷ parts_left c.next.new.self = c.in-Some.ensures in
    sym c.self.view_is ∙ sym c.packets.invariant.same
    ∙ packets_left-byte inside.step inside.at (parts_left inside.parts) (parts_left c.next.new.self) c.in-Some.part inside.later.now next

pub returns-in_default-split_first : goal.returns-in_default-split_first
returns-in_default-split_first c =
    let inside = c.packets.self-inside in
    let none : parts_left inside.parts ≡ [] = (c.in_default.ensures).0 in
    let after : parts_left c.next.new.self ≡ [] = (c.in_default.ensures).1 in
    let end : inside.later.now ≡ [] = nil_from_length inside.later.now c.in_default-split_first.ensures.cases in (
      sym c.self.view_is ∙ sym c.packets.invariant.same ∙ packets_left-none inside.step inside.at (parts_left inside.parts) inside.later.now none end,
      packets_left-none inside.step inside.at (parts_left c.next.new.self) inside.later.now after end,
    )

pub packets-preserved : goal.packets-preserved
packets-preserved c =
    let inside = c.packets.self-inside in
    let none : parts_left inside.parts ≡ [] = (c.in_default.ensures).0 in
    let split : inside.later.now ≡ c.in-Some-split_first.packet.now ∷ c.in-Some-split_first.later.now = c.in-Some-split_first.ensures.cases.0 in
    record {
      same = sym (packets_left-packet inside.step inside.at c.first_instant-self-inside.result (parts_left inside.parts) (parts_left c.of-self-inside.result)
          c.in-Some-split_first.packet.now inside.later.now c.in-Some-split_first.later.now none split c.first_instant-self-inside.ensures.value c.of-self-inside.ensures.parts)
          ∙ c.packets.invariant.same;
      small = c.packets.invariant.small;
      fits = omega (arith, c.first_instant-self-inside.ensures.small, c.of-self-inside.ensures.few);
    }
