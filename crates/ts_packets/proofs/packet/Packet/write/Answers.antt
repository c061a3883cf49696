use Rattle.std.proofs.Common.{◌≡◌, ◌≤◌, ◌+◌, ◌-◌, ◌++◌, ℕ, List, Option, Some, take, drop, length, length-append, length-take, length-drop, arith, sym, ap, subst, ◌∙◌}
use borrow.Rule.Slice.PartMut.{put_mid}
use Rattle.ts_packets.specs.declared.adaptation_field.AdaptationField.{AdaptationField}
use Rattle.ts_packets.specs.AdaptationField.{least_length, written_field}
use Rattle.ts_packets.specs.Packet.{record_of, IsPacket, IsPayloadLength, written_packet_header}
use Rattle.ts_packets.proofs.Writing.{written-alone, written-beside}
use Rattle.ts_packets.proofs.WrittenPackets.{written-packet}
use Rattle.ts_packets.proofs.packet.Packet.write.Goals as goal
use Rattle.ts_packets.proofs.packet.Packet.write.Goals.{in-Some, in_default}

pub returns-clause-bytes : goal.returns-clause-bytes
returns-clause-bytes c =
    let header-is : c.copy_from_slice.new.self ≡ written_packet_header (record_of c.args.self.now) = c.copy_from_slice.ensures.after ∙ c.header.ensures in
    let room_of : Option AdaptationField → Type 0 = λ field. IsPayloadLength field (length c.args.self.now.payload.now) in
    elim c.match-self.branch [
      | in-Some w ↦
          let room : length c.args.self.now.payload.now + least_length w.in-Some.field ≤ 183 = subst room_of w.in-Some.is c.requires.payload in
          let rest : List ℕ = drop 4 (c.copy_from_slice.new.self ++ drop 4 c.args.into.now) in
          let rest_size : length rest ≡ 184 = omega (
            arith,
            ap length header-is,
            length-drop 4 (c.copy_from_slice.new.self ++ drop 4 c.args.into.now),
            length-append c.copy_from_slice.new.self (drop 4 c.args.into.now),
            length-drop 4 c.args.into.now,
            c.told-into,
          ) in
          let size : length (take (188 - length c.args.self.now.payload.now - 4) rest) - 1
          ≡ 183 - length c.args.self.now.payload.now = omega (arith, length-take (188 - length c.args.self.now.payload.now - 4) rest) in
          let part-is : w.write.new.into ≡ written_field (Some w.in-Some.field) (183 - length c.args.self.now.payload.now) = w.write.ensures
          ∙ ap (λ (n : ℕ). written_field (Some w.in-Some.field) n) size in
          written-beside (record_of c.args.self.now) w.in-Some.field c.args.into.now c.match-self.into w.write.new.into _ w.in-Some.is room c.told-into part-is
          (w.into-is ∙ ap (λ (h : List ℕ). put_mid 4 (188 - length c.args.self.now.payload.now - 4) (h ++ drop 4 c.args.into.now) w.write.new.into) header-is) c.copy_from_slice-2.ensures.after
      | in_default w ↦
          written-alone (record_of c.args.self.now) c.args.into.now c.match-self.into _ w.in_default.is (subst room_of w.in_default.is c.requires.payload) c.told-into
          (w.into-is ∙ ap (λ (h : List ℕ). h ++ drop 4 c.args.into.now) header-is) c.copy_from_slice-2.ensures.after
    ]

pub returns-clause-packet : goal.returns-clause-packet
returns-clause-packet c = subst (IsPacket (record_of c.args.self.now)) (sym (returns-clause-bytes c)) (written-packet (record_of c.args.self.now) c.requires)
