use Rattle.std.proofs.Common.{◌≡◌, ◌<◌, ◌≤◌, IfSome, Bool, false, cond, [], ◌∷◌, ◌++◌, length, Option, Some, refl, sym, ap, ◌∙◌}
use Rattle.std.specs.Option.{option_map}
use Rattle.ts_packets.specs.declared.packet.Packet.{Packet}
use Rattle.ts_packets.specs.Packet.{record_of, packet_of}
use Rattle.ts_packets.specs.TransportStream.{Piece}
use Rattle.ts_packets.specs.Carried.{carried}
use Rattle.ts_packets.specs.PidReader.{carried_at}
use Rattle.ts_packets.specs.Private.PidReader.{taken_packet}
use Rattle.ts_packets.proofs.CarriedLemmas.{behind_nothing, behind_packet, carried_taken, packets_none, packets_one, placed_at, some_payload, no_payload, if_ok, payload_size, taken_fits}
use Rattle.ts_packets.proofs.pid_reader.PidReader.take.Goals as goal
use Rattle.ts_packets.proofs.pid_reader.PidReader.take.Goals.{then-not-is_empty, else-not-is_empty}

pub returns-in-Err-clause-behind : goal.returns-in-Err-clause-behind
returns-in-Err-clause-behind c before at behind =
    let piece : Piece = record { at = at; bytes = c.args.bytes.now } in
    behind_nothing before piece c.args.self.now (record { is_first = false; last = c.args.self.now.last }) behind (packets_none piece (sym c.in-Err.ensures.exact)) refl refl

pub returns-then-is_discontinuous-clause-behind : goal.returns-then-is_discontinuous-clause-behind
returns-then-is_discontinuous-clause-behind c before at behind =
    let piece : Piece = record { at = at; bytes = c.args.bytes.now } in
    let packet = c.in-Ok.packet in
    let is : packet_of c.args.bytes.now ≡ Some (record_of packet) = sym c.in-Ok.ensures.exact in
    elim c.if-not-is_empty.branch [
      | then-not-is_empty w ↦ rw w.self-is (behind_packet before piece (record_of packet) (record { is_first = false; last = w.keep.new.self })
          (packets_one piece (record_of packet) is ∙ ap (λ (some : Bool). cond some (placed_at at (record_of packet) ∷ []) [])
          (some_payload (length packet.payload.now) (sym c.is_empty.ensures ∙ w.if-not-is_empty.true))) refl w.keep.ensures)
      | else-not-is_empty w ↦ rw w.self-is (behind_nothing before piece c.args.self.now (record { is_first = false; last = c.args.self.now.last }) behind
          (packets_one piece (record_of packet) is ∙ ap (λ (some : Bool). cond some (placed_at at (record_of packet) ∷ []) [])
          (no_payload (length packet.payload.now) (sym c.is_empty.ensures ∙ w.if-not-is_empty.false))) refl refl)
    ]

pub returns-clause-behind : goal.returns-clause-behind
returns-clause-behind c before at behind =
    let piece : Piece = record { at = at; bytes = c.args.bytes.now } in
    let packet = c.in-Ok.packet in
    let is : packet_of c.args.bytes.now ≡ Some (record_of packet) = sym c.in-Ok.ensures.exact in
    elim c.if-not-is_empty.branch [
      | then-not-is_empty w ↦ rw w.self-is (behind_packet before piece (record_of packet) (record { is_first = false; last = w.keep.new.self })
          (packets_one piece (record_of packet) is ∙ ap (λ (some : Bool). cond some (placed_at at (record_of packet) ∷ []) [])
          (some_payload (length packet.payload.now) (sym c.is_empty.ensures ∙ w.if-not-is_empty.true))) refl w.keep.ensures)
      | else-not-is_empty w ↦ rw w.self-is (behind_nothing before piece c.args.self.now (record { is_first = false; last = c.args.self.now.last }) behind
          (packets_one piece (record_of packet) is ∙ ap (λ (some : Bool). cond some (placed_at at (record_of packet) ∷ []) [])
          (no_payload (length packet.payload.now) (sym c.is_empty.ensures ∙ w.if-not-is_empty.false))) refl refl)
    ]

pub returns-clause-carried : goal.returns-clause-carried
returns-clause-carried c before at behind =
    let piece : Piece = record { at = at; bytes = c.args.bytes.now } in
    let packet = c.in-Ok.packet in
    let last = c.args.self.now.last in
    if_ok (λ (taken : Option Packet). option_map record_of taken ≡ taken_packet (record_of packet) last)
    (λ (taken : Option Packet). carried (before ++ piece ∷ []) ≡ carried before ++ carried_at at taken) c.taken_behind-taken.result
    (λ taken is. carried_taken before piece (record_of packet) last taken (sym c.in-Ok.ensures.exact) behind.last is) c.taken_behind-taken.ensures.taken

pub returns-clause-fits : goal.returns-clause-fits
returns-clause-fits c =
    let packet = c.in-Ok.packet in
    let last = c.args.self.now.last in
    if_ok (λ (taken : Option Packet). option_map record_of taken ≡ taken_packet (record_of packet) last)
    (λ (taken : Option Packet). IfSome taken (λ (p : Packet). (0 < length p.payload.now) × (length p.payload.now ≤ 184))) c.taken_behind-taken.result
    (λ taken is. taken_fits (record_of packet) last taken (payload_size (record_of packet) c.args.bytes.now c.in-Ok.ensures.packet) is) c.taken_behind-taken.ensures.taken
