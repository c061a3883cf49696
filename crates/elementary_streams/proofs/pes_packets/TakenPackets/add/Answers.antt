use Rattle.std.proofs.Common.{ℕ, List, length, drop, ap, ◌∙◌, refl}
use Rattle.elementary_streams.proofs.TakenLemmas.{held_more}
use Rattle.elementary_streams.proofs.pes_packets.TakenPackets.add.Goals as goal

pub returns : goal.returns
returns c = record {
  holds = λ before holds.
      let both = held_more before c.args.packet.now c.args.self.now.payload.items c.bytes_behind-payload.result.now c.args.self.now.packets.items
      c.count_of-from.result c.count_of-end.result c.args.header holds.payload holds.placed c.requires
      (c.bytes_behind-payload.ensures ∙ ap (λ (xs : List ℕ). drop c.args.header.len xs) c.as_slice.ensures) c.count_of-from.ensures
      (c.count_of-end.ensures ∙ ap (λ (xs : List ℕ). length xs) c.in_ok-extend_from_slice.ensures.items) in
      record { payload = c.in_ok-extend_from_slice.ensures.items ∙ both.0; placed = c.in_ok-push.ensures.items ∙ both.1 };
  dropped = refl;
}
