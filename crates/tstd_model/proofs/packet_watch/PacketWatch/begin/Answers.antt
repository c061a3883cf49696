use Rattle.std.proofs.Common.{◌++◌, replicate, refl, ◌∙◌, ap}
use Rattle.tstd_model.specs.Private.Rooms.{room_bytes}
use Rattle.tstd_model.proofs.WatchGoes.{watched-none}
use Rattle.tstd_model.proofs.packet_watch.PacketWatch.begin.Goals as goal

pub returns : goal.returns
returns c =
    watched-none c.args.slot c.args.kind c.args.removals.now _
    (record {
      kind_is = refl;
      slot_is = c.new-tb.ensures.slot;
      subticks_are = c.new-tb.ensures.subticks ∙ c.tb_subticks.ensures.value;
      empty = c.new-tb.ensures.before;
      taken_are = c.new-taken.ensures ∙ c.new-later.ensures;
      rooms_are = c.new-moves.ensures.rooms ∙ ap (λ n. replicate n 0 ++ c.new-rooms.result) c.room_bytes.ensures ∙ ap (λ l. replicate (room_bytes c.args.kind) 0 ++ l) c.new-rooms.ensures;
      unmoved = c.new-moves.ensures.before;
      leaves_are = c.new-leaves.ensures ∙ ap (λ n. replicate n 0) c.mb_bytes.ensures;
    })
