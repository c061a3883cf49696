use Rattle.std.proofs.Common.{◌≤◌, arith}
use Rattle.std.proofs.lemmas.Bool.{le-leb, leb-true}
use Rattle.window_slots.proofs.Rooms.{has_room, room_enough}
use Rattle.window_slots.proofs.slots.has_room.Goals as goal

pub returns : goal.returns
returns c =
    let table = c.args.table.now in
    let free = c.slots_free_in.ensures in
    let wanted = c.saturating_add.ensures in (
      (λ yes.
          let enough : c.saturating_add.result ≤ c.slots_free_in.result = leb-true c.saturating_add.result c.slots_free_in.result yes in
          has_room table c.args.from c.args.due c.args.packets c.args.slot (omega (arith, enough, free.value, free.few, c.requires.audio, wanted))),
      (λ has.
          let enough = room_enough table c.args.from c.args.due c.args.packets c.args.slot has in
          le-leb c.saturating_add.result c.slots_free_in.result (omega (arith, enough, free.value, free.few, c.requires.audio, wanted))),
    )
