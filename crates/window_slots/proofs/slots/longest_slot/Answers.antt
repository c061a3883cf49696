use Rattle.std.proofs.Common.{◌+◌, arith}
use Rattle.window_slots.proofs.Rooms.{no_longer, none_more}
use Rattle.window_slots.proofs.slots.longest_slot.Goals as goal

pub returns-then-has_room : goal.returns-then-has_room
returns-then-has_room c =
    let table = c.args.table.now in
    let shorter = c.loop-shorter.shorter in (
      omega (arith, c.requires.slot_least),
      omega arith,
      c.has_room.ensures.0 c.if-has_room.true,
      (λ longer above most. no_longer table c.args.from c.args.due c.args.packets shorter c.loop-shorter.invariant longer (omega (arith, c.requires.slot_least)) most),
    )

pub returns-else-has_room : goal.returns-else-has_room
returns-else-has_room c =
    let table = c.args.table.now in
    let shorter = c.loop-shorter.shorter in
    let none = none_more table c.args.from c.args.due c.args.packets shorter c.loop-shorter.invariant
    (λ has. let yes = c.has_room.ensures.1 has in let no = c.if-has_room.false in cc) in
    λ slot least most. no_longer table c.args.from c.args.due c.args.packets (shorter + 1) none slot (omega (arith, c.requires.slot_least, least)) most
