use Rattle.std.proofs.Common.{ap, arith}
use Rattle.dual_bounds.specs.Room.{free_below}
use Rattle.buffer_windows.proofs.FreeBetween.{free_slots-is}
use Rattle.buffer_windows.proofs.rooms.free_slots.Goals as goal

pub returns-clause-value : goal.returns-clause-value
returns-clause-value c =
    let table = c.args.table.now in
    omega (
      arith,
      c.saturating_sub.ensures,
      c.slots_free_below-below.ensures.value,
      c.slots_free_below.ensures.value,
      ap (free_below table) c.from.ensures,
      ap (free_below table) c.from-2.ensures,
      free_slots-is table c.args.window.now,
    )
