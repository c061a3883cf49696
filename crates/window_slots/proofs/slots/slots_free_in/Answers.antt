use Rattle.std.proofs.Common.{◌≡◌, ◌-◌, ◌/◌, ap, ap₂, ◌∙◌, arith}
use Rattle.std.specs.Int.{div_ceil}
use Rattle.stream_constants.specs.declared.decoder.TheConstants.{HOLD_TICKS}
use Rattle.dual_bounds.specs.declared.constants.TheConstants.{MARGIN_TICKS}
use Rattle.dual_bounds.specs.Room.{free_below}
use Rattle.dual_bounds.proofs.FreeSlots.{free_slots-is}
use Rattle.window_slots.specs.LongestSlot.{with_slot}
use Rattle.window_slots.proofs.slots.slots_free_in.Goals as goal

pub returns-clause-value : goal.returns-clause-value
returns-clause-value c =
    let table = with_slot c.args.table.now c.args.slot in
    let first : c.div_ceil-first.result ≡ div_ceil (c.args.from - HOLD_TICKS) c.args.slot = c.div_ceil-first.ensures ∙ ap₂ div_ceil c.saturating_sub.ensures c.from-ticks.ensures in
    let until : c.saturating_sub-2.result / c.from-ticks.result ≡ (c.args.due - MARGIN_TICKS) / c.args.slot = ap₂ ◌/◌ c.saturating_sub-2.ensures c.from-ticks.ensures in
    omega (arith, ap (free_below table) first, ap (free_below table) until, free_slots-is table c.args.from c.args.due (omega (arith, c.requires.least)))
