use Rattle.std.proofs.Common.{sym, ap, ◌∙◌, subst, arith}
use Rattle.std.proofs.lemmas.List.Sums.{sum_by_more, sum_by_more_le}
use Rattle.version_table.specs.Table.{IsValidAudio}
use Rattle.buffer_windows.specs.Room.{slots_taken}
use Rattle.buffer_windows.proofs.Counted.{all_taken-le}
use Rattle.buffer_windows.proofs.audio.slots_of.Goals as goal

pub slots_taken-total-requires-clause-valid : goal.slots_taken-total-requires-clause-valid
slots_taken-total-requires-clause-valid c =
    subst (IsValidAudio c.args.slot) (sym (c.as_slice.ensures ∙ c.packets-item.is)) (c.requires.valid c.loop-packets.packets-index c.packets-item.result c.loop-packets-test.true)

pub overflow_add-total : goal.overflow_add-total
overflow_add-total c =
    let own = ap (slots_taken c.args.slot c.args.window.now) (c.as_slice.ensures ∙ c.packets-item.is) in
    omega (
      arith,
      own,
      c.slots_taken-total.ensures,
      sum_by_more_le (slots_taken c.args.slot c.args.window.now) c.args.audios.now c.loop-packets.packets-index c.packets-item.result c.loop-packets-test.true,
      all_taken-le c.args.slot c.args.window.now c.args.audios.now,
      c.requires.few,
    )

pub loop-packets-preserved : goal.loop-packets-preserved
loop-packets-preserved c =
    let own = ap (slots_taken c.args.slot c.args.window.now) (c.as_slice.ensures ∙ c.packets-item.is) in
    omega (
      arith,
      own,
      c.slots_taken-total.ensures,
      sum_by_more (slots_taken c.args.slot c.args.window.now) c.args.audios.now c.loop-packets.packets-index c.packets-item.result c.loop-packets-test.true,
    )
