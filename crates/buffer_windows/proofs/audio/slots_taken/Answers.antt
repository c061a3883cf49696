use Rattle.std.proofs.Common.{length, List, ap, arith}
use Rattle.version_table.specs.declared.table.AudioPacket.{AudioPacket}
use Rattle.buffer_windows.specs.Room.{longest_before}
use Rattle.buffer_windows.proofs.audio.slots_taken.Goals as goal

pub returns : goal.returns
returns c =
    let counted = c.counted_run-run.ensures.counted in
    omega (
      arith,
      c.longest_before.ensures.value,
      ap (λ (packets : List AudioPacket). length packets) counted,
      ap (longest_before c.args.slot c.args.window.now) counted,
    )
