use Rattle.dual_bounds.proofs.AudioDue.{DuesStay-from_valid}
use Rattle.buffer_windows.proofs.audio.first_counted.Goals as goal

pub packets_by-requires : goal.packets_by-requires
packets_by-requires c = DuesStay-from_valid c.args.slot c.args.packets.now c.requires
