use Rattle.std.proofs.Common.{◌≡◌, ◌-◌, take, drop, min, sym, ap, ◌∙◌}
use Rattle.dual_bounds.proofs.AudioDue.{DuesStay-from_valid}
use Rattle.buffer_windows.proofs.Counted.{counted-is}
use Rattle.buffer_windows.proofs.audio.counted_run.Goals as goal

pub packets_by-until-requires : goal.packets_by-until-requires
packets_by-until-requires c = DuesStay-from_valid c.args.slot c.args.packets.now c.requires.valid

pub returns-clause-counted : goal.returns-clause-counted
returns-clause-counted c =
    let least : min c.first_counted-from.result c.packets_by-until.result ≡ c.min.result = sym c.min.ensures in
    counted-is c.args.slot c.args.window.now c.args.packets.now c.first_counted-from.result c.packets_by-until.result c.last_counted.result c.first_counted-from.ensures.start
    c.first_counted-from.ensures.behind c.packets_by-until.ensures c.last_counted.ensures
    ∙ ap (λ low. take (c.packets_by-until.result - low) (drop low c.args.packets.now)) least
