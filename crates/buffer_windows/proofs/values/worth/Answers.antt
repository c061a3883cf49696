use Rattle.std.proofs.Common.{refl, arith}
use Rattle.std.proofs.lemmas.Int.{ints}
use Rattle.buffer_windows.specs.Values.{buffer_worth}
use Rattle.buffer_windows.proofs.OwnedCosts.{worth_next}
use Rattle.buffer_windows.proofs.NoWindow.{no_window}
use Rattle.buffer_windows.proofs.values.worth.Goals as goal

pub loop-window-init : goal.loop-window-init
unfolding buffer_worth
loop-window-init c = record { sum_is = refl; low = omega (arith, ints); high = omega (arith, ints) }

pub loop-window-preserved : goal.loop-window-preserved
loop-window-preserved c =
    let next = worth_next c.args.table.now c.args.windows.now c.loop-window.window-index no_window c.loop-window-test.true in
    record { sum_is = omega (arith, ints, next); low = omega (arith, ints); high = omega (arith, ints) }
