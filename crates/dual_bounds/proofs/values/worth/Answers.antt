use Rattle.std.proofs.Common.{sym, arith}
use Rattle.std.proofs.lemmas.Int.{ints}
use Rattle.dual_bounds.specs.declared.windows.Window.{Window}
use Rattle.dual_bounds.proofs.Charges.{worth_next, worth_none}
use Rattle.dual_bounds.proofs.values.worth.Goals as goal

pub loop-window-init : goal.loop-window-init
loop-window-init c = record { sum_is = sym (worth_none c.args.table.now); low = omega (arith, ints); high = omega (arith, ints) }

pub loop-window-preserved : goal.loop-window-preserved
loop-window-preserved c =
    let none : Window = record { from = 0; due = 0; lambda = 0 } in
    let next = worth_next c.args.table.now c.args.windows.now c.loop-window.window-index none c.loop-window-test.true in
    record { sum_is = omega (arith, ints, next); low = omega (arith, ints); high = omega (arith, ints) }
