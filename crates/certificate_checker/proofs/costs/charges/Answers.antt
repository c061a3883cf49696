use Rattle.std.proofs.Common.{◌≡◌, ℕ, ◌+◌, ◌*◌, length, get_or, refl, ap₂, arith}
use Rattle.dual_bounds.specs.declared.windows.Window.{Window}
use Rattle.certificate_checker.specs.Private.FixedCosts.{packets_within}
use Rattle.sum_tree.specs.Nodes.{sum_from}
use Rattle.certificate_checker.proofs.FixedCosts.{no_window, one_window_more, windows_less}
use Rattle.certificate_checker.proofs.costs.charges.Goals as goal

-- a window in no list
abbrev nowhere : Window
nowhere = record { from = 0; due = 0; lambda = 0 }

pub loop-window-init : goal.loop-window-init
loop-window-init c = no_window c.args.tally.now c.args.windows.now

pub overflow_mul-total : goal.overflow_mul-total
overflow_mul-total c =
    let tally = c.args.tally.now in
    let windows = c.args.windows.now in
    let i = c.loop-window.window-index in
    let window : Window = get_or windows i nowhere in
    let own : c.from.result * c.packets_due.result ≡ window.lambda * sum_from (packets_within tally window.from window.due) 0 (length tally.order.items) =
    ap₂ (λ (a b : ℕ). a * b) c.from.ensures c.packets_due.ensures in
    omega (arith, own, one_window_more tally windows i window nowhere c.loop-window-test.true refl, windows_less tally windows (i + 1), c.requires.small)

pub overflow_add-total : goal.overflow_add-total
overflow_add-total c =
    let tally = c.args.tally.now in
    let windows = c.args.windows.now in
    let i = c.loop-window.window-index in
    let window : Window = get_or windows i nowhere in
    let own : c.from.result * c.packets_due.result ≡ window.lambda * sum_from (packets_within tally window.from window.due) 0 (length tally.order.items) =
    ap₂ (λ (a b : ℕ). a * b) c.from.ensures c.packets_due.ensures in
    omega (arith, own, c.loop-window.invariant, one_window_more tally windows i window nowhere c.loop-window-test.true refl, windows_less tally windows (i + 1), c.requires.small)

pub loop-window-preserved : goal.loop-window-preserved
loop-window-preserved c =
    let tally = c.args.tally.now in
    let windows = c.args.windows.now in
    let i = c.loop-window.window-index in
    let window : Window = get_or windows i nowhere in
    let own : c.from.result * c.packets_due.result ≡ window.lambda * sum_from (packets_within tally window.from window.due) 0 (length tally.order.items) =
    ap₂ (λ (a b : ℕ). a * b) c.from.ensures c.packets_due.ensures in
    omega (arith, own, c.loop-window.invariant, one_window_more tally windows i window nowhere c.loop-window-test.true refl)
