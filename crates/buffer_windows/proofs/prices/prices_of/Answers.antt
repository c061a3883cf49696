use Rattle.std.proofs.Common.{◌*◌, get_or, ap, arith}
use Rattle.buffer_windows.proofs.OwnedCosts.{charged_next, charged_none}
use Rattle.buffer_windows.proofs.NoWindow.{no_window}
use Rattle.buffer_windows.proofs.prices.prices_of.Goals as goal

pub loop-window-init : goal.loop-window-init
loop-window-init c = record { value = λ bytes. omega (arith, charged_none c.args.slot c.args.program c.args.due bytes); bytes = omega arith; packets = omega arith }

pub loop-window-preserved : goal.loop-window-preserved
loop-window-preserved c =
    let own = get_or c.args.windows.now c.loop-window.window-index no_window in
    let limit = c.requires.priced.lambdas c.loop-window.window-index no_window c.loop-window-test.true in
    record {
      value = λ bytes. omega (
        arith,
        charged_next c.args.slot c.args.windows.now c.args.program c.args.due bytes c.loop-window.window-index no_window c.loop-window-test.true,
        c.loop-window.invariant.value bytes,
        c.with_charge-total.ensures.value bytes,
        ap (λ n. own.lambda * n) (c.charge_of.ensures bytes),
      );
      bytes = omega (arith, limit, c.with_charge-total.ensures.bytes, c.loop-window.invariant.bytes);
      packets = omega (arith, limit, c.with_charge-total.ensures.packets, c.loop-window.invariant.packets);
    }
