use Rattle.std.proofs.Common.{◌≡◌, ℕ, ◌+◌, ◌*◌, ◌≤◌, take}
use Rattle.dual_bounds.specs.declared.constants.TheConstants.{LAMBDA_MOST}
use Rattle.buffer_windows.specs.Charged.{in_packets}
use Rattle.buffer_windows.specs.Private.Prices.{charged_by}
use Rattle.buffer_windows.proofs.prices.prices_of.Given as goal

abbrev pub invariant-loop-window : goal.invariant-loop-window
invariant-loop-window l = record {
  value : (bytes : ℕ) → charged_by l.slot (take l.window-index l.windows) l.program l.due bytes ≡ l.total.bytes * bytes + l.total.packets * in_packets bytes;
  bytes : l.total.bytes ≤ l.window-index * LAMBDA_MOST;
  packets : l.total.packets ≤ l.window-index * LAMBDA_MOST;
}
