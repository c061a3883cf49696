use Rattle.std.proofs.Common.{◌≡◌, ℕ, ◌≤◌, All, length, take}
use Rattle.dual_bounds.specs.declared.constants.TheConstants.{LAMBDA_MOST}
use Rattle.buffer_windows.specs.declared.windows.BufferWindow.{BufferWindow}
use Rattle.buffer_windows.specs.Private.Prices.{charged_by}
use Rattle.buffer_windows.proofs.near.Near.around.Given as goal

-- of the windows so far those were left out that can't charge
abbrev pub invariant-loop-window : goal.invariant-loop-window
invariant-loop-window l = record {
  few : length l.near.items ≤ l.window-index;
  lambdas : All (λ (window : BufferWindow). window.lambda ≤ LAMBDA_MOST) l.near.items;
  alike : (program due bytes : ℕ) → l.due ≤ due → due ≤ l.upto
      → charged_by l.slot l.near.items program due bytes ≡ charged_by l.slot (take l.window-index l.windows) program due bytes;
}
