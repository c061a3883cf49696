-- Those of some windows that can charge for what is due in a stretch of time.
use Rattle.std.specs.Prelude.{◌≡◌, ℕ, ◌≤◌, List}
use Rattle.buffer_windows.specs.declared.near.Near.{Near}
use Rattle.buffer_windows.specs.declared.windows.BufferWindow.{BufferWindow}
use Rattle.buffer_windows.specs.Private.Prices.{charged_by}
use Rattle.buffer_windows.specs.Windows.{ArePriced}

-- for what is due in the stretch they charge what all windows do
pub record IsNear (slot : ℕ) (windows : List BufferWindow) (near : Near) : Type 0 where
  pub priced : ArePriced near.windows.items
  pub alike : (program due bytes : ℕ) → near.from ≤ due → due ≤ near.upto
      → charged_by slot near.windows.items program due bytes ≡ charged_by slot windows program due bytes
