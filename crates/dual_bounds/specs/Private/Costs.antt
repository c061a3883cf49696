-- Windows that a value may be asked for.
use Rattle.std.specs.Prelude.{◌≤◌, List, length, All}
use Rattle.dual_bounds.specs.declared.constants.TheConstants.{LAMBDA_MOST, WINDOWS_MOST}
use Rattle.dual_bounds.specs.declared.windows.Window.{Window}

-- windows, few enough, with lambdas within their limit
pub record AreCharging (windows : List Window) : Type 0 where
  pub few : length windows ≤ WINDOWS_MOST
  pub lambdas : All (λ window. window.lambda ≤ LAMBDA_MOST) windows
