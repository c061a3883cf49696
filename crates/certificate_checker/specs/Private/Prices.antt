-- Lambdas that pass one after another, so that the price of a packet is what has risen less what has fallen.
use Rattle.std.specs.Prelude.{◌≡◌, ℕ, ◌<◌, ◌≤◌, List, length, take, cond, nat_lt, sum_by, All, slice_index_or}
use Rattle.std.specs.List.Sorted.{IsNonDecreasingBy}
use Rattle.dual_bounds.specs.declared.constants.TheConstants.{LAMBDA_MOST, WINDOWS_MOST}
use Rattle.dual_bounds.specs.declared.windows.Window.{Window as PricedWindow}
use Rattle.certificate_checker.specs.declared.prices.Dated.{Dated}
use Rattle.certificate_checker.specs.declared.prices.Passing.{Passing}

-- what a lambda adds to the sum of those with times before one
abbrev pub counted : (time : ℕ) → Dated → ℕ
counted time dated = cond (nat_lt dated.time time) dated.lambda 0

-- the lambda of a window from where it begins
abbrev pub rise_of : PricedWindow → Dated
rise_of window = record { time = window.from; lambda = window.lambda }

-- the lambda of a window behind where it ends
abbrev pub fall_of : PricedWindow → Dated
fall_of window = record { time = window.due; lambda = window.lambda }

-- lambdas, few enough, within their limit
pub record KeepsLimits (dated : List Dated) : Type 0 where
  pub few : length dated ≤ WINDOWS_MOST
  pub lambdas : All (λ one. one.lambda ≤ LAMBDA_MOST) dated

-- the first of some lambdas in order have passed, and their times are before this one
pub record HasPassed (time : ℕ) (passing : Passing) : Type 0 where
  pub limits : KeepsLimits passing.dated.items
  pub rising : IsNonDecreasingBy (λ one. one.time) passing.dated.items
  pub within : passing.place ≤ length passing.dated.items
  pub sum : passing.sum ≡ sum_by (λ one. one.lambda) (take passing.place passing.dated.items)
  pub passed : (k : ℕ) (d : Dated) → k < passing.place → (slice_index_or passing.dated.items k d).time < time
