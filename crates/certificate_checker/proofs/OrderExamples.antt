-- Worked examples of nodes with two faults, of which the earlier one in the order of faults is said, wherever in the node each is.
use Rattle.std.proofs.Common.{◌≡◌, ℕ, zero, suc, ◌+◌, ◌<◌, ◌≤◌, ◌⊎◌, List, [], ◌∷◌, get_or, inl, inr, arith}
use Rattle.version_table.specs.declared.table.Table.{Table}
use Rattle.dual_bounds.specs.declared.windows.Window.{Window as PricedWindow}
use Rattle.bound_certificate.specs.declared.cert.Node.TheVariants.{Dual, Window}
use Rattle.certificate_checker.specs.declared.why.Why.TheVariants as whys
use Rattle.certificate_checker.specs.Faults.{WindowGoesBefore, IsFirstOfNode}

abbrev no_window : PricedWindow
no_window = record { from = 0; due = 0; lambda = 0 }

-- ---- a weight above 2^40 at the first multiplier, and a second one that is due at the same time
heavy_before_unordered : (table : Table) → IsFirstOfNode table []
    (Dual (record { items = record { due = 27200; lambda = 1099511627777 } ∷ record { due = 27200; lambda = 1 } ∷ [] })) whys.DueOrder
heavy_before_unordered table rise = not_before (rise 0 no_window (omega arith))
  where
    not_before : ((27200 < 27200) ⊎ ((◌≡◌ {A = ℕ} 27200 27200) × (0 < 0))) → ⊥
    not_before (inl due) = omega (arith, due)
    not_before (inr from) = omega (arith, from.1)

-- ---- one window that begins behind its due time, and has a weight above 2^40
abbrev empty_and_heavy : List PricedWindow
empty_and_heavy = record { from = 10; due = 9; lambda = 1099511627777 } ∷ []

empty_before_heavy : (table : Table) → IsFirstOfNode table [] (Window (record { items = empty_and_heavy })) whys.WindowEmpty
empty_before_heavy table = ((λ k d within. absurd (omega (arith, within))), (λ none. omega (arith, none 0 no_window (omega arith))))

-- ---- the same of two windows, the first of which has the weight and the second of which is empty
abbrev heavy_then_empty : List PricedWindow
heavy_then_empty = record { from = 0; due = 8; lambda = 1099511627777 } ∷ record { from = 10; due = 9; lambda = 1 } ∷ []

heavy_before_empty : (table : Table) → IsFirstOfNode table [] (Window (record { items = heavy_then_empty })) whys.WindowEmpty
heavy_before_empty table = (rises, (λ none. omega (arith, none 1 no_window (omega arith))))
  where
    rises : (k : ℕ) (d : PricedWindow) → k + 1 < 2 → WindowGoesBefore (get_or heavy_then_empty k d) (get_or heavy_then_empty (k + 1) d)
    rises zero d within = inl (omega arith)
    rises (suc k) d within = absurd (omega (arith, within))
