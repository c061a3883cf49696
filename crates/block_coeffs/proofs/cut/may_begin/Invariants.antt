use Rattle.std.proofs.Common.{◌≡◌, ℕ, ◌<◌, true}
use Rattle.block_coeffs.specs.Private.Cut.{symbol_fits}
use Rattle.grammar_reading.specs.Cut.{BeginsCode}
use Rattle.grammar_reading.specs.Window.{seen}
use Rattle.block_coeffs.proofs.cut.may_begin.Given as goal

abbrev pub invariant-loop-symbol : goal.invariant-loop-symbol
invariant-loop-symbol l = (s : ℕ) → s < l.symbol → symbol_fits l.place s ≡ true → BeginsCode l.table s (seen l.window l.window.known) → ⊥
