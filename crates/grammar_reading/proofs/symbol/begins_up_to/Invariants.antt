use Rattle.std.proofs.Common.{ℕ, ◌<◌}
use Rattle.grammar_reading.specs.Window.{seen}
use Rattle.grammar_reading.specs.Cut.{BeginsCode}
use Rattle.grammar_reading.proofs.symbol.begins_up_to.Given as goal

abbrev pub invariant-loop-symbol : goal.invariant-loop-symbol
invariant-loop-symbol l = (s : ℕ) → s < l.symbol → BeginsCode l.table s (seen l.window l.window.known) → ⊥
