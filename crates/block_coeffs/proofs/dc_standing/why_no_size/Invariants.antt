use Rattle.std.proofs.Common.{ℕ, ◌<◌}
use Rattle.grammar_reading.specs.Cut.{BeginsCode}
use Rattle.grammar_reading.specs.Window.{seen}
use Rattle.block_coeffs.proofs.dc_standing.why_no_size.Given as goal

abbrev pub invariant-loop-size : goal.invariant-loop-size
invariant-loop-size l = (s : ℕ) → s < l.size → BeginsCode l.table s (seen l.window l.window.known) → ⊥
