use Rattle.std.proofs.Common.{◌≡◌, ◌<◌, ℕ, false}
use Rattle.picture_grammar.specs.Macroblock.{is_coded}
use Rattle.requantiser.proofs.macroblock.first_coded.Given as goal

-- no block before this one is coded
abbrev pub invariant-loop-i : goal.invariant-loop-i
invariant-loop-i l = (k : ℕ) → k < l.i → is_coded l.from.kind l.from.pattern k ≡ false
