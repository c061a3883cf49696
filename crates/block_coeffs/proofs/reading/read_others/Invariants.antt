use Rattle.std.proofs.Common.{◌<◌, ◌-◌, ℕ, List, Option}
use Rattle.bit_cursor.specs.BitReader.{bits_left, place, KeepsSource}
use Rattle.picture_grammar.specs.Block.{coefficient}
use Rattle.grammar_reading.specs.BitsRead.{AdvancesFrom, ReadsFrom}
use Rattle.grammar_reading.specs.Several.{several}
use Rattle.block_coeffs.specs.Private.Pairs.{IsBehind}
use Rattle.block_coeffs.proofs.reading.read_others.Given as goal

abbrev pub invariant-coefficients : goal.invariant-coefficients
invariant-coefficients g l = record {
  so_far : (bits : Option (List ℕ)) (at : ℕ) → ReadsFrom (several (coefficient l.fn.way)) l.fn.into.items bits (bits_left l.fn.from) at (place l.fn.from)
      → ReadsFrom (several (coefficient l.fn.way)) l.into.items bits (bits_left l.from) at (place l.from);
  advanced : AdvancesFrom (bits_left l.fn.from) (bits_left l.from) (place l.fn.from) (place l.from);
  behind : 0 < l.index;
  place : IsBehind l.fn.way l.index l.into.items;
  keeps : KeepsSource l.fn.from l.from;
}

abbrev pub decreases-coefficients : goal.decreases-coefficients
decreases-coefficients g l = 64 - l.index
