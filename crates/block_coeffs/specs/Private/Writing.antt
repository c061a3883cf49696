-- What a block must be to be written: each that some bits spell is such a block.
use Rattle.std.specs.Prelude.{ℕ, ◌+◌, ◌-◌, ◌<◌, ◌^◌, List, [], ◌∷◌, unsigned_abs}
use Rattle.syntax_types.specs.declared.block.TheConstants.{BLOCK_PLACES}
use Rattle.syntax_types.specs.declared.block.RunLevel.{RunLevel}
use Rattle.picture_grammar.specs.declared.escape.TheConstants.{RUN_BITS, LEVEL_BITS}

-- the run and the level fit an escape (7.2.2.3, Table B-16)
pub record CanStand (pair : RunLevel) : Type 0 where
  pub run : pair.run < 2 ^ RUN_BITS
  pub level : unsigned_abs pair.level < 2 ^ (LEVEL_BITS - 1)

-- and so do those of all these pairs, and none stands past the last place
abbrev pub CanFollow : ℕ → List RunLevel → Type 0
CanFollow place [] = Unit {0}
CanFollow place (pair ∷ pairs) = CanStand pair × (place + pair.run < BLOCK_PLACES) × CanFollow (place + (pair.run + 1)) pairs
