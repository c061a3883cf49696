-- Bits that end within a code of a coefficient (ISO/IEC 13818-2, 7.2.2).
use Rattle.std.specs.Prelude.{◌≡◌, ◌+◌, ◌/◌, ◌==◌, ℕ, nat_lt, Bool, true, List, if◌then◌else◌}
use Rattle.prefix_codes.specs.declared.symbol.TheConstants.{END_OF_BLOCK, ESCAPE, LEVELS_PER_RUN}
use Rattle.prefix_codes.specs.declared.table_name.TableName.{TableName}
use Rattle.grammar_reading.specs.Cut.{BeginsCode}
use Rattle.syntax_types.specs.declared.block.TheConstants.{BLOCK_PLACES}

-- the run of a symbol, and the least one of the escape
abbrev pub least_run : ℕ → ℕ
least_run symbol = if symbol == ESCAPE then 0 else symbol / LEVELS_PER_RUN

-- a coefficient with this symbol may stand at the place
abbrev pub symbol_fits : ℕ → ℕ → Bool
symbol_fits place symbol = if symbol == END_OF_BLOCK then true else nat_lt (place + least_run symbol) BLOCK_PLACES

-- the bits begin the code of a symbol that may stand at the place
pub record BeginAllowed (table : TableName) (place : ℕ) (bits : List ℕ) : Type 0 where
  pub symbol : ℕ
  pub fits : symbol_fits place symbol ≡ true
  pub begun : BeginsCode table symbol bits
