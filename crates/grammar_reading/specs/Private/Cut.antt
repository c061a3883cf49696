-- Bits that end within one of the codes that may stand there.
use Rattle.std.specs.Prelude.{◌≤◌, ℕ, List}
use Rattle.prefix_codes.specs.declared.table_name.TableName.{TableName}
use Rattle.grammar_reading.specs.Cut.{BeginsCode}

-- the bits begin the code of a symbol up to this one
pub record BeginsCodeUpTo (table : TableName) (most : ℕ) (bits : List ℕ) : Type 0 where
  pub symbol : ℕ
  pub within : symbol ≤ most
  pub begun : BeginsCode table symbol bits
