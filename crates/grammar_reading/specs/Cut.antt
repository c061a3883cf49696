-- Bits that end within a code.
use Rattle.std.specs.Prelude.{◌≡◌, ℕ, Some, List}
use Rattle.bit_lists.specs.Bits.{IsPrefix}
use Rattle.prefix_codes.specs.declared.table_name.TableName.{TableName}
use Rattle.prefix_codes.specs.TableName.{code_in}

-- the bits begin the code of a symbol
pub record BeginsCode (table : TableName) (symbol : ℕ) (bits : List ℕ) : Type 0 where
  pub code : List ℕ
  pub listed : code_in table symbol ≡ Some code
  pub cut : IsPrefix bits code
