-- The code tables by name (ISO/IEC 13818-2, Annex B).
use Rattle.std.specs.Prelude.{◌≡◌, ℕ, Bool, true, false, ◌&&◌, nat_eq, nat_lt, Option, Some, None, unwrap_or, List, [], length, if◌then◌else◌}
use Rattle.std.specs.Map.{lookup}
use Rattle.prefix_codes.specs.declared.symbol.TheConstants.{LEVELS_PER_RUN, RUNS}
use Rattle.prefix_codes.specs.declared.table_name.TableName.{TableName}
use Rattle.prefix_codes.specs.declared.table_name.TableName.TheVariants.{Address, TypeI, TypeP, TypeB, Pattern, Motion, DcLuma, DcChroma, CoeffZero, CoeffFirst, CoeffOne}
use Rattle.bit_lists.specs.Bits.{IsPrefix}
use Rattle.prefix_codes.specs.Entry.{Entry, coefficient_symbol}
use Rattle.prefix_codes.specs.MacroblockTables.{
  macroblock_address_increment,
  macroblock_type_i,
  macroblock_type_p,
  macroblock_type_b,
  coded_block_pattern,
  motion_code,
  dct_dc_size_luminance,
  dct_dc_size_chrominance,
}
use Rattle.prefix_codes.specs.CoefficientTables.{dct_coefficients_zero, dct_coefficients_first, dct_coefficients_one}

-- the entries of a table
abbrev pub entries : TableName → List Entry
entries Address = macroblock_address_increment
entries TypeI = macroblock_type_i
entries TypeP = macroblock_type_p
entries TypeB = macroblock_type_b
entries Pattern = coded_block_pattern
entries Motion = motion_code
entries DcLuma = dct_dc_size_luminance
entries DcChroma = dct_dc_size_chrominance
entries CoeffZero = dct_coefficients_zero
entries CoeffFirst = dct_coefficients_first
entries CoeffOne = dct_coefficients_one

-- the tables of sizes of DC coefficients, B-12 and B-13
abbrev pub is_sizes : TableName → Bool
is_sizes Address = false
is_sizes TypeI = false
is_sizes TypeP = false
is_sizes TypeB = false
is_sizes Pattern = false
is_sizes Motion = false
is_sizes DcLuma = true
is_sizes DcChroma = true
is_sizes CoeffZero = false
is_sizes CoeffFirst = false
is_sizes CoeffOne = false

-- the tables of coefficients, B-14 and B-15
abbrev pub is_coefficients : TableName → Bool
is_coefficients Address = false
is_coefficients TypeI = false
is_coefficients TypeP = false
is_coefficients TypeB = false
is_coefficients Pattern = false
is_coefficients Motion = false
is_coefficients DcLuma = false
is_coefficients DcChroma = false
is_coefficients CoeffZero = true
is_coefficients CoeffFirst = true
is_coefficients CoeffOne = true

-- the code of a symbol, if the table has one
unfoldable pub code_in : TableName → ℕ → Option (List ℕ)
code_in table symbol = lookup (nat_eq symbol) (entries table)

-- the code of a symbol that the table has
abbrev pub code_for : TableName → ℕ → List ℕ
code_for table symbol = unwrap_or (code_in table symbol) []

-- the code of a run and the size of a level, if the table has one: past these limits the sum would be another symbol
unfoldable pub coefficient_code : TableName → ℕ → ℕ → Option (List ℕ)
coefficient_code table run level =
    if nat_lt run RUNS && nat_lt 0 level && nat_lt level LEVELS_PER_RUN then code_in table (coefficient_symbol run level) else None

-- the bits begin with the code of this symbol, which has this length
pub record Begins (table : TableName) (bits : List ℕ) (symbol len : ℕ) : Type 0 where
  pub code : List ℕ
  pub listed : code_in table symbol ≡ Some code
  pub counted : length code ≡ len
  pub first : IsPrefix code bits
