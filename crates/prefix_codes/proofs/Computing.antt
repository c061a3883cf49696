-- One name to unfold where a proof computes with the tables.
use Rattle.bit_lists.specs.Bits.{bits_of}
use Rattle.prefix_codes.specs.CoefficientTables.{longest_coefficients, shared_coefficients, dct_coefficients_zero, dct_coefficients_first, dct_coefficients_one}
use Rattle.prefix_codes.specs.MacroblockTables.{
  macroblock_address_increment,
  macroblock_type_i,
  macroblock_type_p,
  macroblock_type_b,
  coded_block_pattern,
  motion_code,
  dct_dc_size_luminance,
  dct_dc_size_chrominance,
}
use Rattle.prefix_codes.specs.TableName.{code_in, coefficient_code}

-- `unfolding tables` opens each table, and how a code is found in it
unfoldable pub tables : Unit {0}
unfolding bits_of longest_coefficients shared_coefficients dct_coefficients_zero dct_coefficients_first dct_coefficients_one
    macroblock_address_increment macroblock_type_i macroblock_type_p macroblock_type_b coded_block_pattern motion_code dct_dc_size_luminance
    dct_dc_size_chrominance code_in coefficient_code
tables = tt
