-- The places at which the codes of a table are kept.
use Rattle.std.specs.Prelude.{ℕ, ◌+◌, ◌-◌, ◌/◌, ◌%◌, ◌==◌, ◌&&◌, nat_lt, List, slice_index, if◌then◌else◌}
use Rattle.prefix_codes.specs.declared.lookup.TheConstants.{NO_PLACE}
use Rattle.prefix_codes.specs.declared.symbol.TheConstants.{END_OF_BLOCK, ESCAPE, LEVELS_PER_RUN, RUNS}
use Rattle.prefix_codes.specs.declared.table_name.TableName.{TableName}
use Rattle.prefix_codes.specs.declared.table_name.TableName.TheVariants.{Address, TypeI, TypeP, TypeB, Pattern, Motion, DcLuma, DcChroma, CoeffZero, CoeffFirst, CoeffOne}
use Rattle.prefix_codes.specs.declared.tables.coefficients.TheConstants.{RUN_PLACES, COEFF_ZERO_CODES, COEFF_FIRST_CODES, COEFF_ONE_CODES}
use Rattle.prefix_codes.specs.declared.tables.macroblocks.TheConstants.{ADDRESS_CODES, TYPE_I_CODES, TYPE_P_CODES, TYPE_B_CODES, PATTERN_CODES, MOTION_CODES, DC_LUMA_CODES, DC_CHROMA_CODES}

-- the words of a table's codes
unfoldable pub codes_of : TableName → List ℕ
codes_of Address = ADDRESS_CODES
codes_of TypeI = TYPE_I_CODES
codes_of TypeP = TYPE_P_CODES
codes_of TypeB = TYPE_B_CODES
codes_of Pattern = PATTERN_CODES
codes_of Motion = MOTION_CODES
codes_of DcLuma = DC_LUMA_CODES
codes_of DcChroma = DC_CHROMA_CODES
codes_of CoeffZero = COEFF_ZERO_CODES
codes_of CoeffFirst = COEFF_FIRST_CODES
codes_of CoeffOne = COEFF_ONE_CODES

-- the word at a place, 0 past the codes
abbrev pub code_word : TableName → ℕ → ℕ
code_word table place = slice_index (codes_of table) place

-- the first place of a run's codes
unfoldable pub run_place : ℕ → ℕ
run_place run = slice_index RUN_PLACES run

-- the place of a run and the size of a level, past the codes where no table has them
abbrev pub coefficient_place : ℕ → ℕ → ℕ
coefficient_place run size =
    if nat_lt run RUNS && (nat_lt 0 size && nat_lt (run_place run + size - 1) (run_place (run + 1))) then run_place run + size - 1 else NO_PLACE

-- the place of a symbol of a table of coefficients
abbrev pub place_of_coefficient : ℕ → ℕ
place_of_coefficient symbol =
    if symbol == END_OF_BLOCK then 0 else if symbol == ESCAPE then 1 else coefficient_place (symbol / LEVELS_PER_RUN) (symbol % LEVELS_PER_RUN)

-- the place of a symbol
abbrev pub place_of : TableName → ℕ → ℕ
place_of Address symbol = symbol
place_of TypeI symbol = symbol
place_of TypeP symbol = symbol
place_of TypeB symbol = symbol
place_of Pattern symbol = symbol
place_of Motion symbol = symbol
place_of DcLuma symbol = symbol
place_of DcChroma symbol = symbol
place_of CoeffZero symbol = place_of_coefficient symbol
place_of CoeffFirst symbol = place_of_coefficient symbol
place_of CoeffOne symbol = place_of_coefficient symbol
