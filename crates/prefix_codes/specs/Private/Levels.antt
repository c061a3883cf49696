-- The levels by which the code at the front of a window is looked up.
use Rattle.std.specs.Prelude.{◌≡◌, ◌↔◌, ℕ, List, [], Some}
use Rattle.prefix_codes.specs.declared.table_name.TableName.{TableName}
use Rattle.prefix_codes.specs.declared.table_name.TableName.TheVariants.{Address, TypeI, TypeP, TypeB, Pattern, Motion, DcLuma, DcChroma, CoeffZero, CoeffFirst, CoeffOne}
use Rattle.prefix_codes.specs.declared.tables.coefficients.TheConstants.{COEFF_ZERO_FIRST, COEFF_FIRST_FIRST, COEFF_ONE_FIRST, COEFF_ZERO_SECOND, COEFF_ONE_SECOND}
use Rattle.prefix_codes.specs.declared.tables.macroblocks.TheConstants.{
  ADDRESS_FIRST,
  TYPE_I_FIRST,
  TYPE_P_FIRST,
  TYPE_B_FIRST,
  PATTERN_FIRST,
  MOTION_FIRST,
  DC_LUMA_FIRST,
  DC_CHROMA_FIRST,
  ADDRESS_SECOND,
  PATTERN_SECOND,
  MOTION_SECOND,
  DC_LUMA_SECOND,
  DC_CHROMA_SECOND,
}
use Rattle.prefix_codes.specs.TableName.{Begins}
use Rattle.prefix_codes.specs.Private.Words.{answer_of}

-- the words of a table's first level
unfoldable pub first_of : TableName → List ℕ
first_of Address = ADDRESS_FIRST
first_of TypeI = TYPE_I_FIRST
first_of TypeP = TYPE_P_FIRST
first_of TypeB = TYPE_B_FIRST
first_of Pattern = PATTERN_FIRST
first_of Motion = MOTION_FIRST
first_of DcLuma = DC_LUMA_FIRST
first_of DcChroma = DC_CHROMA_FIRST
first_of CoeffZero = COEFF_ZERO_FIRST
first_of CoeffFirst = COEFF_FIRST_FIRST
first_of CoeffOne = COEFF_ONE_FIRST

-- those of its second levels, one behind the other
unfoldable pub second_of : TableName → List ℕ
second_of Address = ADDRESS_SECOND
second_of TypeI = []
second_of TypeP = []
second_of TypeB = []
second_of Pattern = PATTERN_SECOND
second_of Motion = MOTION_SECOND
second_of DcLuma = DC_LUMA_SECOND
second_of DcChroma = DC_CHROMA_SECOND
second_of CoeffZero = COEFF_ZERO_SECOND
second_of CoeffFirst = COEFF_ZERO_SECOND
second_of CoeffOne = COEFF_ONE_SECOND

-- a word answers which code of the table begins some bits
abbrev pub Answers : TableName → List ℕ → ℕ → Type 0
Answers table bits word = (symbol len : ℕ) → (answer_of word ≡ Some (symbol, len)) ↔ Begins table bits symbol len
