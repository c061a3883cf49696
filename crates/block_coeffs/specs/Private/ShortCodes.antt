-- The words of codes that are short, one for each value of a window's first bits (ISO/IEC 13818-2, Tables B-14 and B-15).
use Rattle.std.specs.Prelude.{ℕ, ℤ, ◌/◌, ◌%◌, ◌^◌, List, []}
use Rattle.std.specs.Int.{w16, cast_signed}
use Rattle.prefix_codes.specs.declared.table_name.TableName.{TableName}
use Rattle.prefix_codes.specs.declared.table_name.TableName.TheVariants.{Address, TypeI, TypeP, TypeB, Pattern, Motion, DcLuma, DcChroma, CoeffZero, CoeffFirst, CoeffOne}
use Rattle.block_coeffs.specs.declared.short_codes.words.TheConstants.{ZERO_WORDS, FIRST_WORDS, ONE_WORDS}

-- the words of a table of coefficients
unfoldable pub words_of : TableName → List ℕ
words_of Address = []
words_of TypeI = []
words_of TypeP = []
words_of TypeB = []
words_of Pattern = []
words_of Motion = []
words_of DcLuma = []
words_of DcChroma = []
words_of CoeffZero = ZERO_WORDS
words_of CoeffFirst = FIRST_WORDS
words_of CoeffOne = ONE_WORDS

-- the run in a word
abbrev pub run_of : ℕ → ℕ
run_of word = word % 2 ^ 8

-- the bits that it is coded in, the sign with them
abbrev pub length_of : ℕ → ℕ
length_of word = word / 2 ^ 8 % 2 ^ 8

-- its level
abbrev pub level_of : ℕ → ℤ
level_of word = cast_signed w16 (word / 2 ^ 16)
