-- Blocks (ISO/IEC 13818-2, 6.2.6, 7.2.1 and 7.2.2).
use Rattle.std.specs.Prelude.{◌≡◌, ◌<◌, ◌+◌, ◌-◌, ◌^◌, ◌==◌, ◌&&◌, ℕ, ℤ, pos, neg_ℤ, not, nat_lt, Some, List, [], ◌∷◌, ◌++◌, Bool, true, if◌then◌else◌}
use Rattle.std.specs.List.{sum_by}
use Rattle.bit_lists.specs.Bits.{bits_of}
use Rattle.prefix_codes.specs.declared.symbol.TheConstants.{END_OF_BLOCK, ESCAPE}
use Rattle.prefix_codes.specs.declared.table_name.TableName.{TableName}
use Rattle.prefix_codes.specs.declared.table_name.TableName.TheVariants.{DcLuma, DcChroma, CoeffZero, CoeffFirst, CoeffOne}
use Rattle.prefix_codes.specs.TableName.{code_in, coefficient_code}
use Rattle.syntax_types.specs.declared.block.TheConstants.{BLOCK_PLACES}
use Rattle.syntax_types.specs.declared.block.Block.{Block}
use Rattle.syntax_types.specs.declared.block.BlockWay.{BlockWay}
use Rattle.syntax_types.specs.declared.block.Dc.{Dc}
use Rattle.syntax_types.specs.declared.block.RunLevel.{RunLevel}
use Rattle.picture_grammar.specs.declared.escape.TheConstants.{RUN_BITS, LEVEL_BITS}
use Rattle.picture_grammar.specs.Refusal.Refusal.{NoCode, TooMany, BadEscape}
use Rattle.picture_grammar.specs.Grammar.{Grammar, done, ◌>>=◌, optional, many, Next}
use Rattle.picture_grammar.specs.Grammar.Next.{more, last}
use Rattle.picture_grammar.specs.Element.{element, vlclbf, uimsbf, one_flag, rule}

-- ---- the DC coefficient of an intra block (7.2.1)

-- dct_dc_size is coded by Table B-12 for luminance, and by Table B-13 for chrominance
abbrev pub dc_table : Bool → TableName
dc_table luma = if luma then DcLuma else DcChroma

-- dct_dc_size, then dct_dc_differential in so many bits
abbrev pub dc_coefficient : BlockWay → Grammar Dc
dc_coefficient way = do
  size ← vlclbf (dc_table way.luma) NoCode []
  bits ← uimsbf size []
  done (record { size = size; bits = bits })

-- ---- the other coefficients (7.2.2)

-- Table B-15 for intra blocks where intra_vlc_format is 1, else Table B-14, which has other codes for the first
-- coefficient of a non-intra block (7.2.2.1, Table 7-3, note 2 of Table B-14)
abbrev pub coefficient_table : BlockWay → ℕ → TableName
coefficient_table way place =
    if way.intra then (if way.vlc_one then CoeffOne else CoeffZero) else (if place == 0 then CoeffFirst else CoeffZero)

-- the end of block, a run and the size of a level, or an escape with 6 bits of run and 12 bits of level
pub data Coefficient : Type 0 where
  end_of_block : Coefficient
  run_size escape : ℕ → ℕ → Coefficient

-- a coefficient has this code: that of its symbol in the table, and behind an escape its run and its level
abbrev pub CoefficientCode : TableName → Coefficient → List ℕ → Type 0
CoefficientCode table end_of_block code = code_in table END_OF_BLOCK ≡ Some code
CoefficientCode table (run_size run size) code = coefficient_code table run size ≡ Some code
CoefficientCode table (escape run level) code =
    (front : List ℕ) × (code_in table ESCAPE ≡ Some front) × (run < 2 ^ RUN_BITS) × (level < 2 ^ LEVEL_BITS)
    × (code ≡ front ++ bits_of RUN_BITS run ++ bits_of LEVEL_BITS level)

-- a level by its size and its sign bit
abbrev pub signed : ℕ → Bool → ℤ
signed size negative = if negative then neg_ℤ (pos size) else pos size

-- a level in two's complement (Table B-16)
abbrev pub escape_level : ℕ → ℤ
escape_level level = if nat_lt level (2 ^ (LEVEL_BITS - 1)) then pos level else neg_ℤ (pos (2 ^ LEVEL_BITS - level))

-- no coefficient stands past the last place
abbrev pub fits_in_block : ℕ → Coefficient → Bool
fits_in_block place end_of_block = true
fits_in_block place (run_size run size) = nat_lt (place + run) BLOCK_PLACES
fits_in_block place (escape run level) = nat_lt (place + run) BLOCK_PLACES

-- the levels 0 and -2048 are forbidden (Table B-16)
abbrev pub is_level : Coefficient → Bool
is_level end_of_block = true
is_level (run_size run size) = true
is_level (escape run level) = not (level == 0) && not (level == 2 ^ (LEVEL_BITS - 1))

-- the sign bit behind a code of the tables, and nothing behind the others
abbrev pub after_code : Coefficient → Grammar (Next RunLevel (Unit {0}))
after_code end_of_block = done (last tt)
after_code (run_size run size) = do
  negative ← one_flag
  done (more (record { run = run; level = signed size negative }))
after_code (escape run level) = done (more (record { run = run; level = escape_level level }))

-- the place of the first coefficient behind the DC coefficient, which has place 0 and stands in intra blocks alone (7.2.1)
abbrev pub first_place : BlockWay → ℕ
first_place way = if way.intra then 1 else 0

-- the place of the first coefficient behind these
abbrev pub next_place : BlockWay → List RunLevel → ℕ
next_place way pairs = first_place way + sum_by (λ pair. pair.run + 1) pairs

-- a coefficient or the end of block, behind these coefficients
abbrev pub coefficient : BlockWay → List RunLevel → Grammar (Next RunLevel (Unit {0}))
coefficient way before =
    let place = next_place way before in
    element (CoefficientCode (coefficient_table way place)) NoCode (rule TooMany (fits_in_block place) ∷ rule BadEscape is_level ∷ []) >>= after_code

-- ---- block(i) (6.2.6)

-- the DC coefficient of an intra block, then coefficients up to the end of block
unfoldable pub block : BlockWay → Grammar Block
block way = do
  dc ← optional way.intra (dc_coefficient way)
  coefficients ← many (coefficient way)
  done (record { dc = dc; pairs = record { items = coefficients.0 } })
