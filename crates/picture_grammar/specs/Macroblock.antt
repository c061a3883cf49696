-- Macroblocks (ISO/IEC 13818-2, 6.2.5, 6.2.5.1, 6.2.5.3 and 6.3.17).
use Rattle.std.specs.Prelude.{◌≡◌, ◌+◌, ◌-◌, ◌*◌, ◌==◌, ◌&&◌, ◌||◌, ℕ, min, not, nat_le, nat_lt, Some, None, List, [], ◌∷◌, length, Bool, false, slice_index_or, if◌then◌else◌}
use Rattle.std.specs.List.{range_with_len}
use Rattle.std.specs.Int.{bit_at}
use Rattle.bit_lists.specs.Fields.{flag}
use Rattle.prefix_codes.specs.declared.symbol.TheConstants.{ADDRESS_ESCAPE, QUANT, FORWARD, BACKWARD, PATTERN, INTRA}
use Rattle.prefix_codes.specs.declared.table_name.TableName.{TableName}
use Rattle.prefix_codes.specs.declared.table_name.TableName.TheVariants.{Address, TypeI, TypeP, TypeB, Pattern}
use Rattle.prefix_codes.specs.TableName.{code_in}
use Rattle.syntax_types.specs.declared.block.Block.{Block}
use Rattle.syntax_types.specs.declared.block.BlockWay.{BlockWay}
use Rattle.syntax_types.specs.declared.macroblock.TheConstants.{BLOCKS, FIELD_BASED, FRAME_BASED}
use Rattle.syntax_types.specs.declared.macroblock.Kind.{Kind}
use Rattle.syntax_types.specs.declared.macroblock.Macroblock.{Macroblock}
use Rattle.syntax_types.specs.declared.picture.TheConstants.{I_PICTURE, P_PICTURE, FRAME_PICTURE}
use Rattle.syntax_types.specs.declared.picture.PicCoding.{PicCoding}
use Rattle.picture_grammar.specs.Refusal.Refusal.{BadAddress, BadType, BadPattern}
use Rattle.picture_grammar.specs.Grammar.{Grammar, done, ◌>>=◌, ◌>>◌, optional, when, each, many, Next}
use Rattle.picture_grammar.specs.Grammar.Next.{more, last}
use Rattle.picture_grammar.specs.declared.limits.TheConstants.{ESCAPE_INCREMENT}
use Rattle.picture_grammar.specs.Element.{element, vlclbf, uimsbf, one_flag, marker_bit, rule}
use Rattle.picture_grammar.specs.Block.{block}
use Rattle.picture_grammar.specs.Motion.{MotionFormat, frame_motion, field_motion, motion_vectors}

-- ---- the address (6.3.17)

-- what macroblock_escape adds to the increment
abbrev pub escape_increment : ℕ
escape_increment = ESCAPE_INCREMENT

-- a code of Table B-1 behind so many escapes; the increment reaches no further than this
abbrev pub address_code : ℕ → List (Unit {0}) → Grammar (Next (Unit {0}) ℕ)
address_code most escapes = do
  symbol ← vlclbf Address BadAddress (rule BadAddress (λ symbol. nat_le (escape_increment * length escapes + symbol) most) ∷ [])
  done (if symbol == ADDRESS_ESCAPE then more tt else last symbol)

-- macroblock_escape any number of times, then macroblock_address_increment
abbrev pub address_increment : ℕ → Grammar ℕ
address_increment most = do
  codes ← many (address_code most)
  done (escape_increment * length codes.0 + codes.1)

-- How far the address may rise: to the end of the row. In I-pictures no macroblock is skipped (6.3.17), but a slice may
-- begin anywhere in its row.
abbrev pub most_increment : PicCoding → Bool → ℕ → ℕ
most_increment coding first columns_left = if coding.kind == I_PICTURE && not first then min 1 columns_left else columns_left

-- ---- macroblock_modes() (6.2.5.1)

-- Table B-2, B-3 or B-4 by picture_coding_type
abbrev pub type_table : PicCoding → TableName
type_table coding = if coding.kind == I_PICTURE then TypeI else (if coding.kind == P_PICTURE then TypeP else TypeB)

-- the symbol of macroblock_type: the sum of the flags that are set
abbrev pub type_symbol : Kind → ℕ
type_symbol kind = QUANT * flag kind.quant + FORWARD * flag kind.forward + BACKWARD * flag kind.backward + PATTERN * flag kind.pattern + INTRA * flag kind.intra

-- macroblock_type by the table of the picture type
abbrev pub macroblock_type : PicCoding → Grammar Kind
macroblock_type coding = element (λ kind code. code_in (type_table coding) (type_symbol kind) ≡ Some code) BadType []

-- picture_structure is that of a frame picture (Table 6-14)
abbrev pub is_frame : PicCoding → Bool
is_frame coding = coding.structure == FRAME_PICTURE

-- frame_motion_type or field_motion_type stands where there is motion, but not where it is always frame-based
abbrev pub has_motion_type : PicCoding → Kind → Bool
has_motion_type coding kind = (kind.forward || kind.backward) && not (is_frame coding && coding.frame_pred_frame_dct)

-- what counts where none stands, as for the vector of concealment (6.3.17.1)
abbrev pub usual_motion_type : PicCoding → ℕ
usual_motion_type coding = if is_frame coding then FRAME_BASED else FIELD_BASED

-- frame_motion_type or field_motion_type, which isn't 0
abbrev pub motion_type : PicCoding → Kind → Grammar ℕ
motion_type coding kind =
    when (has_motion_type coding kind) (uimsbf 2 (rule BadType (λ number. not (number == 0)) ∷ [])) (usual_motion_type coding)

-- how the vectors of a macroblock are coded (Tables 6-17 and 6-18)
abbrev pub motion_format : PicCoding → ℕ → MotionFormat
motion_format coding motion_type = if is_frame coding then frame_motion motion_type else field_motion motion_type

-- dct_type stands in a frame picture, where there are coefficients and it may vary
abbrev pub has_dct_type : PicCoding → Kind → Bool
has_dct_type coding kind = is_frame coding && not coding.frame_pred_frame_dct && (kind.intra || kind.pattern)

-- dct_type, which counts as 0 where it does not stand
abbrev pub dct_type : PicCoding → Kind → Grammar Bool
dct_type coding kind = when (has_dct_type coding kind) one_flag false

-- ---- the other parts of a macroblock (6.2.5)

-- quantiser_scale_code, which isn't 0 (6.3.16, 6.3.17)
abbrev pub quantiser_scale_code : Grammar ℕ
quantiser_scale_code = uimsbf 5 (rule BadType (λ code. not (code == 0)) ∷ [])

-- an intra macroblock has a concealment vector
abbrev pub has_concealment : PicCoding → Kind → Bool
has_concealment coding kind = kind.intra && coding.concealment

-- forward vectors stand where there is forward motion, and for concealment
abbrev pub has_forward : PicCoding → Kind → Bool
has_forward coding kind = kind.forward || has_concealment coding kind

-- the f_codes of a direction, 0 for forward and 1 for backward
abbrev pub f_codes : PicCoding → ℕ → List ℕ
f_codes coding direction = slice_index_or coding.f_code direction []

-- how block i of a macroblock is coded: the first four are those of luminance (6.1.3.1)
abbrev pub block_way : PicCoding → Kind → ℕ → BlockWay
block_way coding kind i = record { intra = kind.intra; luma = nat_lt i 4; vlc_one = coding.intra_vlc_format }

-- a block is coded where the macroblock is intra, or where its bit of the pattern is set (pattern_code of 6.3.17.4)
abbrev pub is_coded : Kind → ℕ → ℕ → Bool
is_coded kind pattern i = kind.intra || (bit_at pattern (BLOCKS - 1 - i) == 1)

-- a block that is not coded
abbrev pub no_block : Block
no_block = record { dc = None; pairs = record { items = [] } }

-- the six blocks in order, each where it is coded
abbrev pub blocks : PicCoding → Kind → ℕ → Grammar (List Block)
blocks coding kind pattern =
    each (range_with_len 0 BLOCKS) (λ i. when (is_coded kind pattern i) (block (block_way coding kind i)) no_block)

-- macroblock() (6.2.5), the first of its slice or a later one, with so many columns of its row left
unfoldable pub macroblock : PicCoding → Bool → ℕ → Grammar Macroblock
macroblock coding first columns_left = do
  increment ← address_increment (most_increment coding first columns_left)
  kind ← macroblock_type coding
  motion_type ← motion_type coding kind
  field_dct ← dct_type coding kind
  code ← optional kind.quant quantiser_scale_code
  forward ← when (has_forward coding kind) (motion_vectors (f_codes coding 0) (motion_format coding motion_type)) []
  backward ← when kind.backward (motion_vectors (f_codes coding 1) (motion_format coding motion_type)) []
  optional (has_concealment coding kind) (marker_bit BadType)
  pattern ← when kind.pattern (vlclbf Pattern BadPattern []) 0
  blocks ← blocks coding kind pattern
  done (record {
    skipped_before = increment - 1;
    kind = kind;
    motion_type = motion_type;
    field_dct = field_dct;
    code = code;
    forward = record { items = forward };
    backward = record { items = backward };
    pattern = pattern;
    blocks = blocks;
  })
