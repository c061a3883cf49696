-- How many bits the parts of a macroblock are written in, each where it stands: its head, which depends on its coefficients,
-- and its motion and DC coefficients, which don't.
use Rattle.std.specs.Prelude.{◌≡◌, ◌<◌, ◌+◌, ℕ, Option, None, List, [], length, false, slice_index_or, if◌then◌else◌}
use Rattle.std.specs.List.{flat_map, range_with_len}
use Rattle.bit_lists.specs.Bits.{bits_of}
use Rattle.prefix_codes.specs.declared.table_name.TableName.TheVariants.{Pattern}
use Rattle.syntax_types.specs.declared.block.Block.{Block}
use Rattle.syntax_types.specs.declared.block.BlockWay.{BlockWay}
use Rattle.syntax_types.specs.declared.block.Dc.{Dc}
use Rattle.syntax_types.specs.declared.macroblock.TheConstants.{BLOCKS}
use Rattle.syntax_types.specs.declared.macroblock.Kind.{Kind}
use Rattle.syntax_types.specs.declared.macroblock.Macroblock.{Macroblock}
use Rattle.syntax_types.specs.declared.picture.PicCoding.{PicCoding}
use Rattle.picture_grammar.specs.Macroblock.{type_table, type_symbol, has_motion_type, has_dct_type, has_concealment, f_codes, block_way, no_block}
use Rattle.picture_grammar.specs.Written.{if_any, written_block, written_increment, written_vector}
use Rattle.prefix_codes.specs.TableName.{code_for}

-- macroblock_type, and dct_type where it stands (ISO/IEC 13818-2, 6.2.5 and 6.2.5.1)
abbrev pub kind_length : PicCoding → Kind → ℕ
kind_length coding kind = length (code_for (type_table coding) (type_symbol kind)) + (if has_dct_type coding kind then 1 else 0)

-- The head behind so many skipped macroblocks: macroblock_address_increment, macroblock_type, dct_type, quantiser_scale_code
-- and coded_block_pattern (ISO/IEC 13818-2, 6.2.5, 6.2.5.1 and 6.2.5.3). Motion_type and the vectors stand between these.
abbrev pub head_length : PicCoding → ℕ → Kind → Option ℕ → ℕ → ℕ
head_length coding skipped_before kind code pattern =
    length (written_increment (skipped_before + 1))
    + length (code_for (type_table coding) (type_symbol kind))
    + (if has_dct_type coding kind then 1 else 0)
    + length (if_any (bits_of 5) code)
    + length (if kind.pattern then code_for Pattern pattern else [])

-- motion_type, the vectors of both directions, and the marker behind a vector of concealment (ISO/IEC 13818-2, 6.2.5, 6.2.5.1 and
-- 6.2.5.2)
abbrev pub motion_length : PicCoding → Macroblock → ℕ
motion_length coding m =
    (if has_motion_type coding m.kind then 2 else 0)
    + length (flat_map (written_vector (f_codes coding 0)) m.forward.items)
    + length (flat_map (written_vector (f_codes coding 1)) m.backward.items)
    + (if has_concealment coding m.kind then 1 else 0)

-- a block with this DC coefficient and no other one
abbrev pub written_dc_block : BlockWay → Option Dc → List ℕ
written_dc_block way dc = written_block way (record { dc = dc; pairs = record { items = [] } })

-- the DC coefficients of an intra macroblock, each with the end of its block (ISO/IEC 13818-2, 6.2.6)
abbrev pub dc_length : PicCoding → Macroblock → ℕ
dc_length coding m =
    if m.kind.intra
    then length (flat_map (λ i. let block : Block = slice_index_or m.blocks i no_block in written_dc_block (block_way coding m.kind i) block.dc) (range_with_len 0 BLOCKS))
    else 0

-- no other coefficients stand in the macroblock, and no DC coefficient but in an intra one: then it is its head, its motion and its
-- DC coefficients
pub record HasDcAlone (m : Macroblock) : Type 0 where
  pub none : (i : ℕ) → i < BLOCKS → let block : Block = slice_index_or m.blocks i no_block in block.pairs.items ≡ []
  pub no_dc : m.kind.intra ≡ false → (i : ℕ) → i < BLOCKS → let block : Block = slice_index_or m.blocks i no_block in block.dc ≡ None
