-- What a macroblock must be to be written: each that some bits spell is such a macroblock.
use Rattle.std.specs.Prelude.{◌≡◌, ◌-◌, ◌<◌, ◌^◌, ℕ, List, [], ◌∷◌, ◌++◌, IfSome, slice_index, slice_index_or, true, if◌then◌else◌}
use Rattle.std.specs.List.{AllByRecursion, flat_map, range_with_len}
use Rattle.bit_lists.specs.Bits.{bits_of}
use Rattle.bit_lists.specs.Fields.{flag}
use Rattle.prefix_codes.specs.declared.table_name.TableName.TheVariants.{Pattern}
use Rattle.syntax_types.specs.declared.macroblock.TheConstants.{BLOCKS}
use Rattle.syntax_types.specs.declared.macroblock.Macroblock.{Macroblock}
use Rattle.syntax_types.specs.declared.macroblock.Vector.{Vector}
use Rattle.syntax_types.specs.declared.picture.PicCoding.{PicCoding}
use Rattle.syntax_types.specs.declared.slice.Slice.{Slice}
use Rattle.syntax_types.specs.declared.slice.SliceInfo.{SliceInfo}
use Rattle.picture_grammar.specs.Block.{block}
use Rattle.picture_grammar.specs.Macroblock.{type_table, type_symbol, has_motion_type, has_dct_type, has_concealment, f_codes, block_way, is_coded, no_block}
use Rattle.picture_grammar.specs.Written.{if_any, written_vector, written_coded_block}
use Rattle.prefix_codes.specs.TableName.{code_for}
use Rattle.picture_laws.specs.Spellable.{IsSpellable}

-- motion_residual fits its bits in both parts (6.2.5.2.1)
pub record CanStand (f_codes : List ℕ) (vector : Vector) : Type 0 where
  pub horizontal : slice_index vector.residual 0 < 2 ^ (slice_index f_codes 0 - 1)
  pub vertical : slice_index vector.residual 1 < 2 ^ (slice_index f_codes 1 - 1)

-- numbers fit their bits, and some bits spell each coded block
pub record CanBeWritten (coding : PicCoding) (m : Macroblock) : Type 0 where
  pub motion_type : m.motion_type < 2 ^ 2
  pub code : IfSome m.code (λ code. code < 2 ^ 5)
  pub forward : AllByRecursion (CanStand (f_codes coding 0)) m.forward.items
  pub backward : AllByRecursion (CanStand (f_codes coding 1)) m.backward.items
  pub blocks : (i : ℕ) → i < BLOCKS → is_coded m.kind m.pattern i ≡ true → IsSpellable (block (block_way coding m.kind i)) (slice_index_or m.blocks i no_block)

-- of a slice: numbers fit their bits, and macroblocks can be written
pub record SliceFits (coding : PicCoding) (s : Slice) : Type 0 where
  pub code : s.code < 2 ^ 5
  pub reserved : IfSome s.info (λ info. info.reserved < 2 ^ 7)
  pub macroblocks : AllByRecursion (CanBeWritten coding) s.macroblocks

-- ---- the parts of a macroblock behind its address, in three groups

abbrev pub written_modes : PicCoding → Macroblock → List ℕ
written_modes coding m =
    code_for (type_table coding) (type_symbol m.kind)
    ++ (if has_motion_type coding m.kind then bits_of 2 m.motion_type else [])
    ++ (if has_dct_type coding m.kind then flag m.field_dct ∷ [] else [])
    ++ if_any (bits_of 5) m.code

abbrev pub written_motion : PicCoding → Macroblock → List ℕ
written_motion coding m =
    flat_map (written_vector (f_codes coding 0)) m.forward.items
    ++ flat_map (written_vector (f_codes coding 1)) m.backward.items
    ++ (if has_concealment coding m.kind then 1 ∷ [] else [])

abbrev pub written_coefficients : PicCoding → Macroblock → List ℕ
written_coefficients coding m =
    (if m.kind.pattern then code_for Pattern m.pattern else [])
    ++ flat_map (written_coded_block coding m) (range_with_len 0 BLOCKS)

-- ---- the extension of a slice header (6.2.4)

-- a byte of extra information behind a bit 1
abbrev pub written_byte : ℕ → List ℕ
written_byte byte = 1 ∷ bits_of 8 byte

-- what stands where the extension flag is set
abbrev pub written_extension : SliceInfo → List ℕ
written_extension info = 1 ∷ flag info.intra_slice ∷ bits_of 7 info.reserved ++ flat_map written_byte info.bytes ++ 0 ∷ []
