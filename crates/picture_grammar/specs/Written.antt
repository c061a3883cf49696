-- How each part is written: the one spelling that has a code of the tables wherever there is one, and no more zero bits
-- and bytes than there must be.
use Rattle.std.specs.Prelude.{
  ◌≡◌,
  ◌+◌,
  ◌-◌,
  ◌*◌,
  ◌/◌,
  ◌%◌,
  ◌^◌,
  ◌==◌,
  ℕ,
  ℤ,
  pos,
  negsuc,
  suc,
  unsigned_abs,
  int_lt,
  Option,
  Some,
  None,
  List,
  [],
  ◌∷◌,
  ◌++◌,
  length,
  replicate,
  slice_index,
  slice_index_or,
  if◌then◌else◌,
}
use Rattle.std.specs.List.{flat_map, range_with_len}
use Rattle.std.specs.Option.{option_map_or}
use Rattle.bit_lists.specs.Bits.{bits_of}
use Rattle.bit_lists.specs.Fields.{AreBytes, bit_list, flag}
use Rattle.prefix_codes.specs.declared.symbol.TheConstants.{ADDRESS_ESCAPE, END_OF_BLOCK, ESCAPE}
use Rattle.prefix_codes.specs.declared.table_name.TableName.{TableName}
use Rattle.prefix_codes.specs.declared.table_name.TableName.TheVariants.{Address, Motion, Pattern}
use Rattle.prefix_codes.specs.TableName.{code_for, coefficient_code}
use Rattle.syntax_types.specs.declared.block.Block.{Block}
use Rattle.syntax_types.specs.declared.block.BlockWay.{BlockWay}
use Rattle.syntax_types.specs.declared.block.Dc.{Dc}
use Rattle.syntax_types.specs.declared.block.RunLevel.{RunLevel}
use Rattle.syntax_types.specs.declared.macroblock.TheConstants.{BLOCKS}
use Rattle.syntax_types.specs.declared.macroblock.Macroblock.{Macroblock}
use Rattle.syntax_types.specs.declared.macroblock.Vector.{Vector}
use Rattle.syntax_types.specs.declared.picture.PicCoding.{PicCoding}
use Rattle.syntax_types.specs.declared.picture.Picture.{Picture}
use Rattle.syntax_types.specs.declared.slice.Slice.{Slice}
use Rattle.syntax_types.specs.declared.slice.SliceInfo.{SliceInfo}
use Rattle.picture_grammar.specs.declared.escape.TheConstants.{RUN_BITS, LEVEL_BITS}
use Rattle.stream_constants.specs.declared.start_codes.TheConstants.{FIRST_SLICE, SEQUENCE_END}
use Rattle.picture_grammar.specs.Block.{dc_table, coefficient_table, first_place}
use Rattle.picture_grammar.specs.Motion.{has_residual, dmvector_code}
use Rattle.picture_grammar.specs.Macroblock.{escape_increment, type_table, type_symbol, has_motion_type, has_dct_type, has_concealment, f_codes, is_coded, block_way, no_block}
use Rattle.picture_grammar.specs.StartCode.{start_code_bits}

-- a part that may be missing
abbrev pub if_any : {A : Type 0} → (A → List ℕ) → Option A → List ℕ
if_any written part = option_map_or written part []

-- ---- blocks

-- the size by its table, and so many bits
abbrev pub written_dc : BlockWay → Dc → List ℕ
written_dc way dc = code_for (dc_table way.luma) dc.size ++ bits_of dc.size dc.bits

-- 12 bits of two's complement (Table B-16)
abbrev pub level_bits : ℤ → ℕ
level_bits (pos n) = n
level_bits (negsuc n) = 2 ^ LEVEL_BITS - suc n

-- the escape, the run in 6 bits and the level in 12
abbrev pub written_escape : TableName → RunLevel → List ℕ
written_escape table pair = code_for table ESCAPE ++ bits_of RUN_BITS pair.run ++ bits_of LEVEL_BITS (level_bits pair.level)

-- the table's code and a sign bit where there is such a code, else an escape
abbrev pub written_coefficient : TableName → RunLevel → List ℕ
written_coefficient table pair =
    option_map_or (λ code. code ++ flag (int_lt pair.level (pos 0)) ∷ [])
    (coefficient_code table pair.run (unsigned_abs pair.level)) (written_escape table pair)

-- from a place on
abbrev pub written_coefficients : BlockWay → ℕ → List RunLevel → List ℕ
written_coefficients way place [] = code_for (coefficient_table way place) END_OF_BLOCK
written_coefficients way place (pair ∷ pairs) =
    written_coefficient (coefficient_table way place) pair ++ written_coefficients way (place + (pair.run + 1)) pairs

-- the DC coefficient of an intra block, the coefficients, the end of block
unfoldable pub written_block : BlockWay → Block → List ℕ
written_block way block = if_any (written_dc way) block.dc ++ written_coefficients way (first_place way) block.pairs.items

-- ---- macroblocks

-- macroblock_escape as often as it goes, then a code from 1 to 33
abbrev pub written_increment : ℕ → List ℕ
written_increment increment =
    let escapes = (increment - 1) / escape_increment in
    flat_map (λ _. code_for Address ADDRESS_ESCAPE) (range_with_len 0 escapes) ++ code_for Address (increment - escape_increment * escapes)

-- motion_code, its sign and motion_residual, each where it stands
abbrev pub written_part : ℕ → ℤ → ℕ → List ℕ
written_part f_code code residual =
    let size = unsigned_abs code in
    code_for Motion size
    ++ (if size == 0 then [] else flag (int_lt code (pos 0)) ∷ [])
    ++ (if has_residual f_code size then bits_of (f_code - 1) residual else [])

-- one part of a vector, 0 horizontal and 1 vertical, with its dmvector
abbrev pub written_vector_part : List ℕ → Vector → ℕ → List ℕ
written_vector_part f_codes vector part =
    written_part (slice_index f_codes part) (slice_index_or vector.code part (pos 0)) (slice_index vector.residual part)
    ++ if_any (λ dual. dmvector_code (slice_index_or dual part (pos 0))) vector.dual

-- the field select where it stands, then the two parts
abbrev pub written_vector : List ℕ → Vector → List ℕ
written_vector f_codes vector =
    if_any (λ field. flag field ∷ []) vector.select ++ written_vector_part f_codes vector 0 ++ written_vector_part f_codes vector 1

-- block i, where it is coded
abbrev pub written_coded_block : PicCoding → Macroblock → ℕ → List ℕ
written_coded_block coding m i =
    if is_coded m.kind m.pattern i then written_block (block_way coding m.kind i) (slice_index_or m.blocks i no_block) else []

-- the parts of a macroblock in order, each where it stands
unfoldable pub written_macroblock : PicCoding → Macroblock → List ℕ
written_macroblock coding m =
    written_increment (m.skipped_before + 1)
    ++ code_for (type_table coding) (type_symbol m.kind)
    ++ (if has_motion_type coding m.kind then bits_of 2 m.motion_type else [])
    ++ (if has_dct_type coding m.kind then flag m.field_dct ∷ [] else [])
    ++ if_any (bits_of 5) m.code
    ++ flat_map (written_vector (f_codes coding 0)) m.forward.items
    ++ flat_map (written_vector (f_codes coding 1)) m.backward.items
    ++ (if has_concealment coding m.kind then 1 ∷ [] else [])
    ++ (if m.kind.pattern then code_for Pattern m.pattern else [])
    ++ flat_map (written_coded_block coding m) (range_with_len 0 BLOCKS)

-- ---- slices

-- the extension flag, and what stands behind it where it is set
abbrev pub written_slice_info : Option SliceInfo → List ℕ
written_slice_info None = 0 ∷ []
written_slice_info (Some info) =
    1 ∷ flag info.intra_slice ∷ bits_of 7 info.reserved ++ flat_map (λ byte. 1 ∷ bits_of 8 byte) info.bytes ++ 0 ∷ []

-- from behind the start code to the end of the last macroblock
unfoldable pub written_slice : PicCoding → Slice → List ℕ
written_slice coding slice =
    bits_of 5 slice.code ++ written_slice_info slice.info ++ flat_map (written_macroblock coding) slice.macroblocks

-- ---- pictures

-- the least zero bits to a whole byte
abbrev pub to_whole_bytes : List ℕ → List ℕ
to_whole_bytes bits = bits ++ replicate ((8 - length bits % 8) % 8) 0

-- the head, each slice behind its start code up to a whole byte, and the sequence end code
unfoldable pub written_picture : Picture → List ℕ
written_picture picture =
    bit_list picture.head
    ++ flat_map (λ slice. to_whole_bytes (start_code_bits (slice.row + FIRST_SLICE) ++ written_slice picture.coding slice)) picture.slices
    ++ (if picture.sequence_end then start_code_bits SEQUENCE_END else [])

-- the bytes of a written picture
abbrev pub IsWritten : Picture → List ℕ → Type 0
IsWritten picture bytes = AreBytes bytes × (bit_list bytes ≡ written_picture picture)
