-- Every picture is written in bits, in whole bytes.
use Rattle.std.proofs.Common.{
  ◌≡◌,
  ◌==◌,
  ◌+◌,
  ◌-◌,
  ◌*◌,
  ◌/◌,
  ◌%◌,
  ℕ,
  zero,
  suc,
  ℤ,
  pos,
  negsuc,
  unsigned_abs,
  int_lt,
  nat_lt,
  List,
  [],
  ◌∷◌,
  ◌++◌,
  length,
  replicate,
  slice_index,
  slice_index_or,
  Option,
  Some,
  None,
  unwrap_or,
  Bool,
  true,
  false,
  if◌then◌else◌,
  refl,
  arith,
}
use Rattle.std.specs.List.{flat_map, list_all, range_with_len}
use Rattle.std.specs.Option.{option_map_or}
use Rattle.std.proofs.lemmas.Bool.{and_parts, ltb-true}
use Rattle.std.proofs.lemmas.List.{length-append, length-replicate}
use Rattle.bit_lists.specs.Bits.{bits_of}
use Rattle.bit_lists.specs.Fields.{bit_list, flag}
use Rattle.bit_lists.proofs.FieldLemmas.{flag_below}
use Rattle.bit_lists.proofs.ByteLemmas.{length-bit_list}
use Rattle.bit_lists.proofs.NumberLemmas.{AreBits, AreBits-append, AreBits-zeros, AreBits-bit_list, AreBits-bits_of}
use Rattle.prefix_codes.specs.declared.symbol.TheConstants.{ADDRESS_ESCAPE, ESCAPE}
use Rattle.prefix_codes.specs.declared.table_name.TableName.{TableName}
use Rattle.prefix_codes.specs.declared.table_name.TableName.TheVariants.{Address, TypeI, TypeP, TypeB, Pattern, Motion, DcLuma, DcChroma, CoeffZero, CoeffFirst, CoeffOne}
use Rattle.prefix_codes.specs.Entry.{Entry}
use Rattle.prefix_codes.specs.TableName.{entries, code_in, coefficient_code, code_for}
use Rattle.prefix_codes.proofs.Computing.{tables}
use Rattle.prefix_codes.proofs.TableLemmas.{code_in-passes}
use Rattle.syntax_types.specs.declared.block.Block.{Block}
use Rattle.syntax_types.specs.declared.block.BlockWay.{BlockWay}
use Rattle.syntax_types.specs.declared.block.Dc.{Dc}
use Rattle.syntax_types.specs.declared.block.RunLevel.{RunLevel}
use Rattle.syntax_types.specs.declared.macroblock.TheConstants.{BLOCKS}
use Rattle.syntax_types.specs.declared.macroblock.Macroblock.{Macroblock}
use Rattle.syntax_types.specs.declared.macroblock.Vector.{Vector}
use Rattle.syntax_types.specs.declared.picture.PicCoding.{PicCoding}
use Rattle.syntax_types.specs.declared.picture.Picture.{Picture}
use Rattle.syntax_types.specs.declared.slice.Slice.{Slice}
use Rattle.syntax_types.specs.declared.slice.SliceInfo.{SliceInfo}
use Rattle.stream_constants.specs.declared.start_codes.TheConstants.{FIRST_SLICE, SEQUENCE_END}
use Rattle.picture_grammar.specs.StartCode.{start_code_prefix, start_code_bits}
use Rattle.picture_grammar.specs.Block.{dc_table, coefficient_table, first_place}
use Rattle.picture_grammar.specs.Motion.{has_residual, dmvector_code}
use Rattle.picture_grammar.specs.Macroblock.{type_table, type_symbol, has_motion_type, has_dct_type, has_concealment, f_codes, is_coded, block_way, no_block}
use Rattle.picture_grammar.specs.Written.{if_any, written_dc, level_bits, written_escape, written_coefficient, written_coefficients, written_block, written_increment, written_part, written_vector_part, written_vector, written_coded_block, written_macroblock, written_slice_info, written_slice, to_whole_bytes, written_picture, IsWritten}
use Rattle.picture_grammar.proofs.Codes.{coefficient_code-listed}
use Rattle.picture_laws.proofs.WholeBytes.{bytes_of, bytes_of-right}

-- ---- pieces

bits-if : (test : Bool) (bits : List ℕ) → AreBits bits → AreBits (if test then bits else [])
bits-if true bits are = are
bits-if false bits are = tt

bits-flag : (is_set : Bool) → AreBits (flag is_set ∷ [])
bits-flag is_set = (flag_below is_set, tt)

bits-any : {A : Type 0} (written : A → List ℕ) (part : Option A) → ((a : A) → AreBits (written a)) → AreBits (if_any written part)
bits-any written None each = tt
bits-any written (Some a) each = each a

bits-flat : {A : Type 0} (written : A → List ℕ) (parts : List A) → ((a : A) → AreBits (written a)) → AreBits (flat_map written parts)
bits-flat written [] each = tt
bits-flat written (a ∷ parts) each = AreBits-append (written a) (flat_map written parts) (each a) (bits-flat written parts each)

-- ---- codes of tables

abbrev has_code : Entry → Bool
has_code e = list_all (λ bit. nat_lt bit 2) e.1

all_have_codes : (table : TableName) → list_all has_code (entries table) ≡ true
unfolding tables
all_have_codes Address = refl
all_have_codes TypeI = refl
all_have_codes TypeP = refl
all_have_codes TypeB = refl
all_have_codes Pattern = refl
all_have_codes Motion = refl
all_have_codes DcLuma = refl
all_have_codes DcChroma = refl
all_have_codes CoeffZero = refl
all_have_codes CoeffFirst = refl
all_have_codes CoeffOne = refl

bits-tested : (code : List ℕ) → list_all (λ bit. nat_lt bit 2) code ≡ true → AreBits code
bits-tested [] e = tt
bits-tested (bit ∷ bits) e = let parts = and_parts (nat_lt bit 2) (list_all (λ bit. nat_lt bit 2) bits) e in (ltb-true bit 2 parts.0, bits-tested bits parts.1)

bits-code : (table : TableName) (symbol : ℕ) (code : List ℕ) → code_in table symbol ≡ Some code → AreBits code
bits-code table symbol code listed = bits-tested code (code_in-passes has_code table symbol code (all_have_codes table) listed)

bits-code_for : (table : TableName) (symbol : ℕ) → AreBits (code_for table symbol)
bits-code_for table symbol = by_code (code_in table symbol) refl where
  by_code : (o : Option (List ℕ)) → code_in table symbol ≡ o → AreBits (unwrap_or o [])
  by_code None e = tt
  by_code (Some code) e = bits-code table symbol code e

-- ---- blocks

bits-dc : (way : BlockWay) (dc : Dc) → AreBits (written_dc way dc)
bits-dc way dc = AreBits-append (code_for (dc_table way.luma) dc.size) (bits_of dc.size dc.bits) (bits-code_for _ _) (AreBits-bits_of dc.size dc.bits)

bits-escape : (table : TableName) (pair : RunLevel) → AreBits (written_escape table pair)
bits-escape table pair = AreBits-append (code_for table ESCAPE ++ bits_of 6 pair.run) (bits_of 12 (level_bits pair.level))
    (AreBits-append (code_for table ESCAPE) (bits_of 6 pair.run) (bits-code_for table ESCAPE) (AreBits-bits_of 6 pair.run)) (AreBits-bits_of 12 (level_bits pair.level))

bits-coefficient : (table : TableName) (pair : RunLevel) → AreBits (written_coefficient table pair)
bits-coefficient table pair = by_code (coefficient_code table pair.run (unsigned_abs pair.level)) refl where
  by_code : (o : Option (List ℕ)) → coefficient_code table pair.run (unsigned_abs pair.level) ≡ o
      → AreBits (option_map_or (λ code. code ++ flag (int_lt pair.level (pos 0)) ∷ []) o (written_escape table pair))
  by_code None e = bits-escape table pair
  by_code (Some code) e = AreBits-append code (flag (int_lt pair.level (pos 0)) ∷ []) (bits-code table _ code (coefficient_code-listed table pair.run (unsigned_abs pair.level) code e).3) (bits-flag _)

bits-coefficients : (way : BlockWay) (place : ℕ) (pairs : List RunLevel) → AreBits (written_coefficients way place pairs)
bits-coefficients way place [] = bits-code_for _ _
bits-coefficients way place (pair ∷ pairs) =
    AreBits-append (written_coefficient (coefficient_table way place) pair) (written_coefficients way (place + (pair.run + 1)) pairs)
    (bits-coefficient _ pair) (bits-coefficients way (place + (pair.run + 1)) pairs)

bits-block : (way : BlockWay) (b : Block) → AreBits (written_block way b)
unfolding written_block
bits-block way b =
    AreBits-append (if_any (written_dc way) b.dc) (written_coefficients way (first_place way) b.pairs.items) (bits-any (written_dc way) b.dc (bits-dc way)) (bits-coefficients way _ b.pairs.items)

-- ---- macroblocks

bits-increment : (increment : ℕ) → AreBits (written_increment increment)
bits-increment increment =
    AreBits-append (flat_map (λ _. code_for Address ADDRESS_ESCAPE) (range_with_len 0 ((increment - 1) / 33))) (code_for Address (increment - 33 * ((increment - 1) / 33)))
    (bits-flat (λ _. code_for Address ADDRESS_ESCAPE) (range_with_len 0 ((increment - 1) / 33)) (λ _. bits-code_for Address ADDRESS_ESCAPE)) (bits-code_for Address _)

bits-sign : (none : Bool) (is_set : Bool) → AreBits (if none then [] else flag is_set ∷ [])
bits-sign true is_set = tt
bits-sign false is_set = bits-flag is_set

bits-part : (f_code : ℕ) (code : ℤ) (residual : ℕ) → AreBits (written_part f_code code residual)
bits-part f_code code residual =
    let size = unsigned_abs code in
    let sign = if size == 0 then [] else flag (int_lt code (pos 0)) ∷ [] in
    AreBits-append (code_for Motion size ++ sign) (if has_residual f_code size then bits_of (f_code - 1) residual else [])
    (AreBits-append (code_for Motion size) sign (bits-code_for Motion size) (bits-sign (size == 0) _)) (bits-if (has_residual f_code size) (bits_of (f_code - 1) residual) (AreBits-bits_of _ residual))

bits-dmvector : (value : ℤ) → AreBits (dmvector_code value)
bits-dmvector (pos zero) = (omega arith, tt)
bits-dmvector (pos (suc n)) = (omega arith, (omega arith, tt))
bits-dmvector (negsuc n) = (omega arith, (omega arith, tt))

bits-vector_part : (codes : List ℕ) (vector : Vector) (part : ℕ) → AreBits (written_vector_part codes vector part)
bits-vector_part codes vector part =
    AreBits-append (written_part (slice_index codes part) (slice_index_or vector.code part (pos 0)) (slice_index vector.residual part))
    (if_any (λ dual. dmvector_code (slice_index_or dual part (pos 0))) vector.dual)
    (bits-part (slice_index codes part) (slice_index_or vector.code part (pos 0)) (slice_index vector.residual part))
    (bits-any (λ dual. dmvector_code (slice_index_or dual part (pos 0))) vector.dual (λ dual. bits-dmvector _))

bits-vector : (codes : List ℕ) (vector : Vector) → AreBits (written_vector codes vector)
bits-vector codes vector =
    AreBits-append (if_any (λ field. flag field ∷ []) vector.select ++ written_vector_part codes vector 0) (written_vector_part codes vector 1)
    (AreBits-append (if_any (λ field. flag field ∷ []) vector.select) (written_vector_part codes vector 0)
    (bits-any (λ (field : Bool). flag field ∷ []) vector.select bits-flag) (bits-vector_part codes vector 0)) (bits-vector_part codes vector 1)

bits-ten : (a b c d e f g h i j : List ℕ) → AreBits a → AreBits b → AreBits c → AreBits d → AreBits e → AreBits f → AreBits g → AreBits h → AreBits i
    → AreBits j → AreBits (a ++ b ++ c ++ d ++ e ++ f ++ g ++ h ++ i ++ j)
bits-ten a b c d e f g h i j pa pb pc pd pe pf pg ph pi pj =
    AreBits-append (a ++ b ++ c ++ d ++ e ++ f ++ g ++ h ++ i) j (AreBits-append (a ++ b ++ c ++ d ++ e ++ f ++ g ++ h) i (AreBits-append (a ++ b ++ c ++ d ++ e ++ f ++ g) h
    (AreBits-append (a ++ b ++ c ++ d ++ e ++ f) g (AreBits-append (a ++ b ++ c ++ d ++ e) f
    (AreBits-append (a ++ b ++ c ++ d) e (AreBits-append (a ++ b ++ c) d (AreBits-append (a ++ b) c (AreBits-append a b pa pb) pc) pd) pe) pf) pg)
    ph) pi) pj

bits-macroblock : (coding : PicCoding) (m : Macroblock) → AreBits (written_macroblock coding m)
unfolding written_macroblock
bits-macroblock coding m = bits-ten _ _ _ _ _ _ _ _ _ _ (bits-increment (m.skipped_before + 1)) (bits-code_for (type_table coding) (type_symbol m.kind))
    (bits-if (has_motion_type coding m.kind) (bits_of 2 m.motion_type) (AreBits-bits_of 2 m.motion_type)) (bits-if (has_dct_type coding m.kind) (flag m.field_dct ∷ []) (bits-flag m.field_dct))
    (bits-any (bits_of 5) m.code (AreBits-bits_of 5)) (bits-flat (written_vector (f_codes coding 0)) m.forward.items (bits-vector (f_codes coding 0)))
    (bits-flat (written_vector (f_codes coding 1)) m.backward.items (bits-vector (f_codes coding 1)))
    (bits-if (has_concealment coding m.kind) (1 ∷ []) (omega arith, tt)) (bits-if m.kind.pattern (code_for Pattern m.pattern) (bits-code_for Pattern m.pattern))
    (bits-flat (written_coded_block coding m) (range_with_len 0 BLOCKS)
    (λ i. bits-if (is_coded m.kind m.pattern i) (written_block (block_way coding m.kind i) (slice_index_or m.blocks i no_block))
    (bits-block _ _)))

-- ---- slices and pictures

bits-info : (info : Option SliceInfo) → AreBits (written_slice_info info)
bits-info None = (omega arith, tt)
bits-info (Some info) =
    let bytes = flat_map (λ (byte : ℕ). 1 ∷ bits_of 8 byte) info.bytes in
    AreBits-append ((1 ∷ flag info.intra_slice ∷ bits_of 7 info.reserved) ++ bytes) (0 ∷ [])
    (AreBits-append (1 ∷ flag info.intra_slice ∷ bits_of 7 info.reserved) bytes (omega arith, (flag_below info.intra_slice, AreBits-bits_of 7 info.reserved))
    (bits-flat (λ (byte : ℕ). 1 ∷ bits_of 8 byte) info.bytes (λ byte. (omega arith, AreBits-bits_of 8 byte)))) (omega arith, tt)

bits-slice : (coding : PicCoding) (s : Slice) → AreBits (written_slice coding s)
unfolding written_slice
bits-slice coding s =
    AreBits-append (bits_of 5 s.code ++ written_slice_info s.info) (flat_map (written_macroblock coding) s.macroblocks)
    (AreBits-append (bits_of 5 s.code) (written_slice_info s.info) (AreBits-bits_of 5 s.code) (bits-info s.info)) (bits-flat (written_macroblock coding) s.macroblocks (bits-macroblock coding))

bits-start_code : (byte : ℕ) → AreBits (start_code_bits byte)
bits-start_code byte = AreBits-append start_code_prefix (bits_of 8 byte) (AreBits-bits_of 24 1) (AreBits-bits_of 8 byte)

abbrev whole_of : PicCoding → Slice → List ℕ
whole_of coding s = to_whole_bytes (start_code_bits (s.row + FIRST_SLICE) ++ written_slice coding s)

bits-whole : (coding : PicCoding) (s : Slice) → AreBits (whole_of coding s)
bits-whole coding s =
    let bits = start_code_bits (s.row + FIRST_SLICE) ++ written_slice coding s in
    AreBits-append bits (replicate ((8 - length bits % 8) % 8) 0)
    (AreBits-append (start_code_bits (s.row + FIRST_SLICE)) (written_slice coding s) (bits-start_code _) (bits-slice coding s)) (AreBits-zeros _)

whole-flat : (coding : PicCoding) (slices : List Slice) → length (flat_map (whole_of coding) slices) % 8 ≡ 0
whole-flat coding [] = refl
whole-flat coding (s ∷ ss) =
    let bits = start_code_bits (s.row + FIRST_SLICE) ++ written_slice coding s in
    let fill = (8 - length bits % 8) % 8 in
    omega (arith, length-append (whole_of coding s) (flat_map (whole_of coding) ss), length-append bits (replicate fill 0), length-replicate {A = ℕ} fill 0, whole-flat coding ss)

bits-end : (sequence_end : Bool) → AreBits (if sequence_end then start_code_bits SEQUENCE_END else []) × (length (if sequence_end then start_code_bits SEQUENCE_END else []) % 8 ≡ 0)
unfolding bits_of
bits-end true = (bits-start_code SEQUENCE_END, refl)
bits-end false = (tt, refl)

bits-picture : (picture : Picture) → AreBits (written_picture picture) × (length (written_picture picture) % 8 ≡ 0)
unfolding written_picture
bits-picture picture =
    let head = bit_list picture.head in
    let slices = flat_map (whole_of picture.coding) picture.slices in
    let end = if picture.sequence_end then start_code_bits SEQUENCE_END else [] in
    let last = bits-end picture.sequence_end in (
      AreBits-append (head ++ slices) end (AreBits-append head slices (AreBits-bit_list picture.head) (bits-flat (whole_of picture.coding) picture.slices (bits-whole picture.coding))) last.0,
      omega (arith, length-append (head ++ slices) end, length-append head slices, length-bit_list picture.head, whole-flat picture.coding picture.slices, last.1),
    )

pub written-bytes : (picture : Picture) → (written : List ℕ) × IsWritten picture written
written-bytes picture =
    let (are, whole) = bits-picture picture in
    let count = length (written_picture picture) / 8 in
    let right = bytes_of-right count (written_picture picture) are (omega arith) in
    (bytes_of count (written_picture picture), right)
