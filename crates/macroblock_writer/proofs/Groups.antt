-- The parts of a macroblock in groups, as they are written and counted.
use Rattle.std.proofs.Common.{◌≡◌, ◌+◌, ℕ, List, [], ◌∷◌, ◌++◌, if◌then◌else◌, ap, sym, ◌∙◌, append_assoc}
use Rattle.std.specs.List.{flat_map, range_with_len}
use Rattle.bit_lists.specs.Bits.{bits_of}
use Rattle.bit_lists.specs.Fields.{flag}
use Rattle.prefix_codes.specs.declared.table_name.TableName.TheVariants.{Pattern}
use Rattle.syntax_types.specs.declared.macroblock.TheConstants.{BLOCKS}
use Rattle.syntax_types.specs.declared.macroblock.Macroblock.{Macroblock}
use Rattle.syntax_types.specs.declared.picture.PicCoding.{PicCoding}
use Rattle.picture_grammar.specs.Macroblock.{type_table, type_symbol, has_motion_type, has_dct_type, has_concealment, f_codes}
use Rattle.picture_grammar.specs.Written.{if_any, written_increment, written_vector, written_coded_block, written_macroblock}
use Rattle.prefix_codes.specs.TableName.{code_for}
use Rattle.macroblock_writer.specs.Private.Writing.{written_modes, written_motion, written_coefficients}

ten : (a b c d e f g h i j : List ℕ) → a ++ (b ++ c ++ d ++ e) ++ (f ++ g ++ h) ++ (i ++ j) ≡ a ++ b ++ c ++ d ++ e ++ f ++ g ++ h ++ i ++ j
ten a b c d e f g h i j =
    let left : a ++ (b ++ c ++ d ++ e) ++ (f ++ g ++ h) ++ (i ++ j) ≡ a ++ (b ++ (c ++ (d ++ (e ++ (f ++ (g ++ (h ++ (i ++ j)))))))) = simp append_assoc in
    let right : a ++ b ++ c ++ d ++ e ++ f ++ g ++ h ++ i ++ j ≡ a ++ (b ++ (c ++ (d ++ (e ++ (f ++ (g ++ (h ++ (i ++ j)))))))) = simp append_assoc in
    left ∙ sym right

-- in groups, and part for part
pub grouped : (coding : PicCoding) (m : Macroblock) (n : ℕ) → n ≡ m.skipped_before
    → written_increment (n + 1) ++ written_modes coding m ++ written_motion coding m ++ written_coefficients coding m ≡ written_macroblock coding m
unfolding written_macroblock
grouped coding m n is = ap (λ (k : ℕ). written_increment (k + 1) ++ written_modes coding m ++ written_motion coding m ++ written_coefficients coding m) is
    ∙ ten (written_increment (m.skipped_before + 1)) (code_for (type_table coding) (type_symbol m.kind)) (if has_motion_type coding m.kind then bits_of 2 m.motion_type else [])
    (if has_dct_type coding m.kind then flag m.field_dct ∷ [] else []) (if_any (bits_of 5) m.code) (flat_map (written_vector (f_codes coding 0)) m.forward.items)
    (flat_map (written_vector (f_codes coding 1)) m.backward.items) (if has_concealment coding m.kind then 1 ∷ [] else []) (if m.kind.pattern then code_for Pattern m.pattern else [])
    (flat_map (written_coded_block coding m) (range_with_len 0 BLOCKS))
