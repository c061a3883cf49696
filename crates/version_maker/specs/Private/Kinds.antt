-- The bits of macroblock_type in the versions of a macroblock.
use Rattle.std.specs.Prelude.{◌≡◌, ◌+◌, ℕ, length, true, false}
use Rattle.syntax_types.specs.declared.macroblock.Kind.{Kind}
use Rattle.syntax_types.specs.declared.picture.PicCoding.{PicCoding}
use Rattle.syntax_types.specs.declared.macroblock.Macroblock.{Macroblock}
use Rattle.picture_grammar.specs.Written.{written_increment}
use Rattle.macroblock_writer.specs.Parts.{kind_length}

-- these are those of a macroblock that is of this kind in the source, where neither a code nor a pattern stands, a pattern, a code, and
-- both, with the 5 bits of quantiser_scale_code where it stands (ISO/IEC 13818-2, 6.2.5 and 6.2.5.1)
pub record AreKindBits (coding : PicCoding) (source : Kind) (n p c b : ℕ) : Type 0 where
  pub neither : n ≡ kind_length coding (record source { quant = false; pattern = false })
  pub pattern : p ≡ kind_length coding (record source { quant = false; pattern = true })
  pub code : c ≡ kind_length coding (record source { quant = true; pattern = false }) + 5
  pub both : b ≡ kind_length coding (record source { quant = true; pattern = true }) + 5

-- these are those of all that a macroblock says without a code in its head, but for its coefficients and coded_block_pattern, where none
-- stands and where one does; its motion and DC coefficients take so many (6.2.5)
pub record AreStayedBits (coding : PicCoding) (from : Macroblock) (shared n p : ℕ) : Type 0 where
  pub neither : n ≡ length (written_increment (from.skipped_before + 1)) + kind_length coding (record from.kind { quant = false; pattern = false }) + shared
  pub pattern : p ≡ length (written_increment (from.skipped_before + 1)) + kind_length coding (record from.kind { quant = false; pattern = true }) + shared
