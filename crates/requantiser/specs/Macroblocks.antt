-- A macroblock of a coarser picture: what it says where it is coded, and when it is skipped.
use Rattle.std.specs.Prelude.{◌≡◌, ◌⊎◌, ◌==◌, ◌&&◌, ◌||◌, ℕ, not, Option, Some, None, List, [], ◌∷◌, map, unwrap_or, is_some, Bool, true, false, if◌then◌else◌}
use Rattle.bit_lists.specs.Bits.{number_of}
use Rattle.bit_lists.specs.Fields.{flag}
use Rattle.quant_math.specs.Scales.{IsMappedCode}
use Rattle.syntax_types.specs.declared.block.Block.{Block}
use Rattle.syntax_types.specs.declared.macroblock.Kind.{Kind}
use Rattle.syntax_types.specs.declared.macroblock.Macroblock.{Macroblock}
use Rattle.syntax_types.specs.declared.picture.PicCoding.{PicCoding}
use Rattle.syntax_types.specs.declared.picture.SeqState.{SeqState}
use Rattle.picture_grammar.specs.Macroblock.{has_dct_type}
use Rattle.requantiser.specs.Blocks.{AreCoarserBlocks, KeepsFirstLevel, no_blocks}

-- blocks of coefficients stand in the macroblock (macroblock_intra or macroblock_pattern, ISO/IEC 13818-2, 6.3.17.1)
abbrev pub has_coefficients : Kind → Bool
has_coefficients kind = kind.intra || kind.pattern

-- a macroblock is coded with a pattern and without motion, as P-pictures have them (ISO/IEC 13818-2, 6.3.17.1)
abbrev pub is_coded_without_motion : Kind → Bool
is_coded_without_motion kind = kind.pattern && not kind.intra && not kind.forward && not kind.backward

-- no coefficient stands in the block
abbrev pub is_empty_block : Block → Bool
is_empty_block block = elim block.pairs.items [ [] ↦ true | pair ∷ pairs ↦ false ]

-- coded_block_pattern: a bit for each block, the first one the most significant (ISO/IEC 13818-2, 6.3.17.4)
abbrev pub pattern_of : List Block → ℕ
pattern_of blocks = number_of (map (λ block. flag (not (is_empty_block block))) blocks)

-- A macroblock with a pattern and without motion, as P-pictures have them, whose coefficients all become 0. Where a
-- macroblock has motion, it is coded without its coefficients; one without motion can't be coded so.
pub record IsEmptiedWithoutMotion (seq : SeqState) (coding : PicCoding) (code mapped : ℕ) (from : Macroblock) : Type 0 where
  pub non_intra : from.kind.intra ≡ false
  pub coded : from.kind.pattern ≡ true
  pub no_forward : from.kind.forward ≡ false
  pub no_backward : from.kind.backward ≡ false
  pub emptied : AreCoarserBlocks seq coding from.kind code mapped from.blocks no_blocks

-- the blocks of a macroblock that is coded: the coarser ones, but for one without motion that would be emptied, which
-- keeps one coefficient
abbrev pub HasBlocks : SeqState → PicCoding → ℕ → ℕ → Macroblock → List Block → Type 0
HasBlocks seq coding code mapped from to =
    (AreCoarserBlocks seq coding from.kind code mapped from.blocks to × (¬ IsEmptiedWithoutMotion seq coding code mapped from))
    ⊎ (IsEmptiedWithoutMotion seq coding code mapped from × KeepsFirstLevel coding from to)

-- A macroblock that is coded, by the mapped code of what is in force in it, and by the code that is in force before it
-- in the coarser picture. Its motion is the source's, its pattern shows the blocks that aren't empty, dct_type is the
-- source's where one stands, and a code stands exactly where there are coefficients and another code was in force.
pub record IsCoarserMacroblock (seq : SeqState) (coding : PicCoding) (in_force mapped before : ℕ) (from to : Macroblock) : Type 0 where
  pub motion_type : to.motion_type ≡ from.motion_type
  pub forward : to.forward ≡ from.forward
  pub backward : to.backward ≡ from.backward
  pub blocks : HasBlocks seq coding in_force mapped from to.blocks
  pub pattern : to.pattern ≡ (if from.kind.intra then 0 else pattern_of to.blocks)
  pub kind : to.kind ≡ record from.kind { quant = is_some to.code; pattern = not (to.pattern == 0) }
  pub field_dct : to.field_dct ≡ (has_dct_type coding to.kind && from.field_dct)
  pub code : to.code ≡ (if has_coefficients to.kind && not (mapped == before) then Some mapped else None)

-- What stands at an address of the source's slice, and what stands there in the coarser picture; `None` is a skipped
-- macroblock. An inner macroblock is neither the first nor the last one of the source's slice. The codes are those in
-- force before this macroblock, in the source and in the coarser picture.
abbrev pub IsCoarserAt : SeqState → PicCoding → ℕ → Bool → ℕ → ℕ → Option Macroblock → Option Macroblock → Type 0
IsCoarserAt seq coding m inner code before None None = Unit {0}
IsCoarserAt seq coding m inner code before None (Some to) = ⊥
IsCoarserAt seq coding m inner code before (Some from) None =
    (mapped : ℕ) × IsMappedCode coding.q_scale_type (unwrap_or from.code code) m mapped
    × IsEmptiedWithoutMotion seq coding (unwrap_or from.code code) mapped from × (inner ≡ true)
IsCoarserAt seq coding m inner code before (Some from) (Some to) =
    (mapped : ℕ) × IsMappedCode coding.q_scale_type (unwrap_or from.code code) m mapped
    × IsCoarserMacroblock seq coding (unwrap_or from.code code) mapped before from to
    × (IsEmptiedWithoutMotion seq coding (unwrap_or from.code code) mapped from → inner ≡ false)
