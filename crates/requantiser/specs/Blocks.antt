-- A block at a coarser code.
use Rattle.std.specs.Prelude.{◌≡◌, ◌≢◌, ◌<◌, ℕ, ℤ, pos, None, List, [], ◌∷◌, length, replicate, true, false, EachIndex, slice_index_or, slice_set}
use Rattle.std.specs.Int.{int_signum}
use Rattle.std.specs.List.{AllByRecursion}
use Rattle.quant_math.specs.Levels.{coarser_level}
use Rattle.syntax_types.specs.declared.block.Block.{Block}
use Rattle.syntax_types.specs.declared.block.BlockWay.{BlockWay}
use Rattle.syntax_types.specs.declared.macroblock.TheConstants.{BLOCKS}
use Rattle.syntax_types.specs.declared.macroblock.Kind.{Kind}
use Rattle.syntax_types.specs.declared.macroblock.Macroblock.{Macroblock}
use Rattle.syntax_types.specs.declared.picture.PicCoding.{PicCoding}
use Rattle.syntax_types.specs.declared.picture.SeqState.{SeqState}
use Rattle.picture_grammar.specs.Macroblock.{block_way, is_coded, no_block}
use Rattle.requantiser.specs.Levels.{level_at, weight_at, scale_of}

-- the block under another code: the same DC coefficient, at each place the coarser level, and no level 0 among those
-- that are coded
pub record IsCoarserBlock (seq : SeqState) (coding : PicCoding) (way : BlockWay) (code mapped : ℕ) (from to : Block) : Type 0 where
  pub dc : to.dc ≡ from.dc
  pub levels : (place : ℕ) → level_at way to place
      ≡ coarser_level (level_at way from place) (weight_at seq coding way.intra place) (scale_of coding code) (scale_of coding mapped) way.intra
  pub no_zeros : AllByRecursion (λ pair. pair.level ≢ pos 0) to.pairs.items

-- each block of a macroblock of this kind under another code
abbrev pub AreCoarserBlocks : SeqState → PicCoding → Kind → ℕ → ℕ → List Block → List Block → Type 0
AreCoarserBlocks seq coding kind code mapped from to =
    (length to ≡ length from)
    × EachIndex from (λ i. IsCoarserBlock seq coding (block_way coding kind i) code mapped (slice_index_or from i no_block) (slice_index_or to i no_block))

-- the blocks of a macroblock that has no coefficients
abbrev pub no_blocks : List Block
no_blocks = replicate BLOCKS no_block

-- a non-intra block of one level, at this place
abbrev pub block_of_one : ℕ → ℤ → Block
block_of_one place level = record { dc = None; pairs = record { items = record { run = place; level = level } ∷ [] } }

-- Of the blocks of a macroblock one coefficient is kept: the first one that isn't 0 of the first block that is coded,
-- with the level 1 and its sign.
pub record KeepsFirstLevel (coding : PicCoding) (from : Macroblock) (to : List Block) : Type 0 where
  pub index : ℕ
  pub place : ℕ
  pub within : index < BLOCKS
  pub coded : is_coded from.kind from.pattern index ≡ true
  pub none_coded_before : (i : ℕ) → i < index → is_coded from.kind from.pattern i ≡ false
  pub level : level_at (block_way coding from.kind index) (slice_index_or from.blocks index no_block) place ≢ pos 0
  pub zeros_before : (p : ℕ) → p < place → level_at (block_way coding from.kind index) (slice_index_or from.blocks index no_block) p ≡ pos 0
  pub kept : to ≡ slice_set no_blocks index
      (block_of_one place (int_signum (level_at (block_way coding from.kind index) (slice_index_or from.blocks index no_block) place)))
