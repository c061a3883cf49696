-- What the walk needs of a macroblock; the grammar has it of each macroblock that bits spell.
use Rattle.std.specs.Prelude.{◌≡◌, ◌≢◌, ◌<◌, ◌≤◌, ◌+◌, ◌-◌, ◌^◌, ℕ, ℤ, unsigned_abs, pos, Some, None, List, [], ◌∷◌, length, true, false, slice_index_or, if◌then◌else◌}
use Rattle.std.specs.List.{AllByRecursion}
use Rattle.quant_math.specs.declared.levels.TheConstants.{LEAST_COEFFICIENT}
use Rattle.quant_math.specs.Scales.{IsCode}
use Rattle.syntax_types.specs.declared.block.Block.{Block}
use Rattle.syntax_types.specs.declared.block.RunLevel.{RunLevel}
use Rattle.syntax_types.specs.declared.block.TheConstants.{BLOCK_PLACES}
use Rattle.syntax_types.specs.declared.macroblock.TheConstants.{BLOCKS}
use Rattle.syntax_types.specs.declared.macroblock.Macroblock.{Macroblock}
use Rattle.syntax_types.specs.declared.picture.SeqState.{SeqState}
use Rattle.syntax_types.specs.declared.slice.Slice.{Slice}
use Rattle.picture_grammar.specs.declared.escape.TheConstants.{LEVEL_BITS}
use Rattle.picture_grammar.specs.Macroblock.{is_coded, no_block}
use Rattle.picture_grammar.specs.Picture.{first_column}
use Rattle.requantiser.specs.Levels.{HasWeights}
use Rattle.requantiser.specs.Slices.{end_column}

-- the first coefficient isn't 0
abbrev pub BeginsWithLevel : List RunLevel → Type 0
BeginsWithLevel [] = ⊥
BeginsWithLevel (pair ∷ pairs) = pair.level ≢ pos 0

-- the coefficients from a place on stand within the block, and their levels have a code
abbrev pub FitBlock : ℕ → List RunLevel → Type 0
FitBlock place [] = Unit {0}
FitBlock place (pair ∷ pairs) = (place + pair.run < BLOCK_PLACES) × (unsigned_abs pair.level < 2 ^ (LEVEL_BITS - 1)) × FitBlock (place + pair.run + 1) pairs

-- six blocks; those of a macroblock that isn't intra have no DC coefficient, and begin with a level where they are coded;
-- a pattern has a block
pub record HasShape (m : Macroblock) : Type 0 where
  pub six : length m.blocks ≡ BLOCKS
  pub no_dc : m.kind.intra ≡ false → (i : ℕ) → i < BLOCKS → let block : Block = slice_index_or m.blocks i no_block in block.dc ≡ None
  pub begins : m.kind.intra ≡ false → (i : ℕ) → i < BLOCKS → is_coded m.kind m.pattern i ≡ true
      → let block : Block = slice_index_or m.blocks i no_block in BeginsWithLevel block.pairs.items
  pub some_coded : m.kind.intra ≡ false → m.kind.pattern ≡ true → (i : ℕ) × (i < BLOCKS) × (is_coded m.kind m.pattern i ≡ true)

-- all coefficients stand within their blocks, and a code is one
pub record IsMeasured (m : Macroblock) : Type 0 where
  pub blocks : (i : ℕ) → i < BLOCKS → let block : Block = slice_index_or m.blocks i no_block in FitBlock (if m.kind.intra then 1 else 0) block.pairs.items
  pub code : (code : ℕ) → m.code ≡ Some code → IsCode code

-- what the walk needs of a macroblock
pub record IsWalkable (m : Macroblock) : Type 0 where
  pub shape : HasShape m
  pub measured : IsMeasured m

abbrev pub AreWalkable : List Macroblock → Type 0
AreWalkable ms = AllByRecursion IsWalkable ms

-- what the walk needs of a slice of a picture with so many columns
pub record IsWalkableSlice (columns : ℕ) (slice : Slice) : Type 0 where
  pub code : IsCode slice.code
  pub macroblocks : AreWalkable slice.macroblocks
  pub within : end_column slice ≤ columns
  pub some : first_column slice.macroblocks < end_column slice

-- the numbers are coefficients of a block, as inverse quantisation gives them
abbrev pub AreCoefficients : List ℤ → Type 0
AreCoefficients numbers = (place : ℕ) → unsigned_abs (slice_index_or numbers place (pos 0)) ≤ unsigned_abs LEAST_COEFFICIENT

-- what the coefficients of a macroblock need
pub record IsSide (seq : SeqState) (code : ℕ) (m : Macroblock) : Type 0 where
  pub weights : HasWeights seq
  pub code_is : IsCode code
  pub six : length m.blocks ≡ BLOCKS
  pub blocks : (i : ℕ) → i < BLOCKS → let block : Block = slice_index_or m.blocks i no_block in FitBlock (if m.kind.intra then 1 else 0) block.pairs.items
