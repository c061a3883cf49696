-- What coefficients become in the coarser picture, counted one after the other, and in several versions at once.
use Rattle.std.specs.Prelude.{◌≡◌, ◌<◌, ◌≤◌, ◌+◌, ◌-◌, ◌*◌, ◌^◌, ◌==◌, ◌&&◌, ◌||◌, ℕ, not, ℤ, unsigned_abs, List, [], ◌∷◌, length, drop, Bool, true, false, slice_index_or, if◌then◌else◌}
use Rattle.bit_lists.specs.Fields.{flag}
use Rattle.prefix_codes.specs.declared.symbol.TheConstants.{END_OF_BLOCK}
use Rattle.prefix_codes.specs.declared.table_name.TableName.TheVariants.{CoeffZero}
use Rattle.syntax_types.specs.declared.block.Block.{Block}
use Rattle.syntax_types.specs.declared.block.BlockWay.{BlockWay}
use Rattle.syntax_types.specs.declared.block.RunLevel.{RunLevel}
use Rattle.syntax_types.specs.declared.macroblock.Kind.{Kind}
use Rattle.syntax_types.specs.declared.picture.PicCoding.{PicCoding}
use Rattle.syntax_types.specs.declared.picture.SeqState.{SeqState}
use Rattle.picture_grammar.specs.Block.{coefficient_table, first_place}
use Rattle.picture_grammar.specs.Written.{written_coefficient, written_coefficients}
use Rattle.prefix_codes.specs.TableName.{code_for}
use Rattle.picture_grammar.specs.Macroblock.{block_way, no_block}
use Rattle.requantiser.specs.declared.tally.Tally.{Tally}
use Rattle.requantiser.specs.Distortion.{squared_difference}
use Rattle.requantiser.specs.Levels.{scale_of}
use Rattle.requantiser.specs.Macroblocks.{pattern_of}
use Rattle.requantiser.specs.Tallies.{bits_beyond}
use Rattle.requantiser.specs.Private.Changes.{coefficient_of_blocks, pair_changes}
use Rattle.requantiser.specs.Private.Sums.{sum_from}
use Rattle.requantiser.specs.Private.Walk.{coarsened_blocks, coarsened_pairs}

-- no coefficient stands
abbrev pub has_none : List RunLevel → Bool
has_none [] = true
has_none (pair ∷ pairs) = false

-- the bits of a coefficient at a place, where the last one before it that stays stands before the place `next`; none where it is 0
abbrev pub bits_at : BlockWay → ℕ → ℕ → ℤ → ℕ
bits_at way next at level =
    elim (unsigned_abs level == 0) [ true ↦ 0 | false ↦ length (written_coefficient (coefficient_table way next) (record { run = at - next; level = level })) ]

-- the place behind the last coefficient that stays
abbrev pub next_at : ℕ → ℕ → ℤ → ℕ
next_at next at level = elim (unsigned_abs level == 0) [ true ↦ next | false ↦ at + 1 ]

-- one more coefficient was counted
pub record IsCounted (way : BlockWay) (at : ℕ) (level : ℤ) (squared : ℕ) (before behind : Tally) : Type 0 where
  pub target : behind.target ≡ before.target
  pub pattern : behind.pattern ≡ before.pattern
  pub next : behind.next ≡ next_at before.next at level
  pub bits : behind.bits ≡ before.bits + bits_at way before.next at level
  pub distortion : behind.distortion ≡ before.distortion + squared
  pub few : behind.bits ≤ before.bits + 42
  pub small : behind.distortion ≤ before.distortion + 2 ^ 22

-- there is room for one more coefficient at this place
pub record HasRoom (at : ℕ) (tally : Tally) : Type 0 where
  pub next : tally.next ≤ at
  pub bits : tally.bits ≤ 2 ^ 20
  pub distortion : tally.distortion ≤ 2 ^ 31 + 2 ^ 29

-- The coefficients before a place of the scan were counted, with what was there before the block: what is counted, and
-- what the others become, are what all become.
pub record IsTallied (way : BlockWay) (new : ℕ → ℤ → ℤ) (change : ℕ → ℤ → ℕ) (place : ℕ) (rest all : List RunLevel) (before tally : Tally) : Type 0 where
  pub target : tally.target ≡ before.target
  pub pattern : tally.pattern ≡ before.pattern
  pub bits : tally.bits + length (written_coefficients way tally.next (coarsened_pairs new place (place - tally.next) rest))
      ≡ before.bits + length (written_coefficients way (first_place way) (coarsened_pairs new (first_place way) 0 all))
  pub none : has_none (coarsened_pairs new (first_place way) 0 all)
      ≡ ((tally.next == first_place way) && has_none (coarsened_pairs new place (place - tally.next) rest))
  pub distortion : tally.distortion + pair_changes change place rest ≡ before.distortion + pair_changes change (first_place way) all
  pub low : first_place way ≤ tally.next
  pub high : tally.next ≤ place
  pub no_less : before.bits ≤ tally.bits
  pub few : tally.bits ≤ before.bits + place * 42
  pub small : tally.distortion ≤ before.distortion + place * 2 ^ 22

-- the coefficients of a block were counted
pub record IsCountedBlock (way : BlockWay) (new : ℕ → ℤ → ℤ) (change : ℕ → ℤ → ℕ) (all : List RunLevel) (before behind : Tally) : Type 0 where
  pub target : behind.target ≡ before.target
  pub pattern : behind.pattern ≡ before.pattern
  pub bits : behind.bits + length (written_coefficients way behind.next [])
      ≡ before.bits + length (written_coefficients way (first_place way) (coarsened_pairs new (first_place way) 0 all))
  pub none : has_none (coarsened_pairs new (first_place way) 0 all) ≡ (behind.next == first_place way)
  pub distortion : behind.distortion ≡ before.distortion + pair_changes change (first_place way) all
  pub low : first_place way ≤ behind.next
  pub no_less : before.bits ≤ behind.bits
  pub few : behind.bits ≤ before.bits + 2688
  pub small : behind.distortion ≤ before.distortion + 2 ^ 28

-- the end of a block was counted, which stands in intra blocks without coefficients too
pub record IsEnded (way : BlockWay) (before behind : Tally) : Type 0 where
  pub target : behind.target ≡ before.target
  pub next : behind.next ≡ first_place way
  pub pattern : behind.pattern ≡ 2 * before.pattern + flag (not (before.next == first_place way))
  pub bits : behind.bits ≡ before.bits + (if before.next == first_place way || way.intra then 0 else length (code_for CoeffZero END_OF_BLOCK))
  pub distortion : behind.distortion ≡ before.distortion
  pub few : behind.bits ≤ before.bits + 24

-- no coefficient of the next block was counted, and there is room for all
pub record StartsBlock (way : BlockWay) (tally : Tally) : Type 0 where
  pub next : tally.next ≡ first_place way
  pub bits : tally.bits ≤ 2 ^ 19
  pub distortion : tally.distortion ≤ 2 ^ 31
  pub pattern : tally.pattern < 2 ^ 6

-- a block was counted
pub record IsBlockTallied (way : BlockWay) (new : ℕ → ℤ → ℤ) (change : ℕ → ℤ → ℕ) (all : List RunLevel) (before behind : Tally) : Type 0 where
  pub target : behind.target ≡ before.target
  pub next : behind.next ≡ first_place way
  pub pattern : behind.pattern ≡ 2 * before.pattern + flag (not (has_none (coarsened_pairs new (first_place way) 0 all)))
  pub bits : behind.bits + length (written_coefficients way (first_place way) [])
      ≡ before.bits + length (written_coefficients way (first_place way) (coarsened_pairs new (first_place way) 0 all))
  pub distortion : behind.distortion ≡ before.distortion + pair_changes change (first_place way) all
  pub no_less : before.bits ≤ behind.bits
  pub few : behind.bits ≤ before.bits + 2712
  pub small : behind.distortion ≤ before.distortion + 2 ^ 28

-- ---- a macroblock

-- in how many bits more a block is written than without coefficients
abbrev pub bits_of_block : PicCoding → Kind → List Block → ℕ → ℕ
bits_of_block coding kind blocks i = let block : Block = slice_index_or blocks i no_block in bits_beyond (block_way coding kind i) block.pairs.items

-- the sum of the squares of the differences in a block
abbrev pub block_distortion : (ℕ → ℕ → ℤ) → (ℕ → ℕ → ℤ) → ℕ → ℕ
block_distortion f g i = sum_from (λ index. squared_difference (f i index) (g i index)) 0 64

-- the blocks before this one were counted: what is counted, and what the others have, are what all have
pub record AreBlocksTallied (seq : SeqState) (coding : PicCoding) (kind : Kind) (code : ℕ) (blocks : List Block) (i : ℕ) (start tally : Tally) : Type 0 where
  pub target : tally.target ≡ start.target
  pub next : tally.next ≡ (if kind.intra then 1 else 0)
  pub pattern : tally.pattern * 2 ^ (6 - i) + pattern_of (drop i (coarsened_blocks seq coding kind code start.target.code blocks))
      ≡ pattern_of (coarsened_blocks seq coding kind code start.target.code blocks)
  pub bits : tally.bits + sum_from (bits_of_block coding kind (coarsened_blocks seq coding kind code start.target.code blocks)) i (6 - i)
      ≡ sum_from (bits_of_block coding kind (coarsened_blocks seq coding kind code start.target.code blocks)) 0 6
  pub distortion : tally.distortion + sum_from (block_distortion (coefficient_of_blocks seq coding kind code blocks)
      (coefficient_of_blocks seq coding kind start.target.code (coarsened_blocks seq coding kind code start.target.code blocks))) i (6 - i)
      ≡ sum_from (block_distortion (coefficient_of_blocks seq coding kind code blocks)
      (coefficient_of_blocks seq coding kind start.target.code (coarsened_blocks seq coding kind code start.target.code blocks))) 0 6
  pub small_pattern : tally.pattern < 2 ^ i
  pub few : tally.bits ≤ i * 2712
  pub small : tally.distortion ≤ i * 2 ^ 28

-- nothing of the macroblock was counted
pub record IsStart (coding : PicCoding) (intra : Bool) (tally : Tally) : Type 0 where
  pub scale : tally.target.scale ≡ scale_of coding tally.target.code
  pub next : tally.next ≡ (if intra then 1 else 0)
  pub pattern : tally.pattern ≡ 0
  pub bits : tally.bits ≡ 0
  pub distortion : tally.distortion ≡ 0
