-- The counts of several versions at once, kept by what they count.
use Rattle.std.specs.Prelude.{◌≡◌, ◌<◌, ◌≤◌, ◌+◌, ◌-◌, ◌*◌, ◌==◌, ◌||◌, ℕ, not, true, false, List, length, slice_index, if◌then◌else◌}
use Rattle.bit_lists.specs.Fields.{flag}
use Rattle.prefix_codes.specs.declared.symbol.TheConstants.{END_OF_BLOCK}
use Rattle.prefix_codes.specs.declared.table_name.TableName.TheVariants.{CoeffZero}
use Rattle.syntax_types.specs.declared.block.BlockWay.{BlockWay}
use Rattle.picture_grammar.specs.Block.{coefficient_table, first_place}
use Rattle.prefix_codes.specs.TableName.{code_for}
use Rattle.requantiser.specs.declared.counts.Counts.{Counts}
use Rattle.requantiser.specs.declared.tally.Tally.{Tally}
use Rattle.requantiser.specs.declared.targets.Targets.{Targets}
use Rattle.requantiser.specs.Private.Lengths.{length_by}

-- the counts with these sums of squares
abbrev pub with_squares : Counts → List ℕ → Counts
with_squares counts squares = record counts { squares = squares }

-- the tally of a version by its number
abbrev pub tally_in : Targets → Counts → (k : ℕ) → k < 8 → Tally
tally_in targets counts k below = record {
  target = record { code = slice_index targets.codes k; scale = slice_index targets.scales k; is_code = targets.are_codes k below; range = targets.range k below };
  next = slice_index counts.next k;
  pattern = slice_index counts.patterns k;
  bits = slice_index counts.bits k;
  distortion = slice_index counts.squares k;
}

-- each of the eight tallies is like this
abbrev pub EachIs : (Tally → Type 0) → Targets → Counts → Type 0
EachIs P targets counts = (k : ℕ) (below : k < 8) → P (tally_in targets counts k below)

-- each of the eight tallies went on like this
abbrev pub EachWent : (Tally → Tally → Type 0) → Targets → Counts → Counts → Type 0
EachWent P targets before behind = (k : ℕ) (below : k < 8) → P (tally_in targets before k below) (tally_in targets behind k below)

-- the bits of a coefficient by its size, none where it is 0
abbrev pub bits_by : BlockWay → ℕ → ℕ → ℕ → ℕ
bits_by way next at size = elim (size == 0) [ true ↦ 0 | false ↦ length_by (coefficient_table way next) (at - next) size ]

-- the place behind the last coefficient that stays, by its size
abbrev pub next_by : ℕ → ℕ → ℕ → ℕ
next_by next at size = elim (size == 0) [ true ↦ next | false ↦ at + 1 ]

-- a coefficient of this size was counted, by what it changes
pub record IsSized (way : BlockWay) (at size next bits next' bits' : ℕ) : Type 0 where
  pub next_is : next' ≡ next_by next at size
  pub bits_is : bits' ≡ bits + bits_by way next at size
  pub few : bits' ≤ bits + 42

-- the end of a block was counted, by what it changes
pub record IsEndedBy (way : BlockWay) (next pattern bits next' pattern' bits' : ℕ) : Type 0 where
  pub next_is : next' ≡ first_place way
  pub pattern_is : pattern' ≡ 2 * pattern + flag (not (next == first_place way))
  pub bits_is : bits' ≡ bits + (if next == first_place way || way.intra then 0 else length (code_for CoeffZero END_OF_BLOCK))
  pub few : bits' ≤ bits + 24

-- a tally says what was counted in a version
pub record IsTheTally (targets : Targets) (counts : Counts) (k : ℕ) (tally : Tally) : Type 0 where
  pub code : tally.target.code ≡ slice_index targets.codes k
  pub pattern : tally.pattern ≡ slice_index counts.patterns k
  pub bits : tally.bits ≡ slice_index counts.bits k
  pub distortion : tally.distortion ≡ slice_index counts.squares k
