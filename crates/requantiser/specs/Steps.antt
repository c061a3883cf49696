-- The steps of a version over its slices, one macroblock after another, and what they make together.
use Rattle.std.specs.Prelude.{◌≡◌, ◌+◌, ◌==◌, ◌&&◌, ℕ, not, Option, Some, List, [], ◌∷◌, length, map, Bool}
use Rattle.std.specs.Option.{option_to_list}
use Rattle.std.specs.List.{flat_map, sum_by}
use Rattle.quant_math.specs.Scales.{IsMappedCode}
use Rattle.syntax_types.specs.declared.macroblock.Macroblock.{Macroblock}
use Rattle.syntax_types.specs.declared.picture.PicCoding.{PicCoding}
use Rattle.syntax_types.specs.declared.picture.SeqState.{SeqState}
use Rattle.syntax_types.specs.declared.slice.Slice.{Slice}
use Rattle.requantiser.specs.declared.version_state.VersionState.{VersionState}
use Rattle.requantiser.specs.Distortion.{coefficient_of_macroblock, difference_of}
use Rattle.requantiser.specs.Macroblocks.{IsCoarserAt}
use Rattle.requantiser.specs.VersionState.{IsStateBehind}

-- a macroblock of the source, what it became in the version, where `None` is a skipped one, the state behind it, and the
-- sum of the squares of the differences of its coefficients
pub record Step : Type 0 where
  pub from : Macroblock
  pub made : Option Macroblock
  pub behind : VersionState
  pub distortion : ℕ

-- a step from a state, of a macroblock that is neither the first nor the last one of its slice, or is one of them
pub record IsStep (seq : SeqState) (coding : PicCoding) (inner : Bool) (before : VersionState) (step : Step) : Type 0 where
  pub at : IsCoarserAt seq coding before.m inner before.source_code before.version_code (Some step.from) step.made
  pub state : IsStateBehind step.from step.made before step.behind
  pub difference : step.distortion ≡ difference_of (coefficient_of_macroblock seq coding step.behind.source_code (Some step.from))
      (coefficient_of_macroblock seq coding step.behind.version_code step.made)

-- steps in order, each from the state behind the one before it, over the macroblocks from an index on, of so many
abbrev pub AreSteps : SeqState → PicCoding → ℕ → ℕ → VersionState → List Step → Type 0
AreSteps seq coding count index before [] = Unit {0}
AreSteps seq coding count index before (s ∷ ss) =
    IsStep seq coding (not (index == 0) && not (index + 1 == count)) before s × AreSteps seq coding count (index + 1) s.behind ss

-- the state behind steps from a state on
abbrev pub state_behind : VersionState → List Step → VersionState
state_behind before [] = before
state_behind before (s ∷ ss) = state_behind s.behind ss

-- the macroblocks that the steps go over
abbrev pub taken_by : List Step → List Macroblock
taken_by steps = map (λ s. s.from) steps

-- the macroblocks of the version that they make
abbrev pub made_by : List Step → List Macroblock
made_by steps = flat_map (λ s. option_to_list s.made) steps

-- Steps over all macroblocks of a slice make this one of the version, from a state at the slice's start: the source's
-- code is in force, in the version the mapped code, and no macroblock waits.
pub record MakeSlice (seq : SeqState) (coding : PicCoding) (m : ℕ) (from to : Slice) (steps : List Step) : Type 0 where
  pub start : VersionState
  pub ratio : start.m ≡ m
  pub source_code : start.source_code ≡ from.code
  pub version_code : IsMappedCode coding.q_scale_type from.code m start.version_code
  pub skipped : start.skipped ≡ 0
  pub in_order : AreSteps seq coding (length from.macroblocks) 0 start steps
  pub taken : taken_by steps ≡ from.macroblocks
  pub row : to.row ≡ from.row
  pub code : to.code ≡ start.version_code
  pub info : to.info ≡ from.info
  pub macroblocks : to.macroblocks ≡ made_by steps

-- each of these slices is made of the one of the source at the same place, by the steps over that one
abbrev pub MakeSlices : SeqState → PicCoding → ℕ → List Slice → List Slice → List (List Step) → Type 0
MakeSlices seq coding m [] [] [] = Unit {0}
MakeSlices seq coding m [] [] (steps ∷ others) = ⊥
MakeSlices seq coding m [] (to ∷ made) steps = ⊥
MakeSlices seq coding m (from ∷ slices) [] steps = ⊥
MakeSlices seq coding m (from ∷ slices) (to ∷ made) [] = ⊥
MakeSlices seq coding m (from ∷ slices) (to ∷ made) (steps ∷ others) = MakeSlice seq coding m from to steps × MakeSlices seq coding m slices made others

-- the sum of the distortions of these steps
abbrev pub distortion_of : List Step → ℕ
distortion_of steps = sum_by (λ s. s.distortion) steps
