-- A version of a slice while it is counted, and behind that.
use Rattle.std.specs.Prelude.{◌≡◌, ◌<◌, ◌≤◌, ◌+◌, ◌*◌, ◌^◌, ℕ, List, length, unwrap_or, Bool, true, false}
use Rattle.std.specs.List.{flat_map, sum_by}
use Rattle.std.specs.Option.{option_to_list}
use Rattle.quant_math.specs.Scales.{IsMappedCode}
use Rattle.syntax_types.specs.declared.macroblock.Macroblock.{Macroblock}
use Rattle.syntax_types.specs.declared.picture.PicCoding.{PicCoding}
use Rattle.syntax_types.specs.declared.picture.SeqState.{SeqState}
use Rattle.syntax_types.specs.declared.slice.Slice.{Slice}
use Rattle.picture_grammar.specs.Written.{written_macroblock}
use Rattle.requantiser.specs.declared.version_state.VersionState.{VersionState}
use Rattle.requantiser.specs.declared.tally.Tally.{Tally}
use Rattle.requantiser.specs.Tallies.{IsTallyOf}
use Rattle.requantiser.specs.Steps.{AreSteps, IsStep, MakeSlice, Step, distortion_of, made_by, state_behind, taken_by}
use Rattle.macroblock_writer.specs.Private.WholeSlices.{written_whole_slice}
use Rattle.version_maker.specs.declared.slice_count.SliceCount.{SliceCount}
use Rattle.version_maker.specs.declared.slice_count.VersionCount.{VersionCount}

-- a step was counted: its state, the bits of what it made, and its distortion
pub record IsCountedStep (coding : PicCoding) (step : Step) (before behind : VersionCount) : Type 0 where
  pub state : behind.state ≡ step.behind
  pub bits : behind.bits ≡ before.bits + length (flat_map (written_macroblock coding) (option_to_list step.made))
  pub few : behind.bits ≤ before.bits + 2 ^ 18
  pub distortion : behind.distortion ≡ before.distortion + step.distortion
  pub small : behind.distortion ≤ before.distortion + 2 ^ 41

-- one more macroblock was counted in a version
pub record IsCountedMacroblock (seq : SeqState) (coding : PicCoding) (inner : Bool) (from : Macroblock) (before behind : VersionCount) : Type 0 where
  pub step : Step
  pub same : step.from ≡ from
  pub is : IsStep seq coding inner before.state step
  pub counted : IsCountedStep coding step before behind

-- one more macroblock can be counted in a version, in which its coefficients were
pub record CanCount (seq : SeqState) (coding : PicCoding) (from : Macroblock) (tally : Tally) (count : VersionCount) : Type 0 where
  pub tallied : IsTallyOf seq coding (unwrap_or from.code count.state.source_code) count.state.m from tally
  pub room : count.state.skipped + from.skipped_before < 65535
  pub bits : count.bits + 2 ^ 18 < 2 ^ 64
  pub distortion : count.distortion + 2 ^ 41 < 2 ^ 64

-- one more macroblock can be counted in the version at m sixteenths, where this code of the source is in force
pub record CanCountBehind (code m : ℕ) (from : Macroblock) (count : VersionCount) : Type 0 where
  pub ratio : count.state.m ≡ m
  pub source_code : count.state.source_code ≡ code
  pub room : count.state.skipped + from.skipped_before < 65535
  pub bits : count.bits + 2 ^ 18 < 2 ^ 64
  pub distortion : count.distortion + 2 ^ 41 < 2 ^ 64

-- nothing of a slice with this code was counted in the version at m sixteenths
pub record IsStartCount (coding : PicCoding) (m code : ℕ) (count : VersionCount) : Type 0 where
  pub ratio : count.state.m ≡ m
  pub source_code : count.state.source_code ≡ code
  pub version_code : IsMappedCode coding.q_scale_type code m count.state.version_code
  pub skipped : count.state.skipped ≡ 0
  pub bits : count.bits ≡ 0
  pub distortion : count.distortion ≡ 0

-- so many macroblocks may be all of a slice, of which so many were counted: just these where it is closed behind them, and
-- more where it isn't
abbrev pub MayBeAll : Bool → ℕ → ℕ → Type 0
MayBeAll true so_many all = all ≡ so_many
MayBeAll false so_many all = so_many < all

-- the first macroblocks of a slice were counted, behind which it is closed or isn't: their steps are those among as many
-- macroblocks as may be all
pub record AreCounted (seq : SeqState) (coding : PicCoding) (start : VersionState) (macroblocks : List Macroblock) (closed : Bool) (count : VersionCount) : Type 0 where
  pub steps : List Step
  pub in_order : (all : ℕ) → MayBeAll closed (length macroblocks) all → AreSteps seq coding all 0 start steps
  pub taken : taken_by steps ≡ macroblocks
  pub state : state_behind start steps ≡ count.state
  pub bits : count.bits ≡ length (flat_map (written_macroblock coding) (made_by steps))
  pub few : count.bits ≤ length macroblocks * 2 ^ 18
  pub distortion : count.distortion ≡ distortion_of steps
  pub small : count.distortion ≤ length macroblocks * 2 ^ 41
  pub room : count.state.skipped ≤ sum_by (λ m. m.skipped_before + 1) macroblocks

-- all macroblocks of the slice were counted in the version at m sixteenths
pub record AreAllCounted (seq : SeqState) (coding : PicCoding) (m : ℕ) (slice : Slice) (count : VersionCount) : Type 0 where
  pub start : VersionState
  pub ratio : start.m ≡ m
  pub source_code : start.source_code ≡ slice.code
  pub version_code : IsMappedCode coding.q_scale_type slice.code m start.version_code
  pub skipped : start.skipped ≡ 0
  pub counted : AreCounted seq coding start slice.macroblocks true count

-- the slice of the version at m sixteenths was counted
pub record IsCountedSlice (seq : SeqState) (coding : PicCoding) (m : ℕ) (from : Slice) (count : SliceCount) : Type 0 where
  pub to : Slice
  pub steps : List Step
  pub makes : MakeSlice seq coding m from to steps
  pub bytes : 8 * count.bytes ≡ length (written_whole_slice coding to)
  pub few : count.bytes ≤ 2 ^ 40
  pub distortion : count.distortion ≡ distortion_of steps
  pub small : count.distortion ≤ length from.macroblocks * 2 ^ 41
