-- A version is made by steps, and how far they lead from the source.
use Rattle.std.proofs.Common.{◌≡◌, ℕ, ◌+◌, ◌*◌, ◌≤◌, Option, Some, None, List, [], ◌∷◌, Bool, true, false, refl, sym, ◌∙◌, ap, ap₂, subst, arith, length, unwrap_or}
use Rattle.std.specs.Prelude.{◌==◌, ◌&&◌, not, is_some, option_and_then, IfSome, if◌then◌else◌}
use Rattle.std.specs.List.{AllByRecursion, AllZip, sum_by}
use Rattle.std.proofs.lemmas.List.Sums.{sum_by-cons}
use Rattle.std.proofs.lemmas.Option.{same_Some}
use Rattle.quant_math.specs.Scales.{IsCode}
use Rattle.syntax_types.specs.declared.macroblock.Macroblock.{Macroblock}
use Rattle.syntax_types.specs.declared.picture.PicCoding.{PicCoding}
use Rattle.syntax_types.specs.declared.picture.SeqState.{SeqState}
use Rattle.syntax_types.specs.declared.slice.Slice.{Slice}
use Rattle.requantiser.specs.declared.version_state.VersionState.{VersionState}
use Rattle.requantiser.specs.Distortion.{coefficient_of_macroblock, difference_of}
use Rattle.requantiser.specs.Macroblocks.{IsCoarserAt, has_coefficients}
use Rattle.requantiser.specs.Slices.{IsCoarserSlice}
use Rattle.requantiser.specs.Steps.{AreSteps, IsStep, MakeSlice, MakeSlices, Step, distortion_of, made_by, taken_by}
use Rattle.requantiser.specs.Private.Shapes.{AreWalkable, IsWalkable, IsWalkableSlice}
use Rattle.requantiser.specs.Private.Walk.{coarsened_macroblock, mapped_code}
use Rattle.requantiser.proofs.Macroblocks.{coarsened_macroblock-is}
use Rattle.requantiser.proofs.MappedCodes.{mapped_code-is}
use Rattle.requantiser.proofs.Slices.{gap-walk, one_coarser_slice}
use Rattle.requantiser.proofs.Steps.{length-taken, steps-make}
use Rattle.version_laws.proofs.Differences.{step-most}
use Rattle.version_laws.proofs.SliceBits.{coded}

-- ---- codes

is-code : (o : Option ℕ) (before : ℕ) → ((code : ℕ) → o ≡ Some code → IsCode code) → IsCode before → IsCode (unwrap_or o before)
is-code None before each is = is
is-code (Some code) before each is = each code refl

written-code : (stands : Bool) (mapped code : ℕ) → IsCode mapped → Some code ≡ (if stands then Some mapped else None) → IsCode code
written-code true mapped code is e = subst IsCode (sym (same_Some code mapped e)) is
written-code false mapped code is e = absurd (let clash : Some code ≡ None = e in cc)

module _ (seq : SeqState) (coding : PicCoding) (m : ℕ) where
  -- the code of what stands in the version
  made-code : (inner : Bool) (code before : ℕ) (from : Macroblock) (made : Option Macroblock) → IsCoarserAt seq coding m inner code before (Some from) made
      → (c : ℕ) → option_and_then (λ (x : Macroblock). x.code) made ≡ Some c → IsCode c
  made-code inner code before from None at c e = absurd (let clash : None ≡ Some c = e in cc)
  made-code inner code before from (Some to) (mapped, is_mapped, is, keeps) c e =
      written-code (has_coefficients to.kind && not (mapped == before)) mapped c is_mapped.is_code (sym e ∙ is.code)

  -- what the walk makes of a macroblock stands behind the skipped ones
  record IsMade (inner : Bool) (code before skipped : ℕ) (from : Macroblock) : Type 0 where
    pub made : Option Macroblock
    pub at : IsCoarserAt seq coding m inner code before (Some from) made
    pub placed : IfSome made (λ to. to.skipped_before ≡ skipped)

  placed-walk : (inner : Bool) (code before skipped : ℕ) (from : Macroblock) (made : Option Macroblock) → made ≡ coarsened_macroblock seq coding m inner code before skipped from
      → IfSome made (λ to. to.skipped_before ≡ skipped)
  placed-walk inner code before skipped from None is = tt
  placed-walk inner code before skipped from (Some to) is = gap-walk seq coding m inner code before skipped from to (sym is)

  is-made : (inner : Bool) (code before skipped : ℕ) (from : Macroblock) → IsWalkable from → IsMade inner code before skipped from
  is-made inner code before skipped from walkable = record {
    made = coarsened_macroblock seq coding m inner (unwrap_or from.code code) before skipped from;
    at = coarsened_macroblock-is seq coding m inner code before skipped from walkable.shape;
    placed = placed-walk inner (unwrap_or from.code code) before skipped from (coarsened_macroblock seq coding m inner (unwrap_or from.code code) before skipped from) refl;
  }

module _ (seq : SeqState) (coding : PicCoding) where
  -- a step over a macroblock
  record HasStep (inner : Bool) (before : VersionState) (from : Macroblock) : Type 0 where
    pub step : Step
    pub same : step.from ≡ from
    pub is : IsStep seq coding inner before step

  has-step : (inner : Bool) (before : VersionState) (from : Macroblock) → IsWalkable from → HasStep inner before from
  has-step inner before from walkable =
      let one : IsMade seq coding before.m inner before.source_code before.version_code (before.skipped + from.skipped_before) from =
      is-made seq coding before.m inner before.source_code before.version_code (before.skipped + from.skipped_before) from walkable in
      let code_of_made : Option ℕ = option_and_then (λ (x : Macroblock). x.code) one.made in
      let behind : VersionState = record {
        m = before.m;
        source_code = unwrap_or from.code before.source_code;
        version_code = unwrap_or code_of_made before.version_code;
        skipped = if is_some one.made then 0 else before.skipped + from.skipped_before + 1;
        source_is_code = is-code from.code before.source_code walkable.measured.code before.source_is_code;
        version_is_code = is-code code_of_made before.version_code
            (made-code seq coding before.m inner before.source_code before.version_code from one.made one.at) before.version_is_code;
      } in
      record {
        step = record {
          from = from;
          made = one.made;
          behind = behind;
          distortion = difference_of (coefficient_of_macroblock seq coding behind.source_code (Some from)) (coefficient_of_macroblock seq coding behind.version_code one.made);
        };
        same = refl;
        is = record {
          at = one.at;
          state = record { ratio = refl; source_code = refl; version_code = refl; skipped = refl; placed = one.placed };
          difference = refl;
        };
      }

  -- steps over macroblocks in a row
  record HaveSteps (count i : ℕ) (before : VersionState) (ms : List Macroblock) : Type 0 where
    pub steps : List Step
    pub are : AreSteps seq coding count i before steps
    pub taken : taken_by steps ≡ ms

  have-steps : (count i : ℕ) (before : VersionState) (ms : List Macroblock) → AreWalkable ms → HaveSteps count i before ms
  have-steps count i before [] walkable = record { steps = []; are = tt; taken = refl }
  have-steps count i before (m ∷ ms) walkable =
      let one : HasStep (not (i == 0) && not (i + 1 == count)) before m = has-step (not (i == 0) && not (i + 1 == count)) before m walkable.0 in
      let others : HaveSteps count (i + 1) one.step.behind ms = have-steps count (i + 1) one.step.behind ms walkable.1 in
      record {
        steps = one.step ∷ others.steps;
        are = (one.is, others.are);
        taken = ap₂ (λ (x : Macroblock) (xs : List Macroblock). x ∷ xs) one.same others.taken;
      }

  -- ---- slices

  record HasMaking (m : ℕ) (from to : Slice) : Type 0 where
    pub steps : List Step
    pub makes : MakeSlice seq coding m from to steps

  has-making : (m width : ℕ) (from to : Slice) → IsWalkableSlice width from → IsCoarserSlice seq coding m from to → HasMaking m from to
  has-making m width from to walkable coarser =
      let start : VersionState = record {
        m = m;
        source_code = from.code;
        version_code = mapped_code coding.q_scale_type m from.code;
        skipped = 0;
        source_is_code = walkable.code;
        version_is_code = (mapped_code-is coding.q_scale_type m from.code).is_code;
      } in
      let all : HaveSteps (length from.macroblocks) 0 start from.macroblocks = have-steps (length from.macroblocks) 0 start from.macroblocks walkable.macroblocks in
      let made : Slice = record { row = from.row; code = start.version_code; info = from.info; macroblocks = made_by all.steps } in
      let makes : MakeSlice seq coding m from made all.steps = record {
        start = start;
        ratio = refl;
        source_code = refl;
        version_code = mapped_code-is coding.q_scale_type m from.code;
        skipped = refl;
        in_order = all.are;
        taken = all.taken;
        row = refl;
        code = refl;
        info = refl;
        macroblocks = refl;
      } in
      let same : made ≡ to = one_coarser_slice seq coding m from made to (steps-make seq coding m from made all.steps makes) coarser in
      record { steps = all.steps; makes = subst (λ (s : Slice). MakeSlice seq coding m from s all.steps) same makes }

  pub record HaveMakings (m : ℕ) (slices tos : List Slice) : Type 0 where
    pub all : List (List Step)
    pub makes : MakeSlices seq coding m slices tos all

  pub have-makings : (m width : ℕ) (slices tos : List Slice) → AllByRecursion (IsWalkableSlice width) slices → AllZip (IsCoarserSlice seq coding m) slices tos → HaveMakings m slices tos
  have-makings m width [] [] walkable are = record { all = []; makes = tt }
  have-makings m width [] (t ∷ ts) walkable are = absurd are
  have-makings m width (s ∷ ss) [] walkable are = absurd are
  have-makings m width (s ∷ ss) (t ∷ ts) walkable are =
      let one : HasMaking m s t = has-making m width s t walkable.0 are.0 in
      let others : HaveMakings m ss ts = have-makings m width ss ts walkable.1 are.1 in
      record { all = one.steps ∷ others.all; makes = (one.makes, others.makes) }

  -- ---- distortions

  steps-most : (count i : ℕ) (before : VersionState) (steps : List Step) → AreSteps seq coding count i before steps → distortion_of steps ≤ 1610612736 * length steps
  steps-most count i before [] are = omega arith
  steps-most count i before (s ∷ ss) are = omega (
    arith,
    sum_by-cons (λ (x : Step). x.distortion) s ss,
    step-most seq coding (not (i == 0) && not (i + 1 == count)) before s are.0,
    steps-most count (i + 1) s.behind ss are.1,
  )

  making-most : (m : ℕ) (from to : Slice) (steps : List Step) → MakeSlice seq coding m from to steps → distortion_of steps ≤ 1610612736 * coded from
  making-most m from to steps makes =
      omega (arith, steps-most (length from.macroblocks) 0 makes.start steps makes.in_order, length-taken steps, ap length makes.taken)

  pub makings-most : (m : ℕ) (slices tos : List Slice) (all : List (List Step)) → MakeSlices seq coding m slices tos all → sum_by distortion_of all ≤ 1610612736 * sum_by coded slices
  makings-most m [] [] [] makes = omega arith
  makings-most m [] [] (x ∷ xs) makes = absurd makes
  makings-most m [] (t ∷ ts) all makes = absurd makes
  makings-most m (s ∷ ss) [] all makes = absurd makes
  makings-most m (s ∷ ss) (t ∷ ts) [] makes = absurd makes
  makings-most m (s ∷ ss) (t ∷ ts) (x ∷ xs) makes =
      omega (arith, sum_by-cons distortion_of x xs, sum_by-cons coded s ss, making-most m s t x makes.0, makings-most m ss ts xs makes.1)
