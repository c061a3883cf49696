-- Steps over the macroblocks of a slice make the slice under coarser codes.
use Rattle.std.proofs.Common.{◌≡◌, ℕ, suc, ◌+◌, Option, Some, None, List, [], ◌∷◌, ◌++◌, Bool, true, false, refl, sym, ◌∙◌, ap, ap₂, subst, arith, length, unwrap_or}
use Rattle.std.specs.Prelude.{◌==◌, ◌&&◌, not}
use Rattle.std.specs.Option.{option_to_list}
use Rattle.std.proofs.lemmas.Bool.{cases_order, eq-eqb, ne_eqb}
use Rattle.quant_math.specs.Scales.{IsMappedCode}
use Rattle.syntax_types.specs.declared.macroblock.Macroblock.{Macroblock}
use Rattle.syntax_types.specs.declared.picture.PicCoding.{PicCoding}
use Rattle.syntax_types.specs.declared.picture.SeqState.{SeqState}
use Rattle.syntax_types.specs.declared.slice.Slice.{Slice}
use Rattle.requantiser.specs.declared.version_state.VersionState.{VersionState}
use Rattle.requantiser.specs.Macroblocks.{IsCoarserAt}
use Rattle.requantiser.specs.Places.{item_at}
use Rattle.requantiser.specs.Slices.{is_inner, IsCoarserSlice}
use Rattle.requantiser.specs.Steps.{Step, IsStep, AreSteps, state_behind, taken_by, made_by, MakeSlice}
use Rattle.requantiser.specs.VersionState.{IsStateBehind}
use Rattle.requantiser.specs.Private.Walk.{is_none}
use Rattle.requantiser.proofs.Places.{item_at-there, item_at-before}
use Rattle.requantiser.proofs.Slices.{gap_of, code_from, code_from-up_to, code_before-is, FitsInner, fits_slice, at_same, StartsAt, FollowsAt, follows-skipped, follows-made}

-- the last one of so many steps
last_is : (ss : List Step) (i count : ℕ) → count ≡ i + suc (length ss) → is_none (taken_by ss) ≡ (i + 1 == count)
last_is [] i count e = sym (eq-eqb (i + 1) count (omega (arith, e)))
last_is (s ∷ ss) i count e = sym (ne_eqb (i + 1) count (λ h. absurd (omega (arith, e, h))))

pub length-taken : (steps : List Step) → length (taken_by steps) ≡ length steps
length-taken [] = refl
length-taken (s ∷ ss) = ap suc (length-taken ss)

-- one step more
step-behind : (seq : SeqState) (coding : PicCoding) (count i at : ℕ) (before : VersionState) (steps : List Step) (step : Step) → at ≡ i + length steps
    → AreSteps seq coding count i before steps → IsStep seq coding (not (at == 0) && not (at + 1 == count)) (state_behind before steps) step
    → AreSteps seq coding count i before (steps ++ step ∷ [])
step-behind seq coding count i at before [] step e are is =
    let here : at ≡ i = omega (arith, e) in
    (subst (λ n. IsStep seq coding (not (n == 0) && not (n + 1 == count)) before step) here is, tt)
step-behind seq coding count i at before (s ∷ ss) step e are is = (are.0, step-behind seq coding count (i + 1) at s.behind ss step (omega (arith, e)) are.1 is)

pub one-more-step : (seq : SeqState) (coding : PicCoding) (count : ℕ) (before : VersionState) (steps : List Step) (step : Step) → AreSteps seq coding count 0 before steps
    → IsStep seq coding (not (length steps == 0) && not (length steps + 1 == count)) (state_behind before steps) step → AreSteps seq coding count 0 before (steps ++ step ∷ [])
one-more-step seq coding count before steps step are is = step-behind seq coding count 0 (length steps) before steps step (omega arith) are is

-- the state behind a macroblock that is skipped
pub record IsBehindSkipped (from : Macroblock) (before behind : VersionState) : Type 0 where
  pub version_code : behind.version_code ≡ before.version_code
  pub skipped : behind.skipped ≡ before.skipped + gap_of from + 1

pub behind-skipped : (from : Macroblock) (made : Option Macroblock) (before behind : VersionState) → None ≡ made → IsStateBehind from made before behind → IsBehindSkipped from before behind
behind-skipped from made before behind is state =
    let none : IsStateBehind from None before behind = subst (λ o. IsStateBehind from o before behind) (sym is) state in
    record { version_code = none.version_code; skipped = none.skipped }

-- the state behind a macroblock that is made
pub record IsBehindMade (to from : Macroblock) (before behind : VersionState) : Type 0 where
  pub version_code : behind.version_code ≡ unwrap_or to.code before.version_code
  pub skipped : behind.skipped ≡ 0
  pub placed : gap_of to ≡ before.skipped + gap_of from

pub behind-made : (from to : Macroblock) (made : Option Macroblock) (before behind : VersionState) → Some to ≡ made → IsStateBehind from made before behind → IsBehindMade to from before behind
behind-made from to made before behind is state =
    let some : IsStateBehind from (Some to) before behind = subst (λ o. IsStateBehind from o before behind) (sym is) state in
    record { version_code = some.version_code; skipped = some.skipped; placed = some.placed }

module _ (seq : SeqState) (coding : PicCoding) (m : ℕ) where
  pub steps-start : (count i start : ℕ) (state : VersionState) (steps : List Step) → AreSteps seq coding count i state steps
      → StartsAt seq coding m state.version_code start (start + state.skipped) (made_by steps)
  steps-start count i start state [] are = (λ c below. refl, λ c within. refl)
  steps-start count i start state (s ∷ ss) are = by_made (steps-start count (i + 1) start s.behind ss are.1) s.made refl
    where
      by_made : StartsAt seq coding m s.behind.version_code start (start + s.behind.skipped) (made_by ss) → (made : Option Macroblock) → made ≡ s.made
          → StartsAt seq coding m state.version_code start (start + state.skipped) (made_by (s ∷ ss))
      by_made rest None is =
          let behind = behind-skipped s.from s.made state s.behind is are.0.state in
          subst (λ o. StartsAt seq coding m state.version_code start (start + state.skipped) (option_to_list o ++ made_by ss)) is (
            λ c below. rest.0 c (omega (arith, behind.skipped)),
            λ c within. subst (λ n. code_from n start (made_by ss) c ≡ n) behind.version_code (rest.1 c (omega (arith, behind.skipped))),
          )
      by_made rest (Some to) is =
          let behind = behind-made s.from to s.made state s.behind is are.0.state in
          subst (λ o. StartsAt seq coding m state.version_code start (start + state.skipped) (option_to_list o ++ made_by ss)) is (
            λ c below. item_at-there gap_of start c to (made_by ss) (λ e. absurd (omega (arith, behind.placed)))
                ∙ item_at-before gap_of (start + gap_of to + 1) c (made_by ss) (omega (arith, behind.placed)),
            λ c within. code_from-up_to state.version_code start to (made_by ss) c (omega (arith, behind.placed)),
          )

  -- at each column stands what must
  steps-are : (inner : ℕ → Bool) (first : Bool) (count i start place column : ℕ) (state : VersionState) (steps : List Step) → start + state.skipped ≡ place → state.m ≡ m
      → first ≡ (i == 0) → count ≡ i + length steps → FitsInner inner first place (taken_by steps) → AreSteps seq coding count i state steps
      → FollowsAt seq coding m inner state.source_code state.version_code start place column (taken_by steps) (made_by steps)
  steps-are inner first count i start place column state [] e same first_is all fits are = tt
  steps-are inner first count i start place column state (s ∷ ss) e same first_is all fits are =
      by_made (λ next f. steps-are inner false count (i + 1) next (place + gap_of s.from + 1) column s.behind ss f (are.0.state.ratio ∙ same)
      (sym (ne_eqb (i + 1) 0 (λ h. absurd (omega arith)))) (omega (arith, all)) fits.1 are.1) s.made refl
    where
      fits_flag : inner (place + gap_of s.from) ≡ (not (i == 0) && not (i + 1 == count))
      fits_flag = fits.0 ∙ ap₂ (λ a b. not a && not b) first_is (last_is ss i count (omega (arith, all)))

      at : (made : Option Macroblock) → made ≡ s.made
          → IsCoarserAt seq coding m (not (i == 0) && not (i + 1 == count)) state.source_code state.version_code (Some s.from) made
      at made is = subst (λ o. IsCoarserAt seq coding m (not (i == 0) && not (i + 1 == count)) state.source_code state.version_code (Some s.from) o) (sym is)
          (subst (λ n. IsCoarserAt seq coding n (not (i == 0) && not (i + 1 == count)) state.source_code state.version_code (Some s.from) s.made) same are.0.at)

      by_made : ((next : ℕ) → next + s.behind.skipped ≡ place + gap_of s.from + 1
          → FollowsAt seq coding m inner s.behind.source_code s.behind.version_code next (place + gap_of s.from + 1) column (taken_by ss) (made_by ss))
          → (made : Option Macroblock) → made ≡ s.made
          → FollowsAt seq coding m inner state.source_code state.version_code start place column (taken_by (s ∷ ss)) (made_by (s ∷ ss))
      by_made rest None is =
          let behind = behind-skipped s.from s.made state s.behind is are.0.state in
          let starts = steps-start count (i + 1) start s.behind ss are.1 in
          let there : FollowsAt seq coding m inner (unwrap_or s.from.code state.source_code) state.version_code start (place + gap_of s.from + 1) column (taken_by ss) (made_by ss) =
          subst (λ n. FollowsAt seq coding m inner n state.version_code start (place + gap_of s.from + 1) column (taken_by ss) (made_by ss)) are.0.state.source_code
          (subst (λ n. FollowsAt seq coding m inner s.behind.source_code n start (place + gap_of s.from + 1) column (taken_by ss) (made_by ss)) behind.version_code
          (rest start (omega (arith, behind.skipped, e)))) in
          subst (λ o. FollowsAt seq coding m inner state.source_code state.version_code start place column (taken_by (s ∷ ss)) (option_to_list o ++ made_by ss)) is
          (follows-skipped seq coding m inner (not (i == 0) && not (i + 1 == count)) state.source_code state.version_code start place column s.from (taken_by ss) (made_by ss)
          fits_flag (at None is) (
            λ c below. starts.0 c (omega (arith, behind.skipped, e)),
            λ c within. subst (λ n. code_from n start (made_by ss) c ≡ n) behind.version_code (starts.1 c (omega (arith, behind.skipped, e))),
          ) there (cases_order column (place + gap_of s.from)))
      by_made rest (Some to) is =
          let behind = behind-made s.from to s.made state s.behind is are.0.state in
          let there : FollowsAt seq coding m inner (unwrap_or s.from.code state.source_code) (unwrap_or to.code state.version_code)
          (place + gap_of s.from + 1) (place + gap_of s.from + 1) column (taken_by ss) (made_by ss) =
          subst (λ n. FollowsAt seq coding m inner n (unwrap_or to.code state.version_code) (place + gap_of s.from + 1) (place + gap_of s.from + 1) column
          (taken_by ss) (made_by ss)) are.0.state.source_code
          (subst (λ n. FollowsAt seq coding m inner s.behind.source_code n (place + gap_of s.from + 1) (place + gap_of s.from + 1) column (taken_by ss) (made_by ss)) behind.version_code
          (rest (place + gap_of s.from + 1) (omega (arith, behind.skipped)))) in
          subst (λ o. FollowsAt seq coding m inner state.source_code state.version_code start place column (taken_by (s ∷ ss)) (option_to_list o ++ made_by ss)) is
          (follows-made seq coding m inner (not (i == 0) && not (i + 1 == count)) state.source_code state.version_code start place column s.from to (taken_by ss) (made_by ss)
          (omega (arith, behind.placed, e)) fits_flag (at (Some to) is) there (cases_order column (place + gap_of s.from)))

  pub steps-make : (from to : Slice) (steps : List Step) → MakeSlice seq coding m from to steps → IsCoarserSlice seq coding m from to
  steps-make from to steps k = record {
    row = k.row;
    code = subst (IsMappedCode coding.q_scale_type from.code m) (sym k.code) k.version_code;
    info = k.info;
    macroblocks = λ column. at_same seq coding m (is_inner from column) (is_inner from column) _ _ _ _ _ _ _ _ refl
        (ap₂ (λ n ms. code_from n 0 ms column) k.source_code k.taken ∙ sym (code_before-is from column))
        (ap₂ (λ n ms. code_from n 0 ms column) (sym k.code) (sym k.macroblocks) ∙ sym (code_before-is to column))
        (ap (λ ms. item_at gap_of 0 ms column) k.taken)
        (ap (λ ms. item_at gap_of 0 ms column) (sym k.macroblocks))
        (steps-are (is_inner from) true (length from.macroblocks) 0 0 0 column k.start steps (omega (arith, k.skipped)) k.ratio refl
        (omega (arith, ap length (sym k.taken), length-taken steps))
        (subst (FitsInner (is_inner from) true 0) (sym k.taken) (fits_slice from)) k.in_order);
  }
