use Rattle.std.proofs.Common.{rules, ◌≡◌, ◌<◌, ◌≤◌, ◌+◌, ℤ, SFits, pos, w16, to_z, of_z, length, [], ◌∷◌, drop, drop-cons, add-one, get_or, refl, sym, ◌∙◌, ap, subst, arith}
use Rattle.std.specs.Prelude.{slice_set, replicate}
use Rattle.std.proofs.lemmas.Int.{to_z-of_z}
use Rattle.std.proofs.lemmas.List.{drop_all}
use Rattle.syntax_types.specs.declared.block.RunLevel.{RunLevel}
use Rattle.picture_grammar.specs.Block.{first_place}
use Rattle.requantiser.specs.Private.Shapes.{FitBlock}
use Rattle.requantiser.proofs.Blocks.{level_from}
use Rattle.requantiser.proofs.Coefficients.{StandSoFar, coefficient, one_more_coefficient, all_coefficients, no_coefficients, all_zeros}
use Rattle.requantiser.proofs.PairSteps.{one_fits, first_place-flag, first_place-most, held_level}
use Rattle.requantiser.proofs.Scans.{index_of}
use Rattle.requantiser.proofs.difference.coefficients_of.Goals as goal

-- what stands past the end of the pairs
abbrev no_pair : RunLevel
no_pair = record { run = 0; level = pos 0 }

pub loop-pair-init : goal.loop-pair-init
loop-pair-init c =
    let items : c.as_slice-pair-items.result.now ≡ c.args.block.now.pairs.items = c.as_slice-pair-items.ensures.value in
    let place : c.from-place.result ≡ first_place c.args.way = c.from-place.ensures ∙ first_place-flag c.args.way.intra in
    let few : c.from-place.result ≤ 1 = omega (arith, ap (λ n. n) place, first_place-most c.args.way.intra) in
    record {
      so_far = subst (StandSoFar c.args.picture.seq.now c.args.picture.coding.now c.args.way c.args.code c.args.block.now (replicate 64 (pos 0)) c.from-place.result) (sym items)
          (no_coefficients c.args.picture.seq.now c.args.picture.coding.now c.args.way c.args.code c.args.block.now (replicate 64 (pos 0)) c.from-place.result refl (all_zeros 64) few
          (λ p. ap (λ n. level_from n c.args.block.now.pairs.items p) (sym place)));
      fit = subst (λ n. FitBlock n c.as_slice-pair-items.result.now) (sym place) (subst (FitBlock (first_place c.args.way)) (sym items) c.requires.fits);
      within = omega (arith, few);
    }

pub loop-pair-preserved : goal.loop-pair-preserved
loop-pair-preserved c =
    let within : c.loop-pair.pair-index < length c.as_slice-pair-items.result.now = c.loop-pair-test.true in
    let pair : RunLevel = get_or c.as_slice-pair-items.result.now c.loop-pair.pair-index no_pair in
    let here = one_fits c.loop-pair.place c.loop-pair.pair-index c.as_slice-pair-items.result.now no_pair within c.loop-pair.invariant.fit in
    let cut : drop c.loop-pair.pair-index c.as_slice-pair-items.result.now ≡ pair ∷ drop (c.loop-pair.pair-index + 1) c.as_slice-pair-items.result.now =
    rw (add-one, drop-cons c.as_slice-pair-items.result.now c.loop-pair.pair-index no_pair) refl in
    let fits : SFits w16 c.coefficient_of.result = search rules in
    let stored : to_z w16 (of_z w16 c.coefficient_of.result) ≡ c.coefficient_of.result = to_z-of_z w16 c.coefficient_of.result fits in
    let is : c.coefficient_of.result ≡ coefficient c.args.picture.seq.now c.args.picture.coding.now c.args.way c.args.code c.args.block.now pair.level (c.loop-pair.place + pair.run) =
    c.coefficient_of.ensures.value ∙ ap (λ (level : ℤ). coefficient c.args.picture.seq.now c.args.picture.coding.now c.args.way c.args.code c.args.block.now level
    (c.loop-pair.place + pair.run)) (held_level pair.level here.1) in
    let stands : StandSoFar c.args.picture.seq.now c.args.picture.coding.now c.args.way c.args.code c.args.block.now
    (slice_set c.loop-pair.coefficients (index_of c.args.picture.coding.now.alternate_scan (c.loop-pair.place + pair.run)) c.coefficient_of.result) (c.loop-pair.place + pair.run + 1)
    (drop (c.loop-pair.pair-index + 1) c.as_slice-pair-items.result.now) =
    one_more_coefficient c.args.picture.seq.now c.args.picture.coding.now c.args.way c.args.code c.args.block.now c.loop-pair.coefficients c.loop-pair.place pair
    (drop (c.loop-pair.pair-index + 1) c.as_slice-pair-items.result.now)
    c.coefficient_of.result here.0 is c.coefficient_of.ensures.small
    (subst (StandSoFar c.args.picture.seq.now c.args.picture.coding.now c.args.way c.args.code c.args.block.now c.loop-pair.coefficients c.loop-pair.place) cut c.loop-pair.invariant.so_far) in
    record {
      so_far = subst (λ (z : ℤ). StandSoFar c.args.picture.seq.now c.args.picture.coding.now c.args.way c.args.code c.args.block.now
          (slice_set c.loop-pair.coefficients c.from-index.result z) (c.loop-pair.place + pair.run + 1) (drop (c.loop-pair.pair-index + 1) c.as_slice-pair-items.result.now)) (sym stored)
          (subst (λ n. StandSoFar c.args.picture.seq.now c.args.picture.coding.now c.args.way c.args.code c.args.block.now
          (slice_set c.loop-pair.coefficients n c.coefficient_of.result) (c.loop-pair.place + pair.run + 1)
          (drop (c.loop-pair.pair-index + 1) c.as_slice-pair-items.result.now)) (sym (c.from-index.ensures ∙ c.scan.ensures.index)) stands);
      fit = here.2;
      within = omega (arith, here.0);
    }

pub returns-clause-value : goal.returns-clause-value
returns-clause-value c =
    let past : length c.as_slice-pair-items.result.now ≤ c.loop-pair.pair-index = c.loop-pair-test.false in
    let all : StandSoFar c.args.picture.seq.now c.args.picture.coding.now c.args.way c.args.code c.args.block.now c.loop-pair.coefficients c.loop-pair.place [] =
    subst (StandSoFar c.args.picture.seq.now c.args.picture.coding.now c.args.way c.args.code c.args.block.now c.loop-pair.coefficients c.loop-pair.place)
    (drop_all c.loop-pair.pair-index c.as_slice-pair-items.result.now past) c.loop-pair.invariant.so_far in
    all_coefficients c.args.picture.seq.now c.args.picture.coding.now c.args.way c.args.code c.args.block.now c.loop-pair.coefficients c.loop-pair.place all
