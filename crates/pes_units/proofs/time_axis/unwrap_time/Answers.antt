use Rattle.std.proofs.Common.{◌≡◌, ◌^◌, pos, ℤ, ◌+ℤ◌, ◌-ℤ◌, ◌*ℤ◌, ◌≤ℤ◌, ◌<ℤ◌, arith, w64, to_z, of_z, ap, ◌∙◌}
use Rattle.std.proofs.lemmas.Int.{ints}
use Rattle.std.specs.Int.{int_rem_euclid}
use Rattle.pes_units.proofs.Cycles.{rem-turns, rem-not_negative, rem-below, turns_of}
use Rattle.pes_units.proofs.time_axis.unwrap_time.Goals as goal
use Rattle.pes_units.proofs.time_axis.unwrap_time.Goals.{After-rem_euclid-ahead}

-- from the time before to the value, without whole cycles
abbrev difference : After-rem_euclid-ahead → ℤ
difference c = pos c.args.value -ℤ c.args.before

ahead_is : (c : After-rem_euclid-ahead) → c.rem_euclid-ahead.result ≡ int_rem_euclid (difference c) (pos (2 ^ 33))
ahead_is c =
    let same : to_z w64 (of_z w64 (to_z w64 c.args.value -ℤ to_z w64 (of_z w64 c.args.before))) ≡ difference c = omega (arith, ints) in
    c.rem_euclid-ahead.ensures.value ∙ ap (λ d. int_rem_euclid d (pos (2 ^ 33))) same

pub returns-then-ahead-gt-LONGEST_STEP : goal.returns-then-ahead-gt-LONGEST_STEP
returns-then-ahead-gt-LONGEST_STEP c =
    let d : After-rem_euclid-ahead = (goal.at.returns-then-ahead-gt-LONGEST_STEP c).After-rem_euclid-ahead in
    let turned : c.rem_euclid-ahead.result ≡ difference d +ℤ turns_of (difference d) *ℤ pos (2 ^ 33) = ahead_is d ∙ rem-turns (difference d) in
    let below : c.rem_euclid-ahead.result <ℤ pos (2 ^ 33) = rw (ahead_is d) (rem-below (difference d)) in
    let long : pos (2 ^ 32) <ℤ c.rem_euclid-ahead.result = grind (arith, ints) in
    record {
      congruent = (turns_of (difference d) -ℤ pos 1, omega (arith, ints));
      not_too_early = omega (arith, ints);
      not_too_late = omega (arith, ints);
    }

pub returns-else-ahead-gt-LONGEST_STEP : goal.returns-else-ahead-gt-LONGEST_STEP
returns-else-ahead-gt-LONGEST_STEP c =
    let d : After-rem_euclid-ahead = (goal.at.returns-else-ahead-gt-LONGEST_STEP c).After-rem_euclid-ahead in
    let turned : c.rem_euclid-ahead.result ≡ difference d +ℤ turns_of (difference d) *ℤ pos (2 ^ 33) = ahead_is d ∙ rem-turns (difference d) in
    let not_negative : pos 0 ≤ℤ c.rem_euclid-ahead.result = rw (ahead_is d) (rem-not_negative (difference d)) in
    let short : c.rem_euclid-ahead.result ≤ℤ pos (2 ^ 32) = grind (arith, ints) in
    record {
      congruent = (turns_of (difference d), omega (arith, ints));
      not_too_early = omega (arith, ints);
      not_too_late = omega (arith, ints);
    }
