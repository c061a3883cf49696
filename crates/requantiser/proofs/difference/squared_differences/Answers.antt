use Rattle.std.proofs.Common.{◌≡◌, ◌≤◌, ◌<◌, ℤ, pos, unsigned_abs, w16, to_z, of_z, get_or, ap₂, ◌∙◌, arith}
use Rattle.std.proofs.lemmas.Int.{to_z-of_z, fits_signed_from_abs}
use Rattle.requantiser.specs.Distortion.{squared_difference}
use Rattle.requantiser.proofs.Sums.{one_more_number, no_more_number}
use Rattle.requantiser.proofs.difference.squared_differences.Goals as goal

-- a coefficient as the code has it
held : (number : ℤ) → unsigned_abs number ≤ 2048 → to_z w16 (of_z w16 number) ≡ number
held number small = to_z-of_z w16 number (fits_signed_from_abs w16 number (omega arith))

pub loop-index-preserved : goal.loop-index-preserved
loop-index-preserved c =
    let below : c.loop-index.index < 64 = c.loop-index-test.true in
    record {
      rest = one_more_number (λ index. squared_difference (get_or c.args.a.now index (pos 0)) (get_or c.args.b.now index (pos 0))) c.loop-index.sum c.loop-index.index 64 c.squared-sum.result _ below
          (c.squared-sum.ensures.value ∙ ap₂ squared_difference
          (held (get_or c.args.a.now c.loop-index.index (pos 0)) (c.requires.first c.loop-index.index))
          (held (get_or c.args.b.now c.loop-index.index (pos 0)) (c.requires.second c.loop-index.index))) c.loop-index.invariant.rest;
      bound = omega (arith, c.squared-sum.ensures.bound, c.loop-index.invariant.bound);
    }

pub returns-clause-value : goal.returns-clause-value
returns-clause-value c =
    no_more_number (λ index. squared_difference (get_or c.args.a.now index (pos 0)) (get_or c.args.b.now index (pos 0))) c.loop-index.sum
    c.loop-index.index 64 _ c.loop-index-test.false c.loop-index.invariant.rest
