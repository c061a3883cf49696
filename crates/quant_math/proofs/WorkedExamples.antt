-- The definitions, computed at worked examples.
use Rattle.std.proofs.Common.{◌≡◌, ℕ, ◌≤◌, ◌<◌, pos, negsuc, true, false, refl, arith, inl, inr}
use Rattle.std.proofs.Common.{◌-◌, get_or, take, ltb, get_or-take, subst}
use Rattle.std.proofs.lemmas.Bool.Decides.{Decides-ltb}
use Rattle.std.proofs.lemmas.Bool.{cases_lt}
use Rattle.quant_math.proofs.Tables.{entry_passes}
use Rattle.quant_math.specs.Levels.{coarser_level, coefficient_of}
use Rattle.quant_math.specs.Scales.{IsCode, IsMappedCode, Reaches, nonlinear_scales}

-- (2 * 1 + 1) * 16 * 2 / 32
inverse_of_one : coefficient_of (pos 1) 16 2 false ≡ pos 3
inverse_of_one = refl

-- -3 * 16 / 32, truncated towards zero
inverse_of_minus_one : coefficient_of (negsuc 0) 16 1 false ≡ negsuc 0
inverse_of_minus_one = refl

inverse_intra : coefficient_of (pos 1) 16 2 true ≡ pos 2
inverse_intra = refl

inverse_of_zero : coefficient_of (pos 0) 255 112 false ≡ pos 0
inverse_of_zero = refl

-- 2 * 1,000 * 16 / 32; a 31st or a 33rd would give 1,032 or 969
inverse_of_thousand : coefficient_of (pos 1000) 16 1 true ≡ pos 1000
inverse_of_thousand = refl

saturated_above : coefficient_of (pos 2047) 255 112 false ≡ pos 2047
saturated_above = refl

saturated_below : coefficient_of (negsuc 2046) 255 112 false ≡ negsuc 2047
saturated_below = refl

-- 48 / 64
coarser_of_one : coarser_level (pos 1) 16 2 4 false ≡ pos 0
coarser_of_one = refl

-- the coefficient is 76, and 16 * 76 / 256
coarser_of_nine : coarser_level (pos 9) 16 8 16 false ≡ pos 4
coarser_of_nine = refl

-- the coefficient is -6, and (16 * 6 + 64 / 2) / 64
coarser_intra : coarser_level (negsuc 2) 16 2 4 true ≡ negsuc 1
coarser_intra = refl

-- the coefficient is 1,000, and (16 * 1,000 + 32 / 2) / 32; fifteenths or seventeenths would give 469 or 531
coarser_of_thousand : coarser_level (pos 1000) 16 1 2 true ≡ pos 500
coarser_of_thousand = refl

-- a ratio of one keeps the code; by fifteenths or seventeenths it would be 19 or 16
mapped_17_16 : IsMappedCode false 17 16 17
mapped_17_16 = record { is_code = (omega arith, omega arith); reaches = inl (omega arith); least = λ other code reaches. omega arith }

mapped_1_32 : IsMappedCode false 1 32 2
mapped_1_32 = record { is_code = (omega arith, omega arith); reaches = inl (omega arith); least = λ other code reaches. omega arith }

mapped_20_32 : IsMappedCode false 20 32 31
mapped_20_32 = record { is_code = (omega arith, omega arith); reaches = inr refl; least = λ other code reaches. omega arith }

-- the codes before 10 have scales below 12, three halves of 8
below_12 : (other : ℕ) → 1 ≤ other → other < 10 → get_or nonlinear_scales (other - 1) 0 < 12
below_12 other above below =
    let within : other - 1 < 9 = omega arith in
    subst (λ x. x < 12) (get_or-take 9 nonlinear_scales (other - 1) 0 within)
    ((Decides-ltb (get_or (take 9 nonlinear_scales) (other - 1) 0) 12).0 (entry_passes (λ x. ltb x 12) (take 9 nonlinear_scales) (other - 1) refl within))

mapped_8_24 : IsMappedCode true 8 24 10
mapped_8_24 = record { is_code = (omega arith, omega arith); reaches = inl (omega arith); least = least_10 }
  where
    least_10 : (other : ℕ) → IsCode other → Reaches true 8 24 other → 10 ≤ other
    least_10 other code reaches = elim (cases_lt other 10) [ inl below ↦ absurd (omega (arith, below_12 other code.0 below)) | inr above ↦ above ]
