-- Each table by a rule or a sum that no other number keeps, computed from the definitions.
use Rattle.std.proofs.Common.{◌≡◌, ℕ, zero, suc, ◌+◌, ◌-◌, ◌*◌, List, [], ◌∷◌, ◌++◌, true, false, refl}
use Rattle.quant_math.specs.Matrices.{default_weights}
use Rattle.quant_math.specs.Scales.{nonlinear_scales, quantiser_scale}
use Rattle.quant_math.specs.Scans.{alternate_scan, zigzag_scan}

-- so many numbers that rise or fall by a step
abbrev rising : (from step count : ℕ) → List ℕ
rising from step zero = []
rising from step (suc count) = from ∷ rising (from + step) step count

abbrev falling : (from step count : ℕ) → List ℕ
falling from step zero = []
falling from step (suc count) = from ∷ falling (from - step) step count

-- the sum of each number times its place, the first of which is this one: each change of one number and each exchange of two changes it
abbrev weighted : (place : ℕ) → List ℕ → ℕ
weighted place [] = 0
weighted place (x ∷ xs) = place * x + weighted (place + 1) xs

-- eight scales a step of 1, of 2 and of 4, and seven a step of 8 (Table 7-6)
nonlinear_steps : nonlinear_scales ≡ rising 1 1 8 ++ rising 10 2 8 ++ rising 28 4 8 ++ rising 64 8 7
nonlinear_steps = refl

-- and twice the code otherwise, up to 62
linear_last : quantiser_scale false 31 ≡ 62
linear_last = refl

-- the zigzag scan takes one diagonal after the other, by turns upwards and downwards (Figure 7-2)
zigzag_diagonals : zigzag_scan
    ≡ falling 0 7 1 ++ rising 1 7 2 ++ falling 16 7 3 ++ rising 3 7 4 ++ falling 32 7 5 ++ rising 5 7 6 ++ falling 48 7 7 ++ rising 7 7 8
    ++ falling 57 7 7 ++ rising 23 7 6 ++ falling 59 7 5 ++ rising 39 7 4 ++ falling 61 7 3 ++ rising 55 7 2 ++ falling 63 7 1
zigzag_diagonals = refl

-- the alternate scan (Figure 7-3) and the default matrix of intra blocks (6.3.11), of which the sums were taken by hand
alternate_sum : weighted 1 alternate_scan ≡ 74820
alternate_sum = refl

intra_sum : weighted 1 (default_weights true) ≡ 79036
intra_sum = refl

-- 64 times 16, by place: 64 * 65 / 2 places
non_intra_sum : weighted 1 (default_weights false) ≡ 2080 * 16
non_intra_sum = refl
