-- Worked examples: how far the coefficients of levels move.
use Rattle.std.proofs.Common.{◌≡◌, pos, negsuc, [], ◌∷◌, true, false, refl}
use Rattle.requantiser.specs.Private.Changes.{level_change, pair_changes}
use Rattle.requantiser.specs.Private.Sizes.{half_of, limit_of, size_of}

-- (2 * 1 + 1) * 16 * 4 / 32 is 6, and 16 * 6 is less than 16 * 8: the level becomes 0, and 6 * 6 is missing
one_is_gone : level_change (pos 1) 16 4 8 false ≡ 36
one_is_gone = refl

-- 2 * 3 * 16 * 4 / 32 is 12; (16 * 12 + 64) / 128 is 2, whose coefficient is 2 * 2 * 16 * 8 / 32, which is 16
three_becomes_two : level_change (pos 3) 16 4 8 true ≡ 16
three_becomes_two = refl

-- the same below 0
minus_three_becomes_minus_two : level_change (negsuc 2) 16 4 8 true ≡ 16
minus_three_becomes_minus_two = refl

-- 4,001 * 255 * 112 / 32 is held at 2,048 below 0, and at 2,047 above
held_below : size_of 2000 255 112 (half_of false) (limit_of (negsuc 1999)) ≡ 2048
held_below = refl

held_above : size_of 2000 255 112 (half_of false) (limit_of (pos 2000)) ≡ 2047
held_above = refl

-- coefficients at the places 1 and 4 of an intra block
at_their_places : pair_changes (λ place level. place) 1 (record { run = 0; level = pos 5 } ∷ record { run = 2; level = negsuc 0 } ∷ []) ≡ 5
at_their_places = refl
