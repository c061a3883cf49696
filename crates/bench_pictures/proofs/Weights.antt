-- The matrices that a sequence header loads none for are weights.
use Rattle.std.proofs.Common.{◌≡◌, ℕ, ◌^◌, ◌<◌, List, [], ◌∷◌, Bool, true, false, refl}
use Rattle.std.specs.Prelude.{◌&&◌, nat_lt}
use Rattle.std.specs.List.{AllByRecursion, list_all}
use Rattle.std.proofs.lemmas.Bool.{and_parts, ltb-true}
use Rattle.quant_math.specs.Matrices.{default_weights}
use Rattle.picture_grammar.specs.Picture.{AreWeights}

abbrev is_weight : ℕ → Bool
is_weight w = nat_lt 0 w && nat_lt w 256

by_test : (weights : List ℕ) → list_all is_weight weights ≡ true → AllByRecursion (λ w. (0 < w) × (w < 2 ^ 8)) weights
by_test [] passes = tt
by_test (w ∷ ws) passes =
    let parts = and_parts (is_weight w) (list_all is_weight ws) passes in
    let first = and_parts (nat_lt 0 w) (nat_lt w 256) parts.0 in
    ((ltb-true 0 w first.0, ltb-true w 256 first.1), by_test ws parts.1)

pub default_are : (intra : Bool) → AreWeights (default_weights intra)
default_are true = (refl, by_test (default_weights true) refl)
default_are false = (refl, by_test (default_weights false) refl)
