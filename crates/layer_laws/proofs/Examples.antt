-- The definitions at worked examples. Each start code is followed by one byte 7F, which is none of its own.
use Rattle.std.proofs.Common.{◌≡◌, ℕ, List, [], ◌∷◌, ◌++◌, Some, refl}
use Rattle.std.specs.List.{concat}
use Rattle.es_units.specs.Units.{cut_units}
use Rattle.layer_laws.specs.WholeUnits.{placed_units}
use Rattle.es_units.proofs.Examples.{code}

-- a sequence header, a picture and a slice; a picture and two slices
abbrev two_units : List (List ℕ)
two_units = (code 0xB3 ++ code 0x00 ++ code 0x01) ∷ (code 0x00 ++ code 0x01 ++ code 0xAF) ∷ []

two_places : placed_units 0 two_units ≡ (0, 15) ∷ (15, 30) ∷ []
two_places = refl

two_cut : cut_units (concat two_units) ≡ Some (record { dropped = 0; cuts = (0, 15) ∷ (15, 30) ∷ [] })
two_cut = refl

-- why a unit may not end with a prefix: with the 00 that follows it is a picture's start code, and the cut comes three bytes early
early_cut : cut_units ((code 0xB3 ++ code 0x00 ++ code 0x01 ++ 0x00 ∷ 0x00 ∷ 0x01 ∷ []) ++ (code 0x00 ++ code 0x01)) ≡ Some (record { dropped = 0; cuts = (0, 15) ∷ (15, 28) ∷ [] })
early_cut = refl

-- zero bytes at a unit's end do no harm
zero_end : cut_units ((code 0xB3 ++ code 0x00 ++ code 0x01 ++ 0x00 ∷ 0x00 ∷ 0x00 ∷ []) ++ (code 0x00 ++ code 0x01)) ≡ Some (record { dropped = 0; cuts = (0, 18) ∷ (18, 28) ∷ [] })
zero_end = refl
