-- The cut computed at worked examples. Each start code is followed by one byte 7F, which is none of its own.
use Rattle.std.proofs.Common.{◌≡◌, ℕ, true, false, List, [], ◌∷◌, ◌++◌, Option, Some, None, refl}
use Rattle.es_units.specs.declared.units.Units.{Units}
use Rattle.es_units.specs.Pictures.{begins_picture}
use Rattle.es_units.specs.Units.{cut_units}

abbrev pub code : ℕ → List ℕ
code value = 0x00 ∷ 0x00 ∷ 0x01 ∷ value ∷ 0x7F ∷ []

abbrev sequence : List ℕ
sequence = code 0xB3

abbrev group : List ℕ
group = code 0xB8

abbrev picture : List ℕ
picture = code 0x00

abbrev slice : List ℕ
slice = code 0x01

abbrev units : ℕ → List (ℕ × ℕ) → Option Units
units dropped cuts = Some (record { dropped = dropped; cuts = cuts })

-- each header with which a unit may begin cuts behind a slice; a second slice, user data and an extension don't
three_units : cut_units (sequence ++ group ++ picture ++ slice ++ code 0xAF ++ picture ++ code 0xB2 ++ slice ++ group ++ picture ++ code 0xB5 ++ slice) ≡ units 0 ((0, 25) ∷ (25, 40) ∷ (40, 60) ∷ [])
three_units = refl

-- a sequence end code stays with the unit before it
sequence_end : cut_units (sequence ++ picture ++ slice ++ code 0xB7 ++ sequence ++ picture ++ slice) ≡ units 0 ((0, 20) ∷ (20, 35) ∷ [])
sequence_end = refl

-- units that end at the first sequence header or before it are dropped and counted
two_dropped : cut_units (picture ++ slice ++ picture ++ slice ++ sequence ++ picture ++ slice) ≡ units 2 ((20, 35) ∷ [])
two_dropped = refl

-- bytes before the first sequence header are dropped; where no slice stands among them they are no unit
bytes_dropped : cut_units (0x47 ∷ 0x00 ∷ (group ++ sequence ++ picture ++ slice)) ≡ units 0 ((7, 22) ∷ [])
bytes_dropped = refl

-- a sequence header behind a group's begins the unit, and the slices before it end one that is dropped
group_dropped : cut_units (slice ++ group ++ sequence ++ picture ++ slice) ≡ units 1 ((10, 25) ∷ [])
group_dropped = refl

-- the value of one start code can begin the next one: 00 00 01 00 00 01 B3 are a picture's and a sequence header's
overlapping : cut_units (slice ++ (0x00 ∷ 0x00 ∷ 0x01 ∷ 0x00 ∷ 0x00 ∷ 0x01 ∷ 0xB3 ∷ [])) ≡ units 1 ((8, 12) ∷ [])
overlapping = refl

-- a prefix without a value is no start code
cut_off : cut_units (sequence ++ slice ++ (0x00 ∷ 0x00 ∷ 0x01 ∷ [])) ≡ units 0 ((0, 13) ∷ [])
cut_off = refl

no_sequence : cut_units (picture ++ slice) ≡ None
no_sequence = refl

nothing : cut_units [] ≡ None
nothing = refl

-- ---- where pictures begin: the time code of a group of pictures header may look like a picture start code

no_picture : (begins_picture (0x00 ∷ 0x00 ∷ 0x01 ∷ 0xB8 ∷ 0x00 ∷ 0x00 ∷ 0x01 ∷ 0x00 ∷ 0x00 ∷ 0x00 ∷ 0x01 ∷ 0x00 ∷ []) 4 ≡ false)
    × (begins_picture (0x00 ∷ 0x00 ∷ 0x01 ∷ 0xB8 ∷ 0x00 ∷ 0x00 ∷ 0x01 ∷ 0x00 ∷ 0x00 ∷ 0x00 ∷ 0x01 ∷ 0x00 ∷ []) 8 ≡ true)
no_picture = (refl, refl)
