-- What is kept of the units of a video.
use Rattle.std.specs.Prelude.{◌≡◌, ℕ, List, [], ◌∷◌, Option, Some, None}
use Rattle.program_reader.specs.declared.kept_units.KeptUnit.{KeptUnit}
use Rattle.program_reader.specs.declared.timed_picture.TimedPicture.{TimedPicture}

-- what is kept of a unit and its picture
abbrev pub row_of : ℕ × ℕ → TimedPicture → KeptUnit
row_of unit picture = record { begin = unit.0; end = unit.1; times = picture.times; ticks = picture.ticks; kind = picture.coding.kind; role = picture.role }

-- of each one
abbrev pub AreRows : List (ℕ × ℕ) → List TimedPicture → List KeptUnit → Type 0
AreRows [] [] [] = Unit {0}
AreRows (unit ∷ units) (picture ∷ pictures) (row ∷ rows) = (row ≡ row_of unit picture) × AreRows units pictures rows
AreRows units pictures rows = ⊥

-- where a kept unit stands
abbrev pub kept_at : KeptUnit → ℕ × ℕ
kept_at unit = (unit.begin, unit.end)

-- the first of some pictures, if there are any
abbrev pub first_of : List TimedPicture → Option TimedPicture
first_of [] = None
first_of (picture ∷ _) = Some picture
