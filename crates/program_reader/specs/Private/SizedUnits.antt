-- The sizes of units while these are kept.
use Rattle.std.specs.Prelude.{◌≡◌, ◌≤◌, ℕ, Bool, true, List, [], ◌∷◌, ◌++◌, length, Option, Some, None}
use Rattle.syntax_types.specs.declared.picture.SeqState.{SeqState}
use Rattle.version_maker.specs.Versions.{AreSizes}
use Rattle.program_reader.specs.declared.limits.TheConstants.{UNIT_BYTES_MOST}
use Rattle.program_reader.specs.declared.timed_picture.TimedPicture.{TimedPicture}
use Rattle.program_reader.specs.declared.unit_sizes.UnitSizes.{UnitSizes}

-- the sizes of a unit were put behind others
abbrev pub AreSizedBehind : Option SeqState → (unit coarser : List ℕ) → (old new : List UnitSizes) → Type 0
AreSizedBehind before unit coarser old new = (sizes : UnitSizes) × AreSizes before unit coarser sizes.versions.items × (new ≡ old ++ sizes ∷ [])

-- so they were if they are wanted, of a unit no longer than a unit may be
abbrev pub IsSizedBehind : Option SeqState → (unit coarser : List ℕ) → (wanted : Bool) → (old new : List UnitSizes) → Type 0
IsSizedBehind before unit coarser wanted old new = wanted ≡ true → length unit ≤ UNIT_BYTES_MOST → AreSizedBehind before unit coarser old new

-- so they were where the unit is a picture; of one that is none nothing is put there
abbrev pub IsSizedFound : Option SeqState → (unit coarser : List ℕ) → (wanted : Bool) → (old new : List UnitSizes) → Option TimedPicture → Type 0
IsSizedFound before unit coarser wanted old new None = new ≡ old
IsSizedFound before unit coarser wanted old new (Some picture) = IsSizedBehind before unit coarser wanted old new
