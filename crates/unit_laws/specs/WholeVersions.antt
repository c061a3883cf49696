-- What each version of a unit is by its own bytes (ISO/IEC 13818-2, 6.1.2 and 6.2).
use Rattle.std.specs.Prelude.{◌≡◌, true, List, [], ◌∷◌, All, Option, Some}
use Rattle.syntax_types.specs.declared.picture.SeqState.{SeqState}
use Rattle.es_units.specs.StartCodes.{has_code, is_sequence_header}
use Rattle.layer_laws.specs.WholeUnits.{IsWholeUnit}
use Rattle.version_maker.specs.declared.version.UnitVersion.{UnitVersion}
use Rattle.unit_laws.specs.OwnCodes.{HasNoCodeInSlices}

-- A version is a unit as its source is: whole by its own bytes, a coded picture behind the same state, with no start code inside a slice, and the state that it
-- leaves in force is this one.
pub record IsWholeVersion (before : Option SeqState) (after : SeqState) (version : UnitVersion) : Type 0 where
  pub whole : IsWholeUnit version.bytes
  pub slices : HasNoCodeInSlices before version.bytes
  pub leaves : slices.picture.seq ≡ after

-- all versions of each unit of a video are such, each unit behind the state that the one before leaves, in whichever version
abbrev pub AreWholeVersions : Option SeqState → List (List UnitVersion) → Type 0
AreWholeVersions before [] = Unit {0}
AreWholeVersions before (versions ∷ more) = (after : SeqState) × All (IsWholeVersion before after) versions × AreWholeVersions (Some after) more

-- there is a first unit, each version of which begins with a sequence header
abbrev pub BeginWithSequence : List (List UnitVersion) → Type 0
BeginWithSequence [] = ⊥
BeginWithSequence (versions ∷ more) = All (λ version. has_code is_sequence_header version.bytes 0 ≡ true) versions
