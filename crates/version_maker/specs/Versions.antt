-- The versions of a unit: the unit itself without its vbv_delay, and its picture under coarser codes as it is written.
use Rattle.std.specs.Prelude.{◌≡◌, ◌≤◌, ◌++◌, ℕ, Option, IfSome, List, ◌∷◌, length, map}
use Rattle.std.specs.List.{AllZip, slice_get}
use Rattle.syntax_types.specs.declared.picture.Picture.{Picture}
use Rattle.syntax_types.specs.declared.picture.SeqState.{SeqState}
use Rattle.picture_grammar.specs.Written.{IsWritten}
use Rattle.picture_heads.specs.Heads.{IsHeadWithoutDelay}
use Rattle.picture_reader.specs.Picture.{IsPictureOf}
use Rattle.requantiser.specs.Distortion.{distortion_between}
use Rattle.requantiser.specs.Version.{IsVersion}
use Rattle.version_maker.specs.declared.version.UnitVersion.{UnitVersion}
use Rattle.version_maker.specs.declared.version.VersionSize.{VersionSize}

-- Version 0 of a unit that spells the picture: the unit's own bytes, but that the head says nothing by its vbv_delay, whose
-- sixteen bits are ones (ISO/IEC 13818-2, 6.3.9). No coefficient differs from the source's.
pub record IsSourceVersion (picture : Picture) (unit : List ℕ) (version : UnitVersion) : Type 0 where
  pub head : List ℕ
  pub behind : List ℕ
  pub without : IsHeadWithoutDelay picture.head head
  pub source : unit ≡ picture.head ++ behind
  pub bytes : version.bytes ≡ head ++ behind
  pub distortion : version.distortion ≡ 0

-- The version at m sixteenths: the picture's coarser version in its written spelling, and how far it is from the picture.
pub record IsCoarserVersion (picture : Picture) (m : ℕ) (version : UnitVersion) : Type 0 where
  pub made : Picture
  pub coarser : IsVersion m picture made
  pub written : IsWritten made version.bytes
  pub distortion : version.distortion ≡ distortion_between picture made

-- Version 0 of a unit that spells the picture, then one version for each ratio, in their order.
pub record AreVersionsOf (picture : Picture) (unit coarser : List ℕ) (versions : List UnitVersion) : Type 0 where
  pub first : UnitVersion
  pub others : List UnitVersion
  pub in_order : versions ≡ first ∷ others
  pub source : IsSourceVersion picture unit first
  pub coarser_ones : AllZip (IsCoarserVersion picture) coarser others

-- behind the state, or behind none, the unit spells a picture whose slices hold all its macroblocks (6.1.2), and these are
-- all its versions at these ratios
pub record AreVersions (before : Option SeqState) (unit coarser : List ℕ) (versions : List UnitVersion) : Type 0 where
  pub picture : Picture
  pub whole : IsPictureOf before unit picture
  pub of_picture : AreVersionsOf picture unit coarser versions

-- these are the bytes of the version with this number
pub record IsVersionAt (before : Option SeqState) (unit coarser : List ℕ) (index : ℕ) (bytes : List ℕ) : Type 0 where
  pub versions : List UnitVersion
  pub are : AreVersions before unit coarser versions
  pub at : IfSome (slice_get versions index) (λ version. version.bytes ≡ bytes)
  pub within : index ≤ length coarser

-- how long a version is, and its distortion
abbrev pub size_of : UnitVersion → VersionSize
size_of version = record { bytes = length version.bytes; distortion = version.distortion }

-- these are the sizes of all versions
pub record AreSizes (before : Option SeqState) (unit coarser : List ℕ) (sizes : List VersionSize) : Type 0 where
  pub versions : List UnitVersion
  pub are : AreVersions before unit coarser versions
  pub each : sizes ≡ map size_of versions
