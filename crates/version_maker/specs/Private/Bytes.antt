-- The bytes of one version of a picture.
use Rattle.std.specs.Prelude.{◌≡◌, ◌++◌, ℕ, zero, suc, Option, List, ◌∷◌, drop, length, map, slice_index}
use Rattle.std.specs.List.{AllZip}
use Rattle.syntax_types.specs.declared.picture.Picture.{Picture}
use Rattle.syntax_types.specs.declared.picture.SeqState.{SeqState}
use Rattle.picture_grammar.specs.Picture.{IsLawful}
use Rattle.picture_grammar.specs.Written.{IsWritten}
use Rattle.picture_reader.specs.Picture.{IsPictureOf}
use Rattle.requantiser.specs.Version.{IsVersion}
use Rattle.version_maker.specs.declared.version.UnitVersion.{UnitVersion}
use Rattle.version_maker.specs.declared.version.VersionSize.{VersionSize}
use Rattle.version_maker.specs.Versions.{AreVersionsOf, IsCoarserVersion, IsSourceVersion, size_of}

-- these are the bytes of version 0
abbrev pub AreSourceBytes : Picture → List ℕ → List ℕ → Type 0
AreSourceBytes picture unit bytes = IsSourceVersion picture unit (record { bytes = bytes; distortion = 0 })

-- these are the bytes of the version at m sixteenths
pub record AreCoarserBytes (picture : Picture) (m : ℕ) (bytes : List ℕ) : Type 0 where
  pub made : Picture
  pub coarser : IsVersion m picture made
  pub written : IsWritten made bytes

-- these are the bytes of the version with this number
abbrev pub AreBytesAt : Picture → List ℕ → List ℕ → ℕ → List ℕ → Type 0
AreBytesAt picture unit coarser zero bytes = AreSourceBytes picture unit bytes
AreBytesAt picture unit coarser (suc k) bytes = AreCoarserBytes picture (slice_index coarser k) bytes

-- so many bytes of the unit are the head of the picture
pub record IsHeadOf (picture : Picture) (unit : List ℕ) (size : ℕ) : Type 0 where
  pub lawful : IsLawful picture
  pub len : length picture.head ≡ size
  pub behind : List ℕ
  pub begins : unit ≡ picture.head ++ behind

-- behind the state the unit spells a picture, and these are the bytes of its version 0
pub record AreSourceBytesOf (before : Option SeqState) (unit bytes : List ℕ) : Type 0 where
  pub picture : Picture
  pub whole : IsPictureOf before unit picture
  pub are : AreSourceBytes picture unit bytes

-- behind the state the unit spells a picture, and these are the bytes of its version at m sixteenths
pub record AreCoarserBytesOf (before : Option SeqState) (unit : List ℕ) (m : ℕ) (bytes : List ℕ) : Type 0 where
  pub picture : Picture
  pub whole : IsPictureOf before unit picture
  pub are : AreCoarserBytes picture m bytes

-- these are the sizes of all versions of the picture
pub record AreSizesOf (picture : Picture) (unit coarser : List ℕ) (sizes : List VersionSize) : Type 0 where
  pub versions : List UnitVersion
  pub are : AreVersionsOf picture unit coarser versions
  pub each : sizes ≡ map size_of versions

-- these are versions at the first so many ratios: with any versions at the others they are versions at all of them
pub record CoarserSoFar (picture : Picture) (coarser : List ℕ) (count : ℕ) (made : List UnitVersion) : Type 0 where
  pub then : (rest : List UnitVersion) → AllZip (IsCoarserVersion picture) (drop count coarser) rest → AllZip (IsCoarserVersion picture) coarser (made ++ rest)

-- version 0, then versions at the first so many ratios
pub record VersionsSoFar (picture : Picture) (unit coarser : List ℕ) (count : ℕ) (versions : List UnitVersion) : Type 0 where
  pub first : UnitVersion
  pub others : List UnitVersion
  pub in_order : versions ≡ first ∷ others
  pub source : IsSourceVersion picture unit first
  pub coarser_ones : CoarserSoFar picture coarser count others
