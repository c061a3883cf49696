-- The sizes of a version while the slices of its unit are counted.
use Rattle.std.specs.Prelude.{◌≡◌, ◌≤◌, ◌+◌, ◌*◌, ◌%◌, ◌^◌, ℕ, Option, List, length}
use Rattle.std.specs.List.{AllZip, flat_map, sum_by}
use Rattle.syntax_types.specs.declared.picture.PicCoding.{PicCoding}
use Rattle.syntax_types.specs.declared.picture.SeqState.{SeqState}
use Rattle.syntax_types.specs.declared.slice.Slice.{Slice}
use Rattle.requantiser.specs.Steps.{MakeSlices, Step, distortion_of}
use Rattle.macroblock_writer.specs.Private.WholeSlices.{written_whole_slice}
use Rattle.picture_reader.specs.declared.cursor.UnitCursor.{UnitCursor}
use Rattle.picture_reader.specs.UnitCursor.{StandsBehindSlices}
use Rattle.version_maker.specs.declared.version.VersionSize.{VersionSize}

-- The slices of the version at m sixteenths behind these of the source were counted, with sums that go round at 2 ^ 64,
-- where those of a covered picture never come.
pub record IsSized (seq : SeqState) (coding : PicCoding) (slices : List Slice) (m : ℕ) (size : VersionSize) : Type 0 where
  pub tos : List Slice
  pub steps : List (List Step)
  pub makes : MakeSlices seq coding m slices tos steps
  pub count : ℕ
  pub bytes : 8 * count ≡ length (flat_map (written_whole_slice coding) tos)
  pub few : count ≤ length slices * 2 ^ 40
  pub counted : size.bytes ≡ count % 2 ^ 64
  pub small : sum_by distortion_of steps ≤ sum_by (λ s. length s.macroblocks) slices * 2 ^ 41
  pub distortion : size.distortion ≡ sum_by distortion_of steps % 2 ^ 64

-- so were those of the versions at all ratios
abbrev pub AreSized : SeqState → PicCoding → List Slice → List ℕ → List VersionSize → Type 0
AreSized seq coding slices coarser sizes = AllZip (IsSized seq coding slices) coarser sizes

-- the size with so many bytes around the slices, going round likewise
abbrev pub with_bytes : ℕ → VersionSize → VersionSize
with_bytes around size = record { bytes = (size.bytes + around) % 2 ^ 64; distortion = size.distortion }

-- the size of a version with so many bytes and no distortion
abbrev pub first_size : ℕ → VersionSize
first_size bytes = record { bytes = bytes; distortion = 0 }

-- a cursor stands behind these slices of a unit, which were counted
pub record SlicesSized (before : Option SeqState) (unit coarser : List ℕ) (cursor : UnitCursor) (sizes : List VersionSize) : Type 0 where
  pub slices : List Slice
  pub stands : StandsBehindSlices before unit slices cursor
  pub few : length slices ≤ cursor.at
  pub sized : AreSized cursor.headers.seq cursor.headers.coding slices coarser sizes
