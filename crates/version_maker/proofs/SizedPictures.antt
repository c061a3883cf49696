-- The headers of a unit whose sizes are told.
use Rattle.std.proofs.Common.{◌≡◌, ◌≤◌, ℕ, Bool, List, length, take, Option, refl, subst}
use Rattle.std.proofs.lemmas.List.{length-take-le}
use Rattle.syntax_types.specs.declared.picture.Picture.{Picture}
use Rattle.syntax_types.specs.declared.picture.SeqState.{SeqState}
use Rattle.syntax_types.specs.declared.slice.Slice.{Slice}
use Rattle.picture_reader.proofs.Units.{one-picture}
use Rattle.video_headers.specs.declared.head.Headers.{Headers}
use Rattle.picture_reader.specs.Picture.{HasHeaders, IsPictureOf}
use Rattle.picture_reader.specs.UnitCursor.{picture_of}
use Rattle.version_maker.specs.declared.version.VersionSize.{VersionSize}
use Rattle.version_maker.specs.Versions.{AreSizes}

-- the picture whose versions they are is the one that was read, since a unit spells one picture
pub sized-headers : (before : Option SeqState) (unit coarser : List ℕ) (sizes : List VersionSize) (headers : Headers) (slices : List Slice) (sequence_end : Bool)
    → (are : AreSizes before unit coarser sizes) → headers.slices_at ≤ length unit
    → IsPictureOf before unit (picture_of headers (take headers.slices_at unit) slices sequence_end) → HasHeaders are.are.picture headers
sized-headers before unit coarser sizes headers slices sequence_end are within whole =
    let read : Picture = picture_of headers (take headers.slices_at unit) slices sequence_end in
    let same : read ≡ are.are.picture = one-picture before unit read are.are.picture whole are.are.whole in
    subst (λ (picture : Picture). HasHeaders picture headers) same (record { seq = refl; coding = refl; size = length-take-le headers.slices_at unit within })
