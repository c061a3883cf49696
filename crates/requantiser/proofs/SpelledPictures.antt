-- Lawful pictures have what the walk needs.
use Rattle.std.proofs.Common.{◌≡◌, ℕ, ◌-◌, Option, Some, List, [], ◌∷◌, ◌++◌, Bool, true, false, sym, ◌∙◌, ap, subst, inl, inr}
use Rattle.std.specs.Prelude.{map}
use Rattle.std.specs.List.{AllByRecursion, AllZip}
use Rattle.bit_lists.specs.Fields.{bit_list}
use Rattle.syntax_types.specs.declared.macroblock.Macroblock.{Macroblock}
use Rattle.syntax_types.specs.declared.picture.PicCoding.{PicCoding}
use Rattle.syntax_types.specs.declared.picture.Picture.{Picture}
use Rattle.syntax_types.specs.declared.picture.SeqState.{SeqState}
use Rattle.syntax_types.specs.declared.slice.Slice.{Slice}
use Rattle.stream_constants.specs.declared.start_codes.TheConstants.{FIRST_SLICE}
use Rattle.picture_grammar.specs.Grammar.{SpellsList, optional}
use Rattle.picture_grammar.specs.Grammar.Next.{more, last}
use Rattle.picture_grammar.specs.Picture.{whole_slice, slice_or_end, next_slice, picture_unit, IsLawful, MayPrecede}
use Rattle.picture_grammar.specs.Slice.{columns}
use Rattle.stream_constants.specs.SliceCodes.{is_slice}
use Rattle.requantiser.specs.Slices.{IsCoarserSlice}
use Rattle.requantiser.specs.Private.Shapes.{HasShape, AreWalkable, IsWalkableSlice}
use Rattle.requantiser.specs.Private.Walk.{coarsened_slice}
use Rattle.requantiser.proofs.Slices.{coarsened_slice-is}
use Rattle.requantiser.proofs.SpelledHeads.{IsUsable, head-usable}
use Rattle.requantiser.proofs.SpelledSlices.{spelled_slice-walkable}

module _ (seq : SeqState) (coding : PicCoding) where
  whole_is : (byte : ℕ) (v : Slice) (bits rest : List ℕ) → (whole_slice seq coding byte).Spells v bits rest → IsWalkableSlice (columns seq) v
  whole_is byte v bits rest (found, m, s, (padding, m', t, (e, f))) = subst (IsWalkableSlice (columns seq)) (sym e) (spelled_slice-walkable seq coding (byte - FIRST_SLICE) found bits m s)

  one_is : (present : Bool) (byte : ℕ) (found : Option Slice) (v : Slice) (bits rest : List ℕ) → (optional present (whole_slice seq coding byte)).Spells found bits rest
      → more v ≡ slice_or_end found → IsWalkableSlice (columns seq) v
  one_is true byte found v bits rest (s, m, t, (e, f)) is =
      let same : more v ≡ slice_or_end (Some s) = is ∙ ap slice_or_end e in
      let which : s ≡ v = cc in
      subst (IsWalkableSlice (columns seq)) which (whole_is byte s bits m t)
  one_is false byte found v bits rest (e, f) is = absurd (let clash : more v ≡ last true = is ∙ ap slice_or_end e in cc)

  next_is : (before : List Slice) (v : Slice) (bits middle : List ℕ) → (next_slice seq coding before).Spells (more v) bits middle → IsWalkableSlice (columns seq) v
  next_is [] v bits middle (byte, m1, s1, (found, m2, s2, (e, f))) =
      let same : more v ≡ more found = e in
      let which : found ≡ v = cc in
      subst (IsWalkableSlice (columns seq)) which (whole_is byte found m1 m2 s2)
  next_is (b ∷ bs) v bits middle (inl (closes, (nothing, m1, s1, (e, f)))) = absurd (let clash : more v ≡ last false = e in cc)
  next_is (b ∷ bs) v bits middle (inr (open_unit, (byte, m1, s1, (found, m2, s2, (nothing, m3, s3, (e, f)))))) = one_is (is_slice byte) byte found v m1 m2 s2 e

  all_are : (before slices : List Slice) (end : Bool) (bits rest : List ℕ) → SpellsList (next_slice seq coding) before slices end bits rest → AllByRecursion (IsWalkableSlice (columns seq)) slices
  all_are before [] end bits rest s = tt
  all_are before (v ∷ vs) end bits rest (middle, s, t) = (next_is before v bits middle s, all_are (before ++ v ∷ []) vs end middle rest t)

-- what the walk needs of a picture
pub record IsWalkablePicture (picture : Picture) : Type 0 where
  pub usable : IsUsable picture.seq
  pub slices : AllByRecursion (IsWalkableSlice (columns picture.seq)) picture.slices

unit_is : (before : Option SeqState) (picture : Picture) (bits rest : List ℕ) → MayPrecede before → (picture_unit before).Spells picture bits rest → IsWalkablePicture picture
unfolding picture_unit
unit_is before picture bits rest may (headers, m1, (s1, bytes, whole), (slices, m2, s2, (e, f))) =
    subst IsWalkablePicture (sym e) (record {
      usable = head-usable before headers.0 bits m1 may s1;
      slices = all_are headers.0.0 headers.0.1 [] slices.0 slices.1 m1 m2 s2;
    })

pub lawful-walkable : (picture : Picture) → IsLawful picture → IsWalkablePicture picture
lawful-walkable picture lawful = unit_is lawful.before picture (bit_list lawful.bytes) [] lawful.preceded lawful.spelled

-- ---- the slices of a version

shapes_of : (ms : List Macroblock) → AreWalkable ms → AllByRecursion HasShape ms
shapes_of [] are = tt
shapes_of (m ∷ ms) are = (are.0.shape, shapes_of ms are.1)

pub coarsened_slices-are : (seq : SeqState) (coding : PicCoding) (m columns : ℕ) (slices : List Slice) → AllByRecursion (IsWalkableSlice columns) slices
    → AllZip (IsCoarserSlice seq coding m) slices (map (coarsened_slice seq coding m) slices)
coarsened_slices-are seq coding m columns [] are = tt
coarsened_slices-are seq coding m columns (s ∷ ss) are =
    (coarsened_slice-is seq coding m s (shapes_of s.macroblocks are.0.macroblocks), coarsened_slices-are seq coding m columns ss are.1)
