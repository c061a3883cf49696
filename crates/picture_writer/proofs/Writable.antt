-- Lawful pictures can be written.
use Rattle.std.proofs.Common.{◌≡◌, ◌+◌, List, [], ◌∷◌, ◌++◌, true, refl, inr, arith}
use Rattle.std.specs.List.{AllByRecursion}
use Rattle.bit_lists.specs.Fields.{AreBytes, bit_list}
use Rattle.bit_lists.proofs.ByteLemmas.{length-bit_list}
use Rattle.syntax_types.specs.declared.picture.PicCoding.{PicCoding}
use Rattle.syntax_types.specs.declared.picture.Picture.{Picture}
use Rattle.syntax_types.specs.declared.picture.SeqState.{SeqState}
use Rattle.syntax_types.specs.declared.slice.Slice.{Slice}
use Rattle.stream_constants.specs.declared.start_codes.TheConstants.{FIRST_SLICE}
use Rattle.picture_grammar.specs.Picture.{IsCoding, IsLawful}
use Rattle.picture_grammar.specs.Slice.{slice}
use Rattle.stream_constants.specs.SliceCodes.{is_slice}
use Rattle.picture_grammar.specs.Written.{written_slice}
use Rattle.picture_laws.specs.Spellable.{HasSpellableMacroblocks, HasSpellableSlices}
use Rattle.picture_laws.proofs.Codings.{coding-of_unit}
use Rattle.picture_laws.proofs.ReadBack.{spellable}
use Rattle.picture_laws.proofs.WrittenPicture.{code_bounds, slices-of_picture}
use Rattle.picture_laws.proofs.WrittenSlice.{slice-written}
use Rattle.picture_writer.specs.Private.Slices.{CanBeWritten}

slices_can : (seq : SeqState) (coding : PicCoding) (slices : List Slice) → AllByRecursion (λ s. HasSpellableMacroblocks seq coding s × (is_slice (s.row + FIRST_SLICE) ≡ true)) slices
    → AllByRecursion (CanBeWritten seq coding) slices
slices_can seq coding [] each = tt
slices_can seq coding (s ∷ ss) ((has, is), others) =
    let bounds = code_bounds (s.row + 1) is in (
      record { code = omega (arith, bounds.1); spelled = spellable (slice seq coding s.row) s (written_slice coding s ++ []) [] (slice-written seq coding s [] has (inr refl)) },
      slices_can seq coding ss others,
    )

pub record PictureFits (picture : Picture) : Type 0 where
  pub coding : IsCoding picture.coding
  pub head : AreBytes picture.head
  pub slices : AllByRecursion (CanBeWritten picture.seq picture.coding) picture.slices

pub lawful_fits : (picture : Picture) → IsLawful picture → PictureFits picture
lawful_fits picture lawful =
    let has : HasSpellableSlices lawful.before picture = slices-of_picture lawful.before picture (bit_list lawful.bytes) [] (omega (arith, length-bit_list lawful.bytes)) lawful.spelled in
    record {
      coding = coding-of_unit lawful.before picture (bit_list lawful.bytes) [] lawful.spelled;
      head = (let (s, are, split) = has.head in are);
      slices = slices_can picture.seq picture.coding picture.slices has.each;
    }
