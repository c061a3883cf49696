-- Slices that some bits spell can be written.
use Rattle.std.proofs.Common.{◌≡◌, ℕ, ◌<◌, ◌^◌, List, [], ◌∷◌, ◌++◌, Option, IfSome, Bool, true, false, refl, sym, ap, subst}
use Rattle.std.specs.List.{AllByRecursion}
use Rattle.syntax_types.specs.declared.macroblock.Macroblock.{Macroblock}
use Rattle.syntax_types.specs.declared.picture.PicCoding.{PicCoding}
use Rattle.syntax_types.specs.declared.picture.SeqState.{SeqState}
use Rattle.syntax_types.specs.declared.slice.Slice.{Slice}
use Rattle.syntax_types.specs.declared.slice.SliceInfo.{SliceInfo}
use Rattle.picture_grammar.specs.Grammar.{optional}
use Rattle.picture_grammar.specs.Macroblock.{quantiser_scale_code}
use Rattle.picture_grammar.specs.Slice.{slice_extension, slice, ClosesSlice}
use Rattle.picture_grammar.specs.Written.{written_slice}
use Rattle.picture_laws.specs.Spellable.{IsSpellable, HasSpellableMacroblocks}
use Rattle.picture_laws.proofs.WrittenSlice.{macroblocks-of_slice, slice-written}
use Rattle.macroblock_writer.specs.Private.Writing.{CanBeWritten, SliceFits}
use Rattle.macroblock_writer.proofs.Writable.{can_be_written}

code_fits : (code : ℕ) (bits rest : List ℕ) → quantiser_scale_code.Spells code bits rest → code < 2 ^ 5
code_fits code bits rest (spelled, (fits, same), passing, split) = fits

pub info_fits : (extended : Bool) (info : Option SliceInfo) (bits rest : List ℕ) → (optional extended slice_extension).Spells info bits rest → IfSome info (λ info. info.reserved < 2 ^ 7)
info_fits true info bits rest (made, m, (intra, m1, s1, (reserved, m2, (code, (fits, same), passing, split), (found, m3, s3, (d, d')))), (e, f)) =
    let here : made.reserved < 2 ^ 7 = subst (λ (n : ℕ). n < 2 ^ 7) (sym (ap (λ (i : SliceInfo). i.reserved) d)) fits in
    subst (λ (found : Option SliceInfo). IfSome found (λ info. info.reserved < 2 ^ 7)) (sym e) here
info_fits false info bits rest (e, f) = subst (λ (found : Option SliceInfo). IfSome found (λ info. info.reserved < 2 ^ 7)) (sym e) tt

each_fits : (coding : PicCoding) (ms : List Macroblock) → ((front back : List Macroblock) (m : Macroblock) → ms ≡ front ++ m ∷ back → CanBeWritten coding m) → AllByRecursion (CanBeWritten coding) ms
each_fits coding [] each = tt
each_fits coding (m ∷ ms) each = (each [] ms m refl, each_fits coding ms (λ front back n e. each (m ∷ front) back n (ap (λ (others : List Macroblock). m ∷ others) e)))

pub slice_fits : (seq : SeqState) (coding : PicCoding) (row : ℕ) (s : Slice) → IsSpellable (slice seq coding row) s → SliceFits coding s
slice_fits seq coding row s spelled =
    let has : HasSpellableMacroblocks seq coding s = (macroblocks-of_slice seq coding row s spelled.bits spelled.rest spelled.spelled).1 in
    record {
      code = code_fits s.code has.code.bits has.code.rest has.code.spelled;
      reserved = (let (extended, m, s1, t) = has.info.spelled in info_fits extended s.info m has.info.rest t);
      macroblocks = each_fits coding s.macroblocks (λ front back m e. can_be_written coding _ _ m (has.each front back m e));
    }

-- what is written of a slice that some bits spell is read as that slice, where what follows closes it
pub read_again : (seq : SeqState) (coding : PicCoding) (row : ℕ) (s : Slice) (following : List ℕ) → IsSpellable (slice seq coding row) s → ClosesSlice following
    → (slice seq coding row).Spells s (written_slice coding s ++ following) following
read_again seq coding row s following spelled closes =
    let (here, has) = macroblocks-of_slice seq coding row s spelled.bits spelled.rest spelled.spelled in
    subst (λ (n : ℕ). (slice seq coding n).Spells s (written_slice coding s ++ following) following) here (slice-written seq coding s following has closes)
