-- The version of a picture: that there is one, and no two.
use Rattle.std.proofs.Common.{◌≡◌, ℕ, List, [], ◌∷◌, refl, sym, ◌∙◌, ap, arith}
use Rattle.std.specs.List.{AllZip}
use Rattle.bit_lists.specs.Fields.{bit_list}
use Rattle.bit_lists.proofs.ByteLemmas.{length-bit_list}
use Rattle.syntax_types.specs.declared.picture.PicCoding.{PicCoding}
use Rattle.syntax_types.specs.declared.picture.Picture.{Picture}
use Rattle.syntax_types.specs.declared.picture.SeqState.{SeqState}
use Rattle.syntax_types.specs.declared.slice.Slice.{Slice}
use Rattle.picture_grammar.specs.Picture.{IsLawful}
use Rattle.picture_heads.specs.Heads.{HasDelay}
use Rattle.picture_heads.proofs.DelayPlaces.{one-without}
use Rattle.picture_heads.proofs.ReadHeads.{head-has}
use Rattle.picture_laws.proofs.WrittenPicture.{slices-of_picture}
use Rattle.requantiser.specs.Slices.{IsCoarserSlice}
use Rattle.requantiser.specs.Version.{IsVersion}
use Rattle.requantiser.proofs.Slices.{one_coarser_slice}

-- the head of a lawful picture has a vbv_delay
pub lawful-delay : (picture : Picture) → IsLawful picture → (front : List ℕ) × (delay : List ℕ) × (back : List ℕ) × HasDelay picture.head front delay back
lawful-delay picture lawful =
    let is = slices-of_picture lawful.before picture (bit_list lawful.bytes) [] (omega (arith, length-bit_list lawful.bytes)) lawful.spelled in
    head-has lawful.before picture.seq picture.coding picture.head is.rest is.head is.whole

pub one_list : (seq : SeqState) (coding : PicCoding) (m : ℕ) (from a b : List Slice) → AllZip (IsCoarserSlice seq coding m) from a → AllZip (IsCoarserSlice seq coding m) from b → a ≡ b
one_list seq coding m [] [] [] p q = refl
one_list seq coding m [] (a ∷ xs) b p q = absurd p
one_list seq coding m [] [] (b ∷ bs) p q = absurd q
one_list seq coding m (f ∷ fs) [] b p q = absurd p
one_list seq coding m (f ∷ fs) (a ∷ xs) [] p q = absurd q
one_list seq coding m (f ∷ fs) (a ∷ xs) (b ∷ bs) p q =
    ap (λ (x : Slice). x ∷ xs) (one_coarser_slice seq coding m f a b p.0 q.0) ∙ ap (λ (ys : List Slice). b ∷ ys) (one_list seq coding m fs xs bs p.1 q.1)

pub one-version : (m : ℕ) (from a b : Picture) → IsVersion m from a → IsVersion m from b → a ≡ b
one-version m from a b p q =
    ap (λ (n : SeqState). let x : Picture = record a { seq = n } in x) (p.seq ∙ sym q.seq)
    ∙ ap (λ (n : PicCoding). let x : Picture = record a { seq = b.seq; coding = n } in x) (p.coding ∙ sym q.coding)
    ∙ ap (λ (n : List ℕ). let x : Picture = record a { seq = b.seq; coding = b.coding; head = n } in x) (one-without from.head a.head b.head p.head q.head)
    ∙ ap (λ (n : List Slice). let x : Picture = record a { seq = b.seq; coding = b.coding; head = b.head; slices = n } in x)
    (one_list from.seq from.coding m from.slices a.slices b.slices p.slices q.slices)
    ∙ ap (λ n. let x : Picture = record b { sequence_end = n } in x) (p.sequence_end ∙ sym q.sequence_end)
