use Rattle.std.proofs.Common.{◌≡◌, ◌<◌, ◌+◌, ◌%◌, ◌^◌, ◌∙◌, ◌++◌, [], ◌∷◌, ℕ, List, length, get_or, subst, sym, ap, arith}
use Rattle.std.proofs.lemmas.List.{length-set, get_or-set_other}
use Rattle.requantiser.proofs.BlockTallies.{one_more_is}
use Rattle.syntax_types.specs.declared.picture.PicCoding.{PicCoding}
use Rattle.syntax_types.specs.declared.picture.SeqState.{SeqState}
use Rattle.syntax_types.specs.declared.slice.Slice.{Slice}
use Rattle.version_maker.specs.declared.slice_count.SliceCount.{SliceCount}
use Rattle.version_maker.specs.declared.slice_count.VersionCount.{VersionCount}
use Rattle.version_maker.specs.declared.version.VersionSize.{VersionSize}
use Rattle.version_maker.specs.Private.Counts.{IsCountedSlice}
use Rattle.version_maker.specs.Private.Sized.{AreSized, IsSized, first_size}
use Rattle.version_maker.proofs.Counts.{few-bits, slice-sized}
use Rattle.version_maker.proofs.SizedSlices.{all-zip-at, all-zip-length, all-zip-of, one-more-sized}
use Rattle.version_maker.proofs.unit_sizes.add_slice.Goals as goal

-- one more slice of the version at one of the ratios
one-more-at : (seq : SeqState) (coding : PicCoding) (slices : List Slice) (found : Slice) (ratios : List ℕ) (initial sizes : List VersionSize) (i : ℕ) (e : VersionSize) (count : SliceCount)
    (size : VersionSize) → i < length ratios → AreSized seq coding slices ratios initial → ((d : VersionSize) → get_or sizes i d ≡ get_or initial i d)
    → IsCountedSlice seq coding (get_or ratios i 0) found count → size.bytes ≡ ((get_or sizes i e).bytes + count.bytes) % 2 ^ 64
    → size.distortion ≡ ((get_or sizes i e).distortion + count.distortion) % 2 ^ 64 → IsSized seq coding (slices ++ found ∷ []) (get_or ratios i 0) size
one-more-at seq coding slices found ratios initial sizes i e count size within are stays is bytes distortion =
    let was : IsSized seq coding slices (get_or ratios i 0) (get_or sizes i e) =
    subst (IsSized seq coding slices (get_or ratios i 0)) (sym (stays e)) (all-zip-at (IsSized seq coding slices) ratios initial i 0 e are within) in
    one-more-sized seq coding slices (get_or ratios i 0) found count (get_or sizes i e) size was is bytes distortion

pub slice_size-count-requires-clause-info : goal.slice_size-count-requires-clause-info
slice_size-count-requires-clause-info c =
    let (seq, coding, ratios, found, is, same) = c.requires.counted in
    is.few_info

pub slice_size-count-requires-clause-few : goal.slice_size-count-requires-clause-few
slice_size-count-requires-clause-few c =
    let (seq, coding, ratios, found, is, same) = c.requires.counted in
    let within : c.loop-i.i < length ratios = omega (arith, c.loop-i-test.true, same) in
    omega (arith, few-bits seq coding ratios found c.args.read.now c.loop-i.i c.index-read-i.result is within, ap (λ (t : VersionCount). t.bits) c.index-read-i.is)

pub loop-i-preserved : goal.loop-i-preserved
loop-i-preserved c =
    let i : ℕ = c.loop-i.i in
    let sizes = c.loop-i.sizes in
    let inside : i < length sizes = omega (arith, c.loop-i-test.true, c.loop-i.invariant.len) in
    record {
      len = length-set sizes i c.sum.result ∙ c.loop-i.invariant.len;
      sized = λ seq coding ratios found slices is are.
          let within : i < length ratios = omega (arith, c.loop-i-test.true, all-zip-length (IsSized seq coding slices) ratios c.args.sizes.now are) in
          let counted = slice-sized seq coding ratios found c.args.read.now i c.index-read-i.result c.slice_size-count.result is within
          c.slice_size-count.ensures.bytes c.slice_size-count.ensures.distortion in
          one_more_is (λ j (size : VersionSize). IsSized seq coding (slices ++ found ∷ []) (get_or ratios j 0) size) sizes i c.sum.result inside
          (one-more-at seq coding slices found ratios c.args.sizes.now sizes i _ c.slice_size-count.result c.sum.result within are (λ d. c.loop-i.invariant.stay i d (omega arith)) counted
          c.sum.ensures.bytes c.sum.ensures.distortion)
          (c.loop-i.invariant.sized seq coding ratios found slices is are);
      stay = λ j d past. get_or-set_other sizes i j c.sum.result d (λ same. absurd (omega (arith, same, past))) ∙ c.loop-i.invariant.stay j d (omega (arith, past));
    }

pub returns-clause-sized : goal.returns-clause-sized
returns-clause-sized c = λ seq coding ratios found slices is are.
    let same : length ratios ≡ length c.loop-i.sizes = all-zip-length (IsSized seq coding slices) ratios c.args.sizes.now are ∙ sym c.loop-i.invariant.len in
    all-zip-of (IsSized seq coding (slices ++ found ∷ [])) ratios c.loop-i.sizes 0 (first_size 0) same
    (λ j below. c.loop-i.invariant.sized seq coding ratios found slices is are j (first_size 0) (omega (arith, below, c.loop-i-test.false, all-zip-length (IsSized seq coding slices) ratios c.args.sizes.now are)))
