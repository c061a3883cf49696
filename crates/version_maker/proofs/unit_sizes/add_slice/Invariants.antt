use Rattle.std.proofs.Common.{◌≡◌, ◌<◌, ◌≤◌, ◌++◌, ℕ, List, [], ◌∷◌, length, get_or}
use Rattle.syntax_types.specs.declared.picture.PicCoding.{PicCoding}
use Rattle.syntax_types.specs.declared.picture.SeqState.{SeqState}
use Rattle.syntax_types.specs.declared.slice.Slice.{Slice}
use Rattle.version_maker.specs.declared.version.VersionSize.{VersionSize}
use Rattle.version_maker.specs.Private.Read.{IsSliceCounted}
use Rattle.version_maker.specs.Private.Sized.{AreSized, IsSized}
use Rattle.version_maker.proofs.unit_sizes.add_slice.Given as goal

-- the slice is added to the first sizes, the others are as they were
abbrev pub invariant-loop-i : goal.invariant-loop-i
invariant-loop-i l = record {
  len : length l.sizes ≡ length l.initial.sizes;
  sized : (seq : SeqState) (coding : PicCoding) (ratios : List ℕ) (found : Slice) (slices : List Slice) → IsSliceCounted seq coding ratios found l.read
      → AreSized seq coding slices ratios l.initial.sizes → (j : ℕ) (e : VersionSize) → j < l.i → IsSized seq coding (slices ++ found ∷ []) (get_or ratios j 0) (get_or l.sizes j e);
  stay : (j : ℕ) (e : VersionSize) → l.i ≤ j → get_or l.sizes j e ≡ get_or l.initial.sizes j e;
}
