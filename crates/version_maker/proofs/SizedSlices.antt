-- Sizes of versions, slice by slice.
use Rattle.std.proofs.Common.{◌≡◌, ℕ, zero, suc, ◌+◌, ◌%◌, ◌^◌, ◌<◌, List, [], ◌∷◌, ◌++◌, refl, sym, ◌∙◌, ap, arith, length, take, drop, get_or, add-one, replicate}
use Rattle.std.specs.List.{AllZip, flat_map, refill, sum_by}
use Rattle.std.proofs.Math.Seq.{take-append_seam}
use Rattle.std.proofs.lemmas.Grind.{flat_map-append}
use Rattle.std.proofs.lemmas.List.{length-append}
use Rattle.std.proofs.lemmas.List.Sums.{sum_by-append, sum_by-cons}
use Rattle.syntax_types.specs.declared.picture.PicCoding.{PicCoding}
use Rattle.syntax_types.specs.declared.picture.SeqState.{SeqState}
use Rattle.syntax_types.specs.declared.slice.Slice.{Slice}
use Rattle.requantiser.specs.Steps.{MakeSlice, MakeSlices, Step, distortion_of}
use Rattle.macroblock_writer.specs.Private.WholeSlices.{written_whole_slice}
use Rattle.version_maker.specs.declared.slice_count.SliceCount.{SliceCount}
use Rattle.version_maker.specs.declared.version.VersionSize.{VersionSize}
use Rattle.version_maker.specs.Private.Counts.{IsCountedSlice}
use Rattle.version_maker.specs.Private.Sized.{AreSized, IsSized, first_size}

-- ---- lists side by side

pub all-zip-more : {A B : Type 0} (P : A → B → Type 0) (xs : List A) (ys : List B) (x : A) (y : B) → AllZip P xs ys → P x y → AllZip P (xs ++ x ∷ []) (ys ++ y ∷ [])
all-zip-more P [] [] x y are is = (is, tt)
all-zip-more P [] (b ∷ bs) x y are is = absurd are
all-zip-more P (a ∷ xs) [] x y are is = absurd are
all-zip-more P (a ∷ xs) (b ∷ bs) x y are is = (are.0, all-zip-more P xs bs x y are.1 is)

pub all-zip-at : {A B : Type 0} (P : A → B → Type 0) (xs : List A) (ys : List B) (i : ℕ) (d : A) (e : B) → AllZip P xs ys → i < length xs → P (get_or xs i d) (get_or ys i e)
all-zip-at P [] ys i d e are within = absurd (let h : i < 0 = within in omega (arith, h))
all-zip-at P (a ∷ xs) [] i d e are within = absurd are
all-zip-at P (a ∷ xs) (b ∷ bs) zero d e are within = are.0
all-zip-at P (a ∷ xs) (b ∷ bs) (suc i) d e are within = all-zip-at P xs bs i d e are.1 (omega (arith, within))

pub all-zip-length : {A B : Type 0} (P : A → B → Type 0) (xs : List A) (ys : List B) → AllZip P xs ys → length xs ≡ length ys
all-zip-length P [] [] are = refl
all-zip-length P [] (b ∷ bs) are = absurd are
all-zip-length P (a ∷ xs) [] are = absurd are
all-zip-length P (a ∷ xs) (b ∷ bs) are = ap suc (all-zip-length P xs bs are.1)

pub all-zip-of : {A B : Type 0} (P : A → B → Type 0) (xs : List A) (ys : List B) (d : A) (e : B) → length xs ≡ length ys
    → ((j : ℕ) → j < length xs → P (get_or xs j d) (get_or ys j e)) → AllZip P xs ys
all-zip-of P [] [] d e same each = tt
all-zip-of P [] (b ∷ bs) d e same each = absurd (omega (arith, same))
all-zip-of P (a ∷ xs) [] d e same each = absurd (omega (arith, same))
all-zip-of P (a ∷ xs) (b ∷ bs) d e same each = (each 0 (omega arith), all-zip-of P xs bs d e (omega (arith, same)) (λ j below. each (suc j) (omega (arith, below))))

-- a list that is written whole comes back as it was written
pub refill-all : {X : Type 0} (n : ℕ) (xs ws : List X) → length ws ≡ n → refill n xs ws ≡ ws
refill-all n xs ws size = ap (λ (k : ℕ). take k (ws ++ drop (length ws) xs)) (sym size) ∙ take-append_seam ws (drop (length ws) xs)

-- ---- one more slice

makes-more : (seq : SeqState) (coding : PicCoding) (m : ℕ) (slices tos : List Slice) (steps : List (List Step)) (from to : Slice) (ss : List Step)
    → MakeSlices seq coding m slices tos steps → MakeSlice seq coding m from to ss → MakeSlices seq coding m (slices ++ from ∷ []) (tos ++ to ∷ []) (steps ++ ss ∷ [])
makes-more seq coding m [] [] [] from to ss are is = (is, tt)
makes-more seq coding m [] [] (t ∷ ts) from to ss are is = absurd are
makes-more seq coding m [] (t ∷ ts) steps from to ss are is = absurd are
makes-more seq coding m (s ∷ slices) [] steps from to ss are is = absurd are
makes-more seq coding m (s ∷ slices) (t ∷ tos) [] from to ss are is = absurd are
makes-more seq coding m (s ∷ slices) (t ∷ tos) (x ∷ steps) from to ss are is = (are.0, makes-more seq coding m slices tos steps from to ss are.1 is)

none-sized : (seq : SeqState) (coding : PicCoding) (m : ℕ) (size : VersionSize) → size ≡ record { bytes = 0; distortion = 0 } → IsSized seq coding [] m size
none-sized seq coding m size is = record {
  tos = [];
  steps = [];
  makes = tt;
  count = 0;
  bytes = refl;
  few = omega arith;
  counted = ap (λ (s : VersionSize). s.bytes) is;
  small = omega arith;
  distortion = ap (λ (s : VersionSize). s.distortion) is;
}

pub one-more-sized : (seq : SeqState) (coding : PicCoding) (slices : List Slice) (m : ℕ) (from : Slice) (count : SliceCount) (before size : VersionSize) → IsSized seq coding slices m before
    → IsCountedSlice seq coding m from count → size.bytes ≡ (before.bytes + count.bytes) % 2 ^ 64 → size.distortion ≡ (before.distortion + count.distortion) % 2 ^ 64
    → IsSized seq coding (slices ++ from ∷ []) m size
one-more-sized seq coding slices m from count before size was is bytes distortion =
    let written : flat_map (written_whole_slice coding) (was.tos ++ is.to ∷ []) ≡ flat_map (written_whole_slice coding) was.tos ++ flat_map (written_whole_slice coding) (is.to ∷ []) =
    flat_map-append (written_whole_slice coding) was.tos (is.to ∷ []) in
    let one : length (flat_map (written_whole_slice coding) (is.to ∷ [])) ≡ length (written_whole_slice coding is.to) + 0 = length-append (written_whole_slice coding is.to) [] in
    let sums : sum_by distortion_of (was.steps ++ is.steps ∷ []) ≡ sum_by distortion_of was.steps + sum_by distortion_of (is.steps ∷ []) =
    sum_by-append distortion_of was.steps (is.steps ∷ []) in
    let last : sum_by distortion_of (is.steps ∷ []) ≡ distortion_of is.steps + 0 = sum_by-cons distortion_of is.steps [] in
    let size_of_slice : Slice → ℕ = λ s. length s.macroblocks in
    let columns : sum_by size_of_slice (slices ++ from ∷ []) ≡ sum_by size_of_slice slices + sum_by size_of_slice (from ∷ []) = sum_by-append size_of_slice slices (from ∷ []) in
    let here : sum_by size_of_slice (from ∷ []) ≡ length from.macroblocks + 0 = sum_by-cons size_of_slice from [] in
    record {
      tos = was.tos ++ is.to ∷ [];
      steps = was.steps ++ is.steps ∷ [];
      makes = makes-more seq coding m slices was.tos was.steps from is.to is.steps was.makes is.makes;
      count = was.count + count.bytes;
      bytes = omega (arith, was.bytes, is.bytes, ap length written, one, length-append (flat_map (written_whole_slice coding) was.tos) (flat_map (written_whole_slice coding) (is.to ∷ [])));
      few = omega (arith, was.few, is.few, length-append slices (from ∷ []));
      counted = omega (arith, bytes, was.counted);
      small = omega (arith, was.small, is.small, is.distortion, sums, last, columns, here);
      distortion = omega (arith, distortion, was.distortion, is.distortion, sums, last);
    }

-- ---- before the first slice

pub none-all : (seq : SeqState) (coding : PicCoding) (coarser : List ℕ) → AreSized seq coding [] coarser (replicate (length coarser) (first_size 0))
none-all seq coding [] = tt
none-all seq coding (m ∷ ms) = (none-sized seq coding m (first_size 0) refl, none-all seq coding ms)

one-behind : (n : ℕ) → replicate n (first_size 0) ++ first_size 0 ∷ [] ≡ replicate (suc n) (first_size 0)
one-behind zero = refl
one-behind (suc n) = ap (λ (xs : List VersionSize). first_size 0 ∷ xs) (one-behind n)

pub one-more-none : (n : ℕ) → replicate n (first_size 0) ++ first_size 0 ∷ [] ≡ replicate (n + 1) (first_size 0)
one-more-none n = one-behind n ∙ ap (λ (k : ℕ). replicate k (first_size 0)) (sym (add-one n))
