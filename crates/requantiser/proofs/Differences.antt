-- Sums of squared differences.
use Rattle.std.proofs.Common.{◌≡◌, ℕ, ℤ, pos, negsuc, ◌*ℤ◌, ◌*◌, ◌^◌, ◌≤◌, refl, sym, ◌∙◌, ap, ap₂, arith}
use Rattle.std.specs.Prelude.{◌-ℤ◌, unsigned_abs}
use Rattle.std.proofs.Math.Nat.{one-mul}
use Rattle.std.proofs.lemmas.Int.{ints, unsigned_abs-mul}
use Rattle.std.proofs.lemmas.Nat.{mul-le}
use Rattle.syntax_types.specs.declared.picture.Picture.{Picture}
use Rattle.picture_grammar.specs.Picture.{rows, IsLawful}
use Rattle.picture_grammar.specs.Slice.{columns}
use Rattle.requantiser.specs.Distortion.{squared_difference, difference_of, coefficient_of_picture, distortion_between}
use Rattle.requantiser.specs.Private.Sums.{sum_from}
use Rattle.requantiser.proofs.SpelledHeads.{columns-few}
use Rattle.requantiser.proofs.SpelledPictures.{lawful-walkable}
use Rattle.requantiser.proofs.Sums.{block_difference, difference_of-blocks, sum_from-same}

-- the difference to 0, either way
from_zero : (z : ℤ) → unsigned_abs (pos 0 -ℤ z) ≡ unsigned_abs (z -ℤ pos 0)
from_zero z =
    let turned : pos 0 -ℤ z ≡ negsuc 0 *ℤ (z -ℤ pos 0) = omega (arith, ints) in
    let one : unsigned_abs (negsuc 0) * unsigned_abs (z -ℤ pos 0) ≡ unsigned_abs (z -ℤ pos 0) = one-mul (unsigned_abs (z -ℤ pos 0)) in
    ap unsigned_abs turned ∙ unsigned_abs-mul (negsuc 0) (z -ℤ pos 0) ∙ one

pub difference_of-same : (f g h k : ℕ → ℕ → ℤ) → ((i index : ℕ) → f i index ≡ h i index) → ((i index : ℕ) → g i index ≡ k i index) → difference_of f g ≡ difference_of h k
difference_of-same f g h k first second =
    sym (difference_of-blocks f g)
    ∙ sum_from-same (block_difference f g) (block_difference h k) 0 6 (λ i low high.
    sum_from-same (λ index. squared_difference (f i index) (g i index)) (λ index. squared_difference (h i index) (k i index)) 0 64
    (λ index low high. ap₂ squared_difference (first i index) (second i index)))
    ∙ difference_of-blocks h k

pub difference_of-flip : (f : ℕ → ℕ → ℤ) → difference_of (λ i index. pos 0) f ≡ difference_of f (λ i index. pos 0)
difference_of-flip f =
    sym (difference_of-blocks (λ i index. pos 0) f)
    ∙ sum_from-same (block_difference (λ i index. pos 0) f) (block_difference f (λ i index. pos 0)) 0 6 (λ i low high.
    sum_from-same (λ index. squared_difference (pos 0) (f i index)) (λ index. squared_difference (f i index) (pos 0)) 0 64
    (λ index low high. ap₂ (λ a b. a * b) (from_zero (f i index)) (from_zero (f i index))))
    ∙ difference_of-blocks f (λ i index. pos 0)

pub difference_of-none : 0 ≡ difference_of (λ i index. pos 0) (λ i index. pos 0)
unfolding difference_of
difference_of-none = refl

-- the difference of two pictures at an address
abbrev pub difference_at : Picture → Picture → ℕ → ℕ
difference_at from to address = difference_of (coefficient_of_picture from address) (coefficient_of_picture to address)

pub distortion-is : (from to : Picture) → sum_from (difference_at from to) 0 (rows from.seq from.coding * columns from.seq) ≡ distortion_between from to
unfolding sum_from distortion_between
distortion-is from to = refl

-- a lawful picture has not so many macroblocks
pub grid_few : (picture : Picture) (height : ℕ) → IsLawful picture → height ≤ 4098 → height ≡ rows picture.seq picture.coding → rows picture.seq picture.coding * columns picture.seq ≤ 2 ^ 19
grid_few picture height lawful few is =
    let high : rows picture.seq picture.coding ≤ 4098 = omega (arith, few, is) in
    let all : rows picture.seq picture.coding * columns picture.seq ≤ 491760 =
    mul-le (rows picture.seq picture.coding) (columns picture.seq) 4098 120 high (columns-few picture.seq (lawful-walkable picture lawful).usable) in
    omega (arith, all)
