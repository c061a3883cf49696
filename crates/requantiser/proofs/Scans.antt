-- Raster indices of a block, and the places of the scan at which they stand.
use Rattle.std.proofs.Common.{◌≡◌, ◌<◌, ℕ, Bool, true, false, refl, sym, ◌∙◌, ap, ltb}
use Rattle.std.specs.Prelude.{◌==◌, ◌&&◌, slice_index}
use Rattle.std.specs.List.{list_all, range_with_len}
use Rattle.std.proofs.lemmas.Bool.{and_parts, eqb-true}
use Rattle.std.proofs.lemmas.Bool.Decides.{Decides-ltb}
use Rattle.quant_math.specs.Scans.{scan_order}
use Rattle.requantiser.specs.Levels.{scan_place}
use Rattle.requantiser.proofs.Ranges.{number_passes}

-- the raster index of a place of the scan
abbrev pub index_of : Bool → ℕ → ℕ
index_of alternate place = slice_index (scan_order alternate) place

abbrev test : Bool → ℕ → Bool
test alternate n = (ltb (index_of alternate n) 64 && ltb (scan_place alternate n) 64)
    && ((scan_place alternate (index_of alternate n) == n) && (index_of alternate (scan_place alternate n) == n))

passes : (alternate : Bool) → list_all (test alternate) (range_with_len 0 64) ≡ true
passes false = refl
passes true = refl

-- each number below 64 is the place of one index, and the index of one place
pub record AreOthers (alternate : Bool) (n : ℕ) : Type 0 where
  pub index_within : index_of alternate n < 64
  pub place_within : scan_place alternate n < 64
  pub place : scan_place alternate (index_of alternate n) ≡ n
  pub index : index_of alternate (scan_place alternate n) ≡ n

pub are_others : (alternate : Bool) (n : ℕ) → n < 64 → AreOthers alternate n
are_others alternate n below =
    let (withins, equals) = and_parts _ _ (number_passes (test alternate) 64 n below (passes alternate)) in
    let (index, place) = and_parts _ _ withins in
    let (there, back) = and_parts _ _ equals in
    record {
      index_within = (Decides-ltb (index_of alternate n) 64).0 index;
      place_within = (Decides-ltb (scan_place alternate n) 64).0 place;
      place = eqb-true _ _ there;
      index = eqb-true _ _ back;
    }

-- two places with the same index are the same
pub one_place : (alternate : Bool) (a b : ℕ) → a < 64 → b < 64 → index_of alternate a ≡ index_of alternate b → a ≡ b
one_place alternate a b first second same =
    let left = are_others alternate a first in
    let right = are_others alternate b second in
    sym left.place ∙ ap (scan_place alternate) same ∙ right.place
