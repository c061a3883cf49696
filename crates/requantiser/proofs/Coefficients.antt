-- The coefficients of a block, one after the other.
use Rattle.std.proofs.Common.{◌≡◌, ℕ, zero, suc, ◌+◌, ◌<◌, ◌≤◌, ℤ, pos, unsigned_abs, ◌⊎◌, List, [], ◌∷◌, Bool, true, false, refl, sym, ◌∙◌, ap, subst, inl, inr, length, get_or, arith}
use Rattle.std.specs.Prelude.{replicate, slice_set, int_div, ◌*ℤ◌, ◌+ℤ◌}
use Rattle.std.proofs.lemmas.Bool.{cases_eq, cases_order, cases_lt}
use Rattle.std.proofs.lemmas.Int.{ints}
use Rattle.std.proofs.lemmas.List.{length-set, get_or-set_same, get_or-set_other}
use Rattle.quant_math.specs.Levels.{coefficient_of, saturation_of}
use Rattle.syntax_types.specs.declared.block.Block.{Block}
use Rattle.syntax_types.specs.declared.block.BlockWay.{BlockWay}
use Rattle.syntax_types.specs.declared.block.RunLevel.{RunLevel}
use Rattle.syntax_types.specs.declared.picture.PicCoding.{PicCoding}
use Rattle.syntax_types.specs.declared.picture.SeqState.{SeqState}
use Rattle.requantiser.specs.Levels.{coefficient_at, level_at, scan_place, scale_of, weight_at}
use Rattle.requantiser.specs.Private.Shapes.{AreCoefficients}
use Rattle.requantiser.proofs.Blocks.{level_from, level_here, level_there, level_before, zero_product}
use Rattle.requantiser.proofs.Scans.{index_of, are_others, one_place}

product : (weight scale : ℕ) → (pos 2 *ℤ pos 0 +ℤ pos 0) *ℤ pos weight *ℤ pos scale ≡ pos 0
product weight scale =
    let first : (pos 2 *ℤ pos 0 +ℤ pos 0) *ℤ pos weight ≡ pos 0 = zero_product weight in
    ap (λ (z : ℤ). z *ℤ pos scale) first ∙ zero_product scale

-- the coefficient of the level 0 is 0
pub coefficient_of-zero : (weight scale : ℕ) (intra : Bool) → coefficient_of (pos 0) weight scale intra ≡ pos 0
coefficient_of-zero weight scale true = ap (λ (z : ℤ). saturation_of (int_div z (pos 32))) (product weight scale)
coefficient_of-zero weight scale false = ap (λ (z : ℤ). saturation_of (int_div z (pos 32))) (product weight scale)

module _ (seq : SeqState) (coding : PicCoding) (way : BlockWay) (code : ℕ) (block : Block) where
  abbrev pub coefficient : ℤ → ℕ → ℤ
  coefficient level place = coefficient_of level (weight_at seq coding way.intra place) (scale_of coding code) way.intra

  -- the raster index of a place, by the picture's scan
  abbrev raster : ℕ → ℕ
  raster p = index_of coding.alternate_scan p

  -- the coefficients before a place stand in a list, by raster index; the levels of these pairs follow from that place on
  pub record StandSoFar (numbers : List ℤ) (place : ℕ) (pairs : List RunLevel) : Type 0 where
    pub all : length numbers ≡ 64
    pub small : AreCoefficients numbers
    pub before : (p : ℕ) → p < place → p < 64 → get_or numbers (raster p) (pos 0) ≡ coefficient_at seq coding way code block p
    pub behind : (p : ℕ) → place ≤ p → p < 64 → get_or numbers (raster p) (pos 0) ≡ pos 0
    pub levels : (p : ℕ) → place ≤ p → level_at way block p ≡ level_from place pairs p

  pub one_more_coefficient : (numbers : List ℤ) (place : ℕ) (pair : RunLevel) (pairs : List RunLevel) (number : ℤ) → place + pair.run < 64
      → number ≡ coefficient pair.level (place + pair.run) → unsigned_abs number ≤ 2048
      → StandSoFar numbers place (pair ∷ pairs) → StandSoFar (slice_set numbers (raster (place + pair.run)) number) (place + pair.run + 1) pairs
  one_more_coefficient numbers place pair pairs number within is small so_far = record {
    all = length-set numbers (raster (place + pair.run)) number ∙ so_far.all;
    small = λ i. small_at i (cases_eq i (raster (place + pair.run)));
    before = λ p below inside. before_at p below inside (cases_order p (place + pair.run));
    behind = λ p above inside. other p inside (λ e. absurd (omega arith)) ∙ so_far.behind p (omega arith) inside;
    levels = λ p above. so_far.levels p (omega arith) ∙ level_there place p pair pairs (λ e. absurd (omega arith));
  }
    where
      new : List ℤ
      new = slice_set numbers (raster (place + pair.run)) number

      at_it : (i : ℕ) → i ≡ raster (place + pair.run) → get_or new i (pos 0) ≡ number
      at_it i here =
          let inside = are_others coding.alternate_scan (place + pair.run) within in
          ap (λ n. get_or new n (pos 0)) here ∙ get_or-set_same numbers (raster (place + pair.run)) number (pos 0) (omega (arith, so_far.all, inside.index_within))

      other : (p : ℕ) → p < 64 → (p ≡ place + pair.run → ⊥) → get_or new (raster p) (pos 0) ≡ get_or numbers (raster p) (pos 0)
      other p inside there =
          get_or-set_other numbers (raster (place + pair.run)) (raster p) number (pos 0) (λ e. there (one_place coding.alternate_scan p (place + pair.run) inside within e))

      small_at : (i : ℕ) → (i ≡ raster (place + pair.run)) ⊎ (i ≡ raster (place + pair.run) → ⊥) → unsigned_abs (get_or new i (pos 0)) ≤ 2048
      small_at i (inl here) = subst (λ (z : ℤ). unsigned_abs z ≤ 2048) (sym (at_it i here)) small
      small_at i (inr there) = subst (λ (z : ℤ). unsigned_abs z ≤ 2048) (sym (get_or-set_other numbers (raster (place + pair.run)) i number (pos 0) there)) (so_far.small i)

      between : (p : ℕ) → p < place + pair.run → p < 64 → (p < place) ⊎ (place ≤ p) → get_or numbers (raster p) (pos 0) ≡ coefficient_at seq coding way code block p
      between p below inside (inl early) = so_far.before p early inside
      between p below inside (inr late) =
          let none : level_at way block p ≡ pos 0 = so_far.levels p late ∙ level_there place p pair pairs (λ e. absurd (omega arith)) ∙ level_before (place + pair.run + 1) p pairs (omega arith) in
          so_far.behind p late inside ∙ sym (ap (λ level. coefficient level p) none ∙ coefficient_of-zero (weight_at seq coding way.intra p) (scale_of coding code) way.intra)

      before_at : (p : ℕ) → p < place + pair.run + 1 → p < 64 → (p ≡ place + pair.run) ⊎ ((p < place + pair.run) ⊎ (place + pair.run < p))
          → get_or new (raster p) (pos 0) ≡ coefficient_at seq coding way code block p
      before_at p below inside (inl here) =
          let level : level_at way block p ≡ pair.level = so_far.levels p (omega arith) ∙ level_here place p pair pairs here in
          at_it (raster p) (ap raster here) ∙ is ∙ ap (coefficient pair.level) (sym here) ∙ ap (λ level. coefficient level p) (sym level)
      before_at p below inside (inr (inl earlier)) = other p inside (λ e. absurd (omega arith)) ∙ between p earlier inside (cases_lt p place)
      before_at p below inside (inr (inr above)) = absurd (omega arith)

  -- behind the last pair all coefficients stand
  pub all_coefficients : (numbers : List ℤ) (place : ℕ) → StandSoFar numbers place [] → (index : ℕ) → index < 64
      → get_or numbers index (pos 0) ≡ coefficient_at seq coding way code block (scan_place coding.alternate_scan index)
  all_coefficients numbers place so_far index below =
      let other = are_others coding.alternate_scan index below in
      ap (λ n. get_or numbers n (pos 0)) (sym other.index) ∙ by_place (scan_place coding.alternate_scan index) other.place_within (cases_lt (scan_place coding.alternate_scan index) place)
    where
      by_place : (p : ℕ) → p < 64 → (p < place) ⊎ (place ≤ p) → get_or numbers (raster p) (pos 0) ≡ coefficient_at seq coding way code block p
      by_place p inside (inl early) = so_far.before p early inside
      by_place p inside (inr late) =
          so_far.behind p late inside ∙ sym (ap (λ level. coefficient level p) (so_far.levels p late) ∙ coefficient_of-zero (weight_at seq coding way.intra p) (scale_of coding code) way.intra)

  -- before the first one all stand that there are
  pub no_coefficients : (numbers : List ℤ) (place : ℕ) → length numbers ≡ 64 → ((p : ℕ) → get_or numbers p (pos 0) ≡ pos 0) → place ≤ 1
      → ((p : ℕ) → level_at way block p ≡ level_from place block.pairs.items p) → StandSoFar numbers place block.pairs.items
  no_coefficients numbers place all zeros few levels = record {
    all = all;
    small = λ i. subst (λ (z : ℤ). unsigned_abs z ≤ 2048) (sym (zeros i)) (omega arith);
    before = λ p below inside. zeros (raster p) ∙ sym (ap (λ level. coefficient level p) (levels p ∙ level_before place p block.pairs.items below)
        ∙ coefficient_of-zero (weight_at seq coding way.intra p) (scale_of coding code) way.intra);
    behind = λ p above inside. zeros (raster p);
    levels = λ p above. levels p;
  }

-- a list of zeros has nothing else
pub all_zeros : (n p : ℕ) → get_or (replicate n (pos 0)) p (pos 0) ≡ pos 0
all_zeros zero p = refl
all_zeros (suc n) zero = refl
all_zeros (suc n) (suc p) = all_zeros n p
