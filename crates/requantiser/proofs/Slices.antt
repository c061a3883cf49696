-- What the walk makes of a slice is the slice under coarser codes, and the only one.
use Rattle.std.proofs.Common.{◌≡◌, ℕ, zero, suc, ◌+◌, ◌<◌, ◌≤◌, Option, Some, None, List, [], ◌∷◌, Bool, true, false, refl, sym, ◌∙◌, ap, ap₂, subst, ◌⊎◌, inl, inr, arith, unwrap_or}
use Rattle.std.specs.Prelude.{◌&&◌, not, nat_lt, nat_le, option_and_then, if◌then◌else◌}
use Rattle.std.specs.Option.{option_map_or}
use Rattle.std.specs.List.{AllByRecursion, sum_by}
use Rattle.std.proofs.lemmas.Bool.{cases_order, le-leb, lt-leb, lt-ltb, le-ltb}
use Rattle.std.proofs.lemmas.List.Sums.{sum_by-cons}
use Rattle.syntax_types.specs.declared.macroblock.Macroblock.{Macroblock}
use Rattle.syntax_types.specs.declared.picture.PicCoding.{PicCoding}
use Rattle.syntax_types.specs.declared.picture.SeqState.{SeqState}
use Rattle.syntax_types.specs.declared.slice.Slice.{Slice}
use Rattle.picture_grammar.specs.Picture.{first_column}
use Rattle.requantiser.specs.Macroblocks.{IsCoarserAt, is_coded_without_motion}
use Rattle.requantiser.specs.Places.{item_at}
use Rattle.requantiser.specs.Slices.{macroblock_at, end_column, is_inner, code_before, IsCoarserSlice}
use Rattle.requantiser.specs.Private.Shapes.{HasShape}
use Rattle.requantiser.specs.Private.Walk.{
  mapped_code,
  is_none,
  are_empty,
  with_blocks,
  kept_blocks,
  coarsened_blocks,
  coarsened_macroblock,
  coarsened_macroblocks,
  coarsened_slice,
}
use Rattle.requantiser.proofs.MappedCodes.{mapped_code-is, one_mapped}
use Rattle.requantiser.proofs.Macroblocks.{behind_skipped, SameButSkipped, coarsened_macroblock-is, one_coarser_at}
use Rattle.requantiser.proofs.Places.{item_at-here, item_at-there, item_at-before, BothOrNone, same_items}

abbrev skipped_of : Option Macroblock → ℕ
skipped_of o = option_map_or (λ m. m.skipped_before) o 0

abbrev pub gap_of : Macroblock → ℕ
gap_of m = m.skipped_before

-- ---- the code in force before a column, from a macroblock on

abbrev pub code_from : ℕ → ℕ → List Macroblock → ℕ → ℕ
code_from code start [] column = code
code_from code start (m ∷ ms) column = if nat_le column (start + gap_of m) then code else code_from (unwrap_or m.code code) (start + gap_of m + 1) ms column

pub code_from-up_to : (code start : ℕ) (m : Macroblock) (ms : List Macroblock) (column : ℕ) → column ≤ start + gap_of m → code_from code start (m ∷ ms) column ≡ code
code_from-up_to code start m ms column within = rw (le-leb column (start + gap_of m) within) refl

pub code_from-behind : (code start : ℕ) (m : Macroblock) (ms : List Macroblock) (column : ℕ) → start + gap_of m < column
    → code_from code start (m ∷ ms) column ≡ code_from (unwrap_or m.code code) (start + gap_of m + 1) ms column
code_from-behind code start m ms column behind = rw (lt-leb column (start + gap_of m) behind) refl

code_from-start : (code start : ℕ) (ms : List Macroblock) (column : ℕ) → column ≤ start → code_from code start ms column ≡ code
code_from-start code start [] column within = refl
code_from-start code start (m ∷ ms) column within = code_from-up_to code start m ms column (omega arith)

abbrev code_of : Option Macroblock → ℕ → ℕ
code_of o code = unwrap_or (option_and_then (λ m. m.code) o) code

code_from-next : (code start : ℕ) (ms : List Macroblock) (column : ℕ)
    → code_from code start ms (suc column) ≡ code_of (item_at gap_of start ms column) (code_from code start ms column)
code_from-next code start [] column = refl
code_from-next code start (m ∷ ms) column = by_order (code_from-next (unwrap_or m.code code) (start + gap_of m + 1) ms column) (cases_order column (start + gap_of m))
  where
    by_order : (code_from (unwrap_or m.code code) (start + gap_of m + 1) ms (suc column)
        ≡ code_of (item_at gap_of (start + gap_of m + 1) ms column) (code_from (unwrap_or m.code code) (start + gap_of m + 1) ms column))
        → (column ≡ start + gap_of m) ⊎ ((column < start + gap_of m) ⊎ (start + gap_of m < column))
        → code_from code start (m ∷ ms) (suc column) ≡ code_of (item_at gap_of start (m ∷ ms) column) (code_from code start (m ∷ ms) column)
    by_order rest (inl here) =
        code_from-behind code start m ms (suc column) (omega arith)
        ∙ code_from-start (unwrap_or m.code code) (start + gap_of m + 1) ms (suc column) (omega arith)
        ∙ sym (ap₂ code_of (item_at-here gap_of start column m ms here) (code_from-up_to code start m ms column (omega arith)))
    by_order rest (inr (inl before)) =
        code_from-up_to code start m ms (suc column) (omega arith)
        ∙ sym (ap₂ code_of (item_at-there gap_of start column m ms (λ e. absurd (omega arith)) ∙ item_at-before gap_of (start + gap_of m + 1) column ms (omega arith))
        (code_from-up_to code start m ms column (omega arith)))
    by_order rest (inr (inr behind)) =
        code_from-behind code start m ms (suc column) (omega arith) ∙ rest
        ∙ sym (ap₂ code_of (item_at-there gap_of start column m ms (λ e. absurd (omega arith))) (code_from-behind code start m ms column behind))

pub code_before-is : (slice : Slice) (column : ℕ) → code_before slice column ≡ code_from slice.code 0 slice.macroblocks column
code_before-is slice zero = sym (code_from-start slice.code 0 slice.macroblocks 0 (omega arith))
code_before-is slice (suc column) = ap (code_of (macroblock_at slice column)) (code_before-is slice column) ∙ sym (code_from-next slice.code 0 slice.macroblocks column)

-- ---- first and last macroblocks

-- a test for inner columns fits these macroblocks from a column on, of which the first may be the slice's first
abbrev pub FitsInner : (ℕ → Bool) → Bool → ℕ → List Macroblock → Type 0
FitsInner inner first start [] = Unit {0}
FitsInner inner first start (m ∷ ms) = (inner (start + gap_of m) ≡ (not first && not (is_none ms))) × FitsInner inner false (start + gap_of m + 1) ms

fits_behind : (inner : ℕ → Bool) (end first_at start : ℕ) (ms : List Macroblock) → ((column : ℕ) → inner column ≡ (nat_lt first_at column && nat_lt (column + 1) end))
    → first_at < start → end ≡ start + sum_by (λ m. m.skipped_before + 1) ms → FitsInner inner false start ms
fits_behind inner end first_at start [] is behind ends = tt
fits_behind inner end first_at start (m ∷ ms) is behind ends = (
  is (start + gap_of m) ∙ ap₂ (λ a b. a && b) (lt-ltb first_at (start + gap_of m) (omega arith)) (last ms (omega (arith, sum_by-cons (λ m. m.skipped_before + 1) m ms))),
  fits_behind inner end first_at (start + gap_of m + 1) ms is (omega arith) (omega (arith, sum_by-cons (λ m. m.skipped_before + 1) m ms)),
)
  where
    last : (ms : List Macroblock) → end ≡ start + gap_of m + 1 + sum_by (λ m. m.skipped_before + 1) ms → nat_lt (start + gap_of m + 1) end ≡ not (is_none ms)
    last [] ends = le-ltb (start + gap_of m + 1) end (omega arith)
    last (n ∷ ms) ends = lt-ltb (start + gap_of m + 1) end (omega (arith, sum_by-cons (λ m. m.skipped_before + 1) n ms))

-- the inner macroblocks of a slice are so
pub fits_slice : (slice : Slice) → FitsInner (is_inner slice) true 0 slice.macroblocks
fits_slice slice = by_macroblocks slice.macroblocks refl
  where
    by_macroblocks : (ms : List Macroblock) → ms ≡ slice.macroblocks → FitsInner (is_inner slice) true 0 ms
    by_macroblocks [] is = tt
    by_macroblocks (m ∷ ms) is = (
      ap (λ b. b && nat_lt (0 + gap_of m + 1) (end_column slice)) (le-ltb (first_column slice.macroblocks) (0 + gap_of m) (omega (arith, ap first_column (sym is)))),
      fits_behind (is_inner slice) (end_column slice) (first_column slice.macroblocks) (0 + gap_of m + 1) ms (λ column. refl) (omega (arith, ap first_column (sym is)))
          (ap (sum_by (λ m. m.skipped_before + 1)) (sym is) ∙ sum_by-cons (λ m. m.skipped_before + 1) m ms ∙ ap (λ n. n + sum_by (λ m. m.skipped_before + 1) ms) (omega arith)),
    )

-- ---- the walk over a slice's macroblocks

module _ (seq : SeqState) (coding : PicCoding) (m : ℕ) where
  -- what stands at an address, by equal things
  pub at_same : (inner inner' : Bool) (code code' before before' : ℕ) (from from' to to' : Option Macroblock)
      → inner ≡ inner' → code ≡ code' → before ≡ before' → from ≡ from' → to ≡ to'
      → IsCoarserAt seq coding m inner code before from to → IsCoarserAt seq coding m inner' code' before' from' to'
  at_same inner inner' code code' before before' from from' to to' i c b f t at =
      subst (λ x. IsCoarserAt seq coding m x code' before' from' to') i
      (subst (λ x. IsCoarserAt seq coding m inner x before' from' to') c
      (subst (λ x. IsCoarserAt seq coding m inner code x from' to') b
      (subst (λ x. IsCoarserAt seq coding m inner code before x to') f
      (subst (λ x. IsCoarserAt seq coding m inner code before from x) t at))))

  -- nothing stands where nothing stood
  nothing : (inner : Bool) (code before : ℕ) (from to : Option Macroblock) → from ≡ None → to ≡ None → IsCoarserAt seq coding m inner code before from to
  nothing inner code before from to f t = at_same inner inner code code before before None from None to refl refl refl (sym f) (sym t) tt

  -- a macroblock of the coarser picture stands behind the skipped ones and those that were skipped before
  pub gap-walk : (inner : Bool) (code before skipped : ℕ) (from to : Macroblock) → coarsened_macroblock seq coding m inner code before skipped from ≡ Some to → to.skipped_before ≡ skipped
  gap-walk inner code before skipped from to made = by_test (is_coded_without_motion from.kind
      && are_empty (coarsened_blocks seq coding from.kind code (mapped_code coding.q_scale_type m code) from.blocks)) inner made
    where
      by_test : (t i : Bool) → elim t [
        | false ↦ Some (with_blocks coding (mapped_code coding.q_scale_type m code) before skipped from
            (coarsened_blocks seq coding from.kind code (mapped_code coding.q_scale_type m code) from.blocks))
        | true ↦ elim i [ true ↦ None | false ↦ Some (with_blocks coding (mapped_code coding.q_scale_type m code) before skipped from (kept_blocks from)) ]
      ] ≡ Some to → to.skipped_before ≡ skipped
      by_test false i made = ap skipped_of (sym made)
      by_test true true made = let e : None ≡ Some to = made in absurd (cc)
      by_test true false made = ap skipped_of (sym made)

  -- the walk skips a macroblock, or makes one
  pub walk-skips : (first : Bool) (code before skipped : ℕ) (from : Macroblock) (later : List Macroblock)
      → coarsened_macroblock seq coding m (not first && not (is_none later)) (unwrap_or from.code code) before (skipped + from.skipped_before) from ≡ None
      → coarsened_macroblocks seq coding m first code before skipped (from ∷ later)
      ≡ coarsened_macroblocks seq coding m false (unwrap_or from.code code) before (skipped + (from.skipped_before + 1)) later
  walk-skips first code before skipped from later made = rw (made, coarsened_macroblocks) refl

  pub walk-makes : (first : Bool) (code before skipped : ℕ) (from to : Macroblock) (later : List Macroblock)
      → coarsened_macroblock seq coding m (not first && not (is_none later)) (unwrap_or from.code code) before (skipped + from.skipped_before) from ≡ Some to
      → coarsened_macroblocks seq coding m first code before skipped (from ∷ later)
      ≡ to ∷ coarsened_macroblocks seq coding m false (unwrap_or from.code code) (unwrap_or to.code before) 0 later
  walk-makes first code before skipped from to later made = rw (made, coarsened_macroblocks) refl

  abbrev walk : Bool → ℕ → ℕ → ℕ → List Macroblock → List Macroblock
  walk first code before skipped ms = coarsened_macroblocks seq coding m first code before skipped ms

  -- what becomes of a macroblock in the walk
  abbrev made_of : Bool → ℕ → ℕ → ℕ → Macroblock → List Macroblock → Option Macroblock
  made_of first code before skipped from later =
      coarsened_macroblock seq coding m (not first && not (is_none later)) (unwrap_or from.code code) before (skipped + from.skipped_before) from

  -- where a list is what the walk makes: its first macroblock isn't before this column
  abbrev pub StartsAt : ℕ → ℕ → ℕ → List Macroblock → Type 0
  StartsAt before start column ys = ((c : ℕ) → c < column → item_at gap_of start ys c ≡ None) × ((c : ℕ) → c ≤ column → code_from before start ys c ≡ before)

  walk-starts : (first : Bool) (code before skipped start : ℕ) (ms : List Macroblock) → StartsAt before start (start + skipped) (walk first code before skipped ms)
  walk-starts first code before skipped start [] = (λ c below. refl, λ c within. refl)
  walk-starts first code before skipped start (from ∷ later) =
      by_made (walk-starts false (unwrap_or from.code code) before (skipped + (from.skipped_before + 1)) start later) (made_of first code before skipped from later) refl
    where
      by_made : StartsAt before start (start + (skipped + (from.skipped_before + 1))) (walk false (unwrap_or from.code code) before (skipped + (from.skipped_before + 1)) later)
          → (made : Option Macroblock) → made ≡ made_of first code before skipped from later → StartsAt before start (start + skipped) (walk first code before skipped (from ∷ later))
      by_made rest None is = subst (StartsAt before start (start + skipped)) (sym (walk-skips first code before skipped from later (sym is)))
          (λ c below. rest.0 c (omega arith), λ c within. rest.1 c (omega arith))
      by_made rest (Some to) is =
          let gap : gap_of to ≡ skipped + from.skipped_before = gap-walk (not first && not (is_none later)) (unwrap_or from.code code) before (skipped + from.skipped_before) from to (sym is) in
          subst (StartsAt before start (start + skipped)) (sym (walk-makes first code before skipped from to later (sym is))) (
            λ c below. item_at-there gap_of start c to _ (λ e. absurd (omega arith)) ∙ item_at-before gap_of (start + gap_of to + 1) c _ (omega arith),
            λ c within. code_from-up_to before start to _ c (omega arith),
          )

  -- what must stand at a column, where these macroblocks follow in the source from a place on, and those in the coarser
  -- picture from a start on
  abbrev pub FollowsAt : (ℕ → Bool) → ℕ → ℕ → ℕ → ℕ → ℕ → List Macroblock → List Macroblock → Type 0
  FollowsAt inner code before start place column ms ys =
      IsCoarserAt seq coding m (inner column) (code_from code place ms column) (code_from before start ys column) (item_at gap_of place ms column) (item_at gap_of start ys column)

  -- a macroblock is skipped, and these follow in the coarser picture
  pub follows-skipped : (inner : ℕ → Bool) (flag : Bool) (code before start place column : ℕ) (from : Macroblock) (later ys : List Macroblock)
      → inner (place + gap_of from) ≡ flag → IsCoarserAt seq coding m flag code before (Some from) None → StartsAt before start (place + gap_of from + 1) ys
      → FollowsAt inner (unwrap_or from.code code) before start (place + gap_of from + 1) column later ys
      → (column ≡ place + gap_of from) ⊎ ((column < place + gap_of from) ⊎ (place + gap_of from < column))
      → FollowsAt inner code before start place column (from ∷ later) ys
  follows-skipped inner flag code before start place column from later ys is_inner at starts rest (inl here) =
      at_same flag (inner column) code _ before _ (Some from) _ None _
      (sym (ap inner here ∙ is_inner)) (sym (code_from-up_to code place from later column (omega arith))) (sym (starts.1 column (omega arith)))
      (sym (item_at-here gap_of place column from later here)) (sym (starts.0 column (omega arith))) at
  follows-skipped inner flag code before start place column from later ys is_inner at starts rest (inr (inl below)) =
      nothing _ _ _ _ _ (item_at-there gap_of place column from later (λ h. absurd (omega arith)) ∙ item_at-before gap_of (place + gap_of from + 1) column later (omega arith))
      (starts.0 column (omega arith))
  follows-skipped inner flag code before start place column from later ys is_inner at starts rest (inr (inr behind)) =
      at_same (inner column) (inner column) _ _ _ _ _ _ _ _
      refl (sym (code_from-behind code place from later column behind)) refl (sym (item_at-there gap_of place column from later (λ h. absurd (omega arith)))) refl rest

  -- a macroblock is made, and these follow it in the coarser picture
  pub follows-made : (inner : ℕ → Bool) (flag : Bool) (code before start place column : ℕ) (from to : Macroblock) (later ys : List Macroblock)
      → start + gap_of to ≡ place + gap_of from → inner (place + gap_of from) ≡ flag → IsCoarserAt seq coding m flag code before (Some from) (Some to)
      → FollowsAt inner (unwrap_or from.code code) (unwrap_or to.code before) (place + gap_of from + 1) (place + gap_of from + 1) column later ys
      → (column ≡ place + gap_of from) ⊎ ((column < place + gap_of from) ⊎ (place + gap_of from < column))
      → FollowsAt inner code before start place column (from ∷ later) (to ∷ ys)
  follows-made inner flag code before start place column from to later ys same is_inner at rest (inl here) =
      at_same flag (inner column) code _ before _ (Some from) _ (Some to) _
      (sym (ap inner here ∙ is_inner)) (sym (code_from-up_to code place from later column (omega arith))) (sym (code_from-up_to before start to ys column (omega arith)))
      (sym (item_at-here gap_of place column from later here)) (sym (item_at-here gap_of start column to ys (omega arith))) at
  follows-made inner flag code before start place column from to later ys same is_inner at rest (inr (inl below)) =
      nothing _ _ _ _ _ (item_at-there gap_of place column from later (λ h. absurd (omega arith)) ∙ item_at-before gap_of (place + gap_of from + 1) column later (omega arith))
      (item_at-there gap_of start column to ys (λ h. absurd (omega arith)) ∙ item_at-before gap_of (start + gap_of to + 1) column ys (omega arith))
  follows-made inner flag code before start place column from to later ys same is_inner at rest (inr (inr behind)) =
      at_same (inner column) (inner column) _ _ _ _ _ _ _ _
      refl (sym (code_from-behind code place from later column behind))
      (sym (code_from-behind before start to ys column (omega arith) ∙ ap (λ n. code_from (unwrap_or to.code before) (n + 1) ys column) same))
      (sym (item_at-there gap_of place column from later (λ h. absurd (omega arith))))
      (sym (item_at-there gap_of start column to ys (λ h. absurd (omega arith)) ∙ ap (λ n. item_at gap_of (n + 1) ys column) same))
      rest

  -- at each column stands what must
  walk-is : (inner : ℕ → Bool) (first : Bool) (code before skipped start place column : ℕ) (ms : List Macroblock) → start + skipped ≡ place
      → AllByRecursion HasShape ms → FitsInner inner first place ms → FollowsAt inner code before start place column ms (walk first code before skipped ms)
  walk-is inner first code before skipped start place column [] e shapes fits = tt
  walk-is inner first code before skipped start place column (from ∷ later) e shapes fits =
      by_made (made_of first code before skipped from later) refl
      (walk-is inner false (unwrap_or from.code code) before (skipped + (gap_of from + 1)) start (place + gap_of from + 1) column later (omega arith) shapes.1 fits.1)
      (λ next. walk-is inner false (unwrap_or from.code code) next 0 (place + gap_of from + 1) (place + gap_of from + 1) column later (omega arith) shapes.1 fits.1)
    where
      by_made : (made : Option Macroblock) → made ≡ made_of first code before skipped from later
          → FollowsAt inner (unwrap_or from.code code) before start (place + gap_of from + 1) column later (walk false (unwrap_or from.code code) before (skipped + (gap_of from + 1)) later)
          → ((next : ℕ) → FollowsAt inner (unwrap_or from.code code) next (place + gap_of from + 1) (place + gap_of from + 1) column later (walk false (unwrap_or from.code code) next 0 later))
          → FollowsAt inner code before start place column (from ∷ later) (walk first code before skipped (from ∷ later))
      by_made None is skips makes =
          let at : IsCoarserAt seq coding m (not first && not (is_none later)) code before (Some from) None =
          subst (λ o. IsCoarserAt seq coding m (not first && not (is_none later)) code before (Some from) o) (sym is)
          (coarsened_macroblock-is seq coding m (not first && not (is_none later)) code before (skipped + gap_of from) from shapes.0) in
          let starts = walk-starts false (unwrap_or from.code code) before (skipped + (gap_of from + 1)) start later in
          subst (FollowsAt inner code before start place column (from ∷ later)) (sym (walk-skips first code before skipped from later (sym is)))
          (follows-skipped inner (not first && not (is_none later)) code before start place column from later
          (walk false (unwrap_or from.code code) before (skipped + (gap_of from + 1)) later) fits.0 at
          (λ c below. starts.0 c (omega arith), λ c within. starts.1 c (omega arith)) skips (cases_order column (place + gap_of from)))
      by_made (Some to) is skips makes =
          let gap : gap_of to ≡ skipped + gap_of from = gap-walk (not first && not (is_none later)) (unwrap_or from.code code) before (skipped + gap_of from) from to (sym is) in
          let at : IsCoarserAt seq coding m (not first && not (is_none later)) code before (Some from) (Some to) =
          subst (λ o. IsCoarserAt seq coding m (not first && not (is_none later)) code before (Some from) o) (sym is)
          (coarsened_macroblock-is seq coding m (not first && not (is_none later)) code before (skipped + gap_of from) from shapes.0) in
          subst (FollowsAt inner code before start place column (from ∷ later)) (sym (walk-makes first code before skipped from to later (sym is)))
          (follows-made inner (not first && not (is_none later)) code before start place column from to later
          (walk false (unwrap_or from.code code) (unwrap_or to.code before) 0 later) (omega (arith, gap, e)) fits.0 at (makes (unwrap_or to.code before)) (cases_order column (place + gap_of from)))

  -- the walk makes the slice under coarser codes
  pub coarsened_slice-is : (slice : Slice) → AllByRecursion HasShape slice.macroblocks → IsCoarserSlice seq coding m slice (coarsened_slice seq coding m slice)
  unfolding coarsened_slice
  coarsened_slice-is slice shapes = record {
    row = refl;
    code = mapped_code-is coding.q_scale_type m slice.code;
    info = refl;
    macroblocks = λ column. at_same (is_inner slice column) (is_inner slice column) _ _ _ _ (macroblock_at slice column) (macroblock_at slice column) _ _
        refl (sym (code_before-is slice column)) (sym (code_before-is (coarsened_slice seq coding m slice) column)) refl refl
        (walk-is (is_inner slice) true slice.code (mapped_code coding.q_scale_type m slice.code) 0 0 0 column slice.macroblocks (omega arith) shapes (fits_slice slice));
  }

  -- and no other slice is
  module _ (from a b : Slice) (p : IsCoarserSlice seq coding m from a) (q : IsCoarserSlice seq coding m from b) where
    code_of-same : (o other : Option Macroblock) (code : ℕ) → BothOrNone gap_of SameButSkipped o other → code_of o code ≡ code_of other code
    code_of-same None None code both = refl
    code_of-same None (Some y) code both = absurd both
    code_of-same (Some x) None code both = absurd both
    code_of-same (Some x) (Some y) code both = ap (λ m. let macroblock : Macroblock = m in unwrap_or macroblock.code code) (both 0)

    both_at : (column : ℕ) → code_before a column ≡ code_before b column → BothOrNone gap_of SameButSkipped (macroblock_at a column) (macroblock_at b column)
    both_at column same = one_coarser_at seq coding m (is_inner from column) (code_before from column) (code_before b column)
        (macroblock_at from column) (macroblock_at a column) (macroblock_at b column)
        (subst (λ code. IsCoarserAt seq coding m (is_inner from column) (code_before from column) code (macroblock_at from column) (macroblock_at a column)) same (p.macroblocks column))
        (q.macroblocks column)

    same_codes : (column : ℕ) → code_before a column ≡ code_before b column
    same_codes zero = one_mapped coding.q_scale_type m from.code a.code b.code p.code q.code
    same_codes (suc column) =
        code_of-same (macroblock_at a column) (macroblock_at b column) (code_before a column) (both_at column (same_codes column))
        ∙ ap (code_of (macroblock_at b column)) (same_codes column)

    same_macroblock : (x y : Macroblock) → gap_of x ≡ gap_of y → SameButSkipped x y → x ≡ y
    same_macroblock x y gap same = same (gap_of x) ∙ ap (λ n. behind_skipped n y) gap

    pub one_coarser_slice : a ≡ b
    one_coarser_slice =
        ap (λ n. let s : Slice = record a { row = n } in s) (p.row ∙ sym q.row)
        ∙ ap (λ n. let s : Slice = record a { row = b.row; code = n } in s) (same_codes 0)
        ∙ ap (λ n. let s : Slice = record a { row = b.row; code = b.code; info = n } in s) (p.info ∙ sym q.info)
        ∙ ap (λ n. let s : Slice = record b { macroblocks = n } in s)
        (same_items gap_of SameButSkipped same_macroblock 0 a.macroblocks b.macroblocks (λ column. both_at column (same_codes column)))
