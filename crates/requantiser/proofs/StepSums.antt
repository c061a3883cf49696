-- The distortions of the steps over all slices of a picture add up to the distortion of its version.
use Rattle.std.proofs.Common.{◌≡◌, ℕ, zero, suc, ◌+◌, ◌-◌, ◌*◌, ◌<◌, ◌≤◌, Option, Some, None, List, [], ◌∷◌, ◌++◌, Bool, false, refl, sym, ◌∙◌, ap, ap₂, subst, ◌⊎◌, inl, inr, arith, length, unwrap_or}
use Rattle.std.specs.Prelude.{nat_le, is_some}
use Rattle.std.specs.Option.{option_to_list}
use Rattle.std.specs.List.{sum_by}
use Rattle.std.proofs.lemmas.Bool.{cases_lt, lt-leb}
use Rattle.std.proofs.lemmas.List.Sums.{sum_by-cons}
use Rattle.syntax_types.specs.declared.macroblock.Macroblock.{Macroblock}
use Rattle.syntax_types.specs.declared.picture.PicCoding.{PicCoding}
use Rattle.syntax_types.specs.declared.picture.Picture.{Picture}
use Rattle.syntax_types.specs.declared.picture.SeqState.{SeqState}
use Rattle.syntax_types.specs.declared.slice.Slice.{Slice}
use Rattle.picture_grammar.specs.Picture.{first_column, rows, IsLawful}
use Rattle.picture_grammar.specs.Slice.{columns}
use Rattle.requantiser.specs.declared.version_state.VersionState.{VersionState}
use Rattle.requantiser.specs.Distortion.{has_address, coefficient_of_macroblock, difference_of, distortion_between}
use Rattle.requantiser.specs.Places.{item_at}
use Rattle.requantiser.specs.Slices.{macroblock_at, end_column}
use Rattle.requantiser.specs.Steps.{Step, IsStep, AreSteps, taken_by, made_by, MakeSlices, distortion_of}
use Rattle.requantiser.specs.Version.{IsVersion}
use Rattle.requantiser.specs.Private.Cursor.{AtAddress, at_slice, no_macroblock, at_slices, code_before_place, or_slices, at_rest, AreInOrder}
use Rattle.requantiser.specs.Private.Sums.{sum_from}
use Rattle.requantiser.proofs.Cursors.{found_later, and_false, no_left, open_slice, nothing_before, order_rises, here_is, later_is, in_order}
use Rattle.requantiser.proofs.CursorSteps.{coefficient_is}
use Rattle.requantiser.proofs.Differences.{difference_of-same, difference_of-none, difference_at, distortion-is}
use Rattle.requantiser.proofs.MacroblockSteps.{span_of}
use Rattle.requantiser.proofs.Places.{item_at-there, item_at-before}
use Rattle.requantiser.proofs.Slices.{gap_of}
use Rattle.requantiser.proofs.SpelledPictures.{lawful-walkable}
use Rattle.requantiser.proofs.Steps.{behind-skipped, behind-made, steps-start}
use Rattle.requantiser.proofs.Sums.{sum_from-suc, sum_from-none, sum_from-same}

-- ---- sums

sum_from-split : (f : ℕ → ℕ) (a x y : ℕ) → sum_from f a (x + y) ≡ sum_from f a x + sum_from f (a + x) y
sum_from-split f a zero y =
    let all : zero + y ≡ y = omega arith in
    let start : a + zero ≡ a = omega arith in
    omega (arith, ap (sum_from f a) all, sum_from-none f a, ap (λ n. sum_from f n y) start)
sum_from-split f a (suc x) y =
    let all : suc x + y ≡ suc (x + y) = omega arith in
    let start : a + 1 + x ≡ a + suc x = omega arith in
    omega (arith, ap (sum_from f a) all, sum_from-suc f a (x + y), sum_from-suc f a x, sum_from-split f (a + 1) x y, ap (λ n. sum_from f n y) start)

sum_from-zero : (f : ℕ → ℕ) (a n : ℕ) → ((k : ℕ) → a ≤ k → k < a + n → f k ≡ 0) → sum_from f a n ≡ 0
sum_from-zero f a zero zeros = sum_from-none f a
sum_from-zero f a (suc n) zeros = omega (arith, sum_from-suc f a n, zeros a (omega arith) (omega arith), sum_from-zero f (a + 1) n (λ k low high. zeros k (omega arith) (omega arith)))

-- a macroblock behind a gap, then the others
one_step : (f g : ℕ → ℕ) (p gap n d later : ℕ) → ((b : ℕ) → b < p + gap → f b ≡ 0) → f (p + gap) ≡ d → ((b : ℕ) → p + gap + 1 ≤ b → f b ≡ g b)
    → sum_from g (p + gap + 1) n ≡ later → sum_from f p (gap + 1 + n) ≡ d + later
one_step f g p gap n d later zeros here same rest =
    let count : gap + 1 + n ≡ gap + suc n = omega arith in
    omega (
      arith,
      ap (sum_from f p) count,
      sum_from-split f p gap (suc n),
      sum_from-zero f p gap (λ k low high. zeros k high),
      sum_from-suc f (p + gap) n,
      here,
      sum_from-same f g (p + gap + 1) n (λ k low high. same k low),
      rest,
    )

-- a slice, then the others
one_slice : (f g : ℕ → ℕ) (base first a mid end n d later : ℕ) → a ≡ base + first → mid ≡ base + n → a ≤ mid → mid ≤ end → ((b : ℕ) → b < a → f b ≡ 0)
    → sum_from f base n ≡ d → ((b : ℕ) → mid ≤ b → f b ≡ g b) → sum_from g mid (end - mid) ≡ later → sum_from f a (end - a) ≡ d + later
one_slice f g base first a mid end n d later starts ends some rises zeros here same rest =
    let parts : n ≡ first + (mid - a) = omega (arith, starts, ends, some) in
    let all : end - a ≡ (mid - a) + (end - mid) = omega (arith, some, rises) in
    let start : base + first ≡ a = omega (arith, starts) in
    let middle : a + (mid - a) ≡ mid = omega (arith, some) in
    omega (
      arith,
      ap (sum_from f base) parts,
      sum_from-split f base first (mid - a),
      sum_from-zero f base first (λ k low high. zeros k (omega (arith, high, start))),
      ap (λ x. sum_from f x (mid - a)) start,
      here,
      ap (sum_from f a) all,
      sum_from-split f a (mid - a) (end - mid),
      ap (λ x. sum_from f x (end - mid)) middle,
      sum_from-same f g mid (end - mid) (λ k low high. same k low),
      rest,
    )

-- ---- places

-- nothing stands behind the last macroblock
item_at-past : (start b : ℕ) (ms : List Macroblock) → start + sum_by span_of ms ≤ b → item_at gap_of start ms b ≡ None
item_at-past start b [] past = refl
item_at-past start b (m ∷ ms) past =
    item_at-there gap_of start b m ms (λ h. absurd (omega (arith, past, h, sum_by-cons span_of m ms)))
    ∙ item_at-past (start + gap_of m + 1) b ms (omega (arith, past, sum_by-cons span_of m ms))

abbrev spans : List Step → ℕ
spans steps = sum_by span_of (taken_by steps)

spans-cons : (s : Step) (ss : List Step) → spans (s ∷ ss) ≡ gap_of s.from + 1 + spans ss
spans-cons s ss = sum_by-cons span_of s.from (taken_by ss)

module _ (seq : SeqState) (coding : PicCoding) (m : ℕ) where
  abbrev between : AtAddress → AtAddress → ℕ
  between x y = difference_of (coefficient_of_macroblock seq coding x.code x.macroblock) (coefficient_of_macroblock seq coding y.code y.macroblock)

  nothing_between : (x y : AtAddress) → x ≡ no_macroblock → y ≡ no_macroblock → between x y ≡ 0
  nothing_between x y first second = ap₂ between first second ∙ sym difference_of-none

  abbrev NothingBelow : List Slice → ℕ → Type 0
  NothingBelow slices end = (b : ℕ) → b < end → at_slices seq slices b ≡ no_macroblock

  -- where no macroblock of the slice stands, the slices behind it decide
  empty_is : (code start b : ℕ) (ms : List Macroblock) (slices : List Slice) → item_at gap_of start ms b ≡ None → at_rest seq code start ms slices b ≡ at_slices seq slices b
  empty_is code start b ms slices none = ap (or_slices seq slices b (code_before_place code start ms b)) none

  before_is : (code start b : ℕ) (from : Macroblock) (later : List Macroblock) (slices : List Slice) → b < start + gap_of from → at_rest seq code start (from ∷ later) slices b ≡ at_slices seq slices b
  before_is code start b from later slices below =
      empty_is code start b (from ∷ later) slices (item_at-there gap_of start b from later (λ h. absurd (omega arith)) ∙ item_at-before gap_of (start + gap_of from + 1) b later (omega arith))

  -- ---- the steps of a slice

  -- the distortion of a step whose macroblock is skipped, and of one whose macroblock is made
  skipped-distortion : (code : ℕ) (s : Step) → s.distortion ≡ difference_of (coefficient_of_macroblock seq coding code (Some s.from)) (coefficient_of_macroblock seq coding s.behind.version_code None)
      → between (record { code = code; macroblock = Some s.from }) no_macroblock ≡ s.distortion
  skipped-distortion code s is =
      difference_of-same (coefficient_of_macroblock seq coding code (Some s.from)) (coefficient_of_macroblock seq coding 1 None)
      (coefficient_of_macroblock seq coding code (Some s.from)) (coefficient_of_macroblock seq coding s.behind.version_code None) (λ i index. refl) (λ i index. refl)
      ∙ sym is

  source-distortion : (inner : Bool) (state : VersionState) (s : Step) (made : Option Macroblock) → made ≡ s.made → IsStep seq coding inner state s
      → s.distortion ≡ difference_of (coefficient_of_macroblock seq coding (unwrap_or s.from.code state.source_code) (Some s.from)) (coefficient_of_macroblock seq coding s.behind.version_code made)
  source-distortion inner state s made is step =
      step.difference
      ∙ ap (λ n. difference_of (coefficient_of_macroblock seq coding n (Some s.from)) (coefficient_of_macroblock seq coding s.behind.version_code s.made)) step.state.source_code
      ∙ ap (λ (o : Option Macroblock). difference_of (coefficient_of_macroblock seq coding (unwrap_or s.from.code state.source_code) (Some s.from))
      (coefficient_of_macroblock seq coding s.behind.version_code o)) (sym is)

  -- the difference at an address, where these macroblocks of the source and of the version are left, and then these slices
  abbrev both : ℕ → ℕ → ℕ → ℕ → List Macroblock → List Macroblock → List Slice → List Slice → ℕ → ℕ
  both source version place start ms ys ss ts b = between (at_rest seq source place ms ss b) (at_rest seq version start ys ts b)

  inside : (count i place start : ℕ) (state : VersionState) (steps : List Step) (ss ts : List Slice) → start + state.skipped ≡ place → AreSteps seq coding count i state steps
      → NothingBelow ss (place + spans steps) → NothingBelow ts (place + spans steps)
      → sum_from (both state.source_code state.version_code place start (taken_by steps) (made_by steps) ss ts) place (spans steps) ≡ distortion_of steps
  inside count i place start state [] ss ts e are none-s none-t = sum_from-none (both state.source_code state.version_code place start [] [] ss ts) place
  inside count i place start state (s ∷ rest) ss ts e are none-s none-t =
      by_made (λ next f. inside count (i + 1) (place + gap_of s.from + 1) next s.behind rest ss ts f are.1
      (λ b below. none-s b (omega (arith, below, spans-cons s rest))) (λ b below. none-t b (omega (arith, below, spans-cons s rest)))) s.made refl
    where
      end_is : place + gap_of s.from + 1 + spans rest ≡ place + spans (s ∷ rest)
      end_is = omega (arith, spans-cons s rest)

      source_before : (b : ℕ) → b < place + gap_of s.from → at_rest seq state.source_code place (taken_by (s ∷ rest)) ss b ≡ no_macroblock
      source_before b below = before_is state.source_code place b s.from (taken_by rest) ss below ∙ none-s b (omega (arith, end_is, below))

      source_here : at_rest seq state.source_code place (taken_by (s ∷ rest)) ss (place + gap_of s.from) ≡ record { code = unwrap_or s.from.code state.source_code; macroblock = Some s.from }
      source_here = here_is seq state.source_code place (place + gap_of s.from) s.from (taken_by rest) ss refl

      source_later : (b : ℕ) → place + gap_of s.from + 1 ≤ b → at_rest seq state.source_code place (taken_by (s ∷ rest)) ss b
          ≡ at_rest seq s.behind.source_code (place + gap_of s.from + 1) (taken_by rest) ss b
      source_later b above = later_is seq state.source_code place b s.from (taken_by rest) ss (omega arith)
          ∙ ap (λ n. at_rest seq n (place + gap_of s.from + 1) (taken_by rest) ss b) (sym are.0.state.source_code)

      by_made : ((next : ℕ) → next + s.behind.skipped ≡ place + gap_of s.from + 1
          → sum_from (both s.behind.source_code s.behind.version_code (place + gap_of s.from + 1) next (taken_by rest) (made_by rest) ss ts) (place + gap_of s.from + 1) (spans rest)
          ≡ distortion_of rest)
          → (made : Option Macroblock) → made ≡ s.made
          → sum_from (both state.source_code state.version_code place start (taken_by (s ∷ rest)) (made_by (s ∷ rest)) ss ts) place (spans (s ∷ rest)) ≡ distortion_of (s ∷ rest)
      by_made others None is =
          let behind = behind-skipped s.from s.made state s.behind is are.0.state in
          let starts = steps-start seq coding m count (i + 1) start s.behind rest are.1 in
          let none : (b : ℕ) → b < place + gap_of s.from + 1 → at_rest seq state.version_code start (made_by rest) ts b ≡ no_macroblock =
          λ b below. empty_is state.version_code start b (made_by rest) ts (starts.0 b (omega (arith, behind.skipped, e, below))) ∙ none-t b (omega (arith, end_is, below)) in
          subst (λ o. sum_from (both state.source_code state.version_code place start (taken_by (s ∷ rest)) (option_to_list o ++ made_by rest) ss ts) place (spans (s ∷ rest))
          ≡ distortion_of (s ∷ rest)) is
          (ap (sum_from (both state.source_code state.version_code place start (taken_by (s ∷ rest)) (made_by rest) ss ts) place) (spans-cons s rest)
          ∙ one_step (both state.source_code state.version_code place start (taken_by (s ∷ rest)) (made_by rest) ss ts)
          (both s.behind.source_code s.behind.version_code (place + gap_of s.from + 1) start (taken_by rest) (made_by rest) ss ts)
          place (gap_of s.from) (spans rest) s.distortion (distortion_of rest)
          (λ b below. nothing_between _ _ (source_before b below) (none b (omega arith)))
          (ap₂ between source_here (none (place + gap_of s.from) (omega arith))
          ∙ skipped-distortion (unwrap_or s.from.code state.source_code) s (source-distortion _ state s None is are.0))
          (λ b above. ap₂ between (source_later b above) (ap (λ n. at_rest seq n start (made_by rest) ts b) (sym behind.version_code)))
          (others start (omega (arith, behind.skipped, e)))
          ∙ sym (sum_by-cons (λ (x : Step). x.distortion) s rest))
      by_made others (Some to) is =
          let behind = behind-made s.from to s.made state s.behind is are.0.state in
          let same : start + gap_of to ≡ place + gap_of s.from = omega (arith, behind.placed, e) in
          let next : start + gap_of to + 1 ≡ place + gap_of s.from + 1 = omega (arith, same) in
          subst (λ o. sum_from (both state.source_code state.version_code place start (taken_by (s ∷ rest)) (option_to_list o ++ made_by rest) ss ts) place (spans (s ∷ rest))
          ≡ distortion_of (s ∷ rest)) is
          (ap (sum_from (both state.source_code state.version_code place start (taken_by (s ∷ rest)) (to ∷ made_by rest) ss ts) place) (spans-cons s rest)
          ∙ one_step (both state.source_code state.version_code place start (taken_by (s ∷ rest)) (to ∷ made_by rest) ss ts)
          (both s.behind.source_code s.behind.version_code (place + gap_of s.from + 1) (place + gap_of s.from + 1) (taken_by rest) (made_by rest) ss ts)
          place (gap_of s.from) (spans rest) s.distortion (distortion_of rest)
          (λ b below. nothing_between _ _ (source_before b below)
          (before_is state.version_code start b to (made_by rest) ts (omega (arith, same, below)) ∙ none-t b (omega (arith, end_is, below))))
          (ap₂ between source_here (here_is seq state.version_code start (place + gap_of s.from) to (made_by rest) ts (sym same))
          ∙ sym (source-distortion _ state s (Some to) is are.0
          ∙ ap (λ n. difference_of (coefficient_of_macroblock seq coding (unwrap_or s.from.code state.source_code) (Some s.from))
          (coefficient_of_macroblock seq coding n (Some to))) behind.version_code))
          (λ b above. ap₂ between (source_later b above) (later_is seq state.version_code start b to (made_by rest) ts (omega (arith, same, above))
          ∙ ap₂ (λ n k. at_rest seq n k (made_by rest) ts b) (sym behind.version_code) next))
          (others (place + gap_of s.from + 1) (omega (arith, behind.skipped)))
          ∙ sym (sum_by-cons (λ (x : Step). x.distortion) s rest))

  -- what steps make ends no later than the source
  spans-made : (count i place start : ℕ) (state : VersionState) (steps : List Step) → start + state.skipped ≡ place → AreSteps seq coding count i state steps
      → start + sum_by span_of (made_by steps) ≤ place + spans steps
  spans-made count i place start state [] e are = omega (arith, e)
  spans-made count i place start state (s ∷ rest) e are =
      by_made (λ next f. spans-made count (i + 1) (place + gap_of s.from + 1) next s.behind rest f are.1) s.made refl
    where
      by_made : ((next : ℕ) → next + s.behind.skipped ≡ place + gap_of s.from + 1 → next + sum_by span_of (made_by rest) ≤ place + gap_of s.from + 1 + spans rest)
          → (made : Option Macroblock) → made ≡ s.made → start + sum_by span_of (made_by (s ∷ rest)) ≤ place + spans (s ∷ rest)
      by_made others None is =
          let behind = behind-skipped s.from s.made state s.behind is are.0.state in
          subst (λ o. start + sum_by span_of (option_to_list o ++ made_by rest) ≤ place + spans (s ∷ rest)) is
          (omega (arith, others start (omega (arith, behind.skipped, e)), spans-cons s rest))
      by_made others (Some to) is =
          let behind = behind-made s.from to s.made state s.behind is are.0.state in
          subst (λ o. start + sum_by span_of (option_to_list o ++ made_by rest) ≤ place + spans (s ∷ rest)) is
          (omega (arith, behind.placed, e, others (place + gap_of s.from + 1) (omega (arith, behind.skipped)), spans-cons s rest, sum_by-cons span_of to (made_by rest)))

  -- nor does it begin before it
  first-made : (count i column : ℕ) (state : VersionState) (steps : List Step) → state.skipped ≡ 0 → AreSteps seq coding count i state steps
      → column < first_column (taken_by steps) → item_at gap_of 0 (made_by steps) column ≡ None
  first-made count i column state [] none are below = refl
  first-made count i column state (s ∷ rest) none are below = by_made s.made refl
    where
      by_made : (made : Option Macroblock) → made ≡ s.made → item_at gap_of 0 (made_by (s ∷ rest)) column ≡ None
      by_made None is =
          let behind = behind-skipped s.from s.made state s.behind is are.0.state in
          let starts = steps-start seq coding m count (i + 1) 0 s.behind rest are.1 in
          subst (λ o. item_at gap_of 0 (option_to_list o ++ made_by rest) column ≡ None) is (starts.0 column (omega (arith, behind.skipped, below)))
      by_made (Some to) is =
          let behind = behind-made s.from to s.made state s.behind is are.0.state in
          subst (λ o. item_at gap_of 0 (option_to_list o ++ made_by rest) column ≡ None) is
          (item_at-there gap_of 0 column to (made_by rest) (λ h. absurd (omega (arith, h, below, behind.placed, none)))
          ∙ item_at-before gap_of (0 + gap_of to + 1) column (made_by rest) (omega (arith, below, behind.placed, none)))

  -- ---- slices

  version_below : (ss ts : List Slice) (all : List (List Step)) (from end : ℕ) → MakeSlices seq coding m ss ts all → AreInOrder (columns seq) from end ss → NothingBelow ts from
  version_below [] [] [] from end makes order = λ b below. refl
  version_below [] [] (x ∷ xs) from end makes order = absurd makes
  version_below [] (t ∷ ts) all from end makes order = absurd makes
  version_below (s ∷ ss) [] all from end makes order = absurd makes
  version_below (s ∷ ss) (t ∷ ts) [] from end makes order = absurd makes
  version_below (s ∷ ss) (t ∷ ts) (steps ∷ all) from end (make, makes) (starts, some, others) =
      λ b below. later b below (version_below ss ts all (s.row * columns seq + end_column s) end makes others b (omega (arith, starts, some, below)))
    where
      later : (b : ℕ) → b < from → at_slices seq ts b ≡ no_macroblock → at_slices seq (t ∷ ts) b ≡ no_macroblock
      later b below rest = found_later (has_address seq b) (at_slice seq b) t ts no_macroblock (by_row (cases_lt b (t.row * columns seq))) ∙ rest
        where
          column : ℕ
          column = b - t.row * columns seq

          by_row : (b < t.row * columns seq) ⊎ (t.row * columns seq ≤ b) → has_address seq b t ≡ false
          by_row (inl above) = no_left (nat_le (t.row * columns seq) b) (is_some (macroblock_at t (b - t.row * columns seq))) (lt-leb (t.row * columns seq) b above)
          by_row (inr within) =
              let row : t.row * columns seq ≡ s.row * columns seq = ap (λ n. n * columns seq) make.row in
              let first : first_column (taken_by steps) ≡ first_column s.macroblocks = ap first_column make.taken in
              and_false (nat_le (t.row * columns seq) b) (is_some (macroblock_at t (b - t.row * columns seq)))
              (ap is_some (ap (λ ms. item_at gap_of 0 ms (b - t.row * columns seq)) make.macroblocks
              ∙ first-made (length s.macroblocks) 0 (b - t.row * columns seq) make.start steps make.skipped make.in_order (omega (arith, row, first, starts, below, within))))

  abbrev in_slices : List Slice → List Slice → ℕ → ℕ
  in_slices ss ts b = between (at_slices seq ss b) (at_slices seq ts b)

  all-slices : (ss ts : List Slice) (all : List (List Step)) (a end : ℕ) → MakeSlices seq coding m ss ts all → AreInOrder (columns seq) a end ss
      → sum_from (in_slices ss ts) a (end - a) ≡ sum_by distortion_of all
  all-slices [] [] [] a end makes order =
      let none : end - a ≡ 0 = omega (arith, order) in
      ap (sum_from (in_slices [] []) a) none ∙ sum_from-none (in_slices [] []) a
  all-slices [] [] (x ∷ xs) a end makes order = absurd makes
  all-slices [] (t ∷ ts) all a end makes order = absurd makes
  all-slices (s ∷ ss) [] all a end makes order = absurd makes
  all-slices (s ∷ ss) (t ∷ ts) [] a end makes order = absurd makes
  all-slices (s ∷ ss) (t ∷ ts) (steps ∷ all) a end (make, makes) (starts, some, others) =
      one_slice (in_slices (s ∷ ss) (t ∷ ts)) (in_slices ss ts) base (first_column s.macroblocks) a (base + end_column s) end (spans steps) (distortion_of steps) (sum_by distortion_of all)
      starts (omega (arith, spans_is)) (omega (arith, starts, some)) (order_rises seq ss (base + end_column s) end others)
      (λ b below. nothing_between _ _ (nothing_before seq (s ∷ ss) a end b (starts, some, others) below)
      (version_below (s ∷ ss) (t ∷ ts) (steps ∷ all) a end (make, makes) (starts, some, others) b below))
      (sum_from-same (in_slices (s ∷ ss) (t ∷ ts)) here base (spans steps) (λ b low high. same b low)
      ∙ inside (length s.macroblocks) 0 base base make.start steps ss ts (omega (arith, make.skipped)) make.in_order
      (λ b below. nothing_before seq ss (base + end_column s) end b others (omega (arith, below, spans_is)))
      (λ b below. version_below ss ts all (base + end_column s) end makes others b (omega (arith, below, spans_is))))
      (λ b past. same b (omega (arith, past)) ∙ ap₂ between
      (empty_is make.start.source_code base b (taken_by steps) ss (item_at-past base b (taken_by steps) (omega (arith, past, spans_is))))
      (empty_is make.start.version_code base b (made_by steps) ts (item_at-past base b (made_by steps) (omega (arith, past, spans_is, ends)))))
      (all-slices ss ts all (base + end_column s) end makes others)
      ∙ sym (sum_by-cons distortion_of steps all)
    where
      base : ℕ
      base = s.row * columns seq

      spans_is : spans steps ≡ end_column s
      spans_is = ap (sum_by span_of) make.taken

      ends : base + sum_by span_of (made_by steps) ≤ base + spans steps
      ends = spans-made (length s.macroblocks) 0 base base make.start steps (omega (arith, make.skipped)) make.in_order

      here : ℕ → ℕ
      here b = both make.start.source_code make.start.version_code base base (taken_by steps) (made_by steps) ss ts b

      same : (b : ℕ) → base ≤ b → in_slices (s ∷ ss) (t ∷ ts) b ≡ here b
      same b from =
          let row : t.row * columns seq ≡ s.row * columns seq = ap (λ n. n * columns seq) make.row in
          ap₂ between
          (open_slice seq s ss b from ∙ ap₂ (λ n ms. at_rest seq n (s.row * columns seq) ms ss b) (sym make.source_code) (sym make.taken))
          (open_slice seq t ts b (omega (arith, row, from)) ∙ ap (λ n. at_rest seq t.code n t.macroblocks ts b) row
          ∙ ap₂ (λ n ms. at_rest seq n (s.row * columns seq) ms ts b) make.code make.macroblocks)

-- ---- pictures

pub steps-add-up : (m : ℕ) (from to : Picture) (all : List (List Step)) → IsLawful from → IsVersion m from to → MakeSlices from.seq from.coding m from.slices to.slices all
    → sum_by distortion_of all ≡ distortion_between from to
steps-add-up m from to all lawful version makes =
    let count : ℕ = rows from.seq from.coding * columns from.seq in
    let order : AreInOrder (columns from.seq) 0 (0 + count) from.slices = in_order from.seq from.slices 0 count (lawful-walkable from lawful).slices lawful.covered in
    let end : 0 + count - 0 ≡ count = omega arith in
    sym (all-slices from.seq from.coding m from.slices to.slices all 0 (0 + count) makes order)
    ∙ ap (sum_from (in_slices from.seq from.coding m from.slices to.slices) 0) end
    ∙ sum_from-same (in_slices from.seq from.coding m from.slices to.slices) (difference_at from to) 0 count (λ b low high. at_address b)
    ∙ distortion-is from to
  where
    at_address : (b : ℕ) → in_slices from.seq from.coding m from.slices to.slices b ≡ difference_at from to b
    at_address b = difference_of-same _ _ _ _ (λ i index. sym (coefficient_is from b i index)) (λ i index. sym (coefficient_is to b i index
        ∙ ap (λ (q : SeqState). let at : AtAddress = at_slices q to.slices b in coefficient_of_macroblock q to.coding at.code at.macroblock i index) version.seq
        ∙ ap (λ (c : PicCoding). let at : AtAddress = at_slices from.seq to.slices b in coefficient_of_macroblock from.seq c at.code at.macroblock i index) version.coding))
