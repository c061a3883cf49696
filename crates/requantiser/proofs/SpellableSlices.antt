-- Slices of a version that some bits spell.
use Rattle.std.proofs.Common.{
  ◌≡◌,
  ◌⊎◌,
  ◌+◌,
  ◌-◌,
  ◌<◌,
  ◌≤◌,
  ◌==◌,
  ◌&&◌,
  ℕ,
  min,
  not,
  Option,
  Some,
  None,
  List,
  [],
  ◌∷◌,
  ◌++◌,
  length,
  unwrap_or,
  Bool,
  true,
  false,
  if◌then◌else◌,
  refl,
  sym,
  ◌∙◌,
  ap,
  subst,
  inl,
  inr,
  arith,
  append_assoc,
  append-nil,
}
use Rattle.std.specs.List.{sum_by}
use Rattle.std.proofs.lemmas.Bool.{ne_eqb}
use Rattle.std.proofs.lemmas.List.{length-append}
use Rattle.std.proofs.lemmas.List.Sums.{sum_by-append, sum_by-cons}
use Rattle.syntax_types.specs.declared.macroblock.Macroblock.{Macroblock}
use Rattle.syntax_types.specs.declared.picture.TheConstants.{I_PICTURE}
use Rattle.syntax_types.specs.declared.picture.PicCoding.{PicCoding}
use Rattle.syntax_types.specs.declared.picture.SeqState.{SeqState}
use Rattle.syntax_types.specs.declared.slice.Slice.{Slice}
use Rattle.picture_grammar.specs.Macroblock.{address_increment, most_increment}
use Rattle.picture_grammar.specs.Picture.{first_column, addresses}
use Rattle.picture_grammar.specs.Slice.{columns, columns_left}
use Rattle.picture_laws.specs.Spellable.{IsSpellable, HasSpellableParts, HasSpellableMacroblocks}
use Rattle.requantiser.specs.Macroblocks.{IsCoarserAt}
use Rattle.requantiser.specs.Private.Shapes.{IsWalkable, AreWalkable}
use Rattle.requantiser.specs.Private.Walk.{mapped_code, is_none, coarsened_macroblock, coarsened_macroblocks, coarsened_slice}
use Rattle.requantiser.proofs.Macroblocks.{coarsened_macroblock-is}
use Rattle.requantiser.proofs.Made.{made-fits}
use Rattle.requantiser.proofs.MacroblockSteps.{span_of}
use Rattle.requantiser.proofs.MappedCodes.{mapped_code-is}
use Rattle.requantiser.proofs.Slices.{gap-walk, walk-skips, walk-makes}
use Rattle.requantiser.proofs.SpellableElements.{increment-spelled, code-spelled, no-pattern}
use Rattle.requantiser.proofs.SpellableMacroblocks.{coarser-parts}
use Rattle.requantiser.proofs.SpelledSlices.{IsIncrement, increment_is, most_within}

module _ (coding : PicCoding) where
  -- these macroblocks, the first of which may be that of the slice, are of parts that some bits spell in their place
  abbrev pub AreSpelled : Bool → ℕ → List Macroblock → Type 0
  AreSpelled first left [] = Unit {0}
  AreSpelled first left (m ∷ ms) = HasSpellableParts coding first left m × AreSpelled false (left - span_of m) ms

  module _ (seq : SeqState) where
    abbrev Each : List Macroblock → List Macroblock → Type 0
    Each before ms = (front back : List Macroblock) (m : Macroblock) → ms ≡ front ++ m ∷ back → HasSpellableParts coding (length (before ++ front) == 0) (columns_left seq (before ++ front)) m

    left-behind : (before : List Macroblock) (m : Macroblock) → columns_left seq (before ++ m ∷ []) ≡ columns_left seq before - span_of m
    left-behind before m = omega (arith, sum_by-append span_of before (m ∷ []), sum_by-cons span_of m [])

    later_false : (before : List Macroblock) (m : Macroblock) → (length (before ++ m ∷ []) == 0) ≡ false
    later_false before m = ne_eqb (length (before ++ m ∷ [])) 0 (λ e. absurd (omega (arith, e, length-append before (m ∷ []))))

    from-each : (before ms : List Macroblock) → Each before ms → AreSpelled (length before == 0) (columns_left seq before) ms
    from-each before [] each = tt
    from-each before (m ∷ ms) each = (
      subst (λ (xs : List Macroblock). HasSpellableParts coding (length xs == 0) (columns_left seq xs) m) (append-nil before) (each [] ms m refl),
      subst (λ (n : ℕ). AreSpelled false n ms) (left-behind before m)
          (subst (λ (t : Bool). AreSpelled t (columns_left seq (before ++ m ∷ [])) ms) (later_false before m)
          (from-each (before ++ m ∷ []) ms (λ front back x e.
          subst (λ (xs : List Macroblock). HasSpellableParts coding (length xs == 0) (columns_left seq xs) x) (sym (append_assoc before (m ∷ []) front))
          (each (m ∷ front) back x (ap (λ (xs : List Macroblock). m ∷ xs) e))))),
    )

    to-each : (before ms : List Macroblock) → AreSpelled (length before == 0) (columns_left seq before) ms → Each before ms
    to-each before [] are [] back x e = absurd (let e' : [] ≡ x ∷ back = e in cc)
    to-each before [] are (y ∷ front) back x e = absurd (let e' : [] ≡ y ∷ (front ++ x ∷ back) = e in cc)
    to-each before (m ∷ ms) are [] back x e =
        let same : m ≡ x = (let e' : m ∷ ms ≡ x ∷ back = e in cc) in
        subst (HasSpellableParts coding (length (before ++ []) == 0) (columns_left seq (before ++ []))) same
        (subst (λ (xs : List Macroblock). HasSpellableParts coding (length xs == 0) (columns_left seq xs) m) (sym (append-nil before)) are.0)
    to-each before (m ∷ ms) are (y ∷ front) back x e =
        let same : m ≡ y = (let e' : m ∷ ms ≡ y ∷ (front ++ x ∷ back) = e in cc) in
        let later : ms ≡ front ++ x ∷ back = (let e' : m ∷ ms ≡ y ∷ (front ++ x ∷ back) = e in cc) in
        let all : AreSpelled (length (before ++ m ∷ []) == 0) (columns_left seq (before ++ m ∷ [])) ms =
        subst (λ (t : Bool). AreSpelled t (columns_left seq (before ++ m ∷ [])) ms) (sym (later_false before m)) (subst (λ (n : ℕ). AreSpelled false n ms) (sym (left-behind before m)) are.1) in
        subst (λ (xs : List Macroblock). HasSpellableParts coding (length xs == 0) (columns_left seq xs) x) (append_assoc before (m ∷ []) front ∙ ap (λ (z : Macroblock). before ++ z ∷ front) same)
        (to-each (before ++ m ∷ []) ms all front back x later)

  increment-of : (first : Bool) (left : ℕ) (m : Macroblock) → HasSpellableParts coding first left m → IsIncrement (most_increment coding first left) (span_of m)
  increment-of first left m parts =
      let s : IsSpellable (address_increment (most_increment coding first left)) (m.skipped_before + 1) = parts.increment in
      increment_is (most_increment coding first left) (span_of m) s.bits s.rest s.spelled

  -- further skipped macroblocks before it need as many more columns, and no I-picture
  more-skipped : (first : Bool) (left skipped n : ℕ) → (skipped ≡ 0) ⊎ ((coding.kind == I_PICTURE) ≡ false) → 1 ≤ n → n ≤ most_increment coding first left
      → IsSpellable (address_increment (most_increment coding first (left + skipped))) (skipped + n)
  more-skipped first left skipped n (inl none) low high =
      let same : left ≡ left + skipped = omega (arith, none) in
      increment-spelled (most_increment coding first (left + skipped)) (skipped + n) (omega (arith, low))
      (subst (λ (k : ℕ). skipped + n ≤ most_increment coding first k) same (omega (arith, none, high)))
  more-skipped first left skipped n (inr other) low high =
      let most : most_increment coding first (left + skipped) ≡ left + skipped = ap (λ (b : Bool). if b && not first then min 1 (left + skipped) else left + skipped) other in
      increment-spelled (most_increment coding first (left + skipped)) (skipped + n) (omega (arith, low)) (omega (arith, most, high, most_within coding first left))

not_first : (first other : Bool) → (not first && other) ≡ true → first ≡ false
not_first true other e = absurd (let e' : false ≡ true = e in cc)
not_first false other e = refl

module _ (seq : SeqState) (coding : PicCoding) (m : ℕ) where
  abbrev walk : Bool → ℕ → ℕ → ℕ → List Macroblock → List Macroblock
  walk first code before skipped ms = coarsened_macroblocks seq coding m first code before skipped ms

  abbrev made_of : Bool → ℕ → ℕ → ℕ → Macroblock → List Macroblock → Option Macroblock
  made_of first code before skipped from later =
      coarsened_macroblock seq coding m (not first && not (is_none later)) (unwrap_or from.code code) before (skipped + from.skipped_before) from

  -- a macroblock of the walk, as the relation has it
  abbrev AtOne : Bool → ℕ → ℕ → Macroblock → List Macroblock → Option Macroblock → Type 0
  AtOne first code before from later made = IsCoarserAt seq coding m (not first && not (is_none later)) code before (Some from) made

  at-one : (first : Bool) (code before skipped : ℕ) (from : Macroblock) (later : List Macroblock) (made : Option Macroblock) → IsWalkable from → made ≡ made_of first code before skipped from later
      → AtOne first code before from later made
  at-one first code before skipped from later made walkable is =
      subst (AtOne first code before from later) (sym is) (coarsened_macroblock-is seq coding m (not first && not (is_none later)) code before (skipped + from.skipped_before) from walkable.shape)

  walk-spelled : (first : Bool) (code before skipped left : ℕ) (ms : List Macroblock) → AreSpelled coding first left ms → AreWalkable ms → (skipped ≡ 0) ⊎ ((coding.kind == I_PICTURE) ≡ false)
      → AreSpelled coding first (left + skipped) (walk first code before skipped ms)
  walk-spelled first code before skipped left [] are walkable may = tt
  walk-spelled first code before skipped left (from ∷ later) are walkable may =
      by_made (made_of first code before skipped from later) refl
      (λ other. walk-spelled false (unwrap_or from.code code) before (skipped + (from.skipped_before + 1)) (left - span_of from) later are.1 walkable.1 (inr other))
      (λ to. walk-spelled false (unwrap_or from.code code) (unwrap_or to.code before) 0 (left - span_of from) later are.1 walkable.1 (inl refl))
    where
      increment : IsIncrement (most_increment coding first left) (span_of from)
      increment = increment-of coding first left from are.0

      by_made : (made : Option Macroblock) → made ≡ made_of first code before skipped from later
          → ((coding.kind == I_PICTURE) ≡ false → AreSpelled coding false (left - span_of from + (skipped + (from.skipped_before + 1)))
          (walk false (unwrap_or from.code code) before (skipped + (from.skipped_before + 1)) later))
          → ((to : Macroblock) → AreSpelled coding false (left - span_of from + 0) (walk false (unwrap_or from.code code) (unwrap_or to.code before) 0 later))
          → AreSpelled coding first (left + skipped) (walk first code before skipped (from ∷ later))
      by_made None is skips makes =
          let (mapped, is_mapped, emptied, inner) = at-one first code before skipped from later None walkable.0 is in
          let kind = no-pattern coding from.kind (let p = are.0 in p.kind) emptied.coded in
          let count : left - span_of from + (skipped + (from.skipped_before + 1)) ≡ left + skipped = omega (arith, increment.within, most_within coding first left) in
          subst (AreSpelled coding first (left + skipped)) (sym (walk-skips seq coding m first code before skipped from later (sym is)))
          (subst (λ (t : Bool). AreSpelled coding t (left + skipped) (walk false (unwrap_or from.code code) before (skipped + (from.skipped_before + 1)) later))
          (sym (not_first first (not (is_none later)) inner))
          (subst (λ (n : ℕ). AreSpelled coding false n (walk false (unwrap_or from.code code) before (skipped + (from.skipped_before + 1)) later)) count (skips kind)))
      by_made (Some to) is skips makes =
          let (mapped, is_mapped, coarser, inner) = at-one first code before skipped from later (Some to) walkable.0 is in
          let gap : to.skipped_before ≡ skipped + from.skipped_before = gap-walk seq coding m (not first && not (is_none later)) (unwrap_or from.code code) before
          (skipped + from.skipped_before) from to (sym is) in
          let fits = made-fits seq coding m (not first && not (is_none later)) (unwrap_or from.code code) before (skipped + from.skipped_before) from to walkable.0.measured is in
          let here : skipped + span_of from ≡ to.skipped_before + 1 = omega (arith, gap) in
          let count : left - span_of from + 0 ≡ left + skipped - span_of to = omega (arith, gap, increment.within, most_within coding first left) in
          let increment' : IsSpellable (address_increment (most_increment coding first (left + skipped))) (to.skipped_before + 1) =
          subst (IsSpellable (address_increment (most_increment coding first (left + skipped)))) here (more-skipped coding first left skipped (span_of from) may increment.some increment.within) in
          subst (AreSpelled coding first (left + skipped)) (sym (walk-makes seq coding m first code before skipped from to later (sym is))) (
            coarser-parts seq coding (unwrap_or from.code code) mapped before from to coarser first first left (left + skipped) are.0 is_mapped.is_code fits increment',
            subst (λ (n : ℕ). AreSpelled coding false n (walk false (unwrap_or from.code code) (unwrap_or to.code before) 0 later)) count (makes to),
          )

  -- the walk ends where the slice ends
  walk-span : (first : Bool) (code before skipped : ℕ) (ms : List Macroblock) → AreWalkable ms → is_none ms ≡ false
      → sum_by span_of (walk first code before skipped ms) ≡ skipped + sum_by span_of ms
  walk-span first code before skipped [] walkable some = absurd (let e : true ≡ false = some in cc)
  walk-span first code before skipped (from ∷ later) walkable some =
      by_made (made_of first code before skipped from later) refl
      (walk-span false (unwrap_or from.code code) before (skipped + (from.skipped_before + 1)) later walkable.1)
      (λ to. walk-span false (unwrap_or from.code code) (unwrap_or to.code before) 0 later walkable.1)
    where
      some_later : (a : Bool) (b : Bool) → (a && not b) ≡ true → b ≡ false
      some_later a false e = refl
      some_later true true e = absurd (let e' : false ≡ true = e in cc)
      some_later false true e = absurd (let e' : false ≡ true = e in cc)

      no_later : (before : ℕ) (later : List Macroblock) → (is_none later ≡ false → sum_by span_of (walk false (unwrap_or from.code code) before 0 later) ≡ 0 + sum_by span_of later)
          → sum_by span_of (walk false (unwrap_or from.code code) before 0 later) ≡ sum_by span_of later
      no_later before [] makes = refl
      no_later before (x ∷ xs) makes = makes refl ∙ omega arith

      by_made : (made : Option Macroblock) → made ≡ made_of first code before skipped from later
          → (is_none later ≡ false → sum_by span_of (walk false (unwrap_or from.code code) before (skipped + (from.skipped_before + 1)) later) ≡ skipped +
          (from.skipped_before + 1) + sum_by span_of later)
          → ((to : Macroblock) → is_none later ≡ false → sum_by span_of (walk false (unwrap_or from.code code) (unwrap_or to.code before) 0 later) ≡ 0 + sum_by span_of later)
          → sum_by span_of (walk first code before skipped (from ∷ later)) ≡ skipped + sum_by span_of (from ∷ later)
      by_made None is skips makes =
          let (mapped, is_mapped, emptied, inner) = at-one first code before skipped from later None walkable.0 is in
          ap (sum_by span_of) (walk-skips seq coding m first code before skipped from later (sym is))
          ∙ skips (some_later (not first) (is_none later) inner) ∙ omega (arith, sum_by-cons span_of from later)
      by_made (Some to) is skips makes =
          let gap : to.skipped_before ≡ skipped + from.skipped_before = gap-walk seq coding m (not first && not (is_none later)) (unwrap_or from.code code) before
          (skipped + from.skipped_before) from to (sym is) in
          ap (sum_by span_of) (walk-makes seq coding m first code before skipped from to later (sym is))
          ∙ sum_by-cons span_of to (walk false (unwrap_or from.code code) (unwrap_or to.code before) 0 later)
          ∙ omega (arith, gap, no_later (unwrap_or to.code before) later (makes to), sum_by-cons span_of from later)

  -- the first macroblock of a slice stays
  walk-first : (code before : ℕ) (ms : List Macroblock) → AreWalkable ms → is_none ms ≡ false
      → (first_column (walk true code before 0 ms) ≡ first_column ms) × (0 < length (walk true code before 0 ms))
  walk-first code before [] walkable some = absurd (let e : true ≡ false = some in cc)
  walk-first code before (from ∷ later) walkable some = by_made (made_of true code before 0 from later) refl where
    by_made : (made : Option Macroblock) → made ≡ made_of true code before 0 from later
        → (first_column (walk true code before 0 (from ∷ later)) ≡ from.skipped_before) × (0 < length (walk true code before 0 (from ∷ later)))
    by_made None is =
        let (mapped, is_mapped, emptied, inner) = at-one true code before 0 from later None walkable.0 is in
        absurd (let e : false ≡ true = inner in cc)
    by_made (Some to) is =
        let gap : to.skipped_before ≡ 0 + from.skipped_before = gap-walk seq coding m false (unwrap_or from.code code) before (0 + from.skipped_before) from to (sym is) in
        subst (λ (ys : List Macroblock). (first_column ys ≡ from.skipped_before) × (0 < length ys)) (sym (walk-makes seq coding m true code before 0 from to later (sym is)))
        (omega (arith, gap), omega arith)

  some_none : (ms : List Macroblock) → 0 < length ms → is_none ms ≡ false
  some_none [] some = absurd (omega (arith, some))
  some_none (x ∷ xs) some = refl

  -- the slice of the version is of such macroblocks, and holds the same addresses
  pub slice-spelled : (s : Slice) → HasSpellableMacroblocks seq coding s → AreWalkable s.macroblocks
      → HasSpellableMacroblocks seq coding (coarsened_slice seq coding m s) × (addresses seq (coarsened_slice seq coding m s) ≡ addresses seq s)
  unfolding coarsened_slice
  slice-spelled s has walkable =
      let before : ℕ = mapped_code coding.q_scale_type m s.code in
      let some : is_none s.macroblocks ≡ false = some_none s.macroblocks has.some in
      let start = walk-first s.code before s.macroblocks walkable some in
      let end = walk-span true s.code before 0 s.macroblocks walkable some in
      let are : AreSpelled coding true (columns seq) s.macroblocks = subst (λ (n : ℕ). AreSpelled coding true n s.macroblocks) (omega arith) (from-each coding seq [] s.macroblocks has.each) in
      let made : AreSpelled coding true (columns seq + 0) (walk true s.code before 0 s.macroblocks) = walk-spelled true s.code before 0 (columns seq) s.macroblocks are walkable (inl refl) in (
        record {
          code = code-spelled before (let is = mapped_code-is coding.q_scale_type m s.code in is.is_code);
          info = has.info;
          some = start.1;
          each = to-each coding seq [] (walk true s.code before 0 s.macroblocks) (subst (λ (n : ℕ). AreSpelled coding true n (walk true s.code before 0 s.macroblocks)) (omega arith) made);
        },
        rw (start.0, end) (let same : 0 + sum_by span_of s.macroblocks ≡ sum_by span_of s.macroblocks = omega arith in rw same refl),
      )
