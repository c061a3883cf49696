-- Coefficients counted one after the other.
use Rattle.std.proofs.Common.{◌≡◌, ℕ, ◌+◌, ◌-◌, ◌*◌, ◌<◌, ◌≤◌, ℤ, unsigned_abs, Option, Some, None, unwrap_or, List, [], ◌∷◌, ◌++◌, Bool, true, false, refl, sym, ◌∙◌, ap, ap₂, subst, ◌⊎◌, inl, inr, arith, length, drop, get_or, drop-cons, add-one, length-append}
use Rattle.std.specs.Prelude.{◌==◌, ◌&&◌, ◌||◌, not, slice_set, if◌then◌else◌}
use Rattle.std.proofs.lemmas.Bool.{cases_Bool, cases_order, ne_eqb}
use Rattle.std.proofs.lemmas.List.{drop_all, get_or-set_same, get_or-set_other}
use Rattle.bit_lists.specs.Fields.{flag}
use Rattle.prefix_codes.specs.declared.symbol.TheConstants.{END_OF_BLOCK}
use Rattle.prefix_codes.specs.declared.table_name.TableName.TheVariants.{CoeffZero, CoeffFirst, CoeffOne}
use Rattle.prefix_codes.specs.TableName.{code_in, code_for}
use Rattle.syntax_types.specs.declared.block.BlockWay.{BlockWay}
use Rattle.syntax_types.specs.declared.block.RunLevel.{RunLevel}
use Rattle.picture_grammar.specs.Block.{coefficient_table, first_place}
use Rattle.picture_grammar.specs.Written.{written_coefficient, written_coefficients}
use Rattle.requantiser.specs.declared.tally.Tally.{Tally}
use Rattle.requantiser.specs.Private.Changes.{pair_changes}
use Rattle.requantiser.specs.Private.Tallies.{IsCounted, IsCountedBlock, IsEnded, IsBlockTallied, IsTallied, bits_at, has_none, next_at}
use Rattle.requantiser.specs.Private.Walk.{coarsened_pairs}
use Rattle.requantiser.proofs.Spelled.{no_end_first}

-- ---- one item of a list after another

module _ {A : Type 0} (P : A → A → Type 0) where
  -- one more item went on
  pub one_more_went : (before now : List A) (k : ℕ) (x : A) → k < length now → ((d : A) → P (get_or before k d) x)
      → ((j : ℕ) (d : A) → j < k → P (get_or before j d) (get_or now j d))
      → (j : ℕ) (d : A) → j < k + 1 → P (get_or before j d) (get_or (slice_set now k x) j d)
  one_more_went before now k x within is each j d below = by_place (cases_order j k)
    where
      by_place : (j ≡ k) ⊎ ((j < k) ⊎ (k < j)) → P (get_or before j d) (get_or (slice_set now k x) j d)
      by_place (inl here) = subst (λ n. P (get_or before n d) (get_or (slice_set now k x) n d)) (sym here)
          (subst (P (get_or before k d)) (sym (get_or-set_same now k x d within)) (is d))
      by_place (inr (inl there)) = subst (P (get_or before j d)) (sym (get_or-set_other now k j x d (λ e. absurd (omega arith)))) (each j d there)
      by_place (inr (inr past)) = absurd (omega arith)

-- the items behind it stay as they were
pub others_stay : {A : Type 0} (before now : List A) (k : ℕ) (x : A) → ((j : ℕ) (d : A) → k ≤ j → get_or now j d ≡ get_or before j d)
    → (j : ℕ) (d : A) → k + 1 ≤ j → get_or (slice_set now k x) j d ≡ get_or before j d
others_stay before now k x stay j d past = get_or-set_other now k j x d (λ e. absurd (omega arith)) ∙ stay j d (omega arith)

-- ---- one more coefficient

pub same_three : {A : Type 0} (f : ℕ → ℕ → Bool → A) {a a' b b' : ℕ} {c c' : Bool} → a ≡ a' → b ≡ b' → c ≡ c' → f a b c ≡ f a' b' c'
same_three f {a} {a'} {b} {b'} {c} {c'} p q r = ap (λ n. f n b c) p ∙ ap (λ n. f a' n c) q ∙ ap (f a' b') r

pub counted_as : (way : BlockWay) (at : ℕ) (level level' : ℤ) (squared squared' : ℕ) (before before' behind : Tally) → level ≡ level' → squared ≡ squared' → before ≡ before'
    → IsCounted way at level squared before behind → IsCounted way at level' squared' before' behind
counted_as way at level level' squared squared' before before' behind l s b is =
    subst (λ n. IsCounted way at n squared' before' behind) l (subst (λ n. IsCounted way at level n before' behind) s (subst (λ t. IsCounted way at level squared t behind) b is))

-- behind the last coefficient
pub block_counted : (way : BlockWay) (new : ℕ → ℤ → ℤ) (change : ℕ → ℤ → ℕ) (place index : ℕ) (pairs : List RunLevel) (start tally : Tally) → length pairs ≤ index → place ≤ 64
    → IsTallied way new change place (drop index pairs) pairs start tally → IsCountedBlock way new change pairs start tally
block_counted way new change place index pairs start tally past within was =
    let none : drop index pairs ≡ [] = drop_all index pairs past in
    let left : length (written_coefficients way tally.next (coarsened_pairs new place (place - tally.next) (drop index pairs))) ≡ length (written_coefficients way tally.next []) =
    ap (λ xs. length (written_coefficients way tally.next (coarsened_pairs new place (place - tally.next) xs))) none in
    let changes : pair_changes change place (drop index pairs) ≡ 0 = ap (pair_changes change place) none in
    record {
      target = was.target;
      pattern = was.pattern;
      bits = omega (arith, left, was.bits);
      none = was.none ∙ ap (λ xs. (tally.next == first_place way) && has_none (coarsened_pairs new place (place - tally.next) xs)) none ∙ and_true (tally.next == first_place way);
      distortion = omega (arith, changes, was.distortion);
      low = was.low;
      no_less = was.no_less;
      few = omega (arith, was.few, within);
      small = omega (arith, was.small, within);
    }
  where
    and_true : (b : Bool) → (b && true) ≡ b
    and_true true = refl
    and_true false = refl

module _ (way : BlockWay) (new : ℕ → ℤ → ℤ) (change : ℕ → ℤ → ℕ) where
  first-most : first_place way ≤ 1
  first-most = by_intra way.intra
    where
      by_intra : (intra : Bool) → (if intra then 1 else 0) ≤ 1
      by_intra true = omega arith
      by_intra false = omega arith

  -- the bits of what comes from a place on
  abbrev bits_from : ℕ → ℕ → List RunLevel → ℕ
  bits_from next place rest = length (written_coefficients way next (coarsened_pairs new place (place - next) rest))

  later : (next place run : ℕ) → next ≤ place → place - next + (run + 1) ≡ place + run + 1 - next
  later next place run high = omega (arith, high)

  -- the bits of one more coefficient, and of the others behind it
  pub one_more_bits : (next place : ℕ) (pair : RunLevel) (rest : List RunLevel) → next ≤ place
      → bits_from next place (pair ∷ rest)
      ≡ bits_at way next (place + pair.run) (new (place + pair.run) pair.level) + bits_from (next_at next (place + pair.run) (new (place + pair.run) pair.level)) (place + pair.run + 1) rest
  one_more_bits next place pair rest high = by_level (cases_Bool (unsigned_abs (new (place + pair.run) pair.level) == 0))
    where
      by_level : (unsigned_abs (new (place + pair.run) pair.level) == 0 ≡ true) ⊎ (unsigned_abs (new (place + pair.run) pair.level) == 0 ≡ false)
          → bits_from next place (pair ∷ rest)
          ≡ bits_at way next (place + pair.run) (new (place + pair.run) pair.level) + bits_from (next_at next (place + pair.run) (new (place + pair.run) pair.level)) (place + pair.run + 1) rest
      by_level (inl gone) =
          let same : length (written_coefficients way next (coarsened_pairs new (place + pair.run + 1) (place - next + (pair.run + 1)) rest))
          ≡ length (written_coefficients way next (coarsened_pairs new (place + pair.run + 1) (place + pair.run + 1 - next) rest)) =
          ap (λ zeros. length (written_coefficients way next (coarsened_pairs new (place + pair.run + 1) zeros rest))) (later next place pair.run high) in
          rw (gone, coarsened_pairs, bits_at, next_at) (omega (arith, same))
      by_level (inr stays) =
          let at : ℕ = place + pair.run in
          let level : ℤ = new at pair.level in
          let run : place - next + pair.run ≡ at - next = omega (arith, high) in
          let behind : next + (place - next + pair.run + 1) ≡ at + 1 = omega (arith, high) in
          let none : at + 1 - (at + 1) ≡ 0 = omega arith in
          let tail : List RunLevel = coarsened_pairs new (at + 1) 0 rest in
          rw (stays, coarsened_pairs, bits_at, next_at)
          (length-append (written_coefficient (coefficient_table way next) (record { run = place - next + pair.run; level = level }))
          (written_coefficients way (next + (place - next + pair.run + 1)) tail)
          ∙ ap₂ (λ a b. length (written_coefficient (coefficient_table way next) (record { run = a; level = level })) + length (written_coefficients way b tail)) run behind
          ∙ ap (λ zeros. length (written_coefficient (coefficient_table way next) (record { run = at - next; level = level }))
          + length (written_coefficients way (at + 1) (coarsened_pairs new (at + 1) zeros rest))) (sym none))

  -- whether any stays
  pub one_more_none : (next place : ℕ) (pair : RunLevel) (rest : List RunLevel) → next ≤ place → first_place way ≤ next
      → ((next == first_place way) && has_none (coarsened_pairs new place (place - next) (pair ∷ rest)))
      ≡ ((next_at next (place + pair.run) (new (place + pair.run) pair.level) == first_place way)
      && has_none (coarsened_pairs new (place + pair.run + 1) (place + pair.run + 1 - next_at next (place + pair.run) (new (place + pair.run) pair.level)) rest))
  one_more_none next place pair rest high low = by_level (cases_Bool (unsigned_abs (new (place + pair.run) pair.level) == 0))
    where
      and_false : (b : Bool) → (b && false) ≡ false
      and_false true = refl
      and_false false = refl

      by_level : (unsigned_abs (new (place + pair.run) pair.level) == 0 ≡ true) ⊎ (unsigned_abs (new (place + pair.run) pair.level) == 0 ≡ false)
          → ((next == first_place way) && has_none (coarsened_pairs new place (place - next) (pair ∷ rest)))
          ≡ ((next_at next (place + pair.run) (new (place + pair.run) pair.level) == first_place way)
          && has_none (coarsened_pairs new (place + pair.run + 1) (place + pair.run + 1 - next_at next (place + pair.run) (new (place + pair.run) pair.level)) rest))
      by_level (inl gone) = rw (gone, coarsened_pairs, next_at)
          (ap (λ zeros. (next == first_place way) && has_none (coarsened_pairs new (place + pair.run + 1) zeros rest)) (later next place pair.run high))
      by_level (inr stays) =
          let past : (place + pair.run + 1 == first_place way) ≡ false = ne_eqb (place + pair.run + 1) (first_place way) (λ e. absurd (omega (arith, e, high, low))) in
          rw (stays, coarsened_pairs, next_at) (and_false (next == first_place way)
          ∙ sym (ap (λ b. b && has_none (coarsened_pairs new (place + pair.run + 1) (place + pair.run + 1 - (place + pair.run + 1)) rest)) past))

  next-most : (next at : ℕ) (level : ℤ) → next ≤ at + 1 → (next_at next at level ≤ at + 1) × (next ≤ next_at next at level)
  next-most next at level high = by_level (cases_Bool (unsigned_abs level == 0))
    where
      by_level : (unsigned_abs level == 0 ≡ true) ⊎ (unsigned_abs level == 0 ≡ false) → (next_at next at level ≤ at + 1) × (next ≤ next_at next at level)
      by_level (inl gone) = rw (gone, next_at) (omega (arith, high), omega arith)
      by_level (inr stays) = rw (stays, next_at) (omega arith, omega (arith, high))

  pub one_tally : (place index : ℕ) (pairs : List RunLevel) (d : RunLevel) (start before behind : Tally) (squared : ℕ) (level : ℤ) → index < length pairs
      → (let pair : RunLevel = get_or pairs index d in level ≡ new (place + pair.run) pair.level)
      → (let pair : RunLevel = get_or pairs index d in squared ≡ change (place + pair.run) pair.level)
      → (let pair : RunLevel = get_or pairs index d in IsCounted way (place + pair.run) level squared before behind)
      → IsTallied way new change place (drop index pairs) pairs start before
      → let pair : RunLevel = get_or pairs index d in IsTallied way new change (place + pair.run + 1) (drop (index + 1) pairs) pairs start behind
  one_tally place index pairs d start before behind squared level within level_is squared_is is was =
      let pair : RunLevel = get_or pairs index d in
      let at : ℕ = place + pair.run in
      let rest : List RunLevel = drop (index + 1) pairs in
      let cut : drop index pairs ≡ pair ∷ rest = rw (add-one, drop-cons pairs index d) refl in
      let next : behind.next ≡ next_at before.next at (new at pair.level) = is.next ∙ ap (next_at before.next at) level_is in
      let bits : behind.bits ≡ before.bits + bits_at way before.next at (new at pair.level) = is.bits ∙ ap (λ l. before.bits + bits_at way before.next at l) level_is in
      let more : bits_from before.next place (drop index pairs)
      ≡ bits_at way before.next at (new at pair.level) + bits_from behind.next (at + 1) rest =
      ap (bits_from before.next place) cut ∙ one_more_bits before.next place pair rest was.high
      ∙ ap (λ n. bits_at way before.next at (new at pair.level) + bits_from n (at + 1) rest) (sym next) in
      let none : ((before.next == first_place way) && has_none (coarsened_pairs new place (place - before.next) (drop index pairs)))
      ≡ ((behind.next == first_place way) && has_none (coarsened_pairs new (at + 1) (at + 1 - behind.next) rest)) =
      ap (λ xs. (before.next == first_place way) && has_none (coarsened_pairs new place (place - before.next) xs)) cut
      ∙ one_more_none before.next place pair rest was.high was.low
      ∙ ap (λ n. (n == first_place way) && has_none (coarsened_pairs new (at + 1) (at + 1 - n) rest)) (sym next) in
      let changes : pair_changes change place (drop index pairs) ≡ change at pair.level + pair_changes change (at + 1) rest = ap (pair_changes change place) cut in
      let most = next-most before.next at (new at pair.level) (omega (arith, was.high)) in
      record {
        target = is.target ∙ was.target;
        pattern = is.pattern ∙ was.pattern;
        bits = omega (arith, bits, more, was.bits);
        none = was.none ∙ none;
        distortion = omega (arith, is.distortion, squared_is, changes, was.distortion);
        low = omega (arith, next, most.1, was.low);
        high = omega (arith, next, most.0);
        no_less = omega (arith, is.bits, was.no_less);
        few = omega (arith, is.few, was.few);
        small = omega (arith, is.small, was.small);
      }

-- ---- the end of a block

pub no_end : length (code_for CoeffFirst END_OF_BLOCK) ≡ 0
no_end = by_code (code_in CoeffFirst END_OF_BLOCK) refl
  where
    by_code : (code : Option (List ℕ)) → code_in CoeffFirst END_OF_BLOCK ≡ code → length (unwrap_or code []) ≡ 0
    by_code None is = refl
    by_code (Some code) is = absurd (no_end_first code is)

-- the end of a block at a place, and at the first one
end_at : (intra luma vlc_one : Bool) (next : ℕ) → let way : BlockWay = record { intra = intra; luma = luma; vlc_one = vlc_one } in
    (if (next == first_place way) || intra then 0 else length (code_for CoeffZero END_OF_BLOCK)) + length (written_coefficients way (first_place way) [])
    ≡ length (written_coefficients way next [])
end_at true luma vlc_one next = by_same (next == 1)
  where
    by_same : (same : Bool) → (if same || true then 0 else length (code_for CoeffZero END_OF_BLOCK)) + length (code_for (if vlc_one then CoeffOne else CoeffZero) END_OF_BLOCK)
        ≡ length (code_for (if vlc_one then CoeffOne else CoeffZero) END_OF_BLOCK)
    by_same true = omega arith
    by_same false = omega arith
end_at false luma vlc_one next = by_same (next == 0)
  where
    by_same : (same : Bool) → (if same || false then 0 else length (code_for CoeffZero END_OF_BLOCK)) + length (code_for CoeffFirst END_OF_BLOCK)
        ≡ length (code_for (if same then CoeffFirst else CoeffZero) END_OF_BLOCK)
    by_same true = omega arith
    by_same false = omega (arith, no_end)

pub block_tallied : (way : BlockWay) (new : ℕ → ℤ → ℤ) (change : ℕ → ℤ → ℕ) (pairs : List RunLevel) (before mid behind : Tally)
    → IsCountedBlock way new change pairs before mid → IsEnded way mid behind → IsBlockTallied way new change pairs before behind
block_tallied way new change pairs before mid behind counted ended = record {
  target = ended.target ∙ counted.target;
  next = ended.next;
  pattern = ended.pattern ∙ ap₂ (λ p b. 2 * p + flag (not b)) counted.pattern (sym counted.none);
  bits = omega (arith, counted.bits, ended.bits, end_at way.intra way.luma way.vlc_one mid.next);
  distortion = ended.distortion ∙ counted.distortion;
  no_less = omega (arith, ended.bits, counted.no_less);
  few = omega (arith, ended.few, counted.few);
  small = omega (arith, ended.distortion, counted.small);
}
