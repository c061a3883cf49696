-- The counts of several versions at once, and the lengths of codes that they are made of.
use Rattle.std.proofs.Common.{◌≡◌, ℕ, zero, suc, cond, nat_eq, nat_lt, unwrap_or, ◌+◌, ◌-◌, ◌*◌, ◌^◌, ◌<◌, ◌≤◌, ℤ, pos, unsigned_abs, int_lt, Option, Some, None, List, [], ◌∷◌, ◌++◌, Bool, true, false, refl, sym, ◌∙◌, ap, ap₂, subst, ◌⊎◌, inl, inr, arith, length, replicate, get_or, length-append}
use Rattle.std.specs.Prelude.{◌==◌, ◌&&◌, ◌||◌, not, ◌≢◌, slice_set, if◌then◌else◌}
use Rattle.std.specs.Map.{lookup}
use Rattle.std.specs.Option.{option_map_or}
use Rattle.std.proofs.lemmas.Bool.{cases_lt, cases_order, ltb-true, ne_eqb}
use Rattle.std.proofs.lemmas.List.{get_or-set_same, get_or-set_other, get_or-replicate, get_or_past, length-replicate}
use mir.Val.{bool_byte}
use Rattle.bit_lists.specs.Bits.{bits_of}
use Rattle.bit_lists.specs.Fields.{flag}
use Rattle.bit_lists.proofs.BitLemmas.{length-bits_of}
use Rattle.prefix_codes.specs.declared.symbol.TheConstants.{END_OF_BLOCK, ESCAPE, LEVELS_PER_RUN, RUNS}
use Rattle.prefix_codes.specs.declared.table_name.TableName.{TableName}
use Rattle.prefix_codes.specs.declared.table_name.TableName.TheVariants.{CoeffZero, CoeffFirst, CoeffOne}
use Rattle.prefix_codes.specs.Entry.{Entry, coefficient_entry, coefficient_symbol, entry}
use Rattle.prefix_codes.specs.CoefficientTables.{dct_coefficients_first, dct_coefficients_zero, shared_coefficients}
use Rattle.prefix_codes.specs.TableName.{code_in, coefficient_code, code_for}
use Rattle.syntax_types.specs.declared.block.BlockWay.{BlockWay}
use Rattle.syntax_types.specs.declared.block.RunLevel.{RunLevel}
use Rattle.picture_grammar.specs.Block.{coefficient_table, first_place}
use Rattle.picture_grammar.specs.Written.{level_bits, written_coefficient, written_coefficients, written_escape}
use Rattle.quant_math.specs.Scales.{IsMappedCode}
use Rattle.syntax_types.specs.declared.macroblock.Macroblock.{Macroblock}
use Rattle.syntax_types.specs.declared.picture.PicCoding.{PicCoding}
use Rattle.syntax_types.specs.declared.picture.SeqState.{SeqState}
use Rattle.picture_grammar.specs.Macroblock.{block_way, no_block}
use Rattle.requantiser.specs.Blocks.{AreCoarserBlocks}
use Rattle.requantiser.specs.Distortion.{difference_of}
use Rattle.requantiser.specs.Levels.{coefficient_at, scan_place}
use Rattle.requantiser.specs.Tallies.{IsTallyOf}
use Rattle.requantiser.specs.declared.counts.Counts.{Counts}
use Rattle.requantiser.specs.declared.tally.Tally.{Tally}
use Rattle.requantiser.specs.declared.targets.Targets.{Targets}
use Rattle.requantiser.specs.Private.Counts.{IsEndedBy, IsSized, IsTheTally, bits_by, next_by, tally_in}
use Rattle.requantiser.specs.Private.Lengths.{AreLengths, IsRow, length_by, table_number, table_numbered}
use Rattle.requantiser.specs.Private.Changes.{pair_changes}
use Rattle.requantiser.specs.Private.Tallies.{IsCounted, IsCountedBlock, IsEnded, IsTallied, bits_at, has_none}
use Rattle.requantiser.specs.Private.Walk.{coarsened_pairs}
use Rattle.requantiser.proofs.Tallies.{block_counted}
use Rattle.list_types.proofs.Lists.{three_parts}

-- ---- the lengths of codes

by_found : (table : TableName) (pair : RunLevel) (sign : List ℕ) (found : Option (List ℕ)) → length sign ≡ 1
    → length (option_map_or (λ code. code ++ sign) found (written_escape table pair)) ≡ option_map_or (λ code. length code + 1) found (length (code_for table ESCAPE) + 18)
by_found table pair sign None one =
    omega (arith, three_parts (code_for table ESCAPE) (bits_of 6 pair.run) (bits_of 12 (level_bits pair.level)), length-bits_of 6 pair.run, length-bits_of 12 (level_bits pair.level))
by_found table pair sign (Some code) one = length-append code sign ∙ ap (λ n. length code + n) one

-- a coefficient is written in as many bits
pub written-length : (table : TableName) (pair : RunLevel) → length (written_coefficient table pair) ≡ length_by table pair.run (unsigned_abs pair.level)
written-length table pair = by_found table pair (flag (int_lt pair.level (pos 0)) ∷ []) (coefficient_code table pair.run (unsigned_abs pair.level)) refl

-- the table of a coefficient by its number
pub table_is : (way : BlockWay) (place : ℕ) → coefficient_table way place ≡ table_numbered (table_number way place)
table_is way place = by_bools way.intra way.vlc_one (place == 0)
  where
    by_bools : (intra one start : Bool) → (if intra then (if one then CoeffOne else CoeffZero) else (if start then CoeffFirst else CoeffZero))
        ≡ table_numbered (if intra then (if one then 2 else 0) else (if start then 1 else 0))
    by_bools true true start = refl
    by_bools true false start = refl
    by_bools false one true = refl
    by_bools false one false = refl

zero_at : (n i : ℕ) → ◌≡◌ {A = ℕ} (get_or (replicate n 0) i 0) 0
zero_at n i = by_place (cases_lt i n)
  where
    by_place : (i < n) ⊎ (n ≤ i) → ◌≡◌ {A = ℕ} (get_or (replicate n 0) i 0) 0
    by_place (inl there) = get_or-replicate n i 0 0 there
    by_place (inr past) = get_or_past (replicate n 0) i 0 (omega (arith, past, length-replicate {A = ℕ} n 0))

-- nothing is known
pub none_known : (n : ℕ) → AreLengths (replicate n 0)
none_known n number run size r s some = absurd (omega (arith, some, zero_at n (1024 * number + 64 * size + run)))

-- one more is known
pub one_more_length : (lengths : List ℕ) (number run size bits place : ℕ) → place ≡ 1024 * number + 64 * size + run → place < length lengths → run < 64 → size < 16
    → bits ≡ length_by (table_numbered number) run size → bits ≤ 42 → 0 < size → AreLengths lengths → AreLengths (slice_set lengths place bits)
one_more_length lengths number run size bits place at within r s value few some_size was number' run' size' r' s' = by_place (cases_order (1024 * number' + 64 * size' + run') place)
  where
    by_place : (1024 * number' + 64 * size' + run' ≡ place) ⊎ ((1024 * number' + 64 * size' + run' < place) ⊎ (place < 1024 * number' + 64 * size' + run'))
        → 0 < get_or (slice_set lengths place bits) (1024 * number' + 64 * size' + run') 0
        → (get_or (slice_set lengths place bits) (1024 * number' + 64 * size' + run') 0 ≡ length_by (table_numbered number') run' size')
        × (get_or (slice_set lengths place bits) (1024 * number' + 64 * size' + run') 0 ≤ 42) × (0 < size')
    by_place (inl here) some =
        let same_number : number ≡ number' = omega (arith, here, at, r, s, r', s') in
        let same_run : run ≡ run' = omega (arith, here, at, r, s, r', s', same_number) in
        let same_size : size ≡ size' = omega (arith, here, at, same_number, same_run) in
        let found : get_or (slice_set lengths place bits) (1024 * number' + 64 * size' + run') 0 ≡ bits =
        ap (λ n. get_or (slice_set lengths place bits) n 0) here ∙ get_or-set_same lengths place bits 0 within in (
          found ∙ value ∙ ap (λ n. length_by (table_numbered n) run size) same_number ∙ ap₂ (λ a b. length_by (table_numbered number') a b) same_run same_size,
          omega (arith, found, few),
          omega (arith, same_size, some_size),
        )
    by_place (inr (inl there)) some = subst (λ (v : ℕ). 0 < v → (v ≡ length_by (table_numbered number') run' size') × (v ≤ 42) × (0 < size'))
        (sym (get_or-set_other lengths place (1024 * number' + 64 * size' + run') bits 0 (λ e. absurd (omega (arith, e, there))))) (was number' run' size' r' s') some
    by_place (inr (inr past)) some = subst (λ (v : ℕ). 0 < v → (v ≡ length_by (table_numbered number') run' size') × (v ≤ 42) × (0 < size'))
        (sym (get_or-set_other lengths place (1024 * number' + 64 * size' + run') bits 0 (λ e. absurd (omega (arith, e, past))))) (was number' run' size' r' s') some

-- a length that is known by the row of a size
pub known_by_row : (lengths : List ℕ) (number run row size value : ℕ) → AreLengths lengths → run < 64 → IsRow row size → value ≡ get_or lengths (1024 * number + row + run) 0 → 0 < value
    → (value ≡ length_by (table_numbered number) run size) × (value ≤ 42) × (0 < size)
known_by_row lengths number run row size value are within is at some = by_row (cases_lt 0 row)
  where
    by_row : (0 < row) ⊎ (row ≤ 0) → (value ≡ length_by (table_numbered number) run size) × (value ≤ 42) × (0 < size)
    by_row (inl there) =
        let same : row ≡ 64 * size = is.1 there in
        let few : size < 16 = omega (arith, same, is.0) in
        let here : get_or lengths (1024 * number + row + run) 0 ≡ get_or lengths (1024 * number + 64 * size + run) 0 = ap (λ (n : ℕ). get_or lengths (1024 * number + n + run) 0) same in
        let known = are number run size within few (omega (arith, at, here, some)) in
        (at ∙ here ∙ known.0, omega (arith, at, here, known.1), known.2)
    by_row (inr none) =
        let same : row ≡ 64 * 0 = omega (arith, none) in
        let here : get_or lengths (1024 * number + row + run) 0 ≡ get_or lengths (1024 * number + 64 * 0 + run) 0 = ap (λ (n : ℕ). get_or lengths (1024 * number + n + run) 0) same in
        let known = are number run 0 within (omega arith) (omega (arith, at, here, some)) in
        absurd (omega (arith, known.2))

-- ---- one coefficient

bits_same : (way : BlockWay) (next at : ℕ) (level : ℤ) → bits_by way next at (unsigned_abs level) ≡ bits_at way next at level
bits_same way next at level = ap (λ (n : ℕ). elim (unsigned_abs level == 0) [ true ↦ 0 | false ↦ n ]) (sym (written-length (coefficient_table way next) (record { run = at - next; level = level })))

-- a coefficient was counted by its size
pub counted_by : (way : BlockWay) (at size squared : ℕ) (level : ℤ) (squared' : ℕ) (before behind : Tally) → behind.target ≡ before.target → behind.pattern ≡ before.pattern
    → size ≡ unsigned_abs level → squared ≡ squared' → squared ≤ 2 ^ 22
    → IsSized way at size before.next before.bits behind.next behind.bits → behind.distortion ≡ before.distortion + squared → IsCounted way at level squared' before behind
counted_by way at size squared level squared' before behind target pattern l q most sized d = record {
  target = target;
  pattern = pattern;
  next = sized.next_is ∙ ap (next_by before.next at) l;
  bits = sized.bits_is ∙ ap (λ n. before.bits + bits_by way before.next at n) l ∙ ap (λ n. before.bits + n) (bits_same way before.next at level);
  distortion = d ∙ ap (λ n. before.distortion + n) q;
  few = sized.few;
  small = omega (arith, d, most);
}

-- ---- one version after another

-- one more place of two lists is written: what holds of the new items holds of all
module _ (P : ℕ → ℕ → ℕ → Type 0) where
  by_two : (j : ℕ) {a a' b b' : ℕ} → a' ≡ a → b' ≡ b → P j a b → P j a' b'
  by_two j {a} {a'} {b} {b'} p q h = subst (λ n. P j n b') (sym p) (subst (λ n. P j a n) (sym q) h)

  pub set_two : (Q R : ℕ → Type 0) (xs ys : List ℕ) (k x y : ℕ) → k < length xs → k < length ys → P k x y
      → ((j : ℕ) → Q j → P j (get_or xs j 0) (get_or ys j 0)) → ((j : ℕ) → R j → j ≢ k → Q j)
      → (j : ℕ) → R j → P j (get_or (slice_set xs k x) j 0) (get_or (slice_set ys k y) j 0)
  set_two Q R xs ys k x y in_x in_y is each covers j here = by_place (cases_order j k)
    where
      by_place : (j ≡ k) ⊎ ((j < k) ⊎ (k < j)) → P j (get_or (slice_set xs k x) j 0) (get_or (slice_set ys k y) j 0)
      by_place (inl at) = subst (λ n. P n (get_or (slice_set xs k x) n 0) (get_or (slice_set ys k y) n 0)) (sym at)
          (by_two k (get_or-set_same xs k x 0 in_x) (get_or-set_same ys k y 0 in_y) is)
      by_place (inr (inl there)) = by_two j (get_or-set_other xs k j x 0 (λ e. absurd (omega (arith, e, there)))) (get_or-set_other ys k j y 0 (λ e. absurd (omega (arith, e, there))))
          (each j (covers j here (λ e. absurd (omega (arith, e, there)))))
      by_place (inr (inr past)) = by_two j (get_or-set_other xs k j x 0 (λ e. absurd (omega (arith, e, past)))) (get_or-set_other ys k j y 0 (λ e. absurd (omega (arith, e, past))))
          (each j (covers j here (λ e. absurd (omega (arith, e, past)))))

-- all places of two lists have the same items
pub all_alike : (P : ℕ → ℕ → Type 0) (n x y : ℕ) → P x y → (j : ℕ) → j < n → P (get_or (replicate n x) j 0) (get_or (replicate n y) j 0)
all_alike P n x y is j below =
    subst (λ a. P a (get_or (replicate n y) j 0)) (sym (get_or-replicate n j x 0 below)) (subst (λ b. P x b) (sym (get_or-replicate n j y 0 below)) is)

-- one more version went on, and the others stayed as they were
pub one_more_at : (P : ℕ → ℕ → ℕ → ℕ → Type 0) (a b c a' b' c' : ℕ → ℕ) (k : ℕ) → P k (a' k) (b' k) (c' k)
    → ((j : ℕ) → j ≢ k → (a' j ≡ a j) × (b' j ≡ b j) × (c' j ≡ c j)) → ((j : ℕ) → j < k → P j (a j) (b j) (c j))
    → (j : ℕ) → j < k + 1 → P j (a' j) (b' j) (c' j)
one_more_at P a b c a' b' c' k is others each j below = by_place (cases_order j k)
  where
    by_place : (j ≡ k) ⊎ ((j < k) ⊎ (k < j)) → P j (a' j) (b' j) (c' j)
    by_place (inl here) = subst (λ n. P n (a' n) (b' n) (c' n)) (sym here) is
    by_place (inr (inl there)) =
        let same = others j (λ e. absurd (omega (arith, e, there))) in
        subst (λ n. P j n (b' j) (c' j)) (sym same.0) (subst (λ n. P j (a j) n (c' j)) (sym same.1) (subst (λ n. P j (a j) (b j) n) (sym same.2) (each j there)))
    by_place (inr (inr past)) = absurd (omega (arith, past, below))

-- a coefficient that is 0
pub none_sized : (way : BlockWay) (at size next bits next' bits' : ℕ) → size ≡ 0 → next' ≡ next → bits' ≡ bits → IsSized way at size next bits next' bits'
none_sized way at size next bits next' bits' gone n b = record {
  next_is = n ∙ ap (next_by next at) (sym gone);
  bits_is = omega (arith, b, ap (bits_by way next at) gone);
  few = omega (arith, b);
}

by_misses : (test : ℕ → Bool) (x y z : Entry) (rest : List Entry) → test x.0 ≡ false → test y.0 ≡ false → test z.0 ≡ false → lookup test (x ∷ rest) ≡ lookup test (y ∷ z ∷ rest)
by_misses test x y z rest ex ey ez =
    let left : lookup test (x ∷ rest) ≡ lookup test rest = ap (λ (b : Bool). cond b (Some x.1) (lookup test rest)) ex in
    let right : lookup test (z ∷ rest) ≡ lookup test rest = ap (λ (b : Bool). cond b (Some z.1) (lookup test rest)) ez in
    left ∙ sym right ∙ sym (ap (λ (b : Bool). cond b (Some y.1) (lookup test (z ∷ rest))) ey)

alike_but : (symbol : ℕ) → nat_eq symbol 1 ≡ false → nat_eq symbol END_OF_BLOCK ≡ false → code_in CoeffFirst symbol ≡ code_in CoeffZero symbol
unfolding code_in dct_coefficients_zero dct_coefficients_first
alike_but symbol one end = by_misses (nat_eq symbol) (coefficient_entry 0 1 "1") (entry END_OF_BLOCK "10") (coefficient_entry 0 1 "11") shared_coefficients one end one

first_and_last : (a b c : Bool) → (a && b && c) ≡ true → (a ≡ true) × (c ≡ true)
first_and_last true true true e = (refl, refl)
first_and_last true true false e = absurd (cc)
first_and_last true false c e = absurd (cc)
first_and_last false b c e = absurd (cc)

same_where : (c : Bool) (x y : Option (List ℕ)) → (c ≡ true → x ≡ y) → (if c then x else None) ≡ (if c then y else None)
same_where true x y same = same refl
same_where false x y same = refl

-- the tables of first coefficients and of others are alike behind a run of zeros
first_like_others : (run size : ℕ) → 0 < run → coefficient_code CoeffFirst run size ≡ coefficient_code CoeffZero run size
unfolding coefficient_code
first_like_others run size some =
    same_where (nat_lt run RUNS && nat_lt 0 size && nat_lt size LEVELS_PER_RUN) (code_in CoeffFirst (coefficient_symbol run size)) (code_in CoeffZero (coefficient_symbol run size)) (λ fits.
    let both = first_and_last (nat_lt run RUNS) (nat_lt 0 size) (nat_lt size LEVELS_PER_RUN) fits in
    let small_run : run < 32 = ltb-true run RUNS both.0 in
    let small_size : size < 64 = ltb-true size LEVELS_PER_RUN both.1 in
    alike_but (coefficient_symbol run size) (ne_eqb (64 * run + size) 1 (λ e. absurd (omega (arith, e, some))))
    (ne_eqb (64 * run + size) END_OF_BLOCK (λ e. absurd (omega (arith, e, small_run, small_size)))))

first_length : (run size : ℕ) → 0 < run → length_by CoeffZero run size ≡ length_by CoeffFirst run size
unfolding code_in dct_coefficients_zero dct_coefficients_first
first_length run size some = ap (λ (found : Option (List ℕ)). option_map_or (λ code. length code + 1) found (length (code_for CoeffZero ESCAPE) + 18)) (sym (first_like_others run size some))
    ∙ ap (λ (n : ℕ). option_map_or (λ code. length code + 1) (coefficient_code CoeffFirst run size) (n + 18))
    (ap (λ (found : Option (List ℕ)). length (unwrap_or found [])) (sym (alike_but ESCAPE refl refl)))

-- the length of a coefficient by the table of its place is that by the table of the place behind the one before
pub length_at : (way : BlockWay) (next at size : ℕ) → next ≤ at
    → length_by (table_numbered (table_number way at)) (at - next) size ≡ length_by (table_numbered (table_number way next)) (at - next) size
length_at way next at size within = by_place way.intra way.vlc_one (cases_zero next) (cases_zero at)
  where
    by_place : (intra one : Bool) → (next ≡ 0) ⊎ (0 < next) → (at ≡ 0) ⊎ (0 < at)
        → length_by (table_numbered (if intra then (if one then 2 else 0) else (if at == 0 then 1 else 0))) (at - next) size
        ≡ length_by (table_numbered (if intra then (if one then 2 else 0) else (if next == 0 then 1 else 0))) (at - next) size
    by_place true one n a = refl
    by_place false one (inl n) (inl a) = ap (λ (m : ℕ). length_by (table_numbered (if m == 0 then 1 else 0)) (at - next) size) (a ∙ sym n)
    by_place false one (inl n) (inr a) =
        ap (λ (b : Bool). length_by (table_numbered (if b then 1 else 0)) (at - next) size) (ne_eqb at 0 (λ e. absurd (omega (arith, e, a))))
        ∙ first_length (at - next) size (omega (arith, n, a)) ∙ sym (ap (λ (m : ℕ). length_by (table_numbered (if m == 0 then 1 else 0)) (at - next) size) n)
    by_place false one (inr n) (inl a) = absurd (omega (arith, n, a, within))
    by_place false one (inr n) (inr a) =
        ap (λ (b : Bool). length_by (table_numbered (if b then 1 else 0)) (at - next) size) (ne_eqb at 0 (λ e. absurd (omega (arith, e, a))))
        ∙ sym (ap (λ (b : Bool). length_by (table_numbered (if b then 1 else 0)) (at - next) size) (ne_eqb next 0 (λ e. absurd (omega (arith, e, n)))))

    cases_zero : (m : ℕ) → (m ≡ 0) ⊎ (0 < m)
    cases_zero zero = inl refl
    cases_zero (suc m) = inr (omega arith)

-- the number of the table of a place behind the first one
pub later_number : (way : BlockWay) (place : ℕ) → 0 < place → table_number way 1 ≡ table_number way place
later_number way place some =
    sym (ap (λ (b : Bool). if way.intra then (if way.vlc_one then 2 else 0) else (if b then 1 else 0)) (ne_eqb place 0 (λ e. absurd (omega (arith, e, some)))))

-- a coefficient that stays
pub some_sized : (way : BlockWay) (at size next bits more next' bits' : ℕ) → 0 < size → next ≤ at → more ≡ length_by (table_numbered (table_number way at)) (at - next) size → more ≤ 42
    → next' ≡ at + 1 → bits' ≡ bits + more → IsSized way at size next bits next' bits'
some_sized way at size next bits more next' bits' some within value few n b =
    let stays : (size == 0) ≡ false = ne_eqb size 0 (λ e. absurd (omega (arith, e, some))) in
    record {
      next_is = n ∙ sym (ap (λ (gone : Bool). elim gone [ true ↦ next | false ↦ at + 1 ]) stays);
      bits_is = b ∙ ap (λ n. bits + n) (value ∙ length_at way next at size within ∙ ap (λ table. length_by table (at - next) size) (sym (table_is way next))
          ∙ sym (ap (λ (gone : Bool). elim gone [ true ↦ 0 | false ↦ length_by (coefficient_table way next) (at - next) size ]) stays));
      few = omega (arith, b, few);
    }

-- the end of a block was counted
pub ended_by : (way : BlockWay) (before behind : Tally) → behind.target ≡ before.target → behind.distortion ≡ before.distortion
    → IsEndedBy way before.next before.pattern before.bits behind.next behind.pattern behind.bits → IsEnded way before behind
ended_by way before behind target distortion is = record {
  target = target;
  next = is.next_is;
  pattern = is.pattern_is;
  bits = is.bits_is;
  distortion = distortion;
  few = is.few;
}

-- a flag as a byte
pub flag_byte : (is : Bool) → bool_byte is ≡ flag is
flag_byte true = refl
flag_byte false = refl

-- a flag is 0 or 1
pub flag_few : (coded : ℕ) (is : Bool) → coded ≡ flag is → coded ≤ 1
flag_few coded true c = omega (arith, c)
flag_few coded false c = omega (arith, c)

-- the end of a block, by the parts that change
pub ended_of : (way : BlockWay) (next pattern bits end coded next' pattern' bits' : ℕ) → next' ≡ first_place way → coded ≡ flag (not (next == first_place way))
    → pattern' ≡ 2 * pattern + coded → end ≡ length (code_for CoeffZero END_OF_BLOCK) → bits' ≡ bits + (if way.intra then 0 else end) * coded → bits' ≤ bits + 24
    → IsEndedBy way next pattern bits next' pattern' bits'
ended_of way next pattern bits end coded next' pattern' bits' n flags p ends b few = record {
  next_is = n;
  pattern_is = p ∙ ap (λ c. 2 * pattern + c) flags;
  bits_is = b ∙ ap (λ (c : ℕ). bits + (if way.intra then 0 else end) * c) flags ∙ ap (λ (e : ℕ). bits + (if way.intra then 0 else e) * flag (not (next == first_place way))) ends
      ∙ ap (λ n. bits + n) (by_bools (next == first_place way) way.intra (length (code_for CoeffZero END_OF_BLOCK)));
  few = few;
}
  where
    by_bools : (none intra : Bool) (e : ℕ) → (if intra then 0 else e) * flag (not none) ≡ (if none || intra then 0 else e)
    by_bools true true e = refl
    by_bools true false e = omega arith
    by_bools false true e = refl
    by_bools false false e = omega arith

-- a count that is told by a tally
pub tally_as : (seq : SeqState) (coding : PicCoding) (code m : ℕ) (from : Macroblock) (targets : Targets) (counts : Counts) (k : ℕ) (below : k < 8) (tally : Tally)
    → IsTheTally targets counts k tally → IsTallyOf seq coding code m from (tally_in targets counts k below) → IsTallyOf seq coding code m from tally
tally_as seq coding code m from targets counts k below tally same is = record {
  mapped = subst (IsMappedCode coding.q_scale_type code m) (sym same.code) is.mapped;
  blocks = is.blocks;
  coarser = subst (λ (n : ℕ). AreCoarserBlocks seq coding from.kind code n from.blocks is.blocks) (sym same.code) is.coarser;
  pattern = same.pattern ∙ is.pattern;
  bits = same.bits ∙ is.bits;
  few = omega (arith, same.bits, is.few);
  distortion = same.distortion ∙ is.distortion ∙ ap (λ (n : ℕ). difference_of
      (λ i index. coefficient_at seq coding (block_way coding from.kind i) code (get_or from.blocks i no_block) (scan_place coding.alternate_scan index))
      (λ i index. coefficient_at seq coding (block_way coding from.kind i) n (get_or is.blocks i no_block) (scan_place coding.alternate_scan index))) (sym same.code);
  small = omega (arith, same.distortion, is.small);
}

-- nothing of a block was counted
module _ (new : ℕ → ℤ → ℤ) (change : ℕ → ℤ → ℕ) (all : List RunLevel) (start : Tally) (place : ℕ) where
  none_of : (intra luma vlc_one : Bool) → let way : BlockWay = record { intra = intra; luma = luma; vlc_one = vlc_one } in
      place ≡ first_place way → start.next ≡ first_place way
      → has_none (coarsened_pairs new (first_place way) 0 all) ≡ ((start.next == first_place way) && has_none (coarsened_pairs new place (place - start.next) all))
  none_of true luma vlc_one at next = subst (λ (n : ℕ). has_none (coarsened_pairs new 1 0 all) ≡ ((n == 1) && has_none (coarsened_pairs new place (place - n) all))) (sym next)
      (subst (λ (p : ℕ). has_none (coarsened_pairs new 1 0 all) ≡ ((1 == 1) && has_none (coarsened_pairs new p (p - 1) all))) (sym at) refl)
  none_of false luma vlc_one at next = subst (λ (n : ℕ). has_none (coarsened_pairs new 0 0 all) ≡ ((n == 0) && has_none (coarsened_pairs new place (place - n) all))) (sym next)
      (subst (λ (p : ℕ). has_none (coarsened_pairs new 0 0 all) ≡ ((0 == 0) && has_none (coarsened_pairs new p (p - 0) all))) (sym at) refl)

  pub none_counted : (way : BlockWay) → place ≡ first_place way → start.next ≡ first_place way → IsTallied way new change place all all start start
  none_counted way at next =
      let first : ℕ = first_place way in
      let zeros : place - start.next ≡ 0 = omega (arith, at, next) in
      record {
        target = refl;
        pattern = refl;
        bits = ap (λ (n : ℕ). start.bits + length (written_coefficients way n (coarsened_pairs new place (place - start.next) all))) next
            ∙ ap (λ (z : ℕ). start.bits + length (written_coefficients way (first_place way) (coarsened_pairs new place z all))) zeros
            ∙ ap (λ (p : ℕ). start.bits + length (written_coefficients way (first_place way) (coarsened_pairs new p 0 all))) at;
        none = none_of way.intra way.luma way.vlc_one at next;
        distortion = ap (λ (p : ℕ). start.distortion + pair_changes change p all) at;
        low = omega (arith, next);
        high = omega (arith, at, next);
        no_less = omega arith;
        few = omega arith;
        small = omega arith;
      }

-- a block without coefficients was counted
pub empty_counted : (way : BlockWay) (new : ℕ → ℤ → ℤ) (change : ℕ → ℤ → ℕ) (pairs : List RunLevel) (start : Tally) → length pairs ≤ 0 → start.next ≡ first_place way
    → IsCountedBlock way new change pairs start start
empty_counted way new change pairs start none next =
    block_counted way new change (first_place way) 0 pairs start start none (few way.intra) (none_counted new change pairs start (first_place way) way refl next)
  where
    few : (intra : Bool) → (if intra then 1 else 0) ≤ 64
    few true = omega arith
    few false = omega arith

-- its end was counted
pub empty_ended : (way : BlockWay) (next pattern bits next' pattern' bits' : ℕ) → next ≡ first_place way → next' ≡ next → pattern' ≡ 2 * pattern → bits' ≡ bits
    → IsEndedBy way next pattern bits next' pattern' bits'
empty_ended way next pattern bits next' pattern' bits' first n p b =
    let none : (next == first_place way) ≡ true = subst (λ (m : ℕ). (m == first_place way) ≡ true) (sym first) (itself way.intra) in
    let blocks : flag (not (next == first_place way)) ≡ 0 = ap (λ (is : Bool). flag (not is)) none in
    let ends : (if next == first_place way || way.intra then 0 else length (code_for CoeffZero END_OF_BLOCK)) ≡ 0 =
    ap (λ (is : Bool). if is || way.intra then 0 else length (code_for CoeffZero END_OF_BLOCK)) none in
    record {
      next_is = n ∙ first;
      pattern_is = omega (arith, p, blocks);
      bits_is = omega (arith, b, ends);
      few = omega (arith, b);
    }
  where
    itself : (intra : Bool) → let first : ℕ = if intra then 1 else 0 in (first == first) ≡ true
    itself true = refl
    itself false = refl
