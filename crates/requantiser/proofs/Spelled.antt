-- Macroblocks that some bits spell have the shape that the walk needs.
use Rattle.std.proofs.Common.{
  ◌≡◌,
  ◌≢◌,
  ℕ,
  zero,
  suc,
  ℤ,
  pos,
  unsigned_abs,
  ◌+◌,
  ◌-◌,
  ◌^◌,
  ◌<◌,
  ◌&&◌,
  Option,
  Some,
  None,
  List,
  [],
  ◌∷◌,
  ◌++◌,
  Bool,
  true,
  false,
  nat_lt,
  refl,
  sym,
  ◌∙◌,
  ap,
  subst,
  inl,
  inr,
  length,
  get_or,
  add-zero,
  zero-add,
  arith,
}
use Rattle.std.specs.Prelude.{◌==◌, ◌||◌, not, find, is_some, if◌then◌else◌}
use Rattle.std.specs.Int.{bit_at}
use Rattle.std.specs.List.{range_with_len}
use Rattle.std.proofs.lemmas.Bool.{and_parts, cases_lt, lt-ltb, le-ltb, ltb-true, eq-eqb, cases_eq, eqb-false, not-true}
use Rattle.std.proofs.lemmas.List.FromFn.{get_or-range_with_len, length-range_with_len}
use Rattle.std.proofs.lemmas.Option.{none-some, same_Some}
use Rattle.prefix_codes.specs.declared.symbol.TheConstants.{END_OF_BLOCK}
use Rattle.prefix_codes.specs.declared.table_name.TableName.TheVariants.{Pattern, CoeffFirst}
use Rattle.prefix_codes.specs.TableName.{code_in}
use Rattle.prefix_codes.specs.MacroblockTables.{coded_block_pattern}
use Rattle.prefix_codes.specs.CoefficientTables.{longest_coefficients, shared_coefficients, dct_coefficients_first}
use Rattle.prefix_codes.proofs.TableLemmas.{code_in-passes}
use Rattle.quant_math.specs.Scales.{IsCode}
use Rattle.syntax_types.specs.declared.block.Block.{Block}
use Rattle.syntax_types.specs.declared.block.BlockWay.{BlockWay}
use Rattle.syntax_types.specs.declared.block.Dc.{Dc}
use Rattle.syntax_types.specs.declared.block.RunLevel.{RunLevel}
use Rattle.syntax_types.specs.declared.macroblock.TheConstants.{BLOCKS}
use Rattle.syntax_types.specs.declared.macroblock.Kind.{Kind}
use Rattle.syntax_types.specs.declared.macroblock.Macroblock.{Macroblock}
use Rattle.syntax_types.specs.declared.picture.PicCoding.{PicCoding}
use Rattle.picture_grammar.specs.Refusal.Refusal.{NoCode, TooMany, BadEscape, BadPattern}
use Rattle.picture_grammar.specs.Grammar.{Grammar, SpellsList, optional, when, each}
use Rattle.picture_grammar.specs.Grammar.Next.{more, last}
use Rattle.picture_grammar.specs.Element.{rule, element, vlclbf}
use Rattle.picture_grammar.specs.Block.{
  dc_coefficient,
  Coefficient,
  CoefficientCode,
  after_code,
  is_level,
  signed,
  escape_level,
  fits_in_block,
  next_place,
  coefficient_table,
  coefficient,
  block,
  first_place,
}
use Rattle.picture_grammar.specs.Block.Coefficient.{end_of_block, run_size, escape}
use Rattle.picture_grammar.specs.Macroblock.{block_way, is_coded, no_block, quantiser_scale_code, macroblock}
use Rattle.picture_grammar.proofs.Codes.{coefficient_code-listed}
use Rattle.picture_grammar.proofs.WrittenBlock.{unsigned_abs-signed, next_place-push}
use Rattle.requantiser.specs.VersionState.{IsSpelledMacroblock}
use Rattle.requantiser.specs.Private.Shapes.{BeginsWithLevel, FitBlock, IsWalkable}
use Rattle.requantiser.proofs.Ranges.{IsFirst, find-some}

-- ---- a coefficient

-- a level of an escape is neither 0 nor too large
escape_size : (n : ℕ) → n < 2 ^ 12 → not (n == 0) ≡ true → not (n == 2 ^ 11) ≡ true → (0 < unsigned_abs (escape_level n)) × (unsigned_abs (escape_level n) < 2 ^ 11)
escape_size n lt some allowed = elim (cases_lt n 2048) [
  | inl small ↦ rw (lt-ltb n 2048 small) (positive, small)
  | inr large ↦ elim (cases_eq n 2048) [
    | inl forbidden ↦ absurd (let clash : not true ≡ true = ap not (sym (eq-eqb n 2048 forbidden)) ∙ allowed in cc)
    | inr other ↦
        let size : 4096 - n ≡ suc (4095 - n) = omega arith in
        rw (le-ltb n 2048 large, size) (omega arith, omega arith)
  ]
]
  where
    positive : 0 < n
    positive = let other : n ≡ 0 → ⊥ = eqb-false n 0 (not-true (n == 0) some) in omega arith

level_some : (level : ℤ) → 0 < unsigned_abs level → level ≢ pos 0
level_some level some none = absurd (omega (arith, some, ap unsigned_abs none))

module _ (way : BlockWay) (before : List RunLevel) where
  -- what is known of a coefficient behind these
  pub record Stands (pair : RunLevel) : Type 0 where
    pub within : next_place way before + pair.run < 64
    pub small : unsigned_abs pair.level < 2 ^ 11
    pub some : pair.level ≢ pos 0

  coefficient_stands : (pair : RunLevel) (bits middle : List ℕ) → (coefficient way before).Spells (more pair) bits middle → Stands pair
  coefficient_stands pair bits middle (c, m, s, t) = by_code c m s t where
    by_code : (c : Coefficient) (m : List ℕ) → (element (CoefficientCode (coefficient_table way (next_place way before))) NoCode
        (rule TooMany (fits_in_block (next_place way before)) ∷ rule BadEscape is_level ∷ [])).Spells c bits m
        → (after_code c).Spells (more pair) m middle → Stands pair
    by_code end_of_block m s (e, f) = absurd (let e' : more pair ≡ last tt = e in cc)
    by_code (run_size run size) m (code, listed, passing, split) (negative, m', s', (e, f)) =
        let same : pair ≡ record { run = run; level = signed size negative } = cc in
        let parts = coefficient_code-listed (coefficient_table way (next_place way before)) run size code listed in
        let within = ltb-true (next_place way before + run) 64 (and_parts (nat_lt (next_place way before + run) 64) true passing).0 in
        let size_is : unsigned_abs (signed size negative) ≡ size = unsigned_abs-signed size negative in
        subst Stands (sym same) (record { within = within; small = omega (arith, size_is, parts.2); some = level_some (signed size negative) (omega (arith, size_is, parts.1)) })
    by_code (escape run level) m (code, (front, listed, run_fits, level_fits, is), passing, split) (e, f) =
        let same : pair ≡ record { run = run; level = escape_level level } = cc in
        let tests = and_parts (nat_lt (next_place way before + run) 64) (is_level (escape run level) && true) passing in
        let within = ltb-true (next_place way before + run) 64 tests.0 in
        let allowed = and_parts (not (level == 0)) (not (level == 2 ^ 11)) (and_parts (is_level (escape run level)) true tests.1).0 in
        let size = escape_size level level_fits allowed.0 allowed.1 in
        subst Stands (sym same) (record { within = within; small = size.1; some = level_some (escape_level level) size.0 })

  -- behind some coefficients there may be the end of block; the table of the first one has none
  ends : (bits rest : List ℕ) → (coefficient way before).Spells (last tt) bits rest → (code : List ℕ) × (code_in (coefficient_table way (next_place way before)) END_OF_BLOCK ≡ Some code)
  ends bits rest (c, m, s, t) = by_code c m s t where
    by_code : (c : Coefficient) (m : List ℕ) → (element (CoefficientCode (coefficient_table way (next_place way before))) NoCode
        (rule TooMany (fits_in_block (next_place way before)) ∷ rule BadEscape is_level ∷ [])).Spells c bits m
        → (after_code c).Spells (last tt) m rest → (code : List ℕ) × (code_in (coefficient_table way (next_place way before)) END_OF_BLOCK ≡ Some code)
    by_code end_of_block m (code, listed, passing, split) t = (code, listed)
    by_code (run_size run size) m s (negative, m', s', (e, f)) = absurd (let e' : last tt ≡ more (record { run = run; level = signed size negative }) = e in cc)
    by_code (escape run level) m s (e, f) = absurd (let e' : last tt ≡ more (record { run = run; level = escape_level level }) = e in cc)

-- ---- the coefficients of a block

pairs_fit : (way : BlockWay) (before pairs : List RunLevel) (bits rest : List ℕ) → SpellsList (coefficient way) before pairs tt bits rest → FitBlock (next_place way before) pairs
pairs_fit way before [] bits rest s = tt
pairs_fit way before (pair ∷ pairs) bits rest (middle, s, t) =
    let here : Stands way before pair = coefficient_stands way before pair bits middle s in (
      here.within,
      here.small,
      subst (λ n. FitBlock n pairs) (next_place-push way before pair ∙ omega arith) (pairs_fit way (before ++ pair ∷ []) pairs middle rest t),
    )

pub no_end_first : (code : List ℕ) → code_in CoeffFirst END_OF_BLOCK ≡ Some code → ⊥
unfolding dct_coefficients_first shared_coefficients longest_coefficients
no_end_first code listed = let clash : false ≡ true = code_in-passes (λ e. not (e.0 == END_OF_BLOCK)) CoeffFirst END_OF_BLOCK code refl listed in absurd (cc)

pairs_begin : (way : BlockWay) (pairs : List RunLevel) (bits rest : List ℕ) → way.intra ≡ false → SpellsList (coefficient way) [] pairs tt bits rest → BeginsWithLevel pairs
pairs_begin way [] bits rest non_intra s =
    let end = ends way [] bits rest s in
    let first : coefficient_table way (next_place way []) ≡ CoeffFirst = rw non_intra refl in
    no_end_first end.0 (ap (λ table. code_in table END_OF_BLOCK) (sym first) ∙ end.1)
pairs_begin way (pair ∷ pairs) bits rest non_intra (middle, s, t) = (coefficient_stands way [] pair bits middle s).some

no_dc_first : (intra : Bool) (way : BlockWay) (dc : Option Dc) (bits rest : List ℕ) → intra ≡ false → (optional intra (dc_coefficient way)).Spells dc bits rest → dc ≡ None
no_dc_first true way dc bits rest non_intra s = absurd (cc)
no_dc_first false way dc bits rest non_intra (e, f) = e

-- what is known of a block with this index
pub record IsBlockOf (kind : Kind) (pattern i : ℕ) (b : Block) : Type 0 where
  pub no_dc : kind.intra ≡ false → b.dc ≡ None
  pub begins : kind.intra ≡ false → is_coded kind pattern i ≡ true → BeginsWithLevel b.pairs.items
  pub fits : FitBlock (if kind.intra then 1 else 0) b.pairs.items

coded_block-is : (coding : PicCoding) (kind : Kind) (pattern i : ℕ) (b : Block) (bits rest : List ℕ) → (block (block_way coding kind i)).Spells b bits rest → IsBlockOf kind pattern i b
unfolding block
coded_block-is coding kind pattern i b bits rest (dc, m, s, (found, m', t, (e, f))) =
    let way : BlockWay = block_way coding kind i in
    let dc_is : b.dc ≡ dc = ap (λ (x : Block). x.dc) e in
    let pairs_are : b.pairs.items ≡ found.0 = ap (λ (x : Block). x.pairs.items) e in
    let place : next_place way [] ≡ first_place way = add-zero (first_place way) in
    record {
      no_dc = λ non_intra. dc_is ∙ no_dc_first kind.intra way dc bits m non_intra s;
      begins = λ non_intra coded. subst BeginsWithLevel (sym pairs_are) (pairs_begin way found.0 m m' non_intra t);
      fits = subst (FitBlock (first_place way)) (sym pairs_are) (subst (λ n. FitBlock n found.0) place (pairs_fit way [] found.0 m m' t));
    }

block-is : (coding : PicCoding) (kind : Kind) (pattern i : ℕ) (coded : Bool) (b : Block) (bits rest : List ℕ) → coded ≡ is_coded kind pattern i
    → (when coded (block (block_way coding kind i)) no_block).Spells b bits rest → IsBlockOf kind pattern i b
block-is coding kind pattern i true b bits rest is s = coded_block-is coding kind pattern i b bits rest s
block-is coding kind pattern i false b bits rest is (e, f) = record {
  no_dc = λ non_intra. ap (λ (x : Block). x.dc) e;
  begins = λ non_intra coded. let clash : false ≡ true = is ∙ coded in absurd (cc);
  fits = subst (λ (x : Block). FitBlock (if kind.intra then 1 else 0) x.pairs.items) (sym e) tt;
}

-- ---- the blocks

each_length : {I A : Type 0} (grammar : I → Grammar A) (is : List I) (vs : List A) (bits rest : List ℕ) → (each is grammar).Spells vs bits rest → length vs ≡ length is
each_length grammar [] vs bits rest (e, f) = ap length e
each_length grammar (i ∷ is) vs bits rest (v, m, s, (ws, m', t, (e, f))) = ap length e ∙ ap suc (each_length grammar is ws m m' t)

each_passes : {I A : Type 0} (grammar : I → Grammar A) (P : I → A → Type 0) → ((i : I) (v : A) (bits rest : List ℕ) → (grammar i).Spells v bits rest → P i v)
    → (is : List I) (vs : List A) (bits rest : List ℕ) → (each is grammar).Spells vs bits rest → (d : I) (d' : A) (k : ℕ) → k < length is → P (get_or is k d) (get_or vs k d')
each_passes grammar P one [] vs bits rest s d d' k below = absurd (omega arith)
each_passes {I} {A} grammar P one (i ∷ is) vs bits rest (v, m, s, (ws, m', t, (e, f))) d d' k below =
    subst (λ (xs : List A). P (get_or (i ∷ is) k d) (get_or xs k d')) (sym e) (at (λ k below. each_passes grammar P one is ws m m' t d d' k below) k below)
  where
    at : ((k : ℕ) → k < length is → P (get_or is k d) (get_or ws k d')) → (k : ℕ) → k < length (i ∷ is) → P (get_or (i ∷ is) k d) (get_or (v ∷ ws) k d')
    at others zero below = one i v bits m s
    at others (suc k) below = others k (omega arith)

-- ---- a macroblock

-- a pattern that has a code has a block
pattern_has_block : (pattern : ℕ) (code : List ℕ) → code_in Pattern pattern ≡ Some code → is_some (find (λ i. bit_at pattern (BLOCKS - 1 - i) == 1) (range_with_len 0 BLOCKS)) ≡ true
unfolding coded_block_pattern
pattern_has_block pattern code listed = code_in-passes (λ e. is_some (find (λ i. bit_at e.0 (BLOCKS - 1 - i) == 1) (range_with_len 0 BLOCKS))) Pattern pattern code refl listed

pub is_code : (code : ℕ) (bits rest : List ℕ) → quantiser_scale_code.Spells code bits rest → IsCode code
is_code number bits rest (bits', (fits, same), passing, split) =
    let some : not (number == 0) ≡ true = (and_parts (not (number == 0)) true passing).0 in
    let other : number ≡ 0 → ⊥ = eqb-false number 0 (not-true (number == 0) some) in
    (omega arith, omega arith)

has_code : (present : Bool) (written : Option ℕ) (code : ℕ) (bits rest : List ℕ) → (optional present quantiser_scale_code).Spells written bits rest → written ≡ Some code → IsCode code
has_code true written code bits rest (number, m, s, (e, f)) is = subst IsCode (same_Some number code (sym e ∙ is)) (is_code number bits m s)
has_code false written code bits rest (e, f) is = absurd (none-some code (sym e ∙ is))

has_block : (kind : Kind) (present : Bool) (pattern : ℕ) (bits rest : List ℕ) → present ≡ true → kind.intra ≡ false → (when present (vlclbf Pattern BadPattern []) 0).Spells pattern bits rest
    → (i : ℕ) × (i < BLOCKS) × (is_coded kind pattern i ≡ true)
has_block kind false pattern bits rest is non_intra s = absurd (cc)
has_block kind true pattern bits rest is non_intra (code, listed, passing, split) =
    by_search (find (λ i. bit_at pattern (BLOCKS - 1 - i) == 1) (range_with_len 0 BLOCKS)) refl (pattern_has_block pattern code listed)
  where
    by_search : (found : Option ℕ) → found ≡ find (λ i. bit_at pattern (BLOCKS - 1 - i) == 1) (range_with_len 0 BLOCKS) → is_some found ≡ true
        → (i : ℕ) × (i < BLOCKS) × (is_coded kind pattern i ≡ true)
    by_search None is some = absurd (cc)
    by_search (Some i) is some =
        let first : IsFirst (λ i. bit_at pattern (BLOCKS - 1 - i) == 1) 0 BLOCKS i = find-some (λ i. bit_at pattern (BLOCKS - 1 - i) == 1) 0 BLOCKS i (sym is) in
        (i, first.below, ap (λ b. b || (bit_at pattern (BLOCKS - 1 - i) == 1)) non_intra ∙ first.passes)

pub spelled-walkable : (coding : PicCoding) (first : Bool) (columns_left : ℕ) (v : Macroblock) (bits rest : List ℕ) → (macroblock coding first columns_left).Spells v bits rest → IsWalkable v
unfolding macroblock
spelled-walkable coding first columns_left v bits rest
    (increment, m1, s1, (kind, m2, s2, (motion, m3, s3, (dct, m4, s4, (code, m5, s5, (forward, m6, s6, (backward, m7, s7, (marker, m8, s8, (pattern, m9, s9, (blocks, m10, s10, (e, f))))))))))) =
    subst IsWalkable (sym e) (record {
      shape = record {
        six = six;
        no_dc = λ non_intra i below. (each_block i below).no_dc non_intra;
        begins = λ non_intra i below coded. (each_block i below).begins non_intra coded;
        some_coded = λ non_intra has. has_block kind kind.pattern pattern m8 m9 has non_intra s9;
      };
      measured = record {
        blocks = λ i below. (each_block i below).fits;
        code = λ c is. has_code kind.quant code c m4 m5 s5 is;
      };
    })
  where
    grammar : ℕ → Grammar Block
    grammar i = when (is_coded kind pattern i) (block (block_way coding kind i)) no_block

    six : length blocks ≡ BLOCKS
    six = each_length grammar (range_with_len 0 BLOCKS) blocks m9 m10 s10 ∙ length-range_with_len 0 BLOCKS

    each_block : (i : ℕ) → i < BLOCKS → IsBlockOf kind pattern i (get_or blocks i no_block)
    each_block i below = subst (λ k. IsBlockOf kind pattern k (get_or blocks i no_block)) (get_or-range_with_len 0 BLOCKS i 0 below ∙ zero-add i)
        (each_passes grammar (IsBlockOf kind pattern) (λ i b bits rest s. block-is coding kind pattern i (is_coded kind pattern i) b bits rest refl s)
        (range_with_len 0 BLOCKS) blocks m9 m10 s10 0 no_block i
        (omega (arith, length-range_with_len 0 BLOCKS)))

pub walkable : (coding : PicCoding) (m : Macroblock) → IsSpelledMacroblock coding m → IsWalkable m
walkable coding m s = spelled-walkable coding s.first s.columns_left m s.bits s.rest s.spelled
