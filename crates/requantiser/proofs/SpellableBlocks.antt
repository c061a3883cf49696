-- Blocks of a version that some bits spell.
use Rattle.std.proofs.Common.{
  ◌≡◌,
  ◌≢◌,
  ◌⊎◌,
  ◌+◌,
  ◌-◌,
  ◌*◌,
  ◌/◌,
  ◌%◌,
  ◌^◌,
  ◌<◌,
  ◌≤◌,
  ◌==◌,
  ◌||◌,
  ℕ,
  zero,
  suc,
  ℤ,
  pos,
  negsuc,
  unsigned_abs,
  not,
  Option,
  None,
  List,
  [],
  ◌∷◌,
  length,
  Bool,
  true,
  false,
  if◌then◌else◌,
  refl,
  sym,
  ◌∙◌,
  ap,
  subst,
  inl,
  inr,
  arith,
}
use Rattle.std.specs.Prelude.{slice_index_or}
use Rattle.std.specs.Int.{bit_at}
use Rattle.std.specs.List.{AllByRecursion, sum_by}
use Rattle.std.proofs.lemmas.Bool.{cases_Bool}
use Rattle.std.proofs.lemmas.List.Sums.{sum_by-cons}
use Rattle.bit_lists.specs.Bits.{number_of}
use Rattle.bit_lists.specs.Fields.{flag}
use Rattle.bit_lists.proofs.FieldLemmas.{flag_below}
use Rattle.syntax_types.specs.declared.block.Block.{Block}
use Rattle.syntax_types.specs.declared.block.BlockWay.{BlockWay}
use Rattle.syntax_types.specs.declared.block.RunLevel.{RunLevel}
use Rattle.syntax_types.specs.declared.macroblock.TheConstants.{BLOCKS}
use Rattle.syntax_types.specs.declared.macroblock.Kind.{Kind}
use Rattle.syntax_types.specs.declared.picture.PicCoding.{PicCoding}
use Rattle.picture_grammar.specs.Grammar.{Grammar, optional}
use Rattle.picture_grammar.specs.Block.{dc_coefficient, first_place}
use Rattle.picture_grammar.specs.Macroblock.{block_way, is_coded, no_block}
use Rattle.picture_laws.specs.Spellable.{IsSpellable, HasSpellableCoefficients, IsSpellableBlock, AreSpellableBlocks}
use Rattle.requantiser.specs.Macroblocks.{is_empty_block, pattern_of}
use Rattle.requantiser.specs.Private.Shapes.{FitBlock}
use Rattle.requantiser.proofs.Macroblocks.{empty_block}
use Rattle.requantiser.proofs.PairSteps.{first_place-most}

-- ---- coefficients

fit-places : (start : ℕ) (pairs : List RunLevel) → start ≤ 64 → FitBlock start pairs → start + sum_by (λ pair. pair.run + 1) pairs ≤ 64
fit-places start [] le fit = omega (arith, le)
fit-places start (pair ∷ pairs) le fit =
    omega (arith, sum_by-cons (λ (pair : RunLevel). pair.run + 1) pair pairs, fit-places (start + pair.run + 1) pairs (omega (arith, fit.0)) fit.2)

pub size_some : (level : ℤ) → level ≢ pos 0 → 0 < unsigned_abs level
size_some (pos zero) some = absurd (some refl)
size_some (pos (suc n)) some = omega arith
size_some (negsuc n) some = omega arith

fit-levels : (start : ℕ) (pairs : List RunLevel) → FitBlock start pairs → AllByRecursion (λ pair. pair.level ≢ pos 0) pairs
    → AllByRecursion (λ pair. (0 < unsigned_abs pair.level) × (unsigned_abs pair.level < 2 ^ 11)) pairs
fit-levels start [] fit some = tt
fit-levels start (pair ∷ pairs) fit some = ((size_some pair.level some.0, fit.1), fit-levels (start + pair.run + 1) pairs fit.2 some.1)

-- a block whose parts are such
pub record IsFine (way : BlockWay) (b : Block) : Type 0 where
  pub dc : IsSpellable (optional way.intra (dc_coefficient way)) b.dc
  pub fit : FitBlock (first_place way) b.pairs.items
  pub levels : AllByRecursion (λ pair. pair.level ≢ pos 0) b.pairs.items

fine-coefficients : (way : BlockWay) (b : Block) → IsFine way b → (way.intra ≡ true) ⊎ (0 < length b.pairs.items) → HasSpellableCoefficients way b
fine-coefficients way b fine some = record {
  dc = fine.dc;
  places = fit-places (first_place way) b.pairs.items (omega (arith, first_place-most way.intra)) fine.fit;
  levels = fit-levels (first_place way) b.pairs.items fine.fit fine.levels;
  some = some;
}

-- ---- the pattern

flag-one : (b : Bool) → (flag b == 1) ≡ b
flag-one true = refl
flag-one false = refl

number_of-six : (a b c d e f : ℕ) → number_of (a ∷ b ∷ c ∷ d ∷ e ∷ f ∷ []) ≡ a * 32 + (b * 16 + (c * 8 + (d * 4 + (e * 2 + f))))
unfolding number_of
number_of-six a b c d e f = omega arith

abbrev pub shown : Block → Bool
shown b = not (is_empty_block b)

bits-six : (a b c d e f : ℕ) → a < 2 → b < 2 → c < 2 → d < 2 → e < 2 → f < 2 → (n : ℕ) → n ≡ a * 32 + (b * 16 + (c * 8 + (d * 4 + (e * 2 + f))))
    → (n / 32 % 2 ≡ a) × (n / 16 % 2 ≡ b) × (n / 8 % 2 ≡ c) × (n / 4 % 2 ≡ d) × (n / 2 % 2 ≡ e) × (n / 1 % 2 ≡ f)
bits-six a b c d e f la lb lc ld le lf n is = (
  omega (arith, la, lb, lc, ld, le, lf, is),
  omega (arith, la, lb, lc, ld, le, lf, is),
  omega (arith, la, lb, lc, ld, le, lf, is),
  omega (arith, la, lb, lc, ld, le, lf, is),
  omega
      (arith, la, lb, lc, ld, le, lf, is),
  omega (arith, la, lb, lc, ld, le, lf, is),
)

-- the bit of a block says whether it has coefficients
pub pattern-bit : (bs : List Block) → length bs ≡ 6 → (i : ℕ) → i < 6 → (bit_at (pattern_of bs) (5 - i) == 1) ≡ shown (slice_index_or bs i no_block)
pattern-bit [] six i lt = absurd (omega (arith, six))
pattern-bit (a ∷ []) six i lt = absurd (omega (arith, six))
pattern-bit (a ∷ b ∷ []) six i lt = absurd (omega (arith, six))
pattern-bit (a ∷ b ∷ c ∷ []) six i lt = absurd (omega (arith, six))
pattern-bit (a ∷ b ∷ c ∷ d ∷ []) six i lt = absurd (omega (arith, six))
pattern-bit (a ∷ b ∷ c ∷ d ∷ e ∷ []) six i lt = absurd (omega (arith, six))
pattern-bit (a ∷ b ∷ c ∷ d ∷ e ∷ f ∷ g ∷ hs) six i lt = absurd (omega (arith, six))
pattern-bit (a ∷ b ∷ c ∷ d ∷ e ∷ f ∷ []) six i lt = by_index i lt where
  bits : (pattern_of (a ∷ b ∷ c ∷ d ∷ e ∷ f ∷ []) / 32 % 2 ≡ flag (shown a)) × (pattern_of (a ∷ b ∷ c ∷ d ∷ e ∷ f ∷ []) / 16 % 2 ≡ flag (shown b))
      × (pattern_of (a ∷ b ∷ c ∷ d ∷ e ∷ f ∷ []) / 8 % 2 ≡ flag (shown c)) × (pattern_of (a ∷ b ∷ c ∷ d ∷ e ∷ f ∷ []) / 4 % 2 ≡ flag (shown d))
      × (pattern_of (a ∷ b ∷ c ∷ d ∷ e ∷ f ∷ []) / 2 % 2 ≡ flag (shown e)) × (pattern_of (a ∷ b ∷ c ∷ d ∷ e ∷ f ∷ []) / 1 % 2 ≡ flag (shown f))
  bits = bits-six (flag (shown a)) (flag (shown b)) (flag (shown c)) (flag (shown d)) (flag (shown e)) (flag (shown f))
      (flag_below (shown a)) (flag_below (shown b)) (flag_below (shown c)) (flag_below (shown d)) (flag_below (shown e)) (flag_below (shown f)) (pattern_of (a ∷ b ∷ c ∷ d ∷ e ∷ f ∷ []))
      (number_of-six (flag (shown a)) (flag (shown b)) (flag (shown c)) (flag (shown d)) (flag (shown e)) (flag (shown f)))

  by_index : (i : ℕ) → i < 6 → (bit_at (pattern_of (a ∷ b ∷ c ∷ d ∷ e ∷ f ∷ [])) (5 - i) == 1) ≡ shown (slice_index_or (a ∷ b ∷ c ∷ d ∷ e ∷ f ∷ []) i no_block)
  by_index zero lt = ap (λ (n : ℕ). n == 1) bits.0 ∙ flag-one (shown a)
  by_index (suc zero) lt = ap (λ (n : ℕ). n == 1) bits.1 ∙ flag-one (shown b)
  by_index (suc (suc zero)) lt = ap (λ (n : ℕ). n == 1) bits.2 ∙ flag-one (shown c)
  by_index (suc (suc (suc zero))) lt = ap (λ (n : ℕ). n == 1) bits.3 ∙ flag-one (shown d)
  by_index (suc (suc (suc (suc zero)))) lt = ap (λ (n : ℕ). n == 1) bits.4 ∙ flag-one (shown e)
  by_index (suc (suc (suc (suc (suc zero))))) lt = ap (λ (n : ℕ). n == 1) bits.5 ∙ flag-one (shown f)
  by_index (suc (suc (suc (suc (suc (suc i)))))) lt = absurd (omega (arith, lt))

-- where no block has coefficients the pattern is 0
pub pattern-zero : (bs : List Block) → length bs ≡ 6 → ((i : ℕ) → i < 6 → shown (slice_index_or bs i no_block) ≡ false) → pattern_of bs ≡ 0
pattern-zero [] six each = absurd (omega (arith, six))
pattern-zero (a ∷ []) six each = absurd (omega (arith, six))
pattern-zero (a ∷ b ∷ []) six each = absurd (omega (arith, six))
pattern-zero (a ∷ b ∷ c ∷ []) six each = absurd (omega (arith, six))
pattern-zero (a ∷ b ∷ c ∷ d ∷ []) six each = absurd (omega (arith, six))
pattern-zero (a ∷ b ∷ c ∷ d ∷ e ∷ []) six each = absurd (omega (arith, six))
pattern-zero (a ∷ b ∷ c ∷ d ∷ e ∷ f ∷ g ∷ hs) six each = absurd (omega (arith, six))
pattern-zero (a ∷ b ∷ c ∷ d ∷ e ∷ f ∷ []) six each =
    number_of-six (flag (shown a)) (flag (shown b)) (flag (shown c)) (flag (shown d)) (flag (shown e)) (flag (shown f))
    ∙ omega (
      arith,
      ap flag (each 0 (omega arith)),
      ap flag (each 1 (omega arith)),
      ap flag (each 2 (omega arith)),
      ap flag (each 3 (omega arith)),
      ap flag (each 4 (omega arith)),
      ap flag
          (each 5 (omega arith)),
    )

pub pattern-small : (bs : List Block) → length bs ≡ 6 → pattern_of bs < 64
pattern-small [] six = absurd (omega (arith, six))
pattern-small (a ∷ []) six = absurd (omega (arith, six))
pattern-small (a ∷ b ∷ []) six = absurd (omega (arith, six))
pattern-small (a ∷ b ∷ c ∷ []) six = absurd (omega (arith, six))
pattern-small (a ∷ b ∷ c ∷ d ∷ []) six = absurd (omega (arith, six))
pattern-small (a ∷ b ∷ c ∷ d ∷ e ∷ []) six = absurd (omega (arith, six))
pattern-small (a ∷ b ∷ c ∷ d ∷ e ∷ f ∷ g ∷ hs) six = absurd (omega (arith, six))
pattern-small (a ∷ b ∷ c ∷ d ∷ e ∷ f ∷ []) six =
    omega (
      arith,
      number_of-six (flag (shown a)) (flag (shown b)) (flag (shown c)) (flag (shown d)) (flag (shown e)) (flag (shown f)),
      flag_below (shown a),
      flag_below (shown b),
      flag_below (shown c),
      flag_below (shown d),
      flag_below (shown e),
      flag_below (shown f),
    )

-- ---- six blocks

pub dc-none : {A : Type 0} (test : Bool) (grammar : Grammar A) (v : Option A) → test ≡ false → IsSpellable (optional test grammar) v → v ≡ None
dc-none true grammar v e s = absurd (let e' : true ≡ false = e in cc)
dc-none false grammar v e s = s.spelled.0

pub none-dc : {A : Type 0} (test : Bool) (grammar : Grammar A) (v : Option A) → test ≡ false → v ≡ None → IsSpellable (optional test grammar) v
none-dc true grammar v e is = absurd (let e' : true ≡ false = e in cc)
none-dc false grammar v e is = record { bits = []; rest = []; spelled = (is, refl) }

shown-some : (b : Block) → shown b ≡ true → 0 < length b.pairs.items
shown-some b is = by_items b.pairs.items is where
  by_items : (items : List RunLevel) → not (elim items [ [] ↦ true | pair ∷ pairs ↦ false ]) ≡ true → 0 < length items
  by_items [] e = absurd (let e' : false ≡ true = e in cc)
  by_items (pair ∷ pairs) e = omega arith

pub not-shown : (b : Block) → shown b ≡ false → is_empty_block b ≡ true
not-shown b is = by_empty (is_empty_block b) is where
  by_empty : (e : Bool) → not e ≡ false → e ≡ true
  by_empty true e = refl
  by_empty false e = absurd (let e' : true ≡ false = e in cc)

by_shown : (way : BlockWay) (b : Block) (coded : Bool) → way.intra ≡ false → IsFine way b → coded ≡ shown b → IsSpellableBlock coded way b
by_shown way b true non_intra fine is = fine-coefficients way b fine (inr (shown-some b (sym is)))
by_shown way b false non_intra fine is = empty_block b (dc-none way.intra (dc_coefficient way) b.dc non_intra fine.dc) (not-shown b (sym is))

-- six such blocks, of which the pattern shows those with coefficients
pub fine-blocks : (coding : PicCoding) (kind : Kind) (pattern : ℕ) (bs : List Block) → length bs ≡ BLOCKS → ((i : ℕ) → i < BLOCKS → IsFine (block_way coding kind i) (slice_index_or bs i no_block))
    → (kind.intra ≡ false → pattern ≡ pattern_of bs) → AreSpellableBlocks coding kind pattern bs
fine-blocks coding kind pattern bs six fine is = record {
  six = six;
  each = λ i lt. elim (cases_Bool kind.intra) [
    | inl intra ↦ subst (λ (c : Bool). IsSpellableBlock c (block_way coding kind i) (slice_index_or bs i no_block)) (sym (ap (λ (t : Bool). t || (bit_at pattern (5 - i) == 1)) intra))
        (fine-coefficients (block_way coding kind i) (slice_index_or bs i no_block) (fine i lt) (inl intra))
    | inr non_intra ↦ by_shown (block_way coding kind i) (slice_index_or bs i no_block) (is_coded kind pattern i) non_intra (fine i lt)
        (ap (λ (t : Bool). t || (bit_at pattern (5 - i) == 1)) non_intra ∙ ap (λ (n : ℕ). bit_at n (5 - i) == 1) (is non_intra) ∙ pattern-bit bs six i lt)
  ];
}
