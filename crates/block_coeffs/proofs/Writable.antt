-- Blocks that some bits spell can be written.
use Rattle.std.proofs.Common.{
  ◌≡◌,
  ℕ,
  suc,
  unsigned_abs,
  ◌+◌,
  ◌-◌,
  ◌^◌,
  ◌<◌,
  ◌≤◌,
  ◌&&◌,
  ◌==◌,
  List,
  [],
  ◌∷◌,
  ◌++◌,
  Option,
  Some,
  Bool,
  true,
  false,
  not,
  nat_lt,
  if◌then◌else◌,
  refl,
  sym,
  ap,
  subst,
  ◌∙◌,
  inl,
  inr,
  add-zero,
  arith,
}
use Rattle.std.proofs.lemmas.Bool.{and_parts, cases_lt, lt-ltb, le-ltb, ltb-true, eq-eqb, cases_eq}
use Rattle.std.proofs.lemmas.Option.{none-some, same_Some}
use Rattle.prefix_codes.specs.declared.table_name.TableName.TheVariants.{DcLuma, DcChroma}
use Rattle.prefix_codes.specs.TableName.{code_in}
use Rattle.prefix_codes.specs.MacroblockTables.{dct_dc_size_luminance, dct_dc_size_chrominance}
use Rattle.prefix_codes.proofs.TableLemmas.{code_in-passes}
use Rattle.syntax_types.specs.declared.block.Block.{Block}
use Rattle.syntax_types.specs.declared.block.BlockWay.{BlockWay}
use Rattle.syntax_types.specs.declared.block.Dc.{Dc}
use Rattle.syntax_types.specs.declared.block.RunLevel.{RunLevel}
use Rattle.picture_grammar.specs.Grammar.{SpellsList, optional}
use Rattle.picture_grammar.specs.Grammar.Next.{more, last}
use Rattle.picture_grammar.specs.Refusal.Refusal.{NoCode, TooMany, BadEscape}
use Rattle.picture_grammar.specs.Element.{rule, element}
use Rattle.picture_grammar.specs.Block.{
  dc_table,
  dc_coefficient,
  Coefficient,
  CoefficientCode,
  after_code,
  is_level,
  signed,
  escape_level,
  fits_in_block,
  next_place,
  coefficient_table,
  coefficient,
  block,
  first_place,
}
use Rattle.picture_grammar.specs.Block.Coefficient.{end_of_block, run_size, escape}
use Rattle.picture_grammar.proofs.Codes.{coefficient_code-listed}
use Rattle.picture_grammar.proofs.WrittenBlock.{unsigned_abs-signed, next_place-push}
use Rattle.block_coeffs.specs.Private.Writing.{CanStand, CanFollow}

-- ---- the DC coefficient

-- the sizes that have codes
dc_size-small : (luma : Bool) (size : ℕ) (code : List ℕ) → code_in (dc_table luma) size ≡ Some code → size < 12
unfolding dct_dc_size_luminance dct_dc_size_chrominance
dc_size-small true size code listed = ltb-true size 12 (code_in-passes (λ e. nat_lt e.0 12) DcLuma size code refl listed)
dc_size-small false size code listed = ltb-true size 12 (code_in-passes (λ e. nat_lt e.0 12) DcChroma size code refl listed)

pub record DcFits (dc : Dc) : Type 0 where
  pub size : dc.size ≤ 32
  pub bits : dc.bits < 2 ^ dc.size

dc_fits : (way : BlockWay) (dc : Dc) (bits rest : List ℕ) → (dc_coefficient way).Spells dc bits rest → DcFits dc
dc_fits way dc bits rest (size, m, (code, listed, p, split), (number, m', (number_code, (fits, number_is), p', split'), (e, f))) =
    let size_is : dc.size ≡ size = ap (λ (d : Dc). d.size) e in
    let bits_are : dc.bits ≡ number = ap (λ (d : Dc). d.bits) e in
    let small : size < 12 = dc_size-small way.luma size code listed in
    record { size = omega arith; bits = rw (size_is, bits_are) fits }

optional_fits : (present : Bool) (way : BlockWay) (found : Option Dc) (dc : Dc) (bits rest : List ℕ) → (optional present (dc_coefficient way)).Spells found bits rest → found ≡ Some dc → DcFits dc
optional_fits true way found dc bits rest (v, m, s, (e, f)) is = let same : v ≡ dc = same_Some v dc (sym e ∙ is) in subst DcFits same (dc_fits way v bits m s)
optional_fits false way found dc bits rest (e, f) is = absurd (none-some dc (sym e ∙ is))

-- the DC coefficient of a block that some bits spell
pub spelled-dc : (way : BlockWay) (b : Block) (dc : Dc) (bits rest : List ℕ) → (block way).Spells b bits rest → b.dc ≡ Some dc → DcFits dc
unfolding block
spelled-dc way b dc bits rest (found, m, s, (pairs, m', t, (e, f))) is =
    optional_fits way.intra way found dc bits m s (sym (ap (λ (x : Block). x.dc) e) ∙ is)

-- ---- the other coefficients

unsigned_abs-escape : (n : ℕ) → n < 2 ^ 12 → not (n == 2 ^ 11) ≡ true → unsigned_abs (escape_level n) < 2 ^ 11
unsigned_abs-escape n lt allowed = elim (cases_lt n 2048) [
  | inl small ↦ rw (lt-ltb n 2048 small) small
  | inr large ↦ elim (cases_eq n 2048) [
    | inl forbidden ↦ absurd (let clash : not true ≡ true = ap not (sym (eq-eqb n 2048 forbidden)) ∙ allowed in cc)
    | inr other ↦
        let size : 4096 - n ≡ suc (4095 - n) = omega arith in
        rw (le-ltb n 2048 large, size) (omega arith)
  ]
]

module _ (way : BlockWay) (before : List RunLevel) where
  abbrev Stands : RunLevel → Type 0
  Stands pair = CanStand pair × (next_place way before + pair.run < 64)

  coefficient_stands : (pair : RunLevel) (bits middle : List ℕ) → (coefficient way before).Spells (more pair) bits middle → Stands pair
  coefficient_stands pair bits middle (c, m, s, t) = by_code c m s t where
    by_code : (c : Coefficient) (m : List ℕ) → (element (CoefficientCode (coefficient_table way (next_place way before))) NoCode
        (rule TooMany (fits_in_block (next_place way before)) ∷ rule BadEscape is_level ∷ [])).Spells c bits m
        → (after_code c).Spells (more pair) m middle → Stands pair
    by_code end_of_block m s (e, f) = absurd (let e' : more pair ≡ last tt = e in cc)
    by_code (run_size run size) m (code, listed, passing, split) (negative, m', s', (e, f)) =
        let same : pair ≡ record { run = run; level = signed size negative } = cc in
        let parts = coefficient_code-listed (coefficient_table way (next_place way before)) run size code listed in
        let within = ltb-true (next_place way before + run) 64 (and_parts (nat_lt (next_place way before + run) 64) true passing).0 in
        subst Stands (sym same) (record { run = omega (arith, parts.0); level = rw (unsigned_abs-signed size negative) (omega (arith, parts.2)) }, within)
    by_code (escape run level) m (code, (front, listed, run_fits, level_fits, is), passing, split) (e, f) =
        let same : pair ≡ record { run = run; level = escape_level level } = cc in
        let tests = and_parts (nat_lt (next_place way before + run) 64) (is_level (escape run level) && true) passing in
        let within = ltb-true (next_place way before + run) 64 tests.0 in
        let allowed = and_parts (not (level == 0)) (not (level == 2 ^ 11)) (and_parts (is_level (escape run level)) true tests.1).0 in
        subst Stands (sym same) (record { run = run_fits; level = unsigned_abs-escape level level_fits allowed.1 }, within)

pairs_follow : (way : BlockWay) (before pairs : List RunLevel) (bits rest : List ℕ) → SpellsList (coefficient way) before pairs tt bits rest → CanFollow (next_place way before) pairs
pairs_follow way before [] bits rest s = tt
pairs_follow way before (pair ∷ pairs) bits rest (middle, s, t) =
    let here = coefficient_stands way before pair bits middle s in (
      here.0,
      here.1,
      subst (λ n. CanFollow n pairs) (next_place-push way before pair) (pairs_follow way (before ++ pair ∷ []) pairs middle rest t),
    )

-- the coefficients of a block that some bits spell
pub spelled-pairs : (way : BlockWay) (b : Block) (bits rest : List ℕ) → (block way).Spells b bits rest → CanFollow (first_place way) b.pairs.items
unfolding block
spelled-pairs way b bits rest (dc, m, s, (found, m', t, (e, f))) =
    let pairs_are : b.pairs.items ≡ found.0 = ap (λ (x : Block). x.pairs.items) e in
    let place : next_place way [] ≡ first_place way = add-zero (first_place way) in
    rw pairs_are (subst (λ n. CanFollow n found.0) place (pairs_follow way [] found.0 m m' t))
