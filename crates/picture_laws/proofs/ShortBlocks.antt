-- Zero bits on end in blocks: at most 22, from 8 before a block to 1 behind it.
use Rattle.std.proofs.Common.{
  ◌≡◌,
  ◌≢◌,
  ◌==◌,
  ◌&&◌,
  ◌+◌,
  ◌-◌,
  ◌*◌,
  ◌^◌,
  ◌<◌,
  ◌≤◌,
  ℕ,
  not,
  nat_eq,
  nat_le,
  nat_lt,
  List,
  [],
  ◌∷◌,
  ◌++◌,
  Bool,
  true,
  false,
  if◌then◌else◌,
  refl,
  sym,
  subst,
  ◌∙◌,
  arith,
  eq-eqb,
}
use Rattle.std.specs.List.{list_all}
use Rattle.std.proofs.Math.Nat.{mod-eq_of_lt}
use Rattle.std.proofs.lemmas.Bool.{and_parts, both_ways, not-true, leb-true}
use Rattle.bit_lists.specs.Bits.{bits_of, number_of}
use Rattle.bit_lists.proofs.BitLemmas.{length-bits_of, number_of-bits_of}
use Rattle.prefix_codes.specs.declared.symbol.TheConstants.{END_OF_BLOCK, ESCAPE}
use Rattle.prefix_codes.specs.declared.table_name.TableName.TheVariants.{CoeffZero, CoeffFirst, CoeffOne}
use Rattle.prefix_codes.specs.TableName.{entries}
use Rattle.prefix_codes.proofs.Computing.{tables}
use Rattle.prefix_codes.proofs.TableLemmas.{code_in-passes}
use Rattle.syntax_types.specs.declared.block.BlockWay.{BlockWay}
use Rattle.syntax_types.specs.declared.block.RunLevel.{RunLevel}
use Rattle.picture_grammar.specs.Refusal.Refusal.{NoCode, TooMany, BadEscape}
use Rattle.picture_grammar.specs.Grammar.{done, ◌>>=◌, optional, many, Next}
use Rattle.picture_grammar.specs.Grammar.Next.{more, last}
use Rattle.picture_grammar.specs.Element.{passes, element, vlclbf, uimsbf, one_flag, rule}
use Rattle.picture_grammar.specs.Block.{
  dc_table,
  dc_coefficient,
  Coefficient,
  CoefficientCode,
  after_code,
  is_level,
  fits_in_block,
  signed,
  escape_level,
  next_place,
  coefficient_table,
  coefficient,
  block,
}
use Rattle.picture_grammar.specs.Block.Coefficient.{end_of_block, run_size, escape}
use Rattle.picture_grammar.proofs.Codes.{coefficient_code-listed}
use Rattle.picture_laws.proofs.ZeroRuns.{
  AreShort,
  zeros_behind,
  IsShort,
  is_short_entry,
  short-append,
  behind-append,
  short-fewer,
  behind-fewer,
  any-short,
  any-behind,
  some-short,
  short-done,
  short-element,
  short-bind,
  short-weak,
  short-optional,
  short-many,
  short-uimsbf,
  behind_flag,
  short-flag,
  short-code,
  short-vlclbf,
}

-- a number that isn't 0
pub some-number : (from n v : ℕ) → v < 2 ^ n → v ≢ 0 → from + n ≤ 23 → AreShort from (bits_of n v) × (zeros_behind from (bits_of n v) + 1 ≤ n)
some-number from n v lt some le =
    let value : number_of (bits_of n v) ≡ v = number_of-bits_of n v ∙ mod-eq_of_lt lt in
    let (short, behind) = some-short from (bits_of n v) (λ none. some (sym value ∙ none)) (omega (arith, length-bits_of n v)) in
    (short, omega (arith, behind, length-bits_of n v))

-- ---- the DC coefficient

dc_entries : (luma : Bool) → (list_all (is_short_entry 8 (λ size. 11 - size)) (entries (dc_table luma)) ≡ true) × (list_all (λ e. nat_le e.0 11) (entries (dc_table luma)) ≡ true)
unfolding tables
dc_entries true = (refl, refl)
dc_entries false = (refl, refl)

short-dc : (way : BlockWay) → IsShort 8 (λ _. 11) (dc_coefficient way)
short-dc way =
    short-bind 8 (λ size. 11 - size) (λ _. 11) (vlclbf (dc_table way.luma) NoCode []) (λ size. uimsbf size [] >>= λ bits. done (record { size = size; bits = bits }))
    (short-vlclbf 8 (λ size. 11 - size) (dc_table way.luma) NoCode [] (dc_entries way.luma).0)
    (λ size s.
    let (code, listed, passing, split) = s.spelled in
    let few : size ≤ 11 = leb-true size 11 (code_in-passes (λ e. nat_le e.0 11) (dc_table way.luma) size code (dc_entries way.luma).1 listed) in
    short-bind (11 - size) (λ _. 11) (λ _. 11) (uimsbf size []) (λ bits. done (record { size = size; bits = bits }))
    (short-weak (11 - size) (11 - size) (λ _. 11 - size + size) (λ _. 11) (uimsbf size []) (omega arith) (λ v. omega arith) (short-uimsbf (11 - size) size [] (omega arith)))
    (λ bits t. short-done 11 (λ _. 11) (record { size = size; bits = bits }) (omega arith)))

-- ---- coefficients

-- the zeros behind a code of a table, and behind an escape alone
abbrev behind_symbol : ℕ → ℕ
behind_symbol symbol = if symbol == END_OF_BLOCK then 1 else (if symbol == ESCAPE then 0 else 10)

coefficient_entries : (way : BlockWay) (place : ℕ) → list_all (is_short_entry 11 behind_symbol) (entries (coefficient_table way place)) ≡ true
unfolding tables
coefficient_entries way place = by_flags way.intra way.vlc_one (place == 0) where
  by_flags : (intra vlc_one first : Bool) → list_all (is_short_entry 11 behind_symbol)
      (entries (if intra then (if vlc_one then CoeffOne else CoeffZero) else (if first then CoeffFirst else CoeffZero))) ≡ true
  by_flags true true first = refl
  by_flags true false first = refl
  by_flags false vlc_one true = refl
  by_flags false vlc_one false = refl

behind_most : (symbol : ℕ) → behind_symbol symbol ≤ 10
behind_most symbol = by_tests (symbol == END_OF_BLOCK) (symbol == ESCAPE) where
  by_tests : (a b : Bool) → (if a then 1 else (if b then 0 else 10)) ≤ 10
  by_tests true b = omega arith
  by_tests false true = omega arith
  by_tests false false = omega arith

abbrev behind_code : Coefficient → ℕ
behind_code end_of_block = 1
behind_code (run_size run size) = 10
behind_code (escape run level) = 11

abbrev behind_next : Next RunLevel (Unit {0}) → ℕ
behind_next (more pair) = 11
behind_next (last end) = 1

short-coefficient_code : (way : BlockWay) (place : ℕ) (c : Coefficient) (code : List ℕ) → CoefficientCode (coefficient_table way place) c code
    → passes (rule TooMany (fits_in_block place) ∷ rule BadEscape is_level ∷ []) c ≡ true → AreShort 11 code × (zeros_behind 11 code ≤ behind_code c)
short-coefficient_code way place end_of_block code listed passing = short-code 11 behind_symbol (coefficient_table way place) END_OF_BLOCK code (coefficient_entries way place) listed
short-coefficient_code way place (run_size run size) code listed passing =
    let entry = (coefficient_code-listed (coefficient_table way place) run size code listed).3 in
    let (short, behind) = short-code 11 behind_symbol (coefficient_table way place) _ code (coefficient_entries way place) entry in
    (short, omega (arith, behind, behind_most (64 * run + size)))
short-coefficient_code way place (escape run level) code (front, listed, run_fits, level_fits, is) passing =
    let (short, behind) = short-code 11 behind_symbol (coefficient_table way place) ESCAPE front (coefficient_entries way place) listed in
    let rules = and_parts (nat_lt (place + run) 64) ((not (nat_eq level 0) && not (nat_eq level 2048)) && true) passing in
    let levels = and_parts (not (nat_eq level 0)) (not (nat_eq level 2048)) (and_parts (not (nat_eq level 0) && not (nat_eq level 2048)) true rules.1).0 in
    let some : level ≢ 0 = λ none. both_ways (nat_eq level 0) (not-true (nat_eq level 0) levels.0) (eq-eqb level 0 none) in
    let (short', behind') = some-number 6 12 level level_fits some (omega arith) in
    let run_few : zeros_behind (zeros_behind 11 front) (bits_of 6 run) ≤ 6 = omega (arith, behind, any-behind (zeros_behind 11 front) (bits_of 6 run), length-bits_of 6 run) in
    let run_short : AreShort (zeros_behind 11 front) (bits_of 6 run) = any-short (zeros_behind 11 front) (bits_of 6 run) (omega (arith, behind, length-bits_of 6 run)) in
    let first = front ++ bits_of 6 run in
    let count : zeros_behind 11 first ≤ 6 = omega (arith, behind-append 11 front (bits_of 6 run), run_few) in
    subst (λ (c : List ℕ). AreShort 11 c × (zeros_behind 11 c ≤ 11)) (sym is) (
      short-append 11 first (bits_of 12 level) (short-append 11 front (bits_of 6 run) short run_short) (short-fewer (zeros_behind 11 first) 6 (bits_of 12 level) count short'),
      omega (arith, behind-append 11 first (bits_of 12 level), behind-fewer (zeros_behind 11 first) 6 (bits_of 12 level) count, behind'),
    )

short-after_code : (c : Coefficient) → IsShort (behind_code c) behind_next (after_code c)
short-after_code end_of_block = short-done 1 behind_next (last tt) (omega arith)
short-after_code (run_size run size) =
    short-bind 10 (behind_flag 10) behind_next one_flag (λ negative. done (more (record { run = run; level = signed size negative }))) (short-flag 10 [] (omega arith))
    (λ negative s. short-done (behind_flag 10 negative) behind_next (more (record { run = run; level = signed size negative })) (few negative)) where
      few : (negative : Bool) → behind_flag 10 negative ≤ 11
      few true = omega arith
      few false = omega arith
short-after_code (escape run level) = short-done 11 behind_next (more (record { run = run; level = escape_level level })) (omega arith)

short-coefficient : (way : BlockWay) (before : List RunLevel) → IsShort 11 behind_next (coefficient way before)
short-coefficient way before =
    let place = next_place way before in
    short-bind 11 behind_code behind_next (element (CoefficientCode (coefficient_table way place)) NoCode (rule TooMany (fits_in_block place) ∷ rule BadEscape is_level ∷ [])) after_code
    (short-element 11 behind_code _ NoCode (rule TooMany (fits_in_block place) ∷ rule BadEscape is_level ∷ []) (short-coefficient_code way place)) (λ c s. short-after_code c)

pub short-block : (way : BlockWay) → IsShort 8 (λ _. 1) (block way)
unfolding block
short-block way =
    short-bind 8 (λ _. 11) (λ _. 1) (optional way.intra (dc_coefficient way)) (λ dc. many (coefficient way) >>= λ found. done (record { dc = dc; pairs = record { items = found.0 } }))
    (short-optional 8 (λ _. 11) way.intra (dc_coefficient way) (λ _. short-dc way) (λ _. omega arith))
    (λ dc s. short-bind 11 (λ _. 1) (λ _. 1) (many (coefficient way)) (λ found. done (record { dc = dc; pairs = record { items = found.0 } }))
    (short-many 11 behind_next (coefficient way) (λ v. omega arith) (short-coefficient way))
    (λ found t. short-done 1 (λ _. 1) (record { dc = dc; pairs = record { items = found.0 } }) (omega arith)))
