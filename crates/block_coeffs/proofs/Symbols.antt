-- The symbols of coefficients, and the codes that some bits begin.
use Rattle.std.proofs.Common.{◌≡◌, ℕ, ◌+◌, ◌*◌, ◌/◌, ◌%◌, ◌<◌, ◌≤◌, ◌⊎◌, Bool, true, false, cond, nat_eq, nat_lt, List, ◌++◌, length, Some, refl, sym, ap, subst, ◌∙◌, inl, inr, arith, append_assoc}
use Rattle.std.specs.List.{list_all}
use Rattle.std.proofs.lemmas.Bool.{and_from, cases_eq, cond_both, cond-false, ne_eqb, ltb-true, lt-ltb}
use Rattle.bit_lists.specs.Bits.{IsPrefix, bits_of}
use Rattle.bit_lists.proofs.PrefixLemmas.{IsPrefix-append, IsPrefix-either, IsPrefix-through}
use Rattle.prefix_codes.specs.declared.symbol.TheConstants.{END_OF_BLOCK, ESCAPE, LEVELS_PER_RUN}
use Rattle.prefix_codes.specs.declared.table_name.TableName.{TableName}
use Rattle.prefix_codes.specs.declared.table_name.TableName.TheVariants.{Address, TypeI, TypeP, TypeB, Pattern, Motion, DcLuma, DcChroma, CoeffZero, CoeffFirst, CoeffOne}
use Rattle.prefix_codes.specs.Entry.{Entry}
use Rattle.prefix_codes.specs.TableName.{entries, code_in, is_coefficients}
use Rattle.prefix_codes.proofs.Computing.{tables}
use Rattle.prefix_codes.proofs.TableLemmas.{code_in-passes}
use Rattle.prefix_codes.proofs.CoefficientLemmas.{IsCoefficients, coefficient_code-symbol}
use Rattle.prefix_codes.proofs.CoefficientLemmas.IsCoefficients.{zero_is, first_is, one_is}
use Rattle.picture_grammar.specs.Element.{Rule, passes, MayStand}
use Rattle.picture_grammar.specs.Block.{Coefficient, CoefficientCode, fits_in_block}
use Rattle.picture_grammar.specs.Block.Coefficient.{end_of_block, run_size, escape}
use Rattle.picture_grammar.proofs.Codes.{symbol_of, fronts, coefficient_code-listed}
use Rattle.block_coeffs.specs.Private.Why.{rules_at}
use Rattle.block_coeffs.specs.Private.Cut.{least_run, symbol_fits}
use Rattle.grammar_reading.specs.Cut.{BeginsCode}

pub coefficients-is : (table : TableName) → is_coefficients table ≡ true → IsCoefficients table
coefficients-is Address e = cc
coefficients-is TypeI e = cc
coefficients-is TypeP e = cc
coefficients-is TypeB e = cc
coefficients-is Pattern e = cc
coefficients-is Motion e = cc
coefficients-is DcLuma e = cc
coefficients-is DcChroma e = cc
coefficients-is CoeffZero e = zero_is
coefficients-is CoeffFirst e = first_is
coefficients-is CoeffOne e = one_is

-- ---- codes

-- a code is shorter than a window
abbrev is_short : Entry → Bool
is_short e = nat_lt (length e.1) 24

are_short : {table : TableName} → IsCoefficients table → list_all is_short (entries table) ≡ true
unfolding tables
are_short zero_is = refl
are_short first_is = refl
are_short one_is = refl

pub shorter-code : {table : TableName} (s : ℕ) (code : List ℕ) → IsCoefficients table → code_in table s ≡ Some code → length code < 24
shorter-code {table} s code is listed = ltb-true (length code) 24 (code_in-passes is_short table s code (are_short is) listed)

pub length-code : {table : TableName} (s : ℕ) (code : List ℕ) → IsCoefficients table → code_in table s ≡ Some code → length code ≤ 24
length-code s code is listed = let less = shorter-code s code is listed in omega arith

pub escape_code : {table : TableName} → IsCoefficients table → code_in table ESCAPE ≡ Some (bits_of 6 1)
unfolding tables
escape_code zero_is = refl
escape_code first_is = refl
escape_code one_is = refl

-- a symbol is one that a search among the least ones meets
abbrev is_met : Entry → Bool
is_met e = nat_lt e.0 4002

are_met : {table : TableName} → IsCoefficients table → list_all is_met (entries table) ≡ true
unfolding tables
are_met zero_is = refl
are_met first_is = refl
are_met one_is = refl

pub symbol-most : {table : TableName} (s : ℕ) (code : List ℕ) → IsCoefficients table → code_in table s ≡ Some code → s < 4002
symbol-most {table} s code is listed = ltb-true s 4002 (code_in-passes is_met table s code (are_met is) listed)

-- behind the end of block stands the escape alone
pub past-end : {table : TableName} (s : ℕ) (code : List ℕ) → IsCoefficients table → code_in table s ≡ Some code → END_OF_BLOCK < s → s ≡ ESCAPE
past-end s code is listed past = let most = symbol-most s code is listed in omega arith

-- ---- where a symbol may stand

cond-either : (b x : Bool) → x ≡ true → cond b true x ≡ true
cond-either true x e = refl
cond-either false x e = e

-- a coefficient within the block has a symbol that may stand there
pub symbol_fits-of : (table : TableName) (place : ℕ) (v : Coefficient) (c : List ℕ) → CoefficientCode table v c → fits_in_block place v ≡ true → symbol_fits place (symbol_of v) ≡ true
unfolding symbol_of
symbol_fits-of table place end_of_block c coded within = refl
symbol_fits-of table place (run_size run size) c coded within =
    let l = coefficient_code-listed table run size c coded in
    let s = LEVELS_PER_RUN * run + size in
    let run_is : s / LEVELS_PER_RUN ≡ run = omega (arith, l.2) in
    let fits : place + run < 64 = ltb-true (place + run) 64 within in
    let least : least_run s ≤ run = cond_both (nat_eq s ESCAPE) 0 (s / LEVELS_PER_RUN) (λ r. r ≤ run) (λ e. omega arith) (λ e. omega arith) in
    cond-either (nat_eq s END_OF_BLOCK) (nat_lt (place + least_run s) 64) (lt-ltb (place + least_run s) 64 (omega arith))
symbol_fits-of table place (escape run level) c coded within =
    let fits : place + run < 64 = ltb-true (place + run) 64 within in
    lt-ltb (place + 0) 64 (omega arith)

-- at the first place every coefficient of a table is within the block
pub is_within-first : (table : TableName) (v : Coefficient) (c : List ℕ) → CoefficientCode table v c → fits_in_block 0 v ≡ true
is_within-first table end_of_block c coded = refl
is_within-first table (run_size run size) c coded = let l = coefficient_code-listed table run size c coded in lt-ltb (0 + run) 64 (omega (arith, l.0))
is_within-first table (escape run level) c (front, listed, run_fits, level_fits, is) = lt-ltb (0 + run) 64 (omega arith)

-- ---- coefficients whose codes some bits begin

-- a coefficient of a symbol: its code goes on behind the bits, and it may stand where the symbol may
pub record Begun (table : TableName) (place symbol : ℕ) (bits : List ℕ) : Type 0 where
  pub value : Coefficient
  pub code : List ℕ
  pub coded : CoefficientCode table value code
  pub cut : IsPrefix bits code
  pub passing : symbol_fits place symbol ≡ true → passes (rules_at place) value ≡ true

begun-end : (table : TableName) (place symbol : ℕ) (bits : List ℕ) → symbol ≡ END_OF_BLOCK → BeginsCode table symbol bits → Begun table place symbol bits
begun-end table place symbol bits same b = record {
  value = end_of_block;
  code = b.code;
  coded = ap (code_in table) (sym same) ∙ b.listed;
  cut = b.cut;
  passing = λ fits. refl;
}

begun-escape : (table : TableName) (place symbol : ℕ) (bits : List ℕ) → symbol ≡ ESCAPE → BeginsCode table symbol bits → Begun table place symbol bits
begun-escape table place symbol bits same b = record {
  value = escape 0 1;
  code = b.code ++ bits_of 6 0 ++ bits_of 12 1;
  coded = (b.code, ap (code_in table) (sym same) ∙ b.listed, omega arith, omega arith, refl);
  cut = IsPrefix-through bits b.code (b.code ++ bits_of 6 0 ++ bits_of 12 1) b.cut
      (subst (IsPrefix b.code) (sym (append_assoc b.code (bits_of 6 0) (bits_of 12 1))) (IsPrefix-append b.code (bits_of 6 0 ++ bits_of 12 1)));
  passing = λ fits. let here : nat_lt (place + 0) 64 ≡ true = ap (symbol_fits place) (sym same) ∙ fits in and_from (nat_lt (place + 0) 64) true here refl;
}

begun-run : {table : TableName} (place symbol : ℕ) (bits : List ℕ) → IsCoefficients table → (symbol ≡ END_OF_BLOCK → ⊥) → (symbol ≡ ESCAPE → ⊥)
    → BeginsCode table symbol bits → Begun table place symbol bits
begun-run {table} place symbol bits is no_end no_escape b = record {
  value = run_size (symbol / LEVELS_PER_RUN) (symbol % LEVELS_PER_RUN);
  code = b.code;
  coded = coefficient_code-symbol symbol b.code is b.listed no_end no_escape;
  cut = b.cut;
  passing = λ fits.
      let run_is : least_run symbol ≡ symbol / LEVELS_PER_RUN = cond-false (nat_eq symbol ESCAPE) 0 (symbol / LEVELS_PER_RUN) (ne_eqb symbol ESCAPE no_escape) in
      let here : nat_lt (place + least_run symbol) 64 ≡ true = sym (cond-false (nat_eq symbol END_OF_BLOCK) true (nat_lt (place + least_run symbol) 64) (ne_eqb symbol END_OF_BLOCK no_end)) ∙ fits in
      and_from (nat_lt (place + symbol / LEVELS_PER_RUN) 64) true (ap (λ r. nat_lt (place + r) 64) (sym run_is) ∙ here) refl;
}

pub begun : {table : TableName} (place symbol : ℕ) (bits : List ℕ) → IsCoefficients table → BeginsCode table symbol bits → Begun table place symbol bits
begun {table} place symbol bits is b = elim (cases_eq symbol END_OF_BLOCK) [
  | inl same ↦ begun-end table place symbol bits same b
  | inr no_end ↦ elim (cases_eq symbol ESCAPE) [
    | inl same ↦ begun-escape table place symbol bits same b
    | inr no_escape ↦ begun-run place symbol bits is no_end no_escape b
  ]
]

-- no code of the table begins the bits
abbrev pub NoCodeStands : TableName → List ℕ → Type 0
NoCodeStands table bits = (s : ℕ) (f : List ℕ) → code_in table s ≡ Some f → IsPrefix f bits → ⊥

-- then a coefficient may stand there only where the bits begin the code of its symbol
pub may-begin : (table : TableName) (bits : List ℕ) → NoCodeStands table bits
    → (rules : List (Rule Coefficient)) (m : MayStand (CoefficientCode table) rules bits) → BeginsCode table (symbol_of m.value) bits
may-begin table bits none rules m = by_cases m.agrees where
  f : (front : List ℕ) × (code_in table (symbol_of m.value) ≡ Some front) × IsPrefix front m.code
  f = fronts table m.value m.code m.coded

  by_cases : IsPrefix m.code bits ⊎ IsPrefix bits m.code → BeginsCode table (symbol_of m.value) bits
  by_cases (inl p) = absurd (none (symbol_of m.value) f.0 f.1 (IsPrefix-through f.0 m.code bits f.2 p))
  by_cases (inr p) = elim (IsPrefix-either f.0 bits m.code f.2 p) [
    | inl q ↦ absurd (none (symbol_of m.value) f.0 f.1 q)
    | inr q ↦ record { code = f.0; listed = f.1; cut = q }
  ]
