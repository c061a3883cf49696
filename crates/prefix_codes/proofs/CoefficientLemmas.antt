-- The symbols of the coefficient tables are those of runs and levels, the end of block and the escape.
use Rattle.std.proofs.Common.{◌≡◌, ◌≢◌, ℕ, ◌+◌, ◌*◌, ◌/◌, ◌%◌, Bool, true, ◌&&◌, ◌||◌, nat_eq, nat_lt, List, Some, None, refl, ap, ◌∙◌, arith, inl, inr}
use Rattle.std.specs.List.{list_all}
use Rattle.std.proofs.Math.Nat.{div-add-mod}
use Rattle.std.proofs.lemmas.Bool.{and_from, or_cases, cond-true, eqb-true, lt-ltb}
use Rattle.prefix_codes.specs.declared.symbol.TheConstants.{END_OF_BLOCK, ESCAPE, LEVELS_PER_RUN, RUNS}
use Rattle.prefix_codes.specs.declared.table_name.TableName.{TableName}
use Rattle.prefix_codes.specs.declared.table_name.TableName.TheVariants.{CoeffZero, CoeffFirst, CoeffOne}
use Rattle.prefix_codes.specs.Entry.{Entry}
use Rattle.prefix_codes.specs.TableName.{entries, code_in, coefficient_code}
use Rattle.prefix_codes.proofs.Computing.{tables}
use Rattle.prefix_codes.proofs.TableLemmas.{code_in-passes}

-- the entry is the end of block or the escape, or its symbol is that of a run and a level
abbrev is_coefficient_entry : Entry → Bool
is_coefficient_entry e =
    nat_eq e.0 END_OF_BLOCK || (nat_eq e.0 ESCAPE || (nat_lt (e.0 / LEVELS_PER_RUN) RUNS && nat_lt 0 (e.0 % LEVELS_PER_RUN)))

-- the table is one of DCT coefficients
pub data IsCoefficients : TableName → Type 0 where
  zero_is : IsCoefficients CoeffZero
  first_is : IsCoefficients CoeffFirst
  one_is : IsCoefficients CoeffOne

are_coefficients : {table : TableName} → IsCoefficients table → list_all is_coefficient_entry (entries table) ≡ true
unfolding tables
are_coefficients zero_is = refl
are_coefficients first_is = refl
are_coefficients one_is = refl

-- A code that is neither the end of block nor the escape is that of a run and a level.
pub coefficient_code-symbol : {table : TableName} (s : ℕ) (code : List ℕ) → IsCoefficients table → code_in table s ≡ Some code → s ≢ END_OF_BLOCK
    → s ≢ ESCAPE → coefficient_code table (s / LEVELS_PER_RUN) (s % LEVELS_PER_RUN) ≡ Some code
unfolding coefficient_code
coefficient_code-symbol {table} s code is found no_end no_escape =
    let run = s / LEVELS_PER_RUN in
    let level = s % LEVELS_PER_RUN in
    let passes = code_in-passes is_coefficient_entry table s code (are_coefficients is) found in
    let place : (nat_lt run RUNS && nat_lt 0 level) ≡ true = elim (or_cases (nat_eq s END_OF_BLOCK) _ passes) [
      | inl end ↦ absurd (no_end (eqb-true s END_OF_BLOCK end))
      | inr rest ↦ elim (or_cases (nat_eq s ESCAPE) _ rest) [
        | inl escape ↦ absurd (no_escape (eqb-true s ESCAPE escape))
        | inr place ↦ place
      ]
    ] in
    let low : nat_lt level LEVELS_PER_RUN ≡ true = lt-ltb level LEVELS_PER_RUN (omega arith) in
    cond-true _ (code_in table (LEVELS_PER_RUN * run + level)) None (and_from _ _ place low)
    ∙ ap (code_in table) (div-add-mod s LEVELS_PER_RUN) ∙ found
