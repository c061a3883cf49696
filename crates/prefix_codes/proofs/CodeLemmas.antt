-- The words of a table's codes are its codes: a test of each entry and of each word, computed for each table, and what it
-- says of symbols.
use Rattle.std.proofs.Common.{
  ◌≡◌,
  ◌≢◌,
  ℕ,
  zero,
  suc,
  ◌+◌,
  ◌-◌,
  ◌*◌,
  ◌/◌,
  ◌%◌,
  ◌^◌,
  ◌<◌,
  ◌≤◌,
  Bool,
  true,
  false,
  ◌&&◌,
  ◌||◌,
  nat_eq,
  nat_lt,
  nat_le,
  List,
  length,
  Option,
  Some,
  None,
  refl,
  sym,
  ap,
  ap₂,
  subst,
  ◌∙◌,
  inl,
  inr,
  arith,
}
use Rattle.std.specs.List.{list_all}
use Rattle.std.specs.Prelude.{is_some, IfSome, IfNone}
use Rattle.std.proofs.lemmas.Bool.{and_parts, and_from, or_cases, eqb-true, ltb-true, leb-true, cond-true, cond-false, cases_Bool, cases_lt, cases_eq, lt-ltb}
use Rattle.std.proofs.lemmas.List.{get_or_past}
use Rattle.bit_lists.specs.Bits.{bits_of}
use Rattle.bit_lists.proofs.BitLemmas.{length-bits_of}
use Rattle.bit_lists.proofs.PrefixLemmas.{IsPrefix-whole}
use Rattle.prefix_codes.specs.declared.code.Code.{Code}
use Rattle.prefix_codes.specs.declared.lookup.TheConstants.{WINDOW_BITS, NO_PLACE}
use Rattle.prefix_codes.specs.declared.symbol.TheConstants.{END_OF_BLOCK, ESCAPE, LEVELS_PER_RUN, RUNS}
use Rattle.prefix_codes.specs.declared.table_name.TableName.{TableName}
use Rattle.prefix_codes.specs.declared.table_name.TableName.TheVariants.{Address, TypeI, TypeP, TypeB, Pattern, Motion, DcLuma, DcChroma, CoeffZero, CoeffFirst, CoeffOne}
use Rattle.prefix_codes.specs.TableName.{entries, code_in, coefficient_code, is_coefficients}
use Rattle.prefix_codes.specs.Private.Words.{number_in, length_in}
use Rattle.prefix_codes.specs.Private.Codes.{codes_of, code_word, run_place, coefficient_place, place_of_coefficient, place_of}
use Rattle.prefix_codes.proofs.Computing.{tables}
use Rattle.prefix_codes.proofs.TableLemmas.{begins, code_in-passes}
use Rattle.prefix_codes.proofs.LevelLemmas.{IsPrefix_from_begins}

-- ---- the tests

-- a word holds a code of a table
abbrev pub holds : List ℕ → ℕ → Bool
holds code word =
    (begins code (bits_of (length_in word) (number_in word)) && nat_eq (length code) (length_in word))
    && ((nat_lt 0 (length_in word) && nat_le (length_in word) WINDOW_BITS) && nat_lt (number_in word) (2 ^ length_in word))

-- the word of each entry holds its code
entries_held : (table : TableName) → list_all (λ e. holds e.1 (code_word table (place_of table e.0))) (entries table) ≡ true
unfolding tables begins codes_of run_place
entries_held Address = refl
entries_held TypeI = refl
entries_held TypeP = refl
entries_held TypeB = refl
entries_held Pattern = refl
entries_held Motion = refl
entries_held DcLuma = refl
entries_held DcChroma = refl
entries_held CoeffZero = refl
entries_held CoeffFirst = refl
entries_held CoeffOne = refl

-- each number below a bound passes
unfoldable pub all_below : (ℕ → Bool) → ℕ → Bool
all_below test zero = true
all_below test (suc n) = test n && all_below test n

-- a symbol has no word, or the table has it
abbrev pub is_listed : TableName → ℕ → Bool
is_listed table symbol = nat_eq (length_in (code_word table (place_of table symbol))) 0 || is_some (code_in table symbol)

-- how many codes a run has
abbrev pub run_codes : ℕ → ℕ
run_codes run = run_place (run + 1) - run_place run

-- the table has each size of a run's codes
abbrev pub has_run : TableName → ℕ → Bool
has_run table run = all_below (λ below. is_some (code_in table (LEVELS_PER_RUN * run + (below + 1)))) (run_codes run) && nat_lt (run_codes run) LEVELS_PER_RUN

runs_listed : (table : TableName) → is_coefficients table ≡ true → all_below (has_run table) RUNS ≡ true
unfolding tables all_below run_place
runs_listed Address e = cc
runs_listed TypeI e = cc
runs_listed TypeP e = cc
runs_listed TypeB e = cc
runs_listed Pattern e = cc
runs_listed Motion e = cc
runs_listed DcLuma e = cc
runs_listed DcChroma e = cc
runs_listed CoeffZero e = refl
runs_listed CoeffFirst e = refl
runs_listed CoeffOne e = refl

-- the symbols of the other tables are below the number of their words
symbols_listed : (table : TableName) → is_coefficients table ≡ false → all_below (is_listed table) (length (codes_of table)) ≡ true
unfolding tables all_below codes_of
symbols_listed Address e = refl
symbols_listed TypeI e = refl
symbols_listed TypeP e = refl
symbols_listed TypeB e = refl
symbols_listed Pattern e = refl
symbols_listed Motion e = refl
symbols_listed DcLuma e = refl
symbols_listed DcChroma e = refl
symbols_listed CoeffZero e = cc
symbols_listed CoeffFirst e = cc
symbols_listed CoeffOne e = cc

others_listed : (table : TableName) → is_coefficients table ≡ true → (is_listed table END_OF_BLOCK && is_listed table ESCAPE) ≡ true
unfolding tables codes_of
others_listed Address e = cc
others_listed TypeI e = cc
others_listed TypeP e = cc
others_listed TypeB e = cc
others_listed Pattern e = cc
others_listed Motion e = cc
others_listed DcLuma e = cc
others_listed DcChroma e = cc
others_listed CoeffZero e = refl
others_listed CoeffFirst e = refl
others_listed CoeffOne e = refl

-- ---- what the tests say

below_all : (test : ℕ → Bool) (n k : ℕ) → all_below test n ≡ true → k < n → test k ≡ true
unfolding all_below
below_all test zero k passes lt = absurd (omega arith)
below_all test (suc n) k passes lt =
    let parts = and_parts (test n) (all_below test n) passes in
    elim (cases_lt k n) [
      | inl below ↦ below_all test n k parts.1 below
      | inr at ↦ let same : n ≡ k = omega arith in subst (λ x. test x ≡ true) same parts.0
    ]

some_is : (o : Option (List ℕ)) → is_some o ≡ true → (code : List ℕ) × (o ≡ Some code)
some_is None e = cc
some_is (Some code) e = (code, refl)

-- a word is a code of so many bits
pub record Holds (code : List ℕ) (word : ℕ) : Type 0 where
  pub bits : code ≡ bits_of (length_in word) (number_in word)
  pub some : 0 < length_in word
  pub few : length_in word ≤ WINDOW_BITS
  pub below : number_in word < 2 ^ length_in word

Holds_from_test : (code : List ℕ) (word : ℕ) → holds code word ≡ true → Holds code word
Holds_from_test code word test =
    let len = length_in word in
    let is : List ℕ = bits_of len (number_in word) in
    let parts = and_parts (begins code is && nat_eq (length code) len) ((nat_lt 0 len && nat_le len WINDOW_BITS) && nat_lt (number_in word) (2 ^ len)) test in
    let same = and_parts (begins code is) (nat_eq (length code) len) parts.0 in
    let sizes = and_parts (nat_lt 0 len && nat_le len WINDOW_BITS) (nat_lt (number_in word) (2 ^ len)) parts.1 in
    let ends = and_parts (nat_lt 0 len) (nat_le len WINDOW_BITS) sizes.0 in
    record {
      bits = IsPrefix-whole code is (eqb-true (length code) len same.1 ∙ sym (length-bits_of len (number_in word))) (IsPrefix_from_begins code is same.0);
      some = ltb-true 0 len ends.0;
      few = leb-true len WINDOW_BITS ends.1;
      below = ltb-true (number_in word) (2 ^ len) sizes.1;
    }

-- the word of each code of a table
word_holds : (table : TableName) (s : ℕ) (code : List ℕ) → code_in table s ≡ Some code → Holds code (code_word table (place_of table s))
word_holds table s code listed =
    Holds_from_test code (code_word table (place_of table s))
    (code_in-passes (λ e. holds e.1 (code_word table (place_of table e.0))) table s code (entries_held table) listed)

-- ---- runs and sizes

no_place : (table : TableName) → is_coefficients table ≡ true → code_word table NO_PLACE ≡ 0
unfolding codes_of
no_place Address e = cc
no_place TypeI e = cc
no_place TypeP e = cc
no_place TypeB e = cc
no_place Pattern e = cc
no_place Motion e = cc
no_place DcLuma e = cc
no_place DcChroma e = cc
no_place CoeffZero e = refl
no_place CoeffFirst e = refl
no_place CoeffOne e = refl

place_of-coefficients : (table : TableName) (s : ℕ) → is_coefficients table ≡ true → place_of table s ≡ place_of_coefficient s
place_of-coefficients Address s e = cc
place_of-coefficients TypeI s e = cc
place_of-coefficients TypeP s e = cc
place_of-coefficients TypeB s e = cc
place_of-coefficients Pattern s e = cc
place_of-coefficients Motion s e = cc
place_of-coefficients DcLuma s e = cc
place_of-coefficients DcChroma s e = cc
place_of-coefficients CoeffZero s e = refl
place_of-coefficients CoeffFirst s e = refl
place_of-coefficients CoeffOne s e = refl

place_of-others : (table : TableName) (s : ℕ) → is_coefficients table ≡ false → place_of table s ≡ s
place_of-others Address s e = refl
place_of-others TypeI s e = refl
place_of-others TypeP s e = refl
place_of-others TypeB s e = refl
place_of-others Pattern s e = refl
place_of-others Motion s e = refl
place_of-others DcLuma s e = refl
place_of-others DcChroma s e = refl
place_of-others CoeffZero s e = cc
place_of-others CoeffFirst s e = cc
place_of-others CoeffOne s e = cc

eqb-false : (a b : ℕ) → a ≢ b → nat_eq a b ≡ false
eqb-false a b differ = elim (cases_Bool (nat_eq a b)) [
  | inl same ↦ absurd (differ (eqb-true a b same))
  | inr other ↦ other
]

-- where a run and a size have a place
abbrev has_place : ℕ → ℕ → Bool
has_place run size = nat_lt run RUNS && (nat_lt 0 size && nat_lt (run_place run + size - 1) (run_place (run + 1)))

module _ (table : TableName) (tests : is_coefficients table ≡ true) (run size : ℕ) where
  listed_place : 0 < length_in (code_word table (coefficient_place run size)) → (run < RUNS) × (0 < size) × (size < LEVELS_PER_RUN) × (is_some (code_in table (LEVELS_PER_RUN * run + size)) ≡ true)
  listed_place some = elim (cases_Bool (has_place run size)) [
    | inl has ↦
        let parts = and_parts (nat_lt run RUNS) (nat_lt 0 size && nat_lt (run_place run + size - 1) (run_place (run + 1))) has in
        let rest = and_parts (nat_lt 0 size) (nat_lt (run_place run + size - 1) (run_place (run + 1))) parts.1 in
        let low : run < RUNS = ltb-true run RUNS parts.0 in
        let many : 0 < size = ltb-true 0 size rest.0 in
        let within : run_place run + size - 1 < run_place (run + 1) = ltb-true (run_place run + size - 1) (run_place (run + 1)) rest.1 in
        let of_run = and_parts (all_below (λ below. is_some (code_in table (LEVELS_PER_RUN * run + (below + 1)))) (run_codes run))
        (nat_lt (run_codes run) LEVELS_PER_RUN) (below_all (has_run table) RUNS run (runs_listed table tests) low) in
        let few : run_codes run < LEVELS_PER_RUN = ltb-true (run_codes run) LEVELS_PER_RUN of_run.1 in
        let one : is_some (code_in table (LEVELS_PER_RUN * run + (size - 1 + 1))) ≡ true =
        below_all (λ below. is_some (code_in table (LEVELS_PER_RUN * run + (below + 1)))) (run_codes run) (size - 1) of_run.0 (omega arith) in
        let back : size - 1 + 1 ≡ size = omega arith in
        (low, many, (omega arith), subst (λ x. is_some (code_in table (LEVELS_PER_RUN * run + x)) ≡ true) back one)
    | inr other ↦
        let none : code_word table (coefficient_place run size) ≡ 0 = ap (code_word table) (cond-false (has_place run size) (run_place run + size - 1) NO_PLACE other) ∙ no_place table tests in
        absurd (let zero_len : length_in (code_word table (coefficient_place run size)) ≡ 0 = ap length_in none in omega arith)
  ]

  symbol_place : run < RUNS → 0 < size → size < LEVELS_PER_RUN → place_of table (LEVELS_PER_RUN * run + size) ≡ coefficient_place run size
  symbol_place low some few =
      let symbol = LEVELS_PER_RUN * run + size in
      let no_end : nat_eq symbol END_OF_BLOCK ≡ false = eqb-false symbol END_OF_BLOCK (λ e. omega arith) in
      let no_escape : nat_eq symbol ESCAPE ≡ false = eqb-false symbol ESCAPE (λ e. omega arith) in
      let run_is : symbol / LEVELS_PER_RUN ≡ run = omega arith in
      let size_is : symbol % LEVELS_PER_RUN ≡ size = omega arith in
      place_of-coefficients table symbol tests ∙ cond-false _ 0 _ no_end ∙ cond-false _ 1 _ no_escape ∙ ap₂ coefficient_place run_is size_is

  abbrev is_within : Bool
  is_within = nat_lt run RUNS && nat_lt 0 size && nat_lt size LEVELS_PER_RUN

  pub coefficient_code-some : 0 < length_in (code_word table (coefficient_place run size)) → (code : List ℕ)
      × (coefficient_code table run size ≡ Some code) × Holds code (code_word table (coefficient_place run size))
  unfolding coefficient_code
  coefficient_code-some some =
      let listed = listed_place some in
      let code = some_is (code_in table (LEVELS_PER_RUN * run + size)) listed.3 in
      let within : is_within ≡ true = and_from _ _ (and_from _ _ (lt-ltb run RUNS listed.0) (lt-ltb 0 size listed.1)) (lt-ltb size LEVELS_PER_RUN listed.2) in (
        code.0,
        cond-true is_within (code_in table (LEVELS_PER_RUN * run + size)) None within ∙ code.1,
        subst (λ place. Holds code.0 (code_word table place)) (symbol_place listed.0 listed.1 listed.2) (word_holds table (LEVELS_PER_RUN * run + size) code.0 code.1),
      )

  pub coefficient_code-none : length_in (code_word table (coefficient_place run size)) ≡ 0 → coefficient_code table run size ≡ None
  unfolding coefficient_code
  coefficient_code-none none = elim (cases_Bool is_within) [
    | inl within ↦
        let parts = and_parts (nat_lt run RUNS && nat_lt 0 size) (nat_lt size LEVELS_PER_RUN) within in
        let ends = and_parts (nat_lt run RUNS) (nat_lt 0 size) parts.0 in
        let place = symbol_place (ltb-true run RUNS ends.0) (ltb-true 0 size ends.1) (ltb-true size LEVELS_PER_RUN parts.1) in
        cond-true is_within (code_in table (LEVELS_PER_RUN * run + size)) None within ∙ by_cases place (code_in table (LEVELS_PER_RUN * run + size)) refl
    | inr other ↦ cond-false is_within (code_in table (LEVELS_PER_RUN * run + size)) None other
  ]
    where
      by_cases : place_of table (LEVELS_PER_RUN * run + size) ≡ coefficient_place run size → (o : Option (List ℕ))
          → code_in table (LEVELS_PER_RUN * run + size) ≡ o → code_in table (LEVELS_PER_RUN * run + size) ≡ None
      by_cases place None e = e
      by_cases place (Some code) e =
          let held = subst (λ p. Holds code (code_word table p)) place (word_holds table (LEVELS_PER_RUN * run + size) code e) in
          absurd (omega (arith, held.some))

-- ---- symbols

module _ (table : TableName) (s : ℕ) where
  -- a symbol with a word has a code
  has_code : 0 < length_in (code_word table (place_of table s)) → is_some (code_in table s) ≡ true
  has_code some = elim (cases_Bool (is_coefficients table)) [
    | inl tests ↦
        let others = and_parts (is_listed table END_OF_BLOCK) (is_listed table ESCAPE) (others_listed table tests) in
        elim (cases_eq s END_OF_BLOCK) [
          | inl end ↦ from_test (subst (λ x. is_listed table x ≡ true) (sym end) others.0)
          | inr no_end ↦ elim (cases_eq s ESCAPE) [
            | inl escape ↦ from_test (subst (λ x. is_listed table x ≡ true) (sym escape) others.1)
            | inr no_escape ↦
                let run = s / LEVELS_PER_RUN in
                let size = s % LEVELS_PER_RUN in
                let place : place_of table s ≡ coefficient_place run size =
                place_of-coefficients table s tests ∙ cond-false _ 0 _ (eqb-false s END_OF_BLOCK no_end) ∙ cond-false _ 1 _ (eqb-false s ESCAPE no_escape) in
                let whole : LEVELS_PER_RUN * run + size ≡ s = omega arith in
                subst (λ x. is_some (code_in table x) ≡ true) whole
                (listed_place table tests run size (subst (λ p. 0 < length_in (code_word table p)) place some)).3
          ]
        ]
    | inr other ↦ elim (cases_lt s (length (codes_of table))) [
      | inl below ↦ from_test (below_all (is_listed table) (length (codes_of table)) s (symbols_listed table other) below)
      | inr past ↦
          let none : code_word table (place_of table s) ≡ 0 = ap (code_word table) (place_of-others table s other) ∙ get_or_past (codes_of table) s 0 past in
          absurd (let zero_len : length_in (code_word table (place_of table s)) ≡ 0 = ap length_in none in omega arith)
    ]
  ]
    where
      from_test : is_listed table s ≡ true → is_some (code_in table s) ≡ true
      from_test test = elim (or_cases (nat_eq (length_in (code_word table (place_of table s))) 0) (is_some (code_in table s)) test) [
        | inl none ↦ absurd (let zero_len : length_in (code_word table (place_of table s)) ≡ 0 = eqb-true (length_in (code_word table (place_of table s))) 0 none in omega arith)
        | inr listed ↦ listed
      ]

  pub code_in-some : 0 < length_in (code_word table (place_of table s)) → (code : List ℕ) × (code_in table s ≡ Some code) × Holds code (code_word table (place_of table s))
  code_in-some some =
      let code = some_is (code_in table s) (has_code some) in
      (code.0, code.1, word_holds table s code.0 code.1)

  pub code_in-none : length_in (code_word table (place_of table s)) ≡ 0 → code_in table s ≡ None
  code_in-none none = by_cases (code_in table s) refl
    where
      by_cases : (o : Option (List ℕ)) → code_in table s ≡ o → code_in table s ≡ None
      by_cases None e = e
      by_cases (Some code) e = absurd (omega (arith, (word_holds table s code e).some))

-- ---- the clauses of a code that was read from a word

-- the code in a word, as the program has it
abbrev pub IsCodeOf : ℕ → Code → Type 0
IsCodeOf word code = (0 < code.len) × (code.len ≡ length_in word) × (code.bits ≡ number_in word)

module _ (word place : ℕ) (table : TableName) (is : word ≡ code_word table place) (listed : Option (List ℕ))
    (some : 0 < length_in (code_word table place) → (code : List ℕ) × (listed ≡ Some code) × Holds code (code_word table place)) where
  read : 0 < length_in word → (code : List ℕ) × (listed ≡ Some code) × Holds code word
  read lt = subst (λ w. (code : List ℕ) × (listed ≡ Some code) × Holds code w) (sym is) (some (subst (λ w. 0 < length_in w) is lt))

  pub code_clause : (r : Option Code) → IfSome r (IsCodeOf word) → IfSome r (λ code. listed ≡ Some (bits_of code.len code.bits))
  code_clause None held = tt
  code_clause (Some code) held =
      let found = read (omega (arith, held.0, held.1)) in
      found.1 ∙ ap Some found.2.bits ∙ ap₂ (λ (n v : ℕ). Some (bits_of n v)) (sym held.1) (sym held.2)

  pub fits_clause : (r : Option Code) → IfSome r (IsCodeOf word) → IfSome r (λ code. code.bits < 2 ^ code.len)
  fits_clause None held = tt
  fits_clause (Some code) held =
      let found = read (omega (arith, held.0, held.1)) in
      subst (λ n. code.bits < 2 ^ n) (sym held.1) (subst (λ v. v < 2 ^ length_in word) (sym held.2) found.2.below)

  pub len_clause : (r : Option Code) → IfSome r (IsCodeOf word) → IfSome r (λ code. (0 < code.len) × (code.len ≤ WINDOW_BITS))
  len_clause None held = tt
  len_clause (Some code) held =
      let found = read (omega (arith, held.0, held.1)) in
      (held.0, omega (arith, held.1, found.2.few))

  pub none_clause : (length_in (code_word table place) ≡ 0 → listed ≡ None) → (r : Option Code) → IfNone r (length_in word ≡ 0) → IfNone r (listed ≡ None)
  none_clause none None held = none (ap length_in (sym is) ∙ held)
  none_clause none (Some code) held = tt
