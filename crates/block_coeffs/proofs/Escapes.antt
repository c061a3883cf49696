-- An escape, whole or cut: 6 bits of code, 6 bits of run and 12 bits of level.
use Rattle.std.proofs.Common.{
  ◌≡◌,
  ℕ,
  ℤ,
  ◌+◌,
  ◌-◌,
  ◌*◌,
  ◌/◌,
  ◌%◌,
  ◌^◌,
  ◌<◌,
  ◌≤◌,
  ◌&&◌,
  ◌⊎◌,
  true,
  false,
  not,
  nat_eq,
  nat_lt,
  List,
  [],
  ◌∷◌,
  ◌++◌,
  length,
  take,
  Some,
  refl,
  sym,
  ap,
  ap₂,
  subst,
  ◌∙◌,
  inl,
  inr,
  arith,
  append-nil,
}
use Rattle.std.proofs.Math.Nat.{div-add-mod, mod-eq_of_lt, div-lt_iff_lt-mul}
use Rattle.std.proofs.Math.Pow.{mod-mod-pow, pow-lt}
use Rattle.std.proofs.lemmas.Bool.{cases_lt, and_parts, and_left, and_right, and_from, ne_eqb, eq-eqb, ltb-true, lt-ltb, le-ltb}
use Rattle.std.proofs.lemmas.List.{take_all}
use Rattle.std.proofs.lemmas.Nat.{div-mul-add, pow_pos, pow-add}
use Rattle.bit_lists.specs.Bits.{IsPrefix, bits_of, front_of}
use Rattle.bit_lists.proofs.BitLemmas.{length-bits_of, bits_of-mod, bits_of-same}
use Rattle.bit_lists.proofs.JoinedLemmas.{bits_of-append}
use Rattle.bit_lists.proofs.PrefixLemmas.{IsPrefix-either, IsPrefix-through}
use Rattle.prefix_codes.specs.declared.symbol.TheConstants.{ESCAPE}
use Rattle.prefix_codes.specs.declared.table_name.TableName.{TableName}
use Rattle.prefix_codes.specs.TableName.{code_in, Begins}
use Rattle.prefix_codes.proofs.CoefficientLemmas.{IsCoefficients}
use Rattle.prefix_codes.proofs.TableLemmas.{prefix_free}
use Rattle.picture_grammar.specs.Refusal.Refusal.{TooMany, BadEscape, End}
use Rattle.picture_grammar.specs.Grammar.Next.{more}
use Rattle.picture_grammar.specs.Element.{Rule, rule, passes, MayStand, Breaks}
use Rattle.picture_grammar.specs.Block.{Coefficient, CoefficientCode, fits_in_block, is_level, escape_level}
use Rattle.picture_grammar.specs.Block.Coefficient.{end_of_block, run_size, escape}
use Rattle.picture_grammar.proofs.Codes.{symbol_of, fronts, coefficient_code-listed, free-coefficient}
use Rattle.picture_grammar.proofs.ElementLaws.{breaks}
use Rattle.grammar_reading.specs.declared.window.BitWindow.{BitWindow}
use Rattle.block_coeffs.specs.declared.standing.Standing.TheVariants.{Pair, Refused}
use Rattle.block_coeffs.specs.declared.why.Why.TheVariants as why
use Rattle.block_coeffs.specs.Private.Why.{rules_at}
use Rattle.block_coeffs.specs.Private.Standing.{coefficient_at, IsFound, IsPair}
use Rattle.grammar_reading.specs.Window.{seen, ShowsFront}
use Rattle.grammar_reading.proofs.Fronts.{front_of-bits, length-front_of}
use Rattle.block_coeffs.proofs.Symbols.{escape_code}
use Rattle.grammar_reading.proofs.Cuts.{shows-all, begins-seen, begun-length}
use Rattle.block_coeffs.proofs.Pairs.{seen-code}

-- ---- numbers

-- of two numbers with one quotient, one that divides is the least
least-quotient : (w other p : ℕ) → w % p ≡ 0 → other / p ≡ w / p → w ≤ other
least-quotient w other p divides same =
    let products : p * (other / p) ≡ p * (w / p) = ap (λ q. p * q) same in
    omega (arith, div-add-mod w p, div-add-mod other p)

one_more-quotient : (w p : ℕ) → 1 < p → w % p ≡ 0 → (w + 1) / p ≡ w / p
one_more-quotient w p large divides =
    let product : w + 1 ≡ (w / p) * p + 1 = omega (arith, div-add-mod w p) in
    ap (λ n. n / p) product ∙ div-mul-add (w / p) p 1 large

even : (w j : ℕ) → w % 2 ^ (j + 1) ≡ 0 → w % 2 ≡ 0
even w j divides = sym (mod-mod-pow w j 1) ∙ ap (λ n. n % 2 ^ 1) divides

-- the number of an escape with this run and level
abbrev escape_number : ℕ → ℕ → ℕ
escape_number run level = 2 ^ 18 + run * 2 ^ 12 + level

-- ---- the fields of 24 bits

fields-bits : (w : ℕ) → bits_of 24 w ≡ bits_of 6 (w / 2 ^ 18) ++ bits_of 6 (w / 2 ^ 12 % 2 ^ 6) ++ bits_of 12 (w % 2 ^ 12)
fields-bits w =
    bits_of-append 12 12 w
    ∙ ap₂ (λ a b. a ++ b) (bits_of-append 6 6 (w / 2 ^ 12)) (sym (bits_of-mod 12 w))
    ∙ ap₂ (λ n a. (bits_of 6 n ++ a) ++ bits_of 12 (w % 2 ^ 12)) (let high : w / 2 ^ 12 / 2 ^ 6 ≡ w / 2 ^ 18 = omega arith in high) (sym (bits_of-mod 6 (w / 2 ^ 12)))

-- a number's fields, where its first 6 bits are the escape's
escape-fields : (w : ℕ) → w / 2 ^ 18 ≡ 1 → bits_of 24 w ≡ bits_of 6 1 ++ bits_of 6 (w / 2 ^ 12 % 2 ^ 6) ++ bits_of 12 (w % 2 ^ 12)
escape-fields w first = fields-bits w ∙ ap (λ n. bits_of 6 n ++ bits_of 6 (w / 2 ^ 12 % 2 ^ 6) ++ bits_of 12 (w % 2 ^ 12)) first

escape_number-fields : (run level : ℕ) → run < 2 ^ 6 → level < 2 ^ 12 → bits_of 24 (escape_number run level) ≡ bits_of 6 1 ++ bits_of 6 run ++ bits_of 12 level
escape_number-fields run level run_fits level_fits =
    let w = escape_number run level in
    let first : w / 2 ^ 18 ≡ 1 = omega arith in
    let run_is : w / 2 ^ 12 % 2 ^ 6 ≡ run = omega arith in
    let level_is : w % 2 ^ 12 ≡ level = omega arith in
    escape-fields w first ∙ ap₂ (λ r l. bits_of 6 1 ++ bits_of 6 r ++ bits_of 12 l) run_is level_is

high-fits : (n k : ℕ) → k ≤ 24 → n < 2 ^ 24 → n / 2 ^ (24 - k) < 2 ^ k
high-fits n k within below =
    let places : k + (24 - k) ≡ 24 = omega arith in
    let product : 2 ^ 24 ≡ 2 ^ k * 2 ^ (24 - k) = ap (λ m. 2 ^ m) (sym places) ∙ pow-add 2 k (24 - k) in
    (div-lt_iff_lt-mul (pow_pos (24 - k))).1 (subst (λ m. n < m) product below)

-- where two numbers of 24 bits begin with the same ones
high-same : (w other known : ℕ) → known ≤ 24 → w < 2 ^ 24 → other < 2 ^ 24 → front_of 24 other known ≡ front_of 24 w known → other / 2 ^ (24 - known) ≡ w / 2 ^ (24 - known)
high-same w other known le fits other_fits same =
    let p = 2 ^ (24 - known) in
    let high = bits_of-same known (other / p) (w / p) (sym (front_of-bits 24 other known le) ∙ same ∙ front_of-bits 24 w known le) in
    sym (mod-eq_of_lt (high-fits other known le other_fits)) ∙ high ∙ mod-eq_of_lt (high-fits w known le fits)

-- an escape that begins with the known bits of a number has no smaller run than that number, whose other bits are 0
least-run : (w known run level : ℕ) → known ≤ 24 → w < 2 ^ 24 → w / 2 ^ 18 ≡ 1 → w % 2 ^ (24 - known) ≡ 0 → run < 2 ^ 6 → level < 2 ^ 12
    → front_of 24 (escape_number run level) known ≡ front_of 24 w known → w / 2 ^ 12 % 2 ^ 6 ≤ run
least-run w known run level le fits first divides run_fits level_fits same =
    let other = escape_number run level in
    let other_fits : other < 2 ^ 24 = omega arith in
    let least : w ≤ other = least-quotient w other (2 ^ (24 - known)) divides (high-same w other known le fits other_fits same) in
    run-least w run level first level_fits least where
      run-least : (n r l : ℕ) → n / 2 ^ 18 ≡ 1 → l < 2 ^ 12 → n ≤ escape_number r l → n / 2 ^ 12 % 2 ^ 6 ≤ r
      run-least n r l is_one small below = omega arith

-- a number whose unknown bits are 0, and the next one, begin with the same bits; its level is even
next-front : (w known : ℕ) → known < 24 → w % 2 ^ (24 - known) ≡ 0 → front_of 24 (w + 1) known ≡ front_of 24 w known
next-front w known lt divides =
    let large : 2 ^ 0 < 2 ^ (24 - known) = pow-lt {i = 0} {j = 24 - known} (omega arith) in
    front_of-bits 24 (w + 1) known (omega arith) ∙ ap (bits_of known) (one_more-quotient w (2 ^ (24 - known)) large divides) ∙ sym (front_of-bits 24 w known (omega arith))

even-level : (w known : ℕ) → known < 24 → w % 2 ^ (24 - known) ≡ 0 → w % 2 ≡ 0
even-level w known lt divides =
    let places : 24 - known ≡ (23 - known) + 1 = omega arith in
    even w (23 - known) (ap (λ n. w % 2 ^ n) (sym places) ∙ divides)

next-fields : (w : ℕ) → w % 2 ≡ 0 → ((w + 1) / 2 ^ 18 ≡ w / 2 ^ 18) × ((w + 1) / 2 ^ 12 % 2 ^ 6 ≡ w / 2 ^ 12 % 2 ^ 6) × ((w + 1) % 2 ^ 12 ≡ w % 2 ^ 12 + 1)
next-fields w even_is = (omega arith, omega arith, omega arith)

is_level-allowed : (run level : ℕ) → (level ≡ 0 → ⊥) → (level ≡ 2048 → ⊥) → is_level (escape run level) ≡ true
is_level-allowed run level not_zero not_least = and_from (not (nat_eq level 0)) (not (nat_eq level 2048)) (ap not (ne_eqb level 0 not_zero)) (ap not (ne_eqb level 2048 not_least))

is_level-forbidden : (run level : ℕ) → (level ≡ 0) ⊎ (level ≡ 2048) → is_level (escape run level) ≡ false
is_level-forbidden run level (inl zero_is) = and_left (not (nat_eq level 0)) (not (nat_eq level 2048)) (ap not (eq-eqb level 0 zero_is))
is_level-forbidden run level (inr least_is) = and_right (not (nat_eq level 0)) (not (nat_eq level 2048)) (ap not (eq-eqb level 2048 least_is))

-- ---- an escape at the front of a window

module _ {table : TableName} (is : IsCoefficients table) (place : ℕ) (window : BitWindow) (len : ℕ) (b : Begins table (seen window window.known) ESCAPE len) where
  abbrev run : ℕ
  run = window.bits / 2 ^ 12 % 2 ^ 6

  abbrev level : ℕ
  level = window.bits % 2 ^ 12

  code_is : b.code ≡ bits_of 6 1
  code_is = let both : Some b.code ≡ Some (bits_of 6 1) = sym b.listed ∙ escape_code is in cc

  -- the front is the escape's code
  front_is : IsPrefix (bits_of 6 1) (seen window window.known)
  front_is = subst (λ code. IsPrefix code (seen window window.known)) code_is b.first

  at : (6 ≤ window.known) × (seen window 6 ≡ bits_of 6 1)
  at = seen-code window (bits_of 6 1) 6 window.within (length-bits_of 6 1) front_is

  first-one : window.bits / 2 ^ 18 ≡ 1
  first-one =
      let fits : window.bits / 2 ^ 18 < 2 ^ 6 = (let below = window.below in omega arith) in
      sym (mod-eq_of_lt fits) ∙ bits_of-same 6 (window.bits / 2 ^ 18) 1 (sym (front_of-bits 24 window.bits 6 (omega arith)) ∙ at.1)

  -- all 24 bits are the code of an escape
  whole-coded : CoefficientCode table (escape run level) (seen window 24)
  whole-coded = (bits_of 6 1, escape_code is, omega arith, omega arith, take_all 24 (bits_of 24 window.bits) (omega (arith, length-bits_of 24 window.bits)) ∙ escape-fields window.bits first-one)

  module _ (bits : List ℕ) (shows : ShowsFront window bits) where
    escape_begins : IsPrefix (bits_of 6 1) bits
    escape_begins = begins-seen window bits (bits_of 6 1) (omega (arith, length-bits_of 6 1)) shows front_is

    -- nothing but an escape may stand there
    same-symbol : (rules : List (Rule Coefficient)) (m : MayStand (CoefficientCode table) rules bits) → symbol_of m.value ≡ ESCAPE
    same-symbol rules m = by_cases m.agrees where
      f : (front : List ℕ) × (code_in table (symbol_of m.value) ≡ Some front) × IsPrefix front m.code
      f = fronts table m.value m.code m.coded

      one_of : IsPrefix f.0 (bits_of 6 1) ⊎ IsPrefix (bits_of 6 1) f.0 → symbol_of m.value ≡ ESCAPE
      one_of (inl p) = prefix_free table (symbol_of m.value) ESCAPE f.0 (bits_of 6 1) f.1 (escape_code is) p
      one_of (inr p) = sym (prefix_free table ESCAPE (symbol_of m.value) (bits_of 6 1) f.0 (escape_code is) f.1 p)

      by_cases : IsPrefix m.code bits ⊎ IsPrefix bits m.code → symbol_of m.value ≡ ESCAPE
      by_cases (inl p) = one_of (IsPrefix-either f.0 (bits_of 6 1) bits (IsPrefix-through f.0 m.code bits f.2 p) escape_begins)
      by_cases (inr p) = one_of (IsPrefix-either f.0 (bits_of 6 1) m.code f.2 (IsPrefix-through (bits_of 6 1) bits m.code escape_begins p))

-- ---- a code whose symbol is the escape

-- the code of an escape, with its run and its level
pub record EscapeCode (value : Coefficient) (code : List ℕ) : Type 0 where
  pub run : ℕ
  pub level : ℕ
  pub value_is : value ≡ escape run level
  pub run_fits : run < 2 ^ 6
  pub level_fits : level < 2 ^ 12
  pub code_is : code ≡ bits_of 24 (escape_number run level)

escape-code : {table : TableName} → IsCoefficients table → (v : Coefficient) (c : List ℕ) → CoefficientCode table v c → symbol_of v ≡ ESCAPE → EscapeCode v c
unfolding symbol_of
escape-code is end_of_block c coded symbol = absurd (omega arith)
escape-code {table} is (run_size run size) c coded symbol = let l = coefficient_code-listed table run size c coded in absurd (omega (arith, l.0, l.2))
escape-code {table} is (escape run level) c (front, listed, run_fits, level_fits, split) symbol =
    let both : Some front ≡ Some (bits_of 6 1) = sym listed ∙ escape_code is in
    let front_is : front ≡ bits_of 6 1 = cc in record {
      run = run;
      level = level;
      value_is = refl;
      run_fits = run_fits;
      level_fits = level_fits;
      code_is = split ∙ ap (λ f. f ++ bits_of 6 run ++ bits_of 12 level) front_is ∙ sym (escape_number-fields run level run_fits level_fits);
    }

-- ---- what is found at an escape

module _ {table : TableName} (is : IsCoefficients table) (place : ℕ) (window : BitWindow) (len : ℕ) (b : Begins table (seen window window.known) ESCAPE len) where
  abbrev the_run : ℕ
  the_run = window.bits / 2 ^ 12 % 2 ^ 6

  abbrev the_level : ℕ
  the_level = window.bits % 2 ^ 12

  -- whatever may stand there is an escape
  the-escape : (bits : List ℕ) → ShowsFront window bits → (rules : List (Rule Coefficient)) (m : MayStand (CoefficientCode table) rules bits) → EscapeCode m.value m.code
  the-escape bits shows rules m = escape-code is m.value m.code m.coded (same-symbol is place window len b bits shows rules m)

  -- where all 24 bits are seen
  module _ (full : window.known ≡ 24) where
    seen-is : seen window window.known ≡ seen window 24
    seen-is = ap (seen window) full

    whole_begins : (bits : List ℕ) → ShowsFront window bits → IsPrefix (seen window 24) bits
    whole_begins bits shows = ap (λ n. take n bits) (length-front_of 24 window.bits 24 (omega arith)) ∙ shows ∙ seen-is

    whole-breaks : (before after : List (Rule Coefficient)) (broken : Rule Coefficient) → rules_at place ≡ before ++ broken ∷ after
        → passes before (escape the_run the_level) ≡ true → broken.test (escape the_run the_level) ≡ false
        → (bits : List ℕ) → ShowsFront window bits → (coefficient_at table place).Refuses bits broken.refusal bits
    whole-breaks before after broken order passing fails bits shows =
        inl (
          refl,
          inr (inl (subst (λ (rules : List (Rule Coefficient)). Breaks (CoefficientCode table) rules bits broken.refusal) (sym order)
              (breaks (CoefficientCode table) (free-coefficient table) (escape the_run the_level) (seen window 24)
              (whole-coded is place window len b) bits (whole_begins bits shows) before after broken passing fails))),
        )

    past-whole : 64 ≤ place + the_run → IsFound table place window (Refused why.TooMany 0)
    past-whole past = (omega arith, whole-breaks [] (rule BadEscape is_level ∷ []) (rule TooMany (fits_in_block place)) refl refl (le-ltb (place + the_run) 64 past))

    pub forbidden-whole : place + the_run < 64 → (the_level ≡ 0) ⊎ (the_level ≡ 2048) → IsFound table place window (Refused why.BadEscape 0)
    forbidden-whole fits forbidden =
        let within = and_from (nat_lt (place + the_run) 64) true (lt-ltb (place + the_run) 64 fits) refl in
        (omega arith, whole-breaks (rule TooMany (fits_in_block place) ∷ []) [] (rule BadEscape is_level) refl within (is_level-forbidden the_run the_level forbidden))

    pub pair-whole : (level : ℤ) → place + the_run < 64 → (the_level ≡ 0 → ⊥) → (the_level ≡ 2048 → ⊥) → level ≡ escape_level the_level → IsPair table place window the_run level 24
    pair-whole level fits not_zero not_least level_is =
        let within = lt-ltb (place + the_run) 64 fits in
        let allowed = and_from (is_level (escape the_run the_level)) true (is_level-allowed the_run the_level not_zero not_least) refl in
        let passing = and_from (nat_lt (place + the_run) 64) (is_level (escape the_run the_level) && true) within allowed in (
          omega arith,
          fits,
          (
            escape the_run the_level,
            [],
            (seen window 24, whole-coded is place window len b, passing, sym (append-nil (seen window 24))),
            (ap (λ (l : ℤ). more (record { run = the_run; level = l })) level_is, refl),
          ),
        )

  -- where the bits end within the escape
  module _ (short : window.known < 24) (bits : List ℕ) (shows : ShowsFront window bits) where
    all : bits ≡ seen window window.known
    all = shows-all window bits window.within (λ full. omega arith) shows

    length-bits : length bits ≡ window.known
    length-bits = ap length all ∙ length-front_of 24 window.bits window.known window.within

    -- a number of 24 bits that begins with those seen begins with the bits
    cut-front : (number : ℕ) → front_of 24 number window.known ≡ seen window window.known → IsPrefix bits (bits_of 24 number)
    cut-front number same = ap (λ n. take n (bits_of 24 number)) length-bits ∙ same ∙ sym all

    -- none of its codes is whole
    no-whole : (v : Coefficient) (c : List ℕ) → EscapeCode v c → IsPrefix c bits → ⊥
    no-whole v c e p =
        let long : length c ≡ 24 = ap length e.code_is ∙ length-bits_of 24 (escape_number e.run e.level) in
        omega (arith, begun-length c bits p, length-bits)

    least : (rules : List (Rule Coefficient)) (m : MayStand (CoefficientCode table) rules bits) → the_run ≤ (the-escape bits shows rules m).run
    least rules m = by_cases m.agrees where
      e : EscapeCode m.value m.code
      e = the-escape bits shows rules m

      by_cases : IsPrefix m.code bits ⊎ IsPrefix bits m.code → the_run ≤ e.run
      by_cases (inl p) = absurd (no-whole m.value m.code e p)
      by_cases (inr p) =
          let same : front_of 24 (escape_number e.run e.level) window.known ≡ seen window window.known =
          ap (take window.known) (sym e.code_is) ∙ ap (λ n. take n m.code) (sym length-bits) ∙ p ∙ all in
          least-run window.bits window.known e.run e.level window.within window.below (first-one is place window len b) window.filled e.run_fits e.level_fits same

    -- every run that it may have leads past the last place
    past-cut : 64 ≤ place + the_run → (coefficient_at table place).Refuses bits TooMany bits
    past-cut past =
        inl (
          refl,
          inr (inl (record {
            before = [];
            broken = rule TooMany (fits_in_block place);
            after = rule BadEscape is_level ∷ [];
            order = refl;
            so_far = record {
              value = escape the_run the_level;
              code = seen window 24;
              coded = whole-coded is place window len b;
              passing = refl;
              agrees = inr (subst (IsPrefix bits) (sym (take_all 24 (bits_of 24 window.bits) (omega (arith, length-bits_of 24 window.bits)))) (cut-front window.bits refl));
            };
            none = λ m.
                let e = the-escape bits shows (rule TooMany (fits_in_block place) ∷ []) m in
                let within : nat_lt (place + e.run) 64 ≡ true = ap (fits_in_block place) (sym e.value_is) ∙ (and_parts (fits_in_block place m.value) true m.passing).0 in
                let fits = ltb-true (place + e.run) 64 within in
                omega (arith, least (rule TooMany (fits_in_block place) ∷ []) m);
            named = refl;
          })),
        )

    -- the level may go on as an allowed one
    next-coded : CoefficientCode table (escape the_run (the_level + 1)) (bits_of 24 (window.bits + 1))
    next-coded =
        let w = window.bits in
        let next = next-fields w (even-level w window.known short window.filled) in
        let even_is = even-level w window.known short window.filled in
        let room : the_level + 1 < 2 ^ 12 = omega arith in (
          bits_of 6 1,
          escape_code is,
          omega arith,
          room,
          escape-fields (w + 1) (next.0 ∙ first-one is place window len b) ∙ ap₂ (λ r l. bits_of 6 1 ++ bits_of 6 r ++ bits_of 12 l) next.1 next.2,
        )

    end-cut : place + the_run < 64 → (coefficient_at table place).Refuses bits End bits
    end-cut fits =
        let w = window.bits in
        let even_is = even-level w window.known short window.filled in
        let within = lt-ltb (place + the_run) 64 fits in
        let allowed = and_from (is_level (escape the_run (the_level + 1))) true (is_level-allowed the_run (the_level + 1) (λ e. omega arith) (λ e. omega arith)) refl in
        inl (
          refl,
          inr (inr (
            record {
              value = escape the_run (the_level + 1);
              code = bits_of 24 (w + 1);
              coded = next-coded;
              passing = and_from (nat_lt (place + the_run) 64) (is_level (escape the_run (the_level + 1)) && true) within allowed;
              agrees = inr (cut-front (w + 1) (next-front w window.known short window.filled));
            },
            λ s.
                let m : MayStand (CoefficientCode table) (rules_at place) bits = record { value = s.value; code = s.code; coded = s.coded; passing = s.passing; agrees = inl s.first } in
                no-whole s.value s.code (the-escape bits shows (rules_at place) m) s.first,
            refl,
          )),
        )

  pub past-found : 64 ≤ place + the_run → IsFound table place window (Refused why.TooMany 0)
  past-found past = elim (cases_lt window.known 24) [
    | inl short ↦ (omega arith, λ bits shows. past-cut short bits shows past)
    | inr full ↦ past-whole (let within = window.within in omega arith) past
  ]

  pub end-found : place + the_run < 64 → window.known < 24 → IsFound table place window (Refused why.End 0)
  end-found fits short = (omega arith, λ bits shows. end-cut short bits shows fits)
