-- A coefficient by a code of the tables, and its sign.
use Rattle.std.proofs.Common.{
  ◌≡◌,
  ℕ,
  ℤ,
  ◌+◌,
  ◌-◌,
  ◌/◌,
  ◌%◌,
  ◌^◌,
  ◌<◌,
  ◌≤◌,
  Bool,
  true,
  nat_eq,
  nat_lt,
  List,
  [],
  ◌∷◌,
  ◌++◌,
  length,
  take,
  drop,
  Some,
  refl,
  sym,
  ap,
  subst,
  ◌∙◌,
  inl,
  inr,
  arith,
  append-nil,
}
use Rattle.std.proofs.lemmas.Bool.{and_from, cases_eq, eq-eqb, ne_eqb, lt-ltb, le-ltb}
use Rattle.std.proofs.lemmas.List.{length-take, drop_all}
use Rattle.bit_lists.specs.Bits.{IsPrefix, bits_of}
use Rattle.bit_lists.specs.Fields.{flag}
use Rattle.prefix_codes.specs.declared.symbol.TheConstants.{END_OF_BLOCK, ESCAPE, LEVELS_PER_RUN}
use Rattle.prefix_codes.specs.declared.table_name.TableName.{TableName}
use Rattle.prefix_codes.specs.TableName.{code_in, coefficient_code, Begins}
use Rattle.prefix_codes.proofs.CoefficientLemmas.{IsCoefficients, coefficient_code-symbol}
use Rattle.picture_grammar.specs.Refusal.Refusal.{TooMany, BadEscape, End}
use Rattle.picture_grammar.specs.Grammar.Next.{more, last}
use Rattle.picture_grammar.specs.Element.{rule}
use Rattle.picture_grammar.specs.Block.{CoefficientCode, fits_in_block, is_level, signed}
use Rattle.picture_grammar.specs.Block.Coefficient.{end_of_block, run_size}
use Rattle.picture_grammar.proofs.Codes.{free-coefficient}
use Rattle.picture_grammar.proofs.ElementLaws.{breaks}
use Rattle.grammar_reading.specs.declared.window.BitWindow.{BitWindow}
use Rattle.block_coeffs.specs.declared.standing.Standing.TheVariants.{EndOfBlock, Refused}
use Rattle.block_coeffs.specs.declared.why.Why.TheVariants as why
use Rattle.block_coeffs.specs.Private.Standing.{coefficient_at, IsFound, IsPair}
use Rattle.grammar_reading.specs.Window.{seen}
use Rattle.grammar_reading.proofs.Fronts.{front_of-more, length-front_of, take-front_of}
use Rattle.block_coeffs.proofs.Symbols.{shorter-code, length-code}
use Rattle.grammar_reading.proofs.Cuts.{shows-all, begins-seen}

-- ---- what is seen of a window

pub seen-one_more : (window : BitWindow) (index : ℕ) → index < 24 → seen window (index + 1) ≡ seen window index ++ flag (nat_eq (window.bits / 2 ^ (23 - index) % 2) 1) ∷ []
unfolding bits_of
seen-one_more window index lt =
    let places : 24 - (index + 1) ≡ 23 - index = omega arith in
    let bit = window.bits / 2 ^ (23 - index) % 2 in
    let is_bit : bit ≡ flag (nat_eq bit 1) = elim (cases_eq bit 1) [
      | inl one ↦ one ∙ sym (ap flag (eq-eqb bit 1 one))
      | inr other ↦ let zero_is : bit ≡ 0 = omega arith in zero_is ∙ sym (ap flag (ne_eqb bit 1 other))
    ] in
    let digit : bits_of 1 (window.bits / 2 ^ (24 - (index + 1))) ≡ flag (nat_eq bit 1) ∷ [] =
    ap (λ n. bits_of 1 (window.bits / 2 ^ n)) places ∙ ap (λ b. b ∷ [])
    ((let whole : window.bits / 2 ^ (23 - index) / 1 ≡ window.bits / 2 ^ (23 - index) = omega arith in ap (λ n. n % 2) whole) ∙ is_bit) in
    front_of-more 24 window.bits index 1 (omega arith) ∙ ap (λ b. seen window index ++ b) digit

-- a code that begins what is seen is what is seen of its length
pub seen-code : (window : BitWindow) (code : List ℕ) (len : ℕ) → window.known ≤ 24 → length code ≡ len → IsPrefix code (seen window window.known) → (len ≤ window.known) × (seen window len ≡ code)
seen-code window code len within counted begins =
    let le : len ≤ window.known = omega (arith, ap length begins, length-take (length code) (seen window window.known), length-front_of 24 window.bits window.known within) in
    (le, sym (take-front_of 24 window.bits len window.known le) ∙ ap (λ n. take n (seen window window.known)) (sym counted) ∙ begins)

module _ (table : TableName) (place : ℕ) where
  -- ---- the end of block

  pub spells-end : (code : List ℕ) → code_in table END_OF_BLOCK ≡ Some code → (coefficient_at table place).Spells (last tt) code []
  spells-end code listed = (end_of_block, [], (code, listed, refl, sym (append-nil code)), (refl, refl))

  -- ---- a run and the size of a level

  module _ (run size : ℕ) (code : List ℕ) (listed : coefficient_code table run size ≡ Some code) where
    pub spells-pair : (negative : Bool) (bits : List ℕ) → place + run < 64 → bits ≡ code ++ flag negative ∷ []
        → (coefficient_at table place).Spells (more (record { run = run; level = signed size negative })) bits []
    spells-pair negative bits within split = (
      run_size run size,
      flag negative ∷ [],
      (code, listed, and_from (nat_lt (place + run) 64) true (lt-ltb (place + run) 64 within) refl, split),
      (negative, [], (flag negative ∷ [], refl, refl, refl), (refl, refl)),
    )

    -- past the last place
    pub refuses-past : (bits : List ℕ) → 64 ≤ place + run → IsPrefix code bits → (coefficient_at table place).Refuses bits TooMany bits
    refuses-past bits past begins =
        inl (
          refl,
          inr (inl (breaks (CoefficientCode table) (free-coefficient table) (run_size run size) code listed bits begins []
              (rule BadEscape is_level ∷ []) (rule TooMany (fits_in_block place)) refl (le-ltb (place + run) 64 past))),
        )

    -- no bit is left for the sign
    pub refuses-unsigned : place + run < 64 → (coefficient_at table place).Refuses code End []
    refuses-unsigned within =
        inr (
          run_size run size,
          [],
          (code, listed, and_from (nat_lt (place + run) 64) true (lt-ltb (place + run) 64 within) refl, sym (append-nil code)),
          inl (
            refl,
            inr (inr (
              record { value = true; code = 1 ∷ []; coded = refl; passing = refl; agrees = inr refl },
              λ s. let none : List ℕ = [] in omega (arith, ap length s.first, ap length s.coded, length-take (length s.code) none),
              refl,
            )),
          ),
        )

-- ---- by a window

module _ {table : TableName} (is : IsCoefficients table) (place : ℕ) (window : BitWindow) (within : window.known ≤ 24) (symbol len run : ℕ)
    (no_end : symbol ≡ END_OF_BLOCK → ⊥) (no_escape : symbol ≡ ESCAPE → ⊥) (b : Begins table (seen window window.known) symbol len)
    (run_is : run ≡ symbol / LEVELS_PER_RUN) where
  listed : coefficient_code table run (symbol % LEVELS_PER_RUN) ≡ Some b.code
  listed = ap (λ r. coefficient_code table r (symbol % LEVELS_PER_RUN)) run_is ∙ coefficient_code-symbol symbol b.code is b.listed no_end no_escape

  at : (len ≤ window.known) × (seen window len ≡ b.code)
  at = seen-code window b.code len within b.counted b.first

  pub past-found : 64 ≤ place + run → IsFound table place window (Refused why.TooMany 0)
  past-found past = (
    omega arith,
    λ bits shows. refuses-past table place run (symbol % LEVELS_PER_RUN) b.code listed bits past (begins-seen window bits b.code (length-code symbol b.code is b.listed) shows b.first),
  )

  pub unsigned-found : place + run < 64 → len ≡ window.known → IsFound table place window (Refused why.End len)
  unsigned-found fits full = (
    omega arith,
    λ bits shows.
        let short = shorter-code symbol b.code is b.listed in
        let all : bits ≡ b.code = shows-all window bits within (λ filled. omega (arith, b.counted)) shows ∙ ap (seen window) (sym full) ∙ at.1 in
        let none_left : drop len bits ≡ [] = drop_all len bits (omega (arith, ap length all, b.counted)) in
        subst (λ x. (coefficient_at table place).Refuses x End (drop len bits)) (sym all)
        (subst ((coefficient_at table place).Refuses b.code End) (sym none_left) (refuses-unsigned table place run (symbol % LEVELS_PER_RUN) b.code listed fits)),
  )

  pub pair-found : (negative : Bool) (level : ℤ) → place + run < 64 → (len ≡ window.known → ⊥) → level ≡ signed (symbol % LEVELS_PER_RUN) negative
      → seen window (len + 1) ≡ seen window len ++ flag negative ∷ [] → IsPair table place window run level (len + 1)
  pair-found negative level fits more_known level_is longer =
      let le : len ≤ window.known = at.0 in
      let split : seen window (len + 1) ≡ b.code ++ flag negative ∷ [] = longer ∙ ap (λ c. c ++ flag negative ∷ []) at.1 in (
        omega arith,
        fits,
        subst (λ (l : ℤ). (coefficient_at table place).Spells (more (record { run = run; level = l })) (seen window (len + 1)) []) (sym level_is)
            (spells-pair table place run (symbol % LEVELS_PER_RUN) b.code listed negative (seen window (len + 1)) fits split),
      )

-- the end of block
pub end-found : (table : TableName) (place : ℕ) (window : BitWindow) (within : window.known ≤ 24) (len : ℕ)
    → Begins table (seen window window.known) END_OF_BLOCK len → IsFound table place window (EndOfBlock len)
end-found table place window within len b =
    let at = seen-code window b.code len within b.counted b.first in
    (at.0, subst (λ x. (coefficient_at table place).Spells (last tt) x []) (sym at.1) (spells-end table place b.code b.listed))
