-- The words of short codes: each is right for its bits, by a test that is computed for each, and what that says of windows.
use Rattle.std.proofs.Common.{◌≡◌, ℕ, ℤ, zero, suc, ◌+◌, ◌-◌, ◌*◌, ◌/◌, ◌^◌, ◌<◌, ◌≤◌, Bool, true, false, not, ◌&&◌, ◌||◌, nat_eq, nat_lt, if◌then◌else◌, List, [], ◌∷◌, ◌++◌, length, take, get_or, Option, Some, None, IfSome, refl, sym, ap, subst, ◌∙◌, inl, inr, arith, w16, zero-add, add-zero, append-nil}
use Rattle.std.specs.Int.{cast_signed}
use Rattle.std.proofs.lemmas.Bool.{and_parts, or_cases, eqb-true, ltb-true, cases_Bool, not-true, both_ways, lt-ltb}
use Rattle.std.proofs.lemmas.Int.{to_z_pos}
use Rattle.std.proofs.lemmas.List.{length-take}
use Rattle.bit_lists.specs.Bits.{IsPrefix, bits_of}
use Rattle.bit_lists.specs.Fields.{flag}
use Rattle.bit_lists.proofs.BitLemmas.{length-bits_of, take-bits_of}
use Rattle.bit_cursor.specs.Shown.{IsFirstNumber}
use Rattle.prefix_codes.specs.declared.symbol.TheConstants.{END_OF_BLOCK}
use Rattle.prefix_codes.specs.declared.table_name.TableName.{TableName}
use Rattle.prefix_codes.specs.declared.table_name.TableName.TheVariants.{Address, TypeI, TypeP, TypeB, Pattern, Motion, DcLuma, DcChroma, CoeffZero, CoeffFirst, CoeffOne}
use Rattle.prefix_codes.specs.TableName.{code_in, coefficient_code}
use Rattle.prefix_codes.proofs.Computing.{tables}
use Rattle.prefix_codes.proofs.TableLemmas.{begins}
use Rattle.prefix_codes.proofs.LevelLemmas.{IsPrefix_from_begins}
use Rattle.picture_grammar.specs.Grammar.Next.{more, last}
use Rattle.picture_grammar.specs.Block.{signed}
use Rattle.grammar_reading.specs.declared.window.BitWindow.{BitWindow}
use Rattle.grammar_reading.specs.Window.{seen, ShowsFront}
use Rattle.grammar_reading.proofs.Fronts.{take-front_of}
use Rattle.block_coeffs.specs.declared.short_codes.TheConstants.{PAIR_WORDS, SHORT_BITS}
use Rattle.block_coeffs.specs.declared.standing.Standing.TheVariants.{EndOfBlock, Pair, Refused}
use Rattle.block_coeffs.specs.declared.standing.Standing.{Standing}
use Rattle.block_coeffs.specs.Private.ShortCodes.{words_of, run_of, length_of, level_of}
use Rattle.block_coeffs.specs.Private.Standing.{coefficient_at, IsFound, IsPair, ShowsKnown, StandsNext}
use Rattle.block_coeffs.proofs.Pairs.{spells-end, spells-pair}
use Rattle.block_coeffs.proofs.Steps.{front-known}

-- ---- the test

-- a code with these bits behind it begins some bits, and they are as many as told
abbrev is_there : List ℕ → List ℕ → ℕ → Option (List ℕ) → Bool
is_there behind bits len None = false
is_there behind bits len (Some code) = nat_eq (length (code ++ behind)) len && begins (code ++ behind) bits

-- the size and the sign of a word's level
abbrev size_at : ℕ → ℕ
size_at n = if nat_lt n (2 ^ 15) then n else 2 ^ 16 - n

abbrev negative_at : ℕ → Bool
negative_at n = not (nat_lt n (2 ^ 15))

abbrev is_end : TableName → ℕ → ℕ → Bool
is_end table front word = nat_lt word PAIR_WORDS && is_there [] (bits_of SHORT_BITS front) (length_of word) (code_in table END_OF_BLOCK)

abbrev is_pair : TableName → ℕ → ℕ → Bool
is_pair table front word =
    not (nat_lt word PAIR_WORDS)
    && is_there (flag (negative_at (word / 2 ^ 16)) ∷ []) (bits_of SHORT_BITS front) (length_of word)
    (coefficient_code table (run_of word) (size_at (word / 2 ^ 16)))

-- the word of a front of bits is 0, or what it tells begins them
abbrev is_word : TableName → ℕ → ℕ → Bool
is_word table front word = nat_eq word 0 || (is_end table front word || is_pair table front word)

-- and so are these words, for the fronts from a number on
unfoldable are_words : TableName → ℕ → List ℕ → Bool
are_words table number [] = true
are_words table number (word ∷ words) = is_word table number word && are_words table (suc number) words

-- the test, computed for each table
words_told : (table : TableName) → are_words table 0 (words_of table) ≡ true
unfolding tables begins are_words words_of
words_told Address = refl
words_told TypeI = refl
words_told TypeP = refl
words_told TypeB = refl
words_told Pattern = refl
words_told Motion = refl
words_told DcLuma = refl
words_told DcChroma = refl
words_told CoeffZero = refl
words_told CoeffFirst = refl
words_told CoeffOne = refl

-- ---- the word of a front

word_at : (table : TableName) (number : ℕ) (words : List ℕ) (j : ℕ) → are_words table number words ≡ true → is_word table (number + j) (get_or words j 0) ≡ true
unfolding are_words
word_at table number [] zero test = refl
word_at table number [] (suc j) test = refl
word_at table number (word ∷ words) zero test = rw add-zero (and_parts (is_word table number word) (are_words table (suc number) words) test).0
word_at table number (word ∷ words) (suc j) test =
    let rest = word_at table (suc number) words j (and_parts (is_word table number word) (are_words table (suc number) words) test).1 in
    let place : suc number + j ≡ number + suc j = omega arith in
    subst (λ k. is_word table k (get_or words j 0) ≡ true) place rest

word_right : (table : TableName) (front : ℕ) → is_word table front (get_or (words_of table) front 0) ≡ true
word_right table front =
    subst (λ k. is_word table k (get_or (words_of table) front 0) ≡ true) (zero-add front) (word_at table 0 (words_of table) front (words_told table))

-- ---- what the test says

there : (behind : List ℕ) (front len : ℕ) (found : Option (List ℕ)) → is_there behind (bits_of 9 front) len found ≡ true
    → (code : List ℕ) × (found ≡ Some code) × (take len (bits_of 9 front) ≡ code ++ behind) × (len ≤ 9)
there behind front len None test = cc
there behind front len (Some code) test =
    let parts = and_parts (nat_eq (length (code ++ behind)) len) (begins (code ++ behind) (bits_of 9 front)) test in
    let counted : length (code ++ behind) ≡ len = eqb-true (length (code ++ behind)) len parts.0 in
    let first : IsPrefix (code ++ behind) (bits_of 9 front) = IsPrefix_from_begins (code ++ behind) (bits_of 9 front) parts.1 in
    let same : take len (bits_of 9 front) ≡ code ++ behind = ap (λ n. take n (bits_of 9 front)) (sym counted) ∙ first in
    let le : len ≤ 9 = omega (arith, counted, ap length first, length-take (length (code ++ behind)) (bits_of 9 front), length-bits_of 9 front) in
    (code, refl, same, le)

-- the first bits of a window, by their number
seen-front : (window : BitWindow) (len : ℕ) → len ≤ 9 → seen window len ≡ take len (bits_of 9 (window.bits / 2 ^ 15))
seen-front window len le = sym (take-front_of 24 window.bits len 9 le) ∙ ap (take len) (take-bits_of 9 15 window.bits)

-- the level of 16 bits
level-signed : (n : ℕ) → n < 2 ^ 16 → cast_signed w16 n ≡ signed (size_at n) (negative_at n)
level-signed n lt = elim (cases_Bool (nat_lt n (2 ^ 15))) [
  | inl small ↦ to_z_pos w16 n (ltb-true n (2 ^ 15) small) ∙ sym (ap (λ b. signed (if b then n else 2 ^ 16 - n) (not b)) small)
  | inr large ↦
      let size : 2 ^ 16 - n ≡ suc (2 ^ 16 - suc n) = omega arith in
      let negative : cast_signed w16 n ≡ signed (2 ^ 16 - n) true = rw size (grind (arith, large)) in
      negative ∙ sym (ap (λ b. signed (if b then n else 2 ^ 16 - n) (not b)) large)
]

-- ---- a word of a window's front

module _ (table : TableName) (place : ℕ) (window : BitWindow) (word : ℕ) (known : 9 ≤ window.known) (is : word ≡ get_or (words_of table) (window.bits / 2 ^ 15) 0) where
  abbrev front : ℕ
  front = window.bits / 2 ^ 15

  told : 0 < word → (is_end table front word || is_pair table front word) ≡ true
  told some =
      let right : is_word table front word ≡ true = subst (λ w. is_word table front w ≡ true) (sym is) (word_right table front) in
      elim (or_cases (nat_eq word 0) (is_end table front word || is_pair table front word) right) [
        | inl none ↦ absurd (let zero_is : word ≡ 0 = eqb-true word 0 none in omega arith)
        | inr rest ↦ rest
      ]

  abbrev size : ℕ
  size = size_at (word / 2 ^ 16)

  abbrev negative : Bool
  negative = negative_at (word / 2 ^ 16)

  pair-there : PAIR_WORDS ≤ word → is_there (flag negative ∷ []) (bits_of 9 front) (length_of word) (coefficient_code table (run_of word) size) ≡ true
  pair-there above = elim (or_cases (is_end table front word) (is_pair table front word) (told (omega arith))) [
    | inl end ↦
        let parts = and_parts (nat_lt word PAIR_WORDS) (is_there [] (bits_of 9 front) (length_of word) (code_in table END_OF_BLOCK)) end in
        absurd (omega (arith, above, ltb-true word PAIR_WORDS parts.0))
    | inr pair ↦
        (and_parts (not (nat_lt word PAIR_WORDS)) (is_there (flag negative ∷ []) (bits_of 9 front) (length_of word) (coefficient_code table (run_of word) size)) pair).1
  ]

  end-there : 0 < word → word < PAIR_WORDS → is_there [] (bits_of 9 front) (length_of word) (code_in table END_OF_BLOCK) ≡ true
  end-there some below = elim (or_cases (is_end table front word) (is_pair table front word) (told some)) [
    | inl end ↦ (and_parts (nat_lt word PAIR_WORDS) (is_there [] (bits_of 9 front) (length_of word) (code_in table END_OF_BLOCK)) end).1
    | inr pair ↦
        let parts = and_parts (not (nat_lt word PAIR_WORDS))
        (is_there (flag negative ∷ []) (bits_of 9 front) (length_of word) (coefficient_code table (run_of word) size)) pair in
        absurd (both_ways (nat_lt word PAIR_WORDS) (not-true (nat_lt word PAIR_WORDS) parts.0) (lt-ltb word PAIR_WORDS below))
  ]

  pub short-pair : PAIR_WORDS ≤ word → word < 2 ^ 32 → (next : ℕ) → next ≡ place + run_of word + 1 → place + run_of word < 64 → IsFound table place window (Pair word next)
  short-pair above below next next_is fits =
      let t = there (flag negative ∷ []) front (length_of word) (coefficient_code table (run_of word) size) (pair-there above) in
      let split : seen window (length_of word) ≡ t.0 ++ flag negative ∷ [] = seen-front window (length_of word) t.3 ∙ t.2 in
      let high : word / 2 ^ 16 < 2 ^ 16 = omega (arith, below) in (
        next_is,
        (
          omega (arith, t.3, known),
          fits,
          subst (λ (l : ℤ). (coefficient_at table place).Spells (more (record { run = run_of word; level = l })) (seen window (length_of word)) [])
              (sym (level-signed (word / 2 ^ 16) high))
              (spells-pair table place (run_of word) size t.0 t.1 negative (seen window (length_of word)) fits split),
        ),
      )

  pub short-end : 0 < word → word < PAIR_WORDS → (len : ℕ) → len ≡ length_of word → IsFound table place window (EndOfBlock len)
  short-end some below len len_is =
      let t = there [] front (length_of word) (code_in table END_OF_BLOCK) (end-there some below) in
      let few : len ≤ 9 = subst (λ n. n ≤ 9) (sym len_is) t.3 in
      let all : seen window len ≡ t.0 = seen-front window len few ∙ ap (λ n. take n (bits_of 9 front)) len_is ∙ t.2 ∙ append-nil t.0 in (
        omega (arith, few, known),
        subst (λ x. (coefficient_at table place).Spells (last tt) x []) (sym all) (spells-end table place t.0 t.1),
      )

-- ---- the word of a coefficient

pub as-word : (table : TableName) (place : ℕ) (window : BitWindow) (run len word : ℕ) (level : ℤ) → IsPair table place window run level len → run_of word ≡ run
    → length_of word ≡ len → level_of word ≡ level → (next : ℕ) → next ≡ place + run + 1 → IsFound table place window (Pair word next)
as-word table place window run len word level is run_is len_is level_is next next_is =
    let pair : IsPair table place window (run_of word) (level_of word) (length_of word) =
    subst (λ n. IsPair table place window n (level_of word) (length_of word)) (sym run_is)
    (subst (λ (l : ℤ). IsPair table place window run l (length_of word)) (sym level_is) (subst (λ n. IsPair table place window run level n) (sym len_is) is)) in
    (next_is ∙ ap (λ r. place + r + 1) (sym run_is), pair)

-- the number of a run, a length and 16 bits of a level
pub word-parts : (n len run word : ℕ) → run < 2 ^ 8 → len < 2 ^ 8 → word ≡ n * 2 ^ 16 + len * 2 ^ 8 + run → (run_of word ≡ run) × (length_of word ≡ len) × (word / 2 ^ 16 ≡ n)
word-parts n len run word run_few len_few is = (omega arith, omega arith, omega arith)

-- ---- what stands next, by its first bits

-- a window that knows these first bits alone
abbrev window_of : (front : ℕ) → front < 2 ^ 9 → BitWindow
window_of front few = record { bits = front * 2 ^ 15; known = 9; within = omega arith; below = omega arith; filled = omega arith }

known-of : (told : Option (List ℕ)) (front : ℕ) (few : front < 2 ^ 9) → IfSome told (λ bits. IsFirstNumber 9 bits front) → IfSome told (ShowsKnown (window_of front few))
known-of None front few first = tt
known-of (Some bits) front few first =
    let same : front ≡ front * 2 ^ 15 / 2 ^ 15 = omega arith in
    first.front ∙ ap (bits_of 9) same ∙ sym (take-bits_of 9 15 (front * 2 ^ 15))

-- what a word tells stands next
module _ (table : TableName) (place : ℕ) (told : Option (List ℕ)) (held front word : ℕ) (enough : 9 ≤ held) (few : front < 2 ^ 9)
    (first : IfSome told (λ bits. IsFirstNumber 9 bits front)) (is : word ≡ get_or (words_of table) front 0) where
  same-word : word ≡ get_or (words_of table) (front * 2 ^ 15 / 2 ^ 15) 0
  same-word =
      let same : front ≡ front * 2 ^ 15 / 2 ^ 15 = omega arith in
      is ∙ ap (λ n. get_or (words_of table) n 0) same

  pub pair-next : PAIR_WORDS ≤ word → word < 2 ^ 32 → (next : ℕ) → next ≡ place + run_of word + 1 → place + run_of word < 64 → StandsNext table place told held (Pair word next)
  pair-next above fits next next_is within = record {
    window = window_of front few;
    known = enough;
    shows = known-of told front few first;
    found = short-pair table place (window_of front few) word (omega arith) same-word above fits next next_is within;
  }

  pub end-next : 0 < word → word < PAIR_WORDS → (len : ℕ) → len ≡ length_of word → StandsNext table place told held (EndOfBlock len)
  end-next some less len len_is = record {
    window = window_of front few;
    known = enough;
    shows = known-of told front few first;
    found = short-end table place (window_of front few) word (omega arith) same-word some less len len_is;
  }

-- ---- what stands next, by a window that shows it

pub shown-next : (table : TableName) (place : ℕ) (told : Option (List ℕ)) (held : ℕ) (window : BitWindow) (standing : Standing) → window.known ≤ held
    → IfSome told (ShowsFront window) → IsFound table place window standing → StandsNext table place told held standing
shown-next table place told held window (EndOfBlock len) within shows found = record { window = window; known = within; shows = front-known told window shows; found = found }
shown-next table place told held window (Pair word next) within shows found = record { window = window; known = within; shows = front-known told window shows; found = found }
shown-next table place told held window (Refused why behind) within shows found = record { window = window; known = within; shows = shows; found = found }
