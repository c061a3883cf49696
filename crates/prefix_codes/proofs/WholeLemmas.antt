-- What stands at the front of a window whose bits are all known.
use Rattle.std.proofs.Common.{◌≡◌, ℕ, ◌/◌, ◌%◌, ◌^◌, ◌<◌, ◌≤◌, Bool, true, false, ◌||◌, nat_eq, nat_lt, length, get_or, Some, refl, sym, ap, subst, inl, inr, arith}
use Rattle.std.specs.List.{list_all}
use Rattle.std.proofs.lemmas.Bool.{or_cases, eqb-true, ltb-true, cases_Bool, both_ways}
use Rattle.std.proofs.lemmas.List.{length-take}
use Rattle.std.proofs.lemmas.List.Folds.{list_all_at}
use Rattle.bit_lists.specs.Bits.{bits_of, front_of}
use Rattle.bit_lists.proofs.BitLemmas.{length-bits_of}
use Rattle.prefix_codes.specs.declared.lookup.TheConstants.{WINDOW_BITS}
use Rattle.prefix_codes.specs.declared.tables.TheConstants.{LINK}
use Rattle.prefix_codes.specs.declared.table_name.TableName.{TableName}
use Rattle.prefix_codes.specs.declared.table_name.TableName.TheVariants.{Address, TypeI, TypeP, TypeB, Pattern, Motion, DcLuma, DcChroma, CoeffZero, CoeffFirst, CoeffOne}
use Rattle.prefix_codes.specs.Private.Words.{number_in, length_in}
use Rattle.prefix_codes.specs.Private.Levels.{first_of, Answers}
use Rattle.prefix_codes.proofs.LevelLemmas.{length-first_of, first_answers, given, known_answer, IsAnswer}

-- a word is 0 or has a length
abbrev has_length : ℕ → Bool
has_length word = nat_eq word 0 || nat_lt 0 (length_in word)

-- the test, computed for each first level
lengths_told : (table : TableName) → list_all has_length (first_of table) ≡ true
unfolding first_of
lengths_told Address = refl
lengths_told TypeI = refl
lengths_told TypeP = refl
lengths_told TypeB = refl
lengths_told Pattern = refl
lengths_told Motion = refl
lengths_told DcLuma = refl
lengths_told DcChroma = refl
lengths_told CoeffZero = refl
lengths_told CoeffFirst = refl
lengths_told CoeffOne = refl

-- ---- a word of a first level

module _ (table : TableName) (window word : ℕ) (is : word ≡ get_or (first_of table) (window / 2 ^ 16 % 2 ^ 8) 0) where
  -- below the links it answers
  pub word_answers : word < LINK → Answers table (bits_of WINDOW_BITS window) word
  word_answers below =
      subst (λ x. Answers table (bits_of 24 window) x) (sym is)
      (first_answers table window (subst (λ x. x < LINK) is below))

  -- and has a length where it isn't 0
  pub word_long : (len : ℕ) → len ≡ length_in word → 0 < word → 0 < len
  word_long len len_is some =
      let within : window / 2 ^ 16 % 2 ^ 8 < length (first_of table) = omega (arith, length-first_of table) in
      let at = list_all_at has_length (first_of table) (window / 2 ^ 16 % 2 ^ 8) 0 within in
      let told : has_length word ≡ true = elim (cases_Bool (has_length word)) [
        | inl long ↦ long
        | inr short ↦ absurd (both_ways (list_all has_length (first_of table)) (at (subst (λ x. has_length x ≡ false) is short)) (lengths_told table))
      ] in
      elim (or_cases (nat_eq word 0) (nat_lt 0 (length_in word)) told) [
        | inl none ↦ absurd (let zero_is : word ≡ 0 = eqb-true word 0 none in omega arith)
        | inr long ↦ subst (λ x. 0 < x) (sym len_is) (ltb-true 0 (length_in word) long)
      ]

-- ---- a word that answers with a code

abbrev pub Stands : TableName → ℕ → ℕ → Type 0
Stands table window word = Answers table (bits_of WINDOW_BITS window) word × (0 < length_in word)

pub stands_first : (table : TableName) (window first word : ℕ) → first ≡ get_or (first_of table) (window / 2 ^ 16 % 2 ^ 8) 0 → 0 < first
    → first < LINK → word ≡ first → Stands table window word
stands_first table window first word is some below same =
    subst (λ x. Stands table window x) (sym same) (word_answers table window first is below, word_long table window first is (length_in first) refl some)

pub stands_last : (table : TableName) (window last len word : ℕ) → Answers table (bits_of WINDOW_BITS window) last → len ≡ length_in last
    → 0 < len → word ≡ last → Stands table window word
stands_last table window last len word is len_is some same = subst (λ x. Stands table window x) (sym same) (is, subst (λ x. 0 < x) len_is some)

-- its code is no longer than a window, and is the answer
module _ (table : TableName) (window word number len : ℕ) (stands : Stands table window word) (number_is : number ≡ number_in word) (len_is : len ≡ length_in word) where
  some : 0 < len
  some = subst (λ x. 0 < x) (sym len_is) stands.1

  pub answer_len : (0 < len) × (len ≤ WINDOW_BITS)
  answer_len =
      let b = (stands.0 number len).0 (given table window 24 word number len stands.0 number_is len_is some) in
      let counted = b.counted in
      (some, omega (arith, ap length b.first, length-take (length b.code) (bits_of 24 window), length-bits_of 24 window))

  pub answer_is : IsAnswer (Some (number, len)) table (front_of WINDOW_BITS window WINDOW_BITS)
  answer_is = known_answer table window 24 word number len stands.0 number_is len_is some answer_len.1
