-- Words that are numbers in decimal, and where they stand in those of `gen` and `probe`.
use Rattle.std.proofs.Common.{◌≡◌, ◌≢◌, ◌<◌, ◌≤◌, ◌^◌, ℕ, List, [], ◌∷◌, length, get_or, decimal, Ok, Err, sym, ap, ◌∙◌, inl, inr, arith}
use Rattle.std.proofs.lemmas.Bool.{cases_lt}
use Rattle.std.specs.Str.Parse.{ParsesUnsigned, AllDigits, digits_value}
use Rattle.std.proofs.lemmas.Fmt.{decimal_injective, decimal_digit, first_decimal, decimal_nonempty, digits_decimal, decimal-digits_value, parse-decimal}
use Rattle.std.proofs.lemmas.Str.Parse.{IsNumeralModel, numerals_by_value, tells_digits, not_in_digits, parse_plain}
use Rattle.job_report.specs.declared.limits.TheConstants.{NUMBER_MOST}
use Rattle.program_maker.specs.declared.format.TheConstants.{PICTURES_MOST}
use Rattle.command_words.specs.Command.{IsGenCommand, IsProbeCommand}

digits : IsNumeralModel (AllDigits 10) (digits_value 10)
digits = numerals_by_value (AllDigits 10) tells_digits

-- a word begins with neither a sign nor a needless zero
abbrev pub BeginsPlainly : List ℕ → Type 0
BeginsPlainly word = (get_or word 0 0 ≢ 43) × (get_or word 0 0 ≡ 48 → length word ≡ 1)

-- such a word that is parsed is its number in decimal
pub parsed_is_decimal : (word : List ℕ) (n : ℕ) → ParsesUnsigned {E = Unit {0}} 64 10 word (Ok n) → BeginsPlainly word → (n < 2 ^ 64) × (word ≡ decimal n)
parsed_is_decimal word n parsed plain =
    let (is, value) = parse_plain digits {E = Unit {0}} 64 word (Ok n) parsed plain.0 in
    let small : n < 2 ^ 64 = omega (arith, value, is.2) in
    (small, sym (ap decimal value ∙ decimal-digits_value digits word is.0 is.1 plain.1 is.2))

-- a word that isn't parsed is no number below 2^64
pub unparsed_is_none : {E : Type 0} (word : List ℕ) (e : E) (n : ℕ) → ParsesUnsigned 64 10 word (Err e) → n < 2 ^ 64 → word ≡ decimal n → ⊥
unparsed_is_none word e n refused small is = let same = parse-decimal 64 n word (Err e) small small is refused in cc

-- a decimal begins so
pub decimal_begins_plainly : (n : ℕ) → n < 2 ^ 64 → BeginsPlainly (decimal n)
decimal_begins_plainly n small =
    let some = decimal_nonempty n small in (
      not_in_digits digits (decimal n) 43 (digits_decimal digits n small) (λ r. omega (arith, r)) 0 some,
      λ zero_first. elim (cases_lt n 10) [
        | inl one ↦ ap length (decimal_digit n one)
        | inr more ↦ let first = first_decimal n (omega arith) small in absurd (omega (arith, zero_first, first))
      ],
    )

-- the words of `gen` have a number of pictures in the third
pub pictures_within : (verb seed pictures out : List ℕ) (n : ℕ) → (n < 2 ^ 64) × (pictures ≡ decimal n) → (start number : ℕ) (name : List ℕ)
    → IsGenCommand (verb ∷ seed ∷ pictures ∷ out ∷ []) start number name → (1 ≤ n) × (n ≤ PICTURES_MOST)
pictures_within verb seed pictures out n word start number name said =
    let are = said.words_are in
    let is = word.1 in
    let words : decimal number ≡ decimal n = cc in
    let same : number ≡ n = decimal_injective number n (omega (arith, said.few_pictures)) word.0 words in
    (omega (arith, same, said.some_pictures), omega (arith, same, said.few_pictures))

-- the words of `probe` have a program_number in the second
pub number_within : (verb file program table : List ℕ) (n : ℕ) → (n < 2 ^ 64) × (program ≡ decimal n) → (name : List ℕ) (number : ℕ) (made : List ℕ)
    → IsProbeCommand (verb ∷ file ∷ program ∷ table ∷ []) name number made → (1 ≤ n) × (n ≤ NUMBER_MOST)
number_within verb file program table n word name number made said =
    let are = said.words_are in
    let is = word.1 in
    let words : decimal number ≡ decimal n = cc in
    let same : number ≡ n = decimal_injective number n (omega (arith, said.number_most)) word.0 words in
    (omega (arith, same, said.some_number), omega (arith, same, said.number_most))
