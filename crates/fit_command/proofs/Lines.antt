-- One line of a list.
use Rattle.std.proofs.Common.{◌≡◌, ◌≢◌, ℕ, zero, suc, ◌+◌, ◌<◌, ◌^◌, List, [], ◌∷◌, ◌++◌, length, get_or, take, drop, decimal, Some, None, sym, ap, ◌∙◌, append_assoc, drop-cons, inl, inr, lit≤, arith}
use Rattle.std.specs.Char.{digit_value}
use Rattle.std.specs.Str.Parse.{AllDigits}
use Rattle.std.proofs.Math.Seq.{get_or-append_seam}
use Rattle.std.proofs.NetLemmas.Options.{same_parts}
use Rattle.std.proofs.lemmas.Bool.{cases_lt}
use Rattle.std.proofs.lemmas.Fmt.{decimal_is_IsNumeral}
use Rattle.std.proofs.lemmas.List.{get_or_append_left, length-append, take-append-drop, take_at}
use Rattle.version_table.specs.Private.Reading.{number_at}
use Rattle.version_table.proofs.LineReading.{number_again}
use Rattle.command_words.specs.Decimal.{IsDecimal}
use Rattle.fit_command.specs.ListText.{slot_line}
use Rattle.fit_command.specs.Private.NextSlot.{IsLineEnd}

-- a line end is no digit
no_digit : (digits : List ℕ) (k : ℕ) → AllDigits 10 digits → k < length digits → get_or digits k 0 ≡ 10 → ⊥
no_digit [] k all lt is = omega arith
no_digit (c ∷ digits) zero all lt is = let value : digit_value c ≡ 36 = ap digit_value is in omega (arith, value, all.0)
no_digit (c ∷ digits) (suc k) all lt is = no_digit digits k all.1 (omega arith) is

pub line_parts : (n : ℕ) (rest : List ℕ) → slot_line n ++ rest ≡ decimal n ++ 10 ∷ rest
line_parts n rest = append_assoc (decimal n) (10 ∷ []) rest

-- a text has one line at its front
pub one_line : (a b : ℕ) (x y : List ℕ) → a < 2 ^ 64 → b < 2 ^ 64 → slot_line a ++ x ≡ slot_line b ++ y → (a ≡ b) × (x ≡ y)
one_line a b x y first second e =
    let parts : decimal a ++ 10 ∷ x ≡ decimal b ++ 10 ∷ y = sym (line_parts a x) ∙ e ∙ line_parts b y in
    let (same, rest) = same_parts a b (10 ∷ x) (10 ∷ y) (sym (number_again a (10 ∷ x) first (lit≤ tt)) ∙ ap number_at parts ∙ number_again b (10 ∷ y) second (lit≤ tt)) in
    (same, ap (drop 1) rest)

-- a line that was found
pub line_found : (text : List ℕ) (k n : ℕ) → k < length text → get_or text k 0 ≡ 10 → take k text ≡ decimal n → text ≡ slot_line n ++ drop (k + 1) text
line_found text k n lt is word =
    let next : suc k ≡ k + 1 = omega arith in
    let cut : drop k text ≡ 10 ∷ drop (k + 1) text = drop-cons text k 0 lt ∙ ap (λ (c : ℕ). c ∷ drop (suc k) text) is ∙ ap (λ (j : ℕ). 10 ∷ drop j text) next in
    sym (take-append-drop k text) ∙ ap (λ (front : List ℕ). front ++ drop k text) word ∙ ap (λ (behind : List ℕ). decimal n ++ behind) cut ∙ sym (line_parts n (drop (k + 1) text))

-- the line end of a line of a number
seam : (n : ℕ) (text behind : List ℕ) → text ≡ slot_line n ++ behind → (length (decimal n) < length text) × (get_or text (length (decimal n)) 0 ≡ 10)
seam n text behind e =
    let parts : text ≡ decimal n ++ 10 ∷ behind = e ∙ line_parts n behind in
    (omega (arith, ap length parts, length-append (decimal n) (10 ∷ behind)), ap (λ (t : List ℕ). get_or t (length (decimal n)) 0) parts ∙ get_or-append_seam (decimal n) 10 behind 0)

-- no line of a number without a line end
pub none_without_end : (text : List ℕ) → IsLineEnd text None → (n : ℕ) (behind : List ℕ) → n < 2 ^ 64 → text ≢ slot_line n ++ behind
none_without_end text none n behind small e = let at = seam n text behind e in none (length (decimal n)) at.0 at.1

-- nor where the word before the first line end is no number
pub none_without_number : (text : List ℕ) (k : ℕ) → IsLineEnd text (Some k) → IsDecimal (take k text) None → (n : ℕ) (behind : List ℕ) → n < 2 ^ 64 → text ≢ slot_line n ++ behind
none_without_number text k (lt, is, first) none n behind small e =
    let parts : text ≡ decimal n ++ 10 ∷ behind = e ∙ line_parts n behind in
    let at = seam n text behind e in
    let m = length (decimal n) in
    elim (cases_lt k m) [
      | inl early ↦
          no_digit (decimal n) k (decimal_is_IsNumeral n small).0.1 early
          (sym (get_or_append_left (decimal n) (10 ∷ behind) 0 k early) ∙ sym (ap (λ (t : List ℕ). get_or t k 0) parts) ∙ is)
      | inr late ↦ elim (cases_lt m k) [
        | inl early ↦ first m early at.1
        | inr more ↦
            let same : m ≡ k = omega (arith, late, more) in
            none n small (ap (take k) parts ∙ take_at (decimal n) (10 ∷ behind) k same)
      ]
    ]
