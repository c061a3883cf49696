-- Grammars that end at whole bytes.
use Rattle.std.proofs.Common.{◌≡◌, ℕ, zero, suc, ◌+◌, ◌*◌, ◌%◌, ◌^◌, ◌<◌, List, [], ◌∷◌, ◌++◌, length, take, drop, Some, None, Bool, true, false, refl, sym, ap, ap₂, subst, ◌∙◌, inl, inr, arith}
use Rattle.std.proofs.lemmas.List.{length-append, length-take, length-drop, take-append-drop}
use Rattle.bit_lists.specs.Bits.{bits_of, number_of}
use Rattle.bit_lists.specs.Fields.{AreBytes, bit_list}
use Rattle.bit_lists.proofs.BitLemmas.{length-bits_of}
use Rattle.bit_lists.proofs.JoinedLemmas.{bits_of-byte}
use Rattle.bit_lists.proofs.NumberLemmas.{number_of-below, AreBits-take, AreBits-drop, AreBits, bits_of-number_of}
use Rattle.picture_grammar.specs.Refusal.{Refusal}
use Rattle.picture_grammar.specs.Grammar.{Grammar, done, ◌>>=◌, optional, when, if_next, ahead, many, SpellsList, Next}
use Rattle.picture_grammar.specs.Grammar.Next.{more, last}
use Rattle.picture_grammar.specs.Element.{Rule, uimsbf}
use Rattle.picture_grammar.specs.StartCode.{zero_bits, zero_bytes, start_code}

-- from whole bytes on, whole bytes are left
pub record KeepsWhole {A : Type 0} (grammar : Grammar A) : Type 0 where
  pub whole : (v : A) (bits rest : List ℕ) → grammar.Spells v bits rest → length bits % 8 ≡ 0 → length rest % 8 ≡ 0

-- from all bits on
pub record EndsWhole {A : Type 0} (grammar : Grammar A) : Type 0 where
  pub whole : (v : A) (bits rest : List ℕ) → grammar.Spells v bits rest → length rest % 8 ≡ 0

pub keeps-done : {A : Type 0} (value : A) → KeepsWhole (done value)
keeps-done value = record { whole = λ v bits rest (e, f) w. subst (λ (b : List ℕ). length b % 8 ≡ 0) f w }

pub keeps-ends : {A : Type 0} {grammar : Grammar A} → EndsWhole grammar → KeepsWhole grammar
keeps-ends ends = record { whole = λ v bits rest s w. ends.whole v bits rest s }

pub keeps-bind : {A B : Type 0} (first : Grammar A) (next : A → Grammar B) → KeepsWhole first → ((a : A) → KeepsWhole (next a)) → KeepsWhole (first >>= next)
keeps-bind first next keeps each = record { whole = λ v bits rest (a, middle, s, t) w. (each a).whole v middle rest t (keeps.whole a bits middle s w) }

pub ends-bind : {A B : Type 0} (first : Grammar A) (next : A → Grammar B) → EndsWhole first → ((a : A) → KeepsWhole (next a)) → EndsWhole (first >>= next)
ends-bind first next ends each = record { whole = λ v bits rest (a, middle, s, t). (each a).whole v middle rest t (ends.whole a bits middle s) }

pub ends-behind : {A B : Type 0} (first : Grammar A) (next : A → Grammar B) → ((a : A) → EndsWhole (next a)) → EndsWhole (first >>= next)
ends-behind first next each = record { whole = λ v bits rest (a, middle, s, t). (each a).whole v middle rest t }

pub keeps-optional : {A : Type 0} (test : Bool) (grammar : Grammar A) → KeepsWhole grammar → KeepsWhole (optional test grammar)
keeps-optional true grammar keeps = keeps-bind grammar (λ value. done (Some value)) keeps (λ value. keeps-done (Some value))
keeps-optional false grammar keeps = keeps-done None

pub keeps-when : {A : Type 0} (test : Bool) (grammar : Grammar A) (absent : A) → KeepsWhole grammar → KeepsWhole (when test grammar absent)
keeps-when true grammar absent keeps = keeps
keeps-when false grammar absent keeps = keeps-done absent

pub keeps-if_next : {A : Type 0} (IsSuch : List ℕ → Type 0) (then else : Grammar A) → KeepsWhole then → KeepsWhole else → KeepsWhole (if_next IsSuch then else)
keeps-if_next {A} IsSuch then else keeps other_keeps = record { whole = whole } where
  whole : (v : A) (bits rest : List ℕ) → (if_next IsSuch then else).Spells v bits rest → length bits % 8 ≡ 0 → length rest % 8 ≡ 0
  whole v bits rest (inl (c, s)) w = keeps.whole v bits rest s w
  whole v bits rest (inr (c, s)) w = other_keeps.whole v bits rest s w

pub keeps-ahead : {A : Type 0} (grammar : Grammar A) → KeepsWhole (ahead grammar)
keeps-ahead grammar = record { whole = λ v bits rest s w. subst (λ (b : List ℕ). length b % 8 ≡ 0) s.0 w }

keeps-list : {A B : Type 0} (next : List A → Grammar (Next A B)) → ((before : List A) → KeepsWhole (next before)) → (before values : List A) (end : B) (bits rest : List ℕ)
    → SpellsList next before values end bits rest → length bits % 8 ≡ 0 → length rest % 8 ≡ 0
keeps-list next keeps before [] end bits rest s w = (keeps before).whole (last end) bits rest s w
keeps-list next keeps before (v ∷ vs) end bits rest (middle, s, t) w = keeps-list next keeps (before ++ v ∷ []) vs end middle rest t ((keeps before).whole (more v) bits middle s w)

pub keeps-many : {A B : Type 0} (next : List A → Grammar (Next A B)) → ((before : List A) → KeepsWhole (next before)) → KeepsWhole (many next)
keeps-many next keeps = record { whole = λ v bits rest s w. keeps-list next keeps [] v.0 v.1 bits rest s w }

-- ---- start codes

-- a number of whole bytes
pub keeps-uimsbf : (n : ℕ) (rules : List (Rule ℕ)) → n % 8 ≡ 0 → KeepsWhole (uimsbf n rules)
keeps-uimsbf n rules bytes = record {
  whole = λ v bits rest (code, coded, passing, split) w.
      let count : length bits ≡ n + length rest = ap length split ∙ length-append code rest ∙ ap (λ k. k + length rest) (ap length coded.1 ∙ length-bits_of n v) in
      omega arith;
}

pub ends-zero_bits : (refusal : Refusal) → EndsWhole (zero_bits refusal)
ends-zero_bits refusal = record {
  whole = λ v bits rest (code, coded, passing, split).
      let count : length bits ≡ length bits % 8 + length rest = ap length split ∙ length-append code rest ∙ ap (λ k. k + length rest) (ap length coded.1 ∙ length-bits_of (length bits % 8) v) in
      omega arith;
}

pub keeps-zero_bytes : (refusal : Refusal) → KeepsWhole (zero_bytes refusal)
keeps-zero_bytes refusal = keeps-many _ (λ before. keeps-if_next _ _ _ (keeps-done _) (keeps-bind _ _ (keeps-uimsbf 8 _ refl) (λ byte. keeps-done _)))

pub keeps-start_code : (refusal : Refusal) (may_come : ℕ → Bool) → KeepsWhole (start_code refusal may_come)
keeps-start_code refusal may_come = keeps-bind _ _ (keeps-zero_bytes refusal) (λ zeros. record {
  whole = λ v bits rest (code, coded, passing, split) w.
      let count : length bits ≡ 32 + length rest =
      ap length split ∙ length-append code rest ∙ ap (λ k. k + length rest)
      (ap length coded.1 ∙ length-append (bits_of 24 1) (bits_of 8 v) ∙ ap₂ (λ m n. m + n) (length-bits_of 24 1) (length-bits_of 8 v)) in
      omega arith;
})

-- ---- bytes of bits

abbrev pub bytes_of : ℕ → List ℕ → List ℕ
bytes_of zero bits = []
bytes_of (suc n) bits = number_of (take 8 bits) ∷ bytes_of n (drop 8 bits)

pub bytes_of-right : (n : ℕ) (bits : List ℕ) → AreBits bits → length bits ≡ 8 * n → AreBytes (bytes_of n bits) × (bit_list (bytes_of n bits) ≡ bits)
bytes_of-right zero [] are e = (tt, refl)
bytes_of-right zero (bit ∷ bits) are e = absurd (omega (arith, e))
bytes_of-right (suc n) bits are e =
    let count : length (take 8 bits) ≡ 8 = omega (arith, length-take 8 bits, e) in
    let first : bits_of 8 (number_of (take 8 bits)) ≡ take 8 bits = ap (λ k. bits_of k (number_of (take 8 bits))) (sym count) ∙ bits_of-number_of (take 8 bits) (AreBits-take 8 bits are) in
    let rest = bytes_of-right n (drop 8 bits) (AreBits-drop 8 bits are) (omega (arith, length-drop 8 bits, e)) in (
      (subst (λ k. number_of (take 8 bits) < 2 ^ k) count (number_of-below (take 8 bits) (AreBits-take 8 bits are)), rest.0),
      ap₂ (λ a b. a ++ b) (sym (bits_of-byte (number_of (take 8 bits))) ∙ first) rest.1 ∙ take-append-drop 8 bits,
    )
