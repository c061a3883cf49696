-- Start codes, and the zero bits and bytes before them (ISO/IEC 13818-2, 5.2.1, 5.2.3 and 6.2.1).
use Rattle.std.specs.Prelude.{◌≡◌, ◌<◌, ◌*◌, ◌%◌, ◌^◌, ◌==◌, ℕ, List, [], ◌∷◌, ◌++◌, length, replicate, Bool, true, false}
use Rattle.bit_lists.specs.Bits.{IsPrefix, bits_of}
use Rattle.stream_constants.specs.declared.start_codes.TheConstants.{PREFIX_BITS}
use Rattle.picture_grammar.specs.Refusal.{Refusal}
use Rattle.picture_grammar.specs.Refusal.Refusal.{BadHeader}
use Rattle.picture_grammar.specs.Grammar.{Grammar, done, ◌>>=◌, ◌>>◌, if_next, at_bits, many}
use Rattle.picture_grammar.specs.Grammar.Next.{more, last}
use Rattle.picture_grammar.specs.Element.{element, uimsbf, rule}

-- start_code_prefix: 23 zeros and a one
abbrev pub start_code_prefix : List ℕ
start_code_prefix = bits_of PREFIX_BITS 1

-- the start code with this byte behind its prefix
abbrev pub start_code_bits : ℕ → List ℕ
start_code_bits byte = start_code_prefix ++ bits_of 8 byte

-- zero bits to a whole byte: a unit has whole bytes, so they are as many as the bits left are past whole bytes
abbrev pub zero_bits : Refusal → Grammar ℕ
zero_bits refusal = at_bits (λ bits. uimsbf (length bits % 8) (rule refusal (λ number. number == 0) ∷ []))

-- a byte 0
abbrev pub zero_byte : Refusal → Grammar ℕ
zero_byte refusal = uimsbf 8 (rule refusal (λ byte. byte == 0) ∷ [])

-- zero bytes up to a start code
abbrev pub zero_bytes : Refusal → Grammar (List ℕ × Unit {0})
zero_bytes refusal = many (λ _. if_next (IsPrefix start_code_prefix) (done (last tt)) (zero_byte refusal >>= λ byte. done (more byte)))

-- next_start_code() behind whole bytes, and one of the start codes that may come there, by its last byte
abbrev pub start_code : Refusal → (ℕ → Bool) → Grammar ℕ
start_code refusal may_come = do
  zero_bytes refusal
  element (λ byte code. (byte < 2 ^ 8) × (code ≡ start_code_bits byte)) refusal (rule refusal may_come ∷ [])

-- behind zero bytes one of these start codes comes
pub record StartCodeComes (may_come : ℕ → Bool) (bits : List ℕ) : Type 0 where
  pub zeros : ℕ
  pub byte : ℕ
  pub rest : List ℕ
  pub is_byte : byte < 2 ^ 8
  pub is_one : may_come byte ≡ true
  pub stands : bits ≡ replicate (8 * zeros) 0 ++ start_code_bits byte ++ rest

-- zero bytes to the unit's end
abbrev pub only_zero_bytes : Grammar (List ℕ × Unit {0})
only_zero_bytes = many (λ _. if_next (λ bits. bits ≡ []) (done (last tt))
    (if_next (IsPrefix start_code_prefix) (start_code BadHeader (λ _. false) >> done (last tt)) (zero_byte BadHeader >>= λ byte. done (more byte))))
