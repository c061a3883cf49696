-- Zero bytes and start codes that are refused (ISO/IEC 13818-2, 5.2.3), by bytes.
use Rattle.std.proofs.Common.{◌≡◌, ◌≢◌, ◌==◌, ◌&&◌, ℕ, zero, suc, ◌^◌, ◌<◌, nat_eq, List, [], ◌∷◌, ◌++◌, length, drop, replicate, Bool, true, false, refl, sym, ap, ap₂, subst, ◌∙◌, inl, inr, arith, append-nil}
use Rattle.std.proofs.lemmas.Bool.{both_ways, ne_eqb}
use Rattle.std.proofs.lemmas.List.{length-append}
use Rattle.bit_lists.specs.Bits.{IsPrefix, bits_of}
use Rattle.bit_lists.specs.Fields.{AreBytes, bit_list, bits_of_byte}
use Rattle.bit_lists.proofs.BitLemmas.{length-bits_of}
use Rattle.bit_lists.proofs.ByteLemmas.{bit_list-append, length-bit_list}
use Rattle.bit_lists.proofs.JoinedLemmas.{bits_of-zero, bits_of-byte}
use Rattle.bit_lists.proofs.PrefixLemmas.{IsPrefix-append, IsPrefix-split, same_front, bit_list-same}
use Rattle.picture_grammar.specs.Refusal.{Refusal}
use Rattle.picture_grammar.specs.Refusal.Refusal.{BadHeader, End}
use Rattle.picture_grammar.specs.Element.{IsRefused, rule}
use Rattle.picture_grammar.specs.Grammar.{Grammar, done, ◌>>=◌, ◌>>◌, if_next, SpellsList, RefusesAfter, Next}
use Rattle.picture_grammar.specs.Grammar.Next.{more, last}
use Rattle.picture_grammar.specs.StartCode.{start_code_prefix, start_code_bits, zero_byte, start_code, only_zero_bytes}
use Rattle.picture_grammar.proofs.Codes.{free-number, free-behind}
use Rattle.picture_grammar.proofs.ElementLaws.{breaks}

-- ---- bytes

pub zero_byte-bits : bits_of_byte 0 ≡ replicate 8 0
zero_byte-bits = sym (bits_of-byte 0) ∙ bits_of-zero 8

pub prefix-bytes : start_code_prefix ≡ bit_list (0 ∷ 0 ∷ 1 ∷ [])
unfolding bits_of
prefix-bytes = refl

-- bytes that begin with a prefix are two zeros and a one
pub prefix-three : (bytes : List ℕ) → AreBytes bytes → IsPrefix start_code_prefix (bit_list bytes) → (rest : List ℕ) × (bytes ≡ 0 ∷ 0 ∷ 1 ∷ rest)
prefix-three [] are p = absurd (let l = ap length (IsPrefix-split start_code_prefix (bit_list []) p) in omega
    (arith, l, length-append start_code_prefix (drop (length start_code_prefix) (bit_list [])), length-bits_of 24 1))
prefix-three (x ∷ []) are p = absurd (let l = ap length (IsPrefix-split start_code_prefix (bit_list (x ∷ [])) p) in omega
    (arith, l, length-append start_code_prefix (drop (length start_code_prefix) (bit_list (x ∷ []))), length-bits_of 24 1, length-bit_list (x ∷ [])))
prefix-three (x ∷ y ∷ []) are p = absurd (let l = ap length (IsPrefix-split start_code_prefix (bit_list (x ∷ y ∷ [])) p) in omega (
  arith,
  l,
  length-append start_code_prefix (drop (length start_code_prefix) (bit_list (x ∷ y ∷ []))),
  length-bits_of 24 1,
  length-bit_list (x ∷ y ∷ []),
))
prefix-three (x ∷ y ∷ z ∷ rest) are p =
    let three = x ∷ y ∷ z ∷ [] in
    let split : bit_list three ++ bit_list rest ≡ bit_list (0 ∷ 0 ∷ 1 ∷ []) ++ drop (length start_code_prefix) (bit_list (x ∷ y ∷ z ∷ rest)) =
    sym (bit_list-append three rest) ∙ IsPrefix-split start_code_prefix (bit_list (x ∷ y ∷ z ∷ rest)) p
    ∙ ap (λ (b : List ℕ). b ++ drop (length start_code_prefix) (bit_list (x ∷ y ∷ z ∷ rest))) prefix-bytes in
    let same = same_front (bit_list three) (bit_list (0 ∷ 0 ∷ 1 ∷ [])) (bit_list rest) _ (length-bit_list three ∙ sym (length-bit_list (0 ∷ 0 ∷ 1 ∷ []))) split in
    let bytes : three ≡ 0 ∷ 0 ∷ 1 ∷ [] = bit_list-same three (0 ∷ 0 ∷ 1 ∷ []) (are.0, (are.1.0, (are.1.1.0, tt))) (omega arith, (omega arith, (omega arith, tt))) same in
    (rest, ap (λ (b : List ℕ). b ++ rest) bytes)

-- no prefix stands at these bytes
abbrev pub NoCode : List ℕ → Type 0
NoCode bytes = IsPrefix start_code_prefix (bit_list bytes) → ⊥

-- a byte that isn't zero, and no one behind two zeros
pub no-code-nonzero : (b : ℕ) (rest : List ℕ) → AreBytes (b ∷ rest) → b ≢ 0 → NoCode (b ∷ rest)
no-code-nonzero b rest are some p = let (r, e) = prefix-three (b ∷ rest) are p in some (let first : b ≡ 0 = cc in first)

third_is : (x : ℕ) (xs rest : List ℕ) → 0 ∷ 0 ∷ x ∷ xs ≡ 0 ∷ 0 ∷ 1 ∷ rest → x ≡ 0 → ⊥
third_is x xs rest e none = let third : x ≡ 1 = cc in omega (arith, third, none)

pub no-code-before : (k b : ℕ) (rest : List ℕ) → AreBytes (replicate (suc k) 0 ++ b ∷ rest) → b ≢ 0 → (k ≡ 1 → b ≢ 1) → NoCode (replicate (suc k) 0 ++ b ∷ rest)
no-code-before zero b rest are some other p =
    let (r, e) = prefix-three (0 ∷ b ∷ rest) are p in some (let second : b ≡ 0 = (let e' : 0 ∷ b ∷ rest ≡ 0 ∷ 0 ∷ 1 ∷ r = e in cc) in second)
no-code-before (suc zero) b rest are some other p =
    let (r, e) = prefix-three (0 ∷ 0 ∷ b ∷ rest) are p in other refl (let third : b ≡ 1 = (let e' : 0 ∷ 0 ∷ b ∷ rest ≡ 0 ∷ 0 ∷ 1 ∷ r = e in cc) in third)
no-code-before (suc (suc k)) b rest are some other p =
    let (r, e) = prefix-three (0 ∷ 0 ∷ 0 ∷ (replicate k 0 ++ b ∷ rest)) are p in
    third_is 0 (replicate k 0 ++ b ∷ rest) r e refl

pub zeros_are-bytes : (n : ℕ) → AreBytes (replicate n 0)
zeros_are-bytes zero = tt
zeros_are-bytes (suc n) = (omega arith, zeros_are-bytes n)

pub no-code-zeros : (k : ℕ) → NoCode (replicate k 0)
no-code-zeros zero p = let (r, e) = prefix-three [] tt p in cc
no-code-zeros (suc zero) p = let (r, e) = prefix-three (replicate 1 0) (zeros_are-bytes 1) p in (let e' : 0 ∷ [] ≡ 0 ∷ 0 ∷ 1 ∷ r = e in cc)
no-code-zeros (suc (suc zero)) p = let (r, e) = prefix-three (replicate 2 0) (zeros_are-bytes 2) p in (let e' : 0 ∷ 0 ∷ [] ≡ 0 ∷ 0 ∷ 1 ∷ r = e in cc)
no-code-zeros (suc (suc (suc k))) p =
    let (r, e) = prefix-three (replicate (suc (suc (suc k))) 0) (zeros_are-bytes (suc (suc (suc k)))) p in
    third_is 0 (replicate k 0) r e refl

-- zeros, then a prefix
pub no-code-before-prefix : (k : ℕ) (rest : List ℕ) → AreBytes (replicate (suc k) 0 ++ 0 ∷ 0 ∷ 1 ∷ rest) → NoCode (replicate (suc k) 0 ++ 0 ∷ 0 ∷ 1 ∷ rest)
no-code-before-prefix zero rest are p = let (r, e) = prefix-three (0 ∷ 0 ∷ 0 ∷ 1 ∷ rest) are p in third_is 0 (1 ∷ rest) r e refl
no-code-before-prefix (suc zero) rest are p = let (r, e) = prefix-three (0 ∷ 0 ∷ 0 ∷ 0 ∷ 1 ∷ rest) are p in third_is 0 (0 ∷ 1 ∷ rest) r e refl
no-code-before-prefix (suc (suc k)) rest are p = let (r, e) = prefix-three (0 ∷ 0 ∷ 0 ∷ (replicate k 0 ++ 0 ∷ 0 ∷ 1 ∷ rest)) are p in third_is 0 (replicate k 0 ++ 0 ∷ 0 ∷ 1 ∷ rest) r e refl

-- ---- lists whose items don't depend on those before

module _ {A B : Type 0} (item : Grammar (Next A B)) where
  const-refused : (before other values : List A) (bits left : List ℕ) (refusal : Refusal) → RefusesAfter (λ _. item) before values bits refusal left
      → RefusesAfter (λ _. item) other values bits refusal left
  const-refused before other [] bits left refusal r = r
  const-refused before other (v ∷ vs) bits left refusal (m, s, r) = (m, s, const-refused (before ++ v ∷ []) (other ++ v ∷ []) vs m left refusal r)

  const-spelled : (before other values : List A) (end : B) (bits rest : List ℕ) → SpellsList (λ _. item) before values end bits rest → SpellsList (λ _. item) other values end bits rest
  const-spelled before other [] end bits rest s = s
  const-spelled before other (v ∷ vs) end bits rest (m, s, t) = (m, s, const-spelled (before ++ v ∷ []) (other ++ v ∷ []) vs end m rest t)

-- ---- zero bytes, then a start code

-- a byte 0 at the front
zero-spelled : (refusal : Refusal) (bytes : List ℕ) → (zero_byte refusal).Spells 0 (bit_list (0 ∷ bytes)) (bit_list bytes)
zero-spelled refusal bytes = (replicate 8 0, (omega arith, sym (bits_of-zero 8)), refl, ap (λ (b : List ℕ). b ++ bit_list bytes) zero_byte-bits)

-- a byte that isn't 0
zero-breaks : (refusal : Refusal) (b : ℕ) (rest : List ℕ) → b < 2 ^ 8 → b ≢ 0 → (zero_byte refusal).Refuses (bit_list (b ∷ rest)) refusal (bit_list (b ∷ rest))
zero-breaks refusal b rest fits some = (
  refl,
  inr (inl (breaks _ (free-number 8) b (bits_of 8 b) (fits, refl) (bit_list (b ∷ rest))
      (subst (λ (front : List ℕ). IsPrefix (bits_of 8 b) (front ++ bit_list rest)) (bits_of-byte b) (IsPrefix-append (bits_of 8 b) (bit_list rest)))
      [] [] (rule refusal (λ byte. byte == 0)) refl (not_zero b some))),
)
  where
    not_zero : (n : ℕ) → n ≢ 0 → nat_eq n 0 ≡ false
    not_zero n none = ne_eqb n 0 none

-- no bits are left
zero-ends : (refusal : Refusal) → (zero_byte refusal).Refuses [] End []
zero-ends refusal = (
  refl,
  inr (inr (
    record { value = 0; code = bits_of 8 0; coded = (omega arith, refl); passing = refl; agrees = inr refl },
    (λ s. let l = ap length (IsPrefix-split s.code [] s.first) in omega (arith, l, length-append s.code (drop (length s.code) []), ap length s.coded.1, length-bits_of 8 s.value)),
    refl,
  )),
)

module _ (refusal : Refusal) (may_come : ℕ → Bool) where
  abbrev item : Grammar (Next ℕ (Unit {0}))
  item = if_next (IsPrefix start_code_prefix) (done (last tt)) (zero_byte refusal >>= λ byte. done (more byte))

  abbrev Codes : ℕ → List ℕ → Type 0
  Codes byte code = (byte < 2 ^ 8) × (code ≡ start_code_bits byte)

  one-zero : (bytes : List ℕ) → NoCode (0 ∷ bytes) → item.Spells (more 0) (bit_list (0 ∷ bytes)) (bit_list bytes)
  one-zero bytes none = inr (none, (0, bit_list bytes, zero-spelled refusal bytes, (refl, refl)))

  code-behind-zero : (bytes left : List ℕ) (kind : Refusal) → NoCode (0 ∷ bytes) → (start_code refusal may_come).Refuses (bit_list bytes) kind left
      → (start_code refusal may_come).Refuses (bit_list (0 ∷ bytes)) kind left
  code-behind-zero bytes left kind none (inl (values, r)) = inl (0 ∷ values, (bit_list bytes, one-zero bytes none, const-refused item [] (0 ∷ []) values (bit_list bytes) left kind r))
  code-behind-zero bytes left kind none (inr (zeros, m, s, r)) = inr ((0 ∷ zeros.0, tt), m, (bit_list bytes, one-zero bytes none, const-spelled item [] (0 ∷ []) zeros.0 tt (bit_list bytes) m s), r)

  pub code-behind-zeros : (n : ℕ) (bytes left : List ℕ) (kind : Refusal) → ((k : ℕ) → k < n → NoCode (replicate (suc k) 0 ++ bytes)) → (start_code refusal may_come).Refuses (bit_list bytes) kind left
      → (start_code refusal may_come).Refuses (bit_list (replicate n 0 ++ bytes)) kind left
  code-behind-zeros zero bytes left kind none r = r
  code-behind-zeros (suc n) bytes left kind none r =
      code-behind-zero (replicate n 0 ++ bytes) left kind (none n (omega arith)) (code-behind-zeros n bytes left kind (λ k lt. none k (omega (arith, lt))) r)

  -- a byte that is neither zero nor of a start code
  pub code-breaks-byte : (b : ℕ) (rest : List ℕ) → AreBytes (b ∷ rest) → b ≢ 0 → (start_code refusal may_come).Refuses (bit_list (b ∷ rest)) refusal (bit_list (b ∷ rest))
  code-breaks-byte b rest are some = inl ([], inr (no-code-nonzero b rest are some, inl (zero-breaks refusal b rest are.0 some)))

  -- nothing is left
  pub code-ends : (start_code refusal may_come).Refuses (bit_list []) End (bit_list [])
  code-ends = inl ([], inr (no-code-zeros 0, inl (zero-ends refusal)))

  -- ---- at a prefix

  at-prefix : (rest : List ℕ) → IsPrefix start_code_prefix (bit_list (0 ∷ 0 ∷ 1 ∷ rest))
  at-prefix rest = subst (IsPrefix start_code_prefix) (ap (λ (b : List ℕ). b ++ bit_list rest) prefix-bytes
      ∙ sym (bit_list-append (0 ∷ 0 ∷ 1 ∷ []) rest)) (IsPrefix-append start_code_prefix (bit_list rest))

  code-here : (rest : List ℕ) (kind : Refusal) → IsRefused Codes refusal (rule refusal may_come ∷ []) (bit_list (0 ∷ 0 ∷ 1 ∷ rest)) kind
      → (start_code refusal may_come).Refuses (bit_list (0 ∷ 0 ∷ 1 ∷ rest)) kind (bit_list (0 ∷ 0 ∷ 1 ∷ rest))
  code-here rest kind r = inr (([], tt), bit_list (0 ∷ 0 ∷ 1 ∷ rest), inl (at-prefix rest, (refl, refl)), (refl, r))

  pub code_bits-bytes : (byte : ℕ) → start_code_bits byte ≡ bit_list (0 ∷ 0 ∷ 1 ∷ byte ∷ [])
  code_bits-bytes byte =
      ap₂ (λ (a b : List ℕ). a ++ b) prefix-bytes (bits_of-byte byte ∙ sym (append-nil (bits_of_byte byte))) ∙ sym (bit_list-append (0 ∷ 0 ∷ 1 ∷ []) (byte ∷ []))

  -- a start code that may not come
  pub code-breaks : (byte : ℕ) (rest : List ℕ) → byte < 2 ^ 8 → may_come byte ≡ false
      → (start_code refusal may_come).Refuses (bit_list (0 ∷ 0 ∷ 1 ∷ byte ∷ rest)) refusal (bit_list (0 ∷ 0 ∷ 1 ∷ byte ∷ rest))
  code-breaks byte rest fits not_come = code-here (byte ∷ rest) refusal
      (inr (inl (breaks Codes (free-behind start_code_prefix 8) byte (start_code_bits byte) (fits, refl) (bit_list (0 ∷ 0 ∷ 1 ∷ byte ∷ rest))
      (subst (IsPrefix (start_code_bits byte)) (ap (λ (b : List ℕ). b ++ bit_list rest) (code_bits-bytes byte)
      ∙ sym (bit_list-append (0 ∷ 0 ∷ 1 ∷ byte ∷ []) rest)) (IsPrefix-append (start_code_bits byte) (bit_list rest)))
      [] [] (rule refusal may_come) refl not_come)))

  -- a start code that the end cuts behind its prefix, where some may come
  pub code-cut : (byte : ℕ) → byte < 2 ^ 8 → may_come byte ≡ true → (start_code refusal may_come).Refuses (bit_list (0 ∷ 0 ∷ 1 ∷ [])) End (bit_list (0 ∷ 0 ∷ 1 ∷ []))
  code-cut byte fits comes = code-here [] End (inr (inr (
    record {
      value = byte;
      code = start_code_bits byte;
      coded = (fits, refl);
      passing = ap (λ (c : Bool). c && true) comes;
      agrees = inr
          (subst (λ (b : List ℕ). IsPrefix b (start_code_bits byte)) prefix-bytes (IsPrefix-append start_code_prefix (bits_of 8 byte)));
    },
    (λ s. let l = ap length (IsPrefix-split s.code (bit_list (0 ∷ 0 ∷ 1 ∷ [])) s.first) in
        omega (
          arith,
          l,
          length-append s.code (drop (length s.code) (bit_list (0 ∷ 0 ∷ 1 ∷ []))),
          ap length s.coded.1,
          length-append start_code_prefix (bits_of 8 s.value),
          length-bits_of 8 s.value,
          length-bits_of 24 1,
          length-bit_list (0 ∷ 0 ∷ 1 ∷ []),
        )),
    refl,
  )))

-- ---- zero bytes to the end (behind a sequence end code)

abbrev next_zero : Grammar (Next ℕ (Unit {0}))
next_zero = if_next (λ bits. bits ≡ []) (done (last tt))
    (if_next (IsPrefix start_code_prefix) (start_code BadHeader (λ _. false) >> done (last tt)) (zero_byte BadHeader >>= λ byte. done (more byte)))

some-bits : (b : ℕ) (rest : List ℕ) → bit_list (b ∷ rest) ≡ [] → ⊥
some-bits b rest e = omega (arith, ap length e, length-bit_list (b ∷ rest))

next-zero : (bytes : List ℕ) → NoCode (0 ∷ bytes) → next_zero.Spells (more 0) (bit_list (0 ∷ bytes)) (bit_list bytes)
next-zero bytes none = inr (some-bits 0 bytes, inr (none, (0, bit_list bytes, zero-spelled BadHeader bytes, (refl, refl))))

end-behind-zeros : (n : ℕ) (bytes left : List ℕ) (kind : Refusal) → ((k : ℕ) → k < n → NoCode (replicate (suc k) 0 ++ bytes)) → only_zero_bytes.Refuses (bit_list bytes) kind left
    → only_zero_bytes.Refuses (bit_list (replicate n 0 ++ bytes)) kind left
end-behind-zeros zero bytes left kind none r = r
end-behind-zeros (suc n) bytes left kind none r =
    let (values, after) = end-behind-zeros n bytes left kind (λ k lt. none k (omega (arith, lt))) r in (
      0 ∷ values,
      (
        bit_list (replicate n 0 ++ bytes),
        next-zero (replicate n 0 ++ bytes) (none n (omega arith)),
        const-refused next_zero [] (0 ∷ []) values (bit_list (replicate n 0 ++ bytes)) left kind after,
      ),
    )

pub end-breaks-byte : (n b : ℕ) (rest : List ℕ) → ((k : ℕ) → k < n → NoCode (replicate (suc k) 0 ++ b ∷ rest)) → AreBytes (b ∷ rest) → b ≢ 0
    → only_zero_bytes.Refuses (bit_list (replicate n 0 ++ b ∷ rest)) BadHeader (bit_list (b ∷ rest))
end-breaks-byte n b rest none are some =
    end-behind-zeros n (b ∷ rest) (bit_list (b ∷ rest)) BadHeader none ([], inr (some-bits b rest, inr (no-code-nonzero b rest are some, inl (zero-breaks BadHeader b rest are.0 some))))

-- no start code may come
none-comes : (rest : List ℕ) → AreBytes rest → (start_code BadHeader (λ _. false)).Refuses (bit_list (0 ∷ 0 ∷ 1 ∷ rest)) BadHeader (bit_list (0 ∷ 0 ∷ 1 ∷ rest))
none-comes (byte ∷ rest) are = code-breaks BadHeader (λ _. false) byte rest are.0 refl
none-comes [] are = code-here BadHeader (λ _. false) [] BadHeader (inr (inl (record {
  before = [];
  broken = rule BadHeader (λ _. false);
  after = [];
  order = refl;
  so_far = record {
    value = 0;
    code = start_code_bits 0;
    coded = (omega arith, refl);
    passing = refl;
    agrees = inr
        (subst (λ (b : List ℕ). IsPrefix b (start_code_bits 0)) prefix-bytes (IsPrefix-append start_code_prefix (bits_of 8 0)));
  };
  none = λ m. both_ways false refl m.passing;
  named = refl;
})))

pub end-breaks-prefix : (n : ℕ) (rest : List ℕ) → ((k : ℕ) → k < n → NoCode (replicate (suc k) 0 ++ 0 ∷ 0 ∷ 1 ∷ rest)) → AreBytes rest
    → only_zero_bytes.Refuses (bit_list (replicate n 0 ++ 0 ∷ 0 ∷ 1 ∷ rest)) BadHeader (bit_list (0 ∷ 0 ∷ 1 ∷ rest))
end-breaks-prefix n rest none are =
    end-behind-zeros n (0 ∷ 0 ∷ 1 ∷ rest) (bit_list (0 ∷ 0 ∷ 1 ∷ rest)) BadHeader none
    ([], inr (some-bits 0 (0 ∷ 1 ∷ rest), inl (at-prefix BadHeader (λ _. false) rest, inl (none-comes rest are))))

end-list : (n : ℕ) (before : List ℕ) → SpellsList (λ _. next_zero) before (replicate n 0) tt (bit_list (replicate n 0)) []
end-list zero before = inl (refl, (refl, refl))
end-list (suc n) before = (bit_list (replicate n 0), next-zero (replicate n 0) (no-code-zeros (suc n)), end-list n (before ++ 0 ∷ []))

pub end-spelled : (n : ℕ) → only_zero_bytes.Spells (replicate n 0, tt) (bit_list (replicate n 0)) []
end-spelled n = end-list n []
