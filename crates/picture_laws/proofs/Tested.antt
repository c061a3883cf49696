-- What decides where a grammar looks ahead, as tests of bits.
use Rattle.std.proofs.Common.{
  ◌≡◌,
  ℕ,
  zero,
  suc,
  ◌+◌,
  ◌-◌,
  ◌*◌,
  ◌^◌,
  ◌<◌,
  ◌≤◌,
  ◌⊎◌,
  ◌&&◌,
  ◌||◌,
  nat_eq,
  nat_le,
  List,
  [],
  ◌∷◌,
  ◌++◌,
  length,
  get_or,
  take,
  drop,
  replicate,
  Bool,
  true,
  false,
  refl,
  sym,
  ap,
  ap₂,
  subst,
  ◌∙◌,
  inl,
  inr,
  arith,
  append_assoc,
  eq-eqb,
}
use Rattle.std.proofs.lemmas.Bool.{and_parts, and_from, eqb-true, both_ways, cases_Bool, leb-true, le-leb}
use Rattle.std.proofs.lemmas.List.{length-append, length-take, length-replicate, take-append-drop, replicate-append-replicate}
use Rattle.std.proofs.Math.Nat.{mod-eq_of_lt}
use Rattle.bit_lists.specs.Bits.{IsPrefix, bits_of, number_of}
use Rattle.bit_lists.proofs.BitLemmas.{length-bits_of, number_of-bits_of}
use Rattle.bit_lists.proofs.PrefixLemmas.{IsPrefix-append, IsPrefix-split}
use Rattle.bit_lists.proofs.NumberLemmas.{number_of-below, AreBits-take, AreBits-drop, AreBits, bits_of-number_of}
use Rattle.picture_grammar.specs.StartCode.{start_code_prefix, start_code_bits, StartCodeComes}
use Rattle.picture_grammar.specs.Slice.{ClosesSlice}
use Rattle.picture_laws.proofs.Candidates.{begins, begins-true, begins-from}
use Rattle.picture_laws.proofs.Decided.{IsTested}

-- ---- a fixed front, and zero bits

abbrev pub tested-front : (front : List ℕ) → IsTested (IsPrefix front)
tested-front front = record {
  test = begins front;
  such = λ bits are e. begins-true front bits e;
  other = λ bits are e p. both_ways (begins front bits) e (begins-from front bits p);
}

abbrev pub all_zero : List ℕ → Bool
all_zero [] = true
all_zero (bit ∷ bits) = nat_eq bit 0 && all_zero bits

pub all_zero-true : (bits : List ℕ) → all_zero bits ≡ true → bits ≡ replicate (length bits) 0
all_zero-true [] e = refl
all_zero-true (bit ∷ bits) e =
    let parts = and_parts (nat_eq bit 0) (all_zero bits) e in
    ap₂ (λ (b : ℕ) (bs : List ℕ). b ∷ bs) (eqb-true bit 0 parts.0) (all_zero-true bits parts.1)

pub all_zero-from : (bits : List ℕ) → bits ≡ replicate (length bits) 0 → all_zero bits ≡ true
all_zero-from [] e = refl
all_zero-from (bit ∷ bits) e =
    let head : bit ≡ 0 = cc in
    let tail : bits ≡ replicate (length bits) 0 = cc in
    and_from (nat_eq bit 0) (all_zero bits) (eq-eqb bit 0 head) (all_zero-from bits tail)

abbrev pub tested-zero : IsTested (λ bits. bits ≡ replicate (length bits) 0)
tested-zero = record {
  test = all_zero;
  such = λ bits are e. all_zero-true bits e;
  other = λ bits are e z. both_ways (all_zero bits) e (all_zero-from bits z);
}

abbrev is_empty : List ℕ → Bool
is_empty [] = true
is_empty (bit ∷ bits) = false

pub empty-true : (bits : List ℕ) → is_empty bits ≡ true → bits ≡ []
empty-true [] e = refl
empty-true (bit ∷ bits) e = absurd (both_ways false refl e)

pub empty-false : (bits : List ℕ) → is_empty bits ≡ false → bits ≡ [] → ⊥
empty-false [] e z = both_ways true e refl
empty-false (bit ∷ bits) e z = cc

abbrev pub tested-empty : IsTested (λ bits. bits ≡ [])
tested-empty = record { test = is_empty; such = λ bits are e. empty-true bits e; other = λ bits are e z. empty-false bits e z }

-- ---- the close of a slice

pub or_parts : (a b : Bool) → a || b ≡ true → (a ≡ true) ⊎ (b ≡ true)
or_parts true b e = inl refl
or_parts false b e = inr e

or_first : (a b : Bool) → a ≡ true → a || b ≡ true
or_first true b e = refl
or_first false b e = absurd (both_ways false refl e)

or_second : (a b : Bool) → b ≡ true → a || b ≡ true
or_second true b e = refl
or_second false b e = e

abbrev pub closes : List ℕ → Bool
closes bits = begins (replicate 23 0) bits || all_zero bits

pub closes-true : (bits : List ℕ) → closes bits ≡ true → ClosesSlice bits
closes-true bits e = elim (or_parts (begins (replicate 23 0) bits) (all_zero bits) e) [
  | inl a ↦ inl (begins-true (replicate 23 0) bits a)
  | inr b ↦ inr (all_zero-true bits b)
]

pub closes-from : (bits : List ℕ) → ClosesSlice bits → closes bits ≡ true
closes-from bits (inl p) = or_first (begins (replicate 23 0) bits) (all_zero bits) (begins-from (replicate 23 0) bits p)
closes-from bits (inr z) = or_second (begins (replicate 23 0) bits) (all_zero bits) (all_zero-from bits z)

abbrev pub tested-closes : IsTested ClosesSlice
tested-closes = record { test = closes; such = λ bits are e. closes-true bits e; other = λ bits are e c. both_ways (closes bits) e (closes-from bits c) }

-- ---- start codes behind zero bytes

-- the byte behind a prefix
abbrev pub comes_here : (ℕ → Bool) → List ℕ → Bool
comes_here may_come rest = nat_le 8 (length rest) && may_come (number_of (take 8 rest))

-- behind so many zero bytes at most
abbrev pub comes : (ℕ → Bool) → ℕ → List ℕ → Bool
comes may_come zero bits = false
comes may_come (suc steps) bits = elim (begins start_code_prefix bits) [
  | true ↦ comes_here may_come (drop 24 bits)
  | false ↦ elim (begins (replicate 8 0) bits) [ true ↦ comes may_come steps (drop 8 bits) | false ↦ false ]
]

not-begins : (bits : List ℕ) → (IsPrefix start_code_prefix bits → ⊥) → begins start_code_prefix bits ≡ false
not-begins bits none = elim (cases_Bool (begins start_code_prefix bits)) [ inl e ↦ absurd (none (begins-true start_code_prefix bits e)) | inr e ↦ e ]

drop-prefix : (rest : List ℕ) → drop 24 (start_code_prefix ++ rest) ≡ rest
unfolding bits_of
drop-prefix rest = refl

-- fewer zero bits begin more of them
pub zeros-begin : (m n : ℕ) (rest : List ℕ) → m ≤ n → IsPrefix (replicate m 0) (replicate n 0 ++ rest)
zeros-begin m n rest le =
    let split : replicate n 0 ++ rest ≡ replicate m 0 ++ (replicate (n - m) 0 ++ rest) =
    ap (λ k. replicate k 0 ++ rest) (let e : n ≡ m + (n - m) = omega arith in e)
    ∙ ap (λ x. x ++ rest) (sym (replicate-append-replicate m (n - m) 0)) ∙ append_assoc (replicate m 0) (replicate (n - m) 0) rest in
    subst (IsPrefix (replicate m 0)) (sym split) (IsPrefix-append (replicate m 0) (replicate (n - m) 0 ++ rest))

pub prefix-zeros : start_code_prefix ≡ replicate 23 0 ++ 1 ∷ []
unfolding bits_of
prefix-zeros = refl

not-zeros : start_code_prefix ≡ replicate 24 0 → ⊥
unfolding bits_of
not-zeros e = let d = ap (λ (bits : List ℕ). get_or bits 23 0) e in omega arith

-- no prefix stands before the zero byte before it
pub no-prefix : (n : ℕ) (rest : List ℕ) → IsPrefix start_code_prefix (replicate 8 0 ++ (replicate n 0 ++ (start_code_prefix ++ rest))) → ⊥
no-prefix n rest p =
    let zeros : replicate 8 0 ++ (replicate n 0 ++ (start_code_prefix ++ rest)) ≡ replicate (8 + (n + 23)) 0 ++ (1 ∷ rest) =
    ap (λ x. replicate 8 0 ++ (replicate n 0 ++ (x ++ rest))) prefix-zeros
    ∙ ap (λ x. replicate 8 0 ++ x) (sym (append_assoc (replicate n 0) (replicate 23 0) (1 ∷ rest)) ∙ ap (λ x. x ++ (1 ∷ rest)) (replicate-append-replicate n 23 0))
    ∙ sym (append_assoc (replicate 8 0) (replicate (n + 23) 0) (1 ∷ rest)) ∙ ap (λ x. x ++ (1 ∷ rest)) (replicate-append-replicate 8 (n + 23) 0) in
    let all : IsPrefix (replicate 24 0) (replicate (8 + (n + 23)) 0 ++ (1 ∷ rest)) = zeros-begin 24 (8 + (n + 23)) (1 ∷ rest) (omega arith) in
    let front : take 24 (replicate 8 0 ++ (replicate n 0 ++ (start_code_prefix ++ rest))) ≡ start_code_prefix =
    ap (λ k. take k (replicate 8 0 ++ (replicate n 0 ++ (start_code_prefix ++ rest)))) (sym (length-bits_of 24 1)) ∙ p in
    not-zeros (sym front ∙ ap (take 24) zeros ∙ all)

module _ (may_come : ℕ → Bool) where
  here-true : (bits : List ℕ) → AreBits bits → IsPrefix start_code_prefix bits → comes_here may_come (drop 24 bits) ≡ true → StartCodeComes may_come bits
  unfolding bits_of
  here-true bits are p e =
      let parts = and_parts (nat_le 8 (length (drop 24 bits))) (may_come (number_of (take 8 (drop 24 bits)))) e in
      let enough : 8 ≤ length (drop 24 bits) = leb-true 8 (length (drop 24 bits)) parts.0 in
      let code = take 8 (drop 24 bits) in
      let are_code : AreBits code = AreBits-take 8 (drop 24 bits) (AreBits-drop 24 bits are) in
      let count : length code ≡ 8 = omega (arith, length-take 8 (drop 24 bits)) in
      let byte : bits_of 8 (number_of code) ≡ code = ap (λ n. bits_of n (number_of code)) (sym count) ∙ bits_of-number_of code are_code in
      let split : bits ≡ start_code_prefix ++ drop 24 bits = IsPrefix-split start_code_prefix bits p in
      record {
        zeros = 0;
        byte = number_of code;
        rest = drop 8 (drop 24 bits);
        is_byte = subst (λ n. number_of code < 2 ^ n) count (number_of-below code are_code);
        is_one = parts.1;
        stands = split ∙ ap (λ x. start_code_prefix ++ x) (sym (take-append-drop 8 (drop 24 bits)) ∙ ap (λ x. x ++ drop 8 (drop 24 bits)) (sym byte))
            ∙ sym (append_assoc start_code_prefix (bits_of 8 (number_of code)) (drop 8 (drop 24 bits)));
      }

  one_more_zero : (bits : List ℕ) → IsPrefix (replicate 8 0) bits → StartCodeComes may_come (drop 8 bits) → StartCodeComes may_come bits
  one_more_zero bits p c =
      let more : replicate (8 * (c.zeros + 1)) 0 ≡ replicate 8 0 ++ replicate (8 * c.zeros) 0 =
      ap (λ n. replicate n 0) (let e : 8 * (c.zeros + 1) ≡ 8 + 8 * c.zeros = omega arith in e) ∙ sym (replicate-append-replicate 8 (8 * c.zeros) 0) in
      record {
        zeros = c.zeros + 1;
        byte = c.byte;
        rest = c.rest;
        is_byte = c.is_byte;
        is_one = c.is_one;
        stands = IsPrefix-split (replicate 8 0) bits p ∙ ap (λ x. replicate 8 0 ++ x) c.stands
            ∙ ap (λ x. replicate 8 0 ++ x) (append_assoc (replicate (8 * c.zeros) 0) (start_code_bits c.byte) c.rest)
            ∙ sym (append_assoc (replicate 8 0) (replicate (8 * c.zeros) 0) (start_code_bits c.byte ++ c.rest))
            ∙ ap (λ x. x ++ (start_code_bits c.byte ++ c.rest)) (sym more)
            ∙ sym (append_assoc (replicate (8 * (c.zeros + 1)) 0) (start_code_bits c.byte) c.rest);
      }

  pub comes-true : (steps : ℕ) (bits : List ℕ) → AreBits bits → comes may_come steps bits ≡ true → StartCodeComes may_come bits
  comes-true zero bits are e = absurd (both_ways false refl e)
  comes-true (suc steps) bits are e = by_tests (begins start_code_prefix bits) (begins (replicate 8 0) bits) refl refl e (comes-true steps (drop 8 bits) (AreBits-drop 8 bits are)) where
    by_tests : (a b : Bool) → begins start_code_prefix bits ≡ a → begins (replicate 8 0) bits ≡ b
        → (elim a [ true ↦ comes_here may_come (drop 24 bits) | false ↦ elim b [ true ↦ comes may_come steps (drop 8 bits) | false ↦ false ] ]) ≡ true
        → (comes may_come steps (drop 8 bits) ≡ true → StartCodeComes may_come (drop 8 bits)) → StartCodeComes may_come bits
    by_tests true b p z e later = here-true bits are (begins-true start_code_prefix bits p) e
    by_tests false true p z e later = one_more_zero bits (begins-true (replicate 8 0) bits z) (later e)
    by_tests false false p z e later = absurd (both_ways false refl e)

  -- ---- and where one comes the test finds it

  comes-next : (steps : ℕ) (bits : List ℕ) → IsPrefix start_code_prefix bits → comes_here may_come (drop 24 bits) ≡ true → comes may_come (suc steps) bits ≡ true
  comes-next steps bits p e =
      ap (λ a. elim a [ true ↦ comes_here may_come (drop 24 bits) | false ↦ elim (begins (replicate 8 0) bits) [ true ↦ comes may_come steps (drop 8 bits) | false ↦ false ] ])
      (begins-from start_code_prefix bits p) ∙ e

  comes-later : (steps : ℕ) (bits : List ℕ) → (IsPrefix start_code_prefix bits → ⊥) → IsPrefix (replicate 8 0) bits → comes may_come steps (drop 8 bits) ≡ true → comes may_come (suc steps) bits ≡ true
  comes-later steps bits none p e =
      ap (λ a. elim a [ true ↦ comes_here may_come (drop 24 bits) | false ↦ elim (begins (replicate 8 0) bits) [ true ↦ comes may_come steps (drop 8 bits) | false ↦ false ] ])
      (not-begins bits none)
      ∙ ap (λ b. elim b [ true ↦ comes may_come steps (drop 8 bits) | false ↦ false ]) (begins-from (replicate 8 0) bits p) ∙ e

  module _ (byte : ℕ) (rest : List ℕ) (is_byte : byte < 2 ^ 8) (is_one : may_come byte ≡ true) where
    code-here : comes_here may_come (bits_of 8 byte ++ rest) ≡ true
    code-here =
        let count = length-bits_of 8 byte in
        let first : take 8 (bits_of 8 byte ++ rest) ≡ bits_of 8 byte =
        ap (λ n. take n (bits_of 8 byte ++ rest)) (sym count) ∙ IsPrefix-append (bits_of 8 byte) rest in
        let value : number_of (take 8 (bits_of 8 byte ++ rest)) ≡ byte = ap number_of first ∙ number_of-bits_of 8 byte ∙ mod-eq_of_lt is_byte in
        and_from (nat_le 8 (length (bits_of 8 byte ++ rest))) (may_come (number_of (take 8 (bits_of 8 byte ++ rest))))
        (le-leb 8 (length (bits_of 8 byte ++ rest)) (omega (arith, length-append (bits_of 8 byte) rest))) (ap may_come value ∙ is_one)

    comes-at : (count steps : ℕ) → count < steps → comes may_come steps (replicate (8 * count) 0 ++ (start_code_prefix ++ (bits_of 8 byte ++ rest))) ≡ true
    comes-at count zero lt = absurd (omega (arith, lt))
    comes-at zero (suc steps) lt =
        comes-next steps (start_code_prefix ++ (bits_of 8 byte ++ rest)) (IsPrefix-append start_code_prefix (bits_of 8 byte ++ rest))
        (ap (comes_here may_come) (drop-prefix (bits_of 8 byte ++ rest)) ∙ code-here)
    comes-at (suc count) (suc steps) lt =
        let others = start_code_prefix ++ (bits_of 8 byte ++ rest) in
        let split : replicate (8 * suc count) 0 ++ others ≡ replicate 8 0 ++ (replicate (8 * count) 0 ++ others) =
        ap (λ n. replicate n 0 ++ others) (let e : 8 * suc count ≡ 8 + 8 * count = omega arith in e)
        ∙ ap (λ x. x ++ others) (sym (replicate-append-replicate 8 (8 * count) 0)) ∙ append_assoc (replicate 8 0) (replicate (8 * count) 0) others in
        subst (λ b. comes may_come (suc steps) b ≡ true) (sym split)
        (comes-later steps (replicate 8 0 ++ (replicate (8 * count) 0 ++ others)) (no-prefix (8 * count) (bits_of 8 byte ++ rest)) (IsPrefix-append (replicate 8 0) (replicate (8 * count) 0 ++ others))
        (comes-at count steps (omega (arith, lt))))

  pub comes-from : (bits : List ℕ) → StartCodeComes may_come bits → comes may_come (length bits) bits ≡ true
  comes-from bits c =
      let split : bits ≡ replicate (8 * c.zeros) 0 ++ (start_code_prefix ++ (bits_of 8 c.byte ++ c.rest)) =
      c.stands ∙ append_assoc (replicate (8 * c.zeros) 0) (start_code_bits c.byte) c.rest
      ∙ ap (λ x. replicate (8 * c.zeros) 0 ++ x) (append_assoc start_code_prefix (bits_of 8 c.byte) c.rest) in
      let others = start_code_prefix ++ (bits_of 8 c.byte ++ c.rest) in
      let many : c.zeros < length bits =
      omega (
        arith,
        ap length split,
        length-append (replicate (8 * c.zeros) 0) others,
        length-replicate {A = ℕ} (8 * c.zeros) 0,
        length-append start_code_prefix (bits_of 8 c.byte ++ c.rest),
        length-bits_of 24 1,
      ) in
      subst (λ b. comes may_come (length bits) b ≡ true) (sym split) (comes-at c.byte c.rest c.is_byte c.is_one c.zeros (length bits) many)

  abbrev pub tested-comes : IsTested (StartCodeComes may_come)
  tested-comes = record {
    test = λ bits. comes may_come (length bits) bits;
    such = λ bits are e. comes-true (length bits) bits are e;
    other = λ bits are e c. both_ways (comes may_come (length bits) bits) e (comes-from bits c);
  }
