-- Start codes before one of certain start codes, as that of the first slice, where another one of these stands there.
use Rattle.std.proofs.Common.{
  ◌≡◌,
  ◌⊎◌,
  ℕ,
  zero,
  suc,
  ◌+◌,
  ◌*◌,
  ◌%◌,
  ◌^◌,
  ◌<◌,
  ◌≤◌,
  List,
  [],
  ◌∷◌,
  ◌++◌,
  length,
  replicate,
  Bool,
  true,
  refl,
  sym,
  ap,
  ap₂,
  subst,
  ◌∙◌,
  inl,
  inr,
  arith,
  append_assoc,
  append-nil,
}
use Rattle.std.proofs.lemmas.List.{length-append, append_cancel_left, nil_from_length}
use Rattle.bit_lists.specs.Bits.{IsPrefix, bits_of}
use Rattle.bit_lists.proofs.BitLemmas.{length-bits_of, bits_of-one}
use Rattle.bit_lists.proofs.PrefixLemmas.{IsPrefix-append, IsPrefix-split, same_front}
use Rattle.picture_grammar.specs.StartCode.{start_code_prefix, start_code_bits, StartCodeComes}
use Rattle.picture_laws.proofs.Tested.{prefix-zeros}
use Rattle.picture_laws.proofs.StartCodes.{zeros_before, zeros_before-one, opened-zeros, parted, end-one, end-zeros}

-- zero bytes, then such a start code
pub record IsTail (is_last : ℕ → Bool) (bits : List ℕ) : Type 0 where
  pub zeros : ℕ
  pub byte : ℕ
  pub rest : List ℕ
  pub is_byte : byte < 2 ^ 8
  pub starts : is_last byte ≡ true
  pub split : bits ≡ replicate (8 * zeros) 0 ++ (start_code_bits byte ++ rest)

-- such a start code
pub record IsNewTail (is_last : ℕ → Bool) (bits : List ℕ) : Type 0 where
  pub byte : ℕ
  pub rest : List ℕ
  pub is_byte : byte < 2 ^ 8
  pub starts : is_last byte ≡ true
  pub split : bits ≡ start_code_bits byte ++ rest

-- the same bits before such a start code, and before another one with no zero bytes before it
pub record AreAlike (is_last : ℕ → Bool) (a b : List ℕ) : Type 0 where
  pub front : List ℕ
  pub old : List ℕ
  pub new : List ℕ
  pub first : a ≡ front ++ old
  pub second : b ≡ front ++ new
  pub old_tail : IsTail is_last old
  pub new_tail : IsNewTail is_last new
  pub whole : length old % 8 ≡ length new % 8

pub alike-behind : (is_last : ℕ → Bool) (f a b : List ℕ) → AreAlike is_last a b → AreAlike is_last (f ++ a) (f ++ b)
alike-behind is_last f a b alike = record {
  front = f ++ alike.front;
  old = alike.old;
  new = alike.new;
  first = ap (λ (x : List ℕ). f ++ x) alike.first ∙ sym (append_assoc f alike.front alike.old);
  second = ap (λ (x : List ℕ). f ++ x) alike.second ∙ sym (append_assoc f alike.front alike.new);
  old_tail = alike.old_tail;
  new_tail = alike.new_tail;
  whole = alike.whole;
}

pub alike-length : (is_last : ℕ → Bool) (a b : List ℕ) → AreAlike is_last a b → length a % 8 ≡ length b % 8
alike-length is_last a b alike =
    let x : length a ≡ length alike.front + length alike.old = ap length alike.first ∙ length-append alike.front alike.old in
    let y : length b ≡ length alike.front + length alike.new = ap length alike.second ∙ length-append alike.front alike.new in
    let z : length alike.old % 8 ≡ length alike.new % 8 = alike.whole in
    omega (arith, x, y, z)

zeros-old : (is_last : ℕ → Bool) (bits : List ℕ) → IsTail is_last bits → 23 ≤ zeros_before bits
zeros-old is_last bits t = omega (arith, ap zeros_before t.split ∙ opened-zeros (8 * t.zeros) t.byte t.rest)

zeros-new : (is_last : ℕ → Bool) (bits : List ℕ) → IsNewTail is_last bits → zeros_before bits ≡ 23
zeros-new is_last bits t = ap zeros_before t.split ∙ opened-zeros 0 t.byte t.rest ∙ omega arith

zero-front : (front rest : List ℕ) → length front ≤ zeros_before (front ++ rest) → front ≡ replicate (length front) 0
zero-front [] rest le = refl
zero-front (zero ∷ front) rest le = ap (λ (x : List ℕ). 0 ∷ x) (zero-front front rest (omega arith))
zero-front (suc n ∷ front) rest le = absurd (omega arith)

zero-parts : (n : ℕ) (bits : List ℕ) → n ≤ zeros_before bits → (rest : List ℕ) × (bits ≡ replicate n 0 ++ rest)
zero-parts zero bits le = (bits, refl)
zero-parts (suc n) [] le = absurd (omega arith)
zero-parts (suc n) (zero ∷ bits) le = let (rest, e) = zero-parts n bits (omega arith) in (rest, ap (λ (x : List ℕ). 0 ∷ x) e)
zero-parts (suc n) (suc m ∷ bits) le = absurd (omega arith)

one_byte : (b c : ℕ) (x y : List ℕ) → b < 2 ^ 8 → c < 2 ^ 8 → start_code_bits b ++ x ≡ start_code_bits c ++ y → b ≡ c
one_byte b c x y lt lt' e =
    let fields = append_cancel_left start_code_prefix (bits_of 8 b ++ x) (bits_of 8 c ++ y)
    (sym (append_assoc start_code_prefix (bits_of 8 b) x) ∙ e ∙ append_assoc start_code_prefix (bits_of 8 c) y) in
    bits_of-one 8 b c lt lt' (same_front (bits_of 8 b) (bits_of 8 c) x y (length-bits_of 8 b ∙ sym (length-bits_of 8 c)) fields)

pub suffix-one : (front end : List ℕ) → start_code_prefix ≡ front ++ end → (end ≡ []) ⊎ ((k : ℕ) × (end ≡ replicate k 0 ++ 1 ∷ []) × (k + length front ≡ 23))
suffix-one front end e = end-one 23 front end (sym e ∙ prefix-zeros)

-- bits that begin with zeros and a one
pub led : (k : ℕ) (end rest bits : List ℕ) → end ≡ replicate k 0 ++ 1 ∷ [] → bits ≡ end ++ rest → zeros_before bits ≡ k
led k end rest bits is split = ap zeros_before (split ∙ ap (λ (x : List ℕ). x ++ rest) is ∙ append_assoc (replicate k 0) (1 ∷ []) rest) ∙ zeros_before-one k rest

-- ---- a prefix

module _ (is_last : ℕ → Bool) (old new : List ℕ) (old_tail : IsTail is_last old) (new_tail : IsNewTail is_last new) where
  whole-prefix : (h other : List ℕ) → h ≡ start_code_prefix → IsPrefix start_code_prefix (h ++ other)
  whole-prefix h other e = subst (λ (x : List ℕ). IsPrefix start_code_prefix (x ++ other)) (sym e) (IsPrefix-append start_code_prefix other)

  inner-prefix : (h m other : List ℕ) → h ≡ start_code_prefix ++ m → IsPrefix start_code_prefix (h ++ other)
  inner-prefix h m other e = subst (IsPrefix start_code_prefix) (sym (ap (λ (x : List ℕ). x ++ other) e ∙ append_assoc start_code_prefix m other)) (IsPrefix-append start_code_prefix (m ++ other))

  pub prefix-behind : (h : List ℕ) → 0 < length h → IsPrefix start_code_prefix (h ++ new) → IsPrefix start_code_prefix (h ++ old)
  prefix-behind h some p = by_parts (parted h new start_code_prefix _ (IsPrefix-split start_code_prefix (h ++ new) p)) where
    by_parts : {x : List ℕ} → ((m : List ℕ) × (start_code_prefix ≡ h ++ m) × (new ≡ m ++ x)) ⊎ ((m : List ℕ) × (h ≡ start_code_prefix ++ m) × (x ≡ m ++ new)) → IsPrefix start_code_prefix (h ++ old)
    by_parts {x} (inl (m, e, f)) = elim (suffix-one h m e) [
      | inl none ↦ whole-prefix h old (sym (append-nil h) ∙ ap (λ (y : List ℕ). h ++ y) (sym none) ∙ sym e)
      | inr (k, is, count) ↦ absurd (omega (arith, led k m x new is f, zeros-new is_last new new_tail))
    ]
    by_parts (inr (m, e, f)) = inner-prefix h m old e

  pub prefix-end : (f : List ℕ) → IsPrefix start_code_prefix (f ++ old) → IsPrefix start_code_prefix (f ++ new)
  prefix-end f p = by_parts (parted f old start_code_prefix _ (IsPrefix-split start_code_prefix (f ++ old) p)) where
    by_parts : {x : List ℕ} → ((m : List ℕ) × (start_code_prefix ≡ f ++ m) × (old ≡ m ++ x)) ⊎ ((m : List ℕ) × (f ≡ start_code_prefix ++ m) × (x ≡ m ++ old)) → IsPrefix start_code_prefix (f ++ new)
    by_parts {x} (inl (m, e, g)) = elim (suffix-one f m e) [
      | inl none ↦ whole-prefix f new (sym (append-nil f) ∙ ap (λ (y : List ℕ). f ++ y) (sym none) ∙ sym e)
      | inr (k, is, count) ↦
          let empty = nil_from_length f (omega (arith, led k m x old is g, zeros-old is_last old old_tail, count)) in
          subst (λ (y : List ℕ). IsPrefix start_code_prefix (y ++ new)) (sym empty)
          (subst (IsPrefix start_code_prefix) (sym (new_tail.split ∙ append_assoc start_code_prefix (bits_of 8 new_tail.byte) new_tail.rest))
          (IsPrefix-append start_code_prefix (bits_of 8 new_tail.byte ++ new_tail.rest)))
    ]
    by_parts (inr (m, e, g)) = inner-prefix f m new e

  -- ---- a start code

  module _ (codes : ℕ → Bool) (none : (byte : ℕ) → codes byte ≡ true → is_last byte ≡ true → ⊥) (f : List ℕ) where
    -- the last one isn't one of these
    last-absurd : (c : ℕ) (rest : List ℕ) → c < 2 ^ 8 → codes c ≡ true → new ≡ start_code_bits c ++ rest → ⊥
    last-absurd c rest lt is e = none c is (subst (λ (b : ℕ). is_last b ≡ true) (one_byte new_tail.byte c new_tail.rest rest new_tail.is_byte lt (sym new_tail.split ∙ e)) new_tail.starts)

    -- all but zeros of it stand before the last one
    finish : (c : StartCodeComes codes (f ++ new)) (n m : List ℕ) → f ≡ replicate (8 * c.zeros) 0 ++ n → start_code_bits c.byte ≡ n ++ m
        → new ≡ m ++ c.rest → length m ≤ 8 → StartCodeComes codes (f ++ old)
    finish c n m e g h le =
        let few : length m ≤ zeros_before (m ++ c.rest) = omega (arith, le, zeros-new is_last new new_tail, ap zeros_before h) in
        let zeros = zero-front m c.rest few in
        let (rest, split) = zero-parts (length m) old (omega (arith, le, zeros-old is_last old old_tail)) in
        record {
          zeros = c.zeros;
          byte = c.byte;
          rest = rest;
          is_byte = c.is_byte;
          is_one = c.is_one;
          stands = ap₂ (λ (x y : List ℕ). x ++ y) e (split ∙ ap (λ (x : List ℕ). x ++ rest) (sym zeros)) ∙ sym (append_assoc (replicate (8 * c.zeros) 0 ++ n) m rest)
              ∙ ap (λ (x : List ℕ). x ++ rest) (append_assoc (replicate (8 * c.zeros) 0) n m ∙ ap (λ (x : List ℕ). replicate (8 * c.zeros) 0 ++ x) (sym g));
        }

    pub comes-moved : StartCodeComes codes (f ++ new) → StartCodeComes codes (f ++ old)
    comes-moved c = by_parts (parted f new (replicate (8 * c.zeros) 0 ++ start_code_bits c.byte) c.rest c.stands) where
      in_code : (n m : List ℕ) → f ≡ replicate (8 * c.zeros) 0 ++ n → start_code_bits c.byte ≡ n ++ m → new ≡ m ++ c.rest
          → ((k : List ℕ) × (start_code_prefix ≡ n ++ k) × (m ≡ k ++ bits_of 8 c.byte)) ⊎ ((k : List ℕ) × (n ≡ start_code_prefix ++ k) × (bits_of 8 c.byte ≡ k ++ m)) → StartCodeComes codes (f ++ old)
      in_code n m e g h (inl (k, r, q)) = elim (suffix-one n k r) [
        | inl empty ↦
            let byte : m ≡ bits_of 8 c.byte = q ∙ ap (λ (x : List ℕ). x ++ bits_of 8 c.byte) empty in
            finish c n m e g h (omega (arith, ap length byte, length-bits_of 8 c.byte))
        | inr (j, is, count) ↦
            let split : new ≡ k ++ (bits_of 8 c.byte ++ c.rest) = h ∙ ap (λ (x : List ℕ). x ++ c.rest) q ∙ append_assoc k (bits_of 8 c.byte) c.rest in
            let empty = nil_from_length n (omega (arith, led j k (bits_of 8 c.byte ++ c.rest) new is split, zeros-new is_last new new_tail, count)) in
            let all : new ≡ start_code_bits c.byte ++ c.rest = h ∙ ap (λ (x : List ℕ). x ++ c.rest) (sym (g ∙ ap (λ (x : List ℕ). x ++ m) empty)) in
            absurd (last-absurd c.byte c.rest c.is_byte c.is_one all)
      ]
      in_code n m e g h (inr (k, r, q)) = finish c n m e g h (omega (arith, ap length q, length-append k m, length-bits_of 8 c.byte))

      in_zeros : (m : List ℕ) → new ≡ m ++ c.rest → ((n : List ℕ) × (f ≡ replicate (8 * c.zeros) 0 ++ n) × (start_code_bits c.byte ≡ n ++ m))
          ⊎ ((n : List ℕ) × (replicate (8 * c.zeros) 0 ≡ f ++ n) × (m ≡ n ++ start_code_bits c.byte)) → StartCodeComes codes (f ++ old)
      in_zeros m h (inl (n, e, g)) = in_code n m e g h (parted n m start_code_prefix (bits_of 8 c.byte) (sym g))
      in_zeros m h (inr (n, e, g)) =
          let zeros = end-zeros (8 * c.zeros) f n e in
          let split : new ≡ replicate (length n) 0 ++ (start_code_bits c.byte ++ c.rest) =
          h ∙ ap (λ (x : List ℕ). x ++ c.rest) g ∙ append_assoc n (start_code_bits c.byte) c.rest ∙ ap (λ (x : List ℕ). x ++ (start_code_bits c.byte ++ c.rest)) zeros in
          let empty = nil_from_length n (omega (arith, ap zeros_before split ∙ opened-zeros (length n) c.byte c.rest, zeros-new is_last new new_tail)) in
          absurd (last-absurd c.byte c.rest c.is_byte c.is_one (split ∙ ap (λ (x : List ℕ). replicate (length x) 0 ++ (start_code_bits c.byte ++ c.rest)) empty))

      by_parts : ((m : List ℕ) × (replicate (8 * c.zeros) 0 ++ start_code_bits c.byte ≡ f ++ m) × (new ≡ m ++ c.rest))
          ⊎ ((m : List ℕ) × (f ≡ (replicate (8 * c.zeros) 0 ++ start_code_bits c.byte) ++ m) × (c.rest ≡ m ++ new)) → StartCodeComes codes (f ++ old)
      by_parts (inl (m, e, h)) = in_zeros m h (parted (replicate (8 * c.zeros) 0) (start_code_bits c.byte) f m e)
      by_parts (inr (m, e, h)) = record {
        zeros = c.zeros;
        byte = c.byte;
        rest = m ++ old;
        is_byte = c.is_byte;
        is_one = c.is_one;
        stands = ap (λ (x : List ℕ). x ++ old) e ∙ append_assoc (replicate (8 * c.zeros) 0 ++ start_code_bits c.byte) m old;
      }
