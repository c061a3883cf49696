-- The bits of a head with ones in place of vbv_delay.
use Rattle.std.proofs.Common.{
  ◌≡◌,
  ◌+◌,
  ◌*◌,
  ◌/◌,
  ◌%◌,
  ◌<◌,
  ◌≤◌,
  ℕ,
  zero,
  suc,
  nat_eq,
  bit_or,
  List,
  [],
  ◌∷◌,
  ◌++◌,
  length,
  get_or,
  Bool,
  true,
  refl,
  sym,
  ap,
  subst,
  ◌∙◌,
  inl,
  inr,
  arith,
  append_assoc,
}
use Rattle.std.specs.Prelude.{slice_set}
use Rattle.std.specs.Int.{bit_at}
use Rattle.std.specs.List.{list_all, range_with_len}
use Rattle.std.proofs.lemmas.Bool.{and_parts, cases_eq, eqb-true}
use Rattle.std.proofs.lemmas.List.{length-append, length-set}
use Rattle.bit_lists.specs.Bits.{bits_of}
use Rattle.bit_lists.specs.Fields.{AreBytes, bits_of_byte, bit_list}
use Rattle.bit_lists.proofs.ByteLemmas.{bit_list-append, length-bit_list, AreBytes-append}
use Rattle.picture_grammar.specs.declared.limits.TheConstants.{VBV_DELAY_BITS}
use Rattle.picture_heads.specs.declared.TheConstants.{NO_DELAY}
use Rattle.picture_heads.specs.Private.Walk.{with_ones}

abbrev set_three : List ℕ → ℕ → ℕ → ℕ → List ℕ
set_three bytes i j k = slice_set (slice_set (slice_set bytes i (bit_or (get_or bytes i 0) 0b00000111)) j 255) k (bit_or (get_or bytes k 0) 0b11111000)

-- the four bytes from a place on
pub record HasFour (head : List ℕ) (at : ℕ) : Type 0 where
  pub front : List ℕ
  pub a : ℕ
  pub b : ℕ
  pub c : ℕ
  pub d : ℕ
  pub back : List ℕ
  pub count : length front ≡ at
  pub parts : head ≡ front ++ a ∷ b ∷ c ∷ d ∷ back
  pub set : with_ones head at ≡ front ++ a ∷ bit_or b 0b00000111 ∷ 255 ∷ bit_or d 0b11111000 ∷ back

four_at : (head : List ℕ) (at : ℕ) → at + 3 < length head → HasFour head at
four_at [] at lt = absurd (omega (arith, lt))
four_at (a ∷ []) zero lt = absurd (omega (arith, lt))
four_at (a ∷ b ∷ []) zero lt = absurd (omega (arith, lt))
four_at (a ∷ b ∷ c ∷ []) zero lt = absurd (omega (arith, lt))
four_at (a ∷ b ∷ c ∷ d ∷ back) zero lt = record { front = []; a = a; b = b; c = c; d = d; back = back; count = refl; parts = refl; set = refl }
four_at (y ∷ ys) (suc at) lt =
    let four : HasFour ys at = four_at ys at (omega (arith, lt)) in
    let i : suc at + 1 ≡ suc (at + 1) = omega arith in
    let j : suc at + 2 ≡ suc (at + 2) = omega arith in
    let k : suc at + 3 ≡ suc (at + 3) = omega arith in
    let same : with_ones (y ∷ ys) (suc at) ≡ y ∷ with_ones ys at =
    ap (λ (n : ℕ). set_three (y ∷ ys) n (suc at + 2) (suc at + 3)) i ∙ ap (λ (n : ℕ). set_three (y ∷ ys) (suc (at + 1)) n (suc at + 3)) j
    ∙ ap (λ (n : ℕ). set_three (y ∷ ys) (suc (at + 1)) (suc (at + 2)) n) k in
    record {
      front = y ∷ four.front;
      a = four.a;
      b = four.b;
      c = four.c;
      d = four.d;
      back = four.back;
      count = omega (arith, four.count);
      parts = ap (λ (xs : List ℕ). y ∷ xs) four.parts;
      set = same ∙ ap (λ (xs : List ℕ). y ∷ xs) four.set;
    }

pub ones-length : (head : List ℕ) (at : ℕ) → length (with_ones head at) ≡ length head
ones-length head at = length-set _ _ _ ∙ length-set _ _ _ ∙ length-set _ _ _

-- ---- the bits of one byte

low_ones : list_all (λ x. nat_eq (bit_or x 0b00000111) (x / 8 * 8 + 7)) (range_with_len 0 256) ≡ true
low_ones = refl

high_ones : list_all (λ x. nat_eq (bit_or x 0b11111000) (248 + x % 8)) (range_with_len 0 256) ≡ true
high_ones = refl

pub all_at : (p : ℕ → Bool) (n from x : ℕ) → from ≤ x → x < from + n → list_all p (range_with_len from n) ≡ true → p x ≡ true
all_at p zero from x le lt all = absurd (omega (arith, le, lt))
all_at p (suc n) from x le lt all =
    let parts = and_parts (p from) (list_all p (range_with_len (from + 1) n)) all in
    elim (cases_eq from x) [
      | inl same ↦ subst (λ (k : ℕ). p k ≡ true) same parts.0
      | inr other ↦ all_at p n (from + 1) x (omega (arith, le, other)) (omega (arith, lt)) parts.1
    ]

low : (x : ℕ) → x < 256 → bit_or x 0b00000111 ≡ x / 8 * 8 + 7
low x lt = eqb-true (bit_or x 0b00000111) (x / 8 * 8 + 7) (all_at (λ x. nat_eq (bit_or x 0b00000111) (x / 8 * 8 + 7)) 256 0 x (omega arith) (omega (arith, lt)) low_ones)

high : (x : ℕ) → x < 256 → bit_or x 0b11111000 ≡ 248 + x % 8
high x lt = eqb-true (bit_or x 0b11111000) (248 + x % 8) (all_at (λ x. nat_eq (bit_or x 0b11111000) (248 + x % 8)) 256 0 x (omega arith) (omega (arith, lt)) high_ones)

eight : (a b c d e f g h a' b' c' d' e' f' g' h' : ℕ) → a ≡ a' → b ≡ b' → c ≡ c' → d ≡ d' → e ≡ e' → f ≡ f' → g ≡ g' → h ≡ h'
    → a ∷ b ∷ c ∷ d ∷ e ∷ f ∷ g ∷ h ∷ [] ≡ a' ∷ b' ∷ c' ∷ d' ∷ e' ∷ f' ∷ g' ∷ h' ∷ []
eight a b c d e f g h a' b' c' d' e' f' g' h' p q r s t u v w = rw (p, q, r, s, t, u, v, w) refl

-- the first five bits and three ones
low_bits : (x : ℕ) → x < 256 → bits_of_byte (bit_or x 0b00000111) ≡ bit_at x 7 ∷ bit_at x 6 ∷ bit_at x 5 ∷ bit_at x 4 ∷ bit_at x 3 ∷ 1 ∷ 1 ∷ 1 ∷ []
low_bits x lt =
    let e : bit_or x 0b00000111 ≡ x / 8 * 8 + 7 = low x lt in
    let b7 : (x / 8 * 8 + 7) / 128 % 2 ≡ x / 128 % 2 = omega arith in
    let b6 : (x / 8 * 8 + 7) / 64 % 2 ≡ x / 64 % 2 = omega arith in
    let b5 : (x / 8 * 8 + 7) / 32 % 2 ≡ x / 32 % 2 = omega arith in
    let b4 : (x / 8 * 8 + 7) / 16 % 2 ≡ x / 16 % 2 = omega arith in
    let b3 : (x / 8 * 8 + 7) / 8 % 2 ≡ x / 8 % 2 = omega arith in
    let b2 : (x / 8 * 8 + 7) / 4 % 2 ≡ 1 = omega arith in
    let b1 : (x / 8 * 8 + 7) / 2 % 2 ≡ 1 = omega arith in
    let b0 : (x / 8 * 8 + 7) / 1 % 2 ≡ 1 = omega arith in
    ap bits_of_byte e ∙ eight _ _ _ _ _ _ _ _ _ _ _ _ _ _ _ _ b7 b6 b5 b4 b3 b2 b1 b0

-- five ones and the last three bits
high_bits : (x : ℕ) → x < 256 → bits_of_byte (bit_or x 0b11111000) ≡ 1 ∷ 1 ∷ 1 ∷ 1 ∷ 1 ∷ bit_at x 2 ∷ bit_at x 1 ∷ bit_at x 0 ∷ []
high_bits x lt =
    let e : bit_or x 0b11111000 ≡ 248 + x % 8 = high x lt in
    let b7 : (248 + x % 8) / 128 % 2 ≡ 1 = omega arith in
    let b6 : (248 + x % 8) / 64 % 2 ≡ 1 = omega arith in
    let b5 : (248 + x % 8) / 32 % 2 ≡ 1 = omega arith in
    let b4 : (248 + x % 8) / 16 % 2 ≡ 1 = omega arith in
    let b3 : (248 + x % 8) / 8 % 2 ≡ 1 = omega arith in
    let b2 : (248 + x % 8) / 4 % 2 ≡ x / 4 % 2 = omega arith in
    let b1 : (248 + x % 8) / 2 % 2 ≡ x / 2 % 2 = omega arith in
    let b0 : (248 + x % 8) / 1 % 2 ≡ x / 1 % 2 = omega arith in
    ap bits_of_byte e ∙ eight _ _ _ _ _ _ _ _ _ _ _ _ _ _ _ _ b7 b6 b5 b4 b3 b2 b1 b0

sixteen_ones : bits_of VBV_DELAY_BITS NO_DELAY ≡ 1 ∷ 1 ∷ 1 ∷ 1 ∷ 1 ∷ 1 ∷ 1 ∷ 1 ∷ 1 ∷ 1 ∷ 1 ∷ 1 ∷ 1 ∷ 1 ∷ 1 ∷ 1 ∷ []
unfolding bits_of
sixteen_ones = refl

-- the head in three parts, the middle one being the 16 bits behind 13 bits from a byte on, and with ones in their place
pub record IsSet (head : List ℕ) (at : ℕ) : Type 0 where
  pub front : List ℕ
  pub delay : List ℕ
  pub back : List ℕ
  pub parts : bit_list head ≡ front ++ delay ++ back
  pub place : length front ≡ 8 * at + 13
  pub delay_bits : length delay ≡ VBV_DELAY_BITS
  pub bytes : AreBytes (with_ones head at)
  pub set : bit_list (with_ones head at) ≡ front ++ bits_of VBV_DELAY_BITS NO_DELAY ++ back

AreBytes-back : (xs ys : List ℕ) → AreBytes (xs ++ ys) → AreBytes xs × AreBytes ys
AreBytes-back [] ys are = (tt, are)
AreBytes-back (x ∷ xs) ys are = let (a, b) = AreBytes-back xs ys are.1 in ((are.0, a), b)

pub set_at : (head : List ℕ) (at : ℕ) → at + 3 < length head → AreBytes head → IsSet head at
set_at head at lt are = let four : HasFour head at = four_at head at lt in by_four four where
  by_four : HasFour head at → IsSet head at
  by_four four =
      let a : ℕ = four.a in
      let b : ℕ = four.b in
      let c : ℕ = four.c in
      let d : ℕ = four.d in
      let bytes = AreBytes-back four.front (a ∷ b ∷ c ∷ d ∷ four.back) (subst AreBytes four.parts are) in
      let low_b = low b bytes.1.1.0 in
      let high_d = high d bytes.1.1.1.1.0 in
      let front = bit_list four.front ++ (bits_of_byte a ++ bit_at b 7 ∷ bit_at b 6 ∷ bit_at b 5 ∷ bit_at b 4 ∷ bit_at b 3 ∷ []) in
      let delay = bit_at b 2 ∷ bit_at b 1 ∷ bit_at b 0 ∷ (bits_of_byte c ++ bit_at d 7 ∷ bit_at d 6 ∷ bit_at d 5 ∷ bit_at d 4 ∷ bit_at d 3 ∷ []) in
      let back = bit_at d 2 ∷ bit_at d 1 ∷ bit_at d 0 ∷ bit_list four.back in
      let new = bits_of_byte a ++ (bits_of_byte (bit_or b 0b00000111) ++ (bits_of_byte 255 ++ (bits_of_byte (bit_or d 0b11111000) ++ bit_list four.back))) in
      record {
        front = front;
        delay = delay;
        back = back;
        parts = ap bit_list four.parts ∙ bit_list-append four.front (a ∷ b ∷ c ∷ d ∷ four.back)
            ∙ sym (append_assoc (bit_list four.front) (bits_of_byte a ++ bit_at b 7 ∷ bit_at b 6 ∷ bit_at b 5 ∷ bit_at b 4 ∷ bit_at b 3 ∷ []) (delay ++ back)) ∙ sym (append_assoc front delay back);
        place = length-append (bit_list four.front) (bits_of_byte a ++ bit_at b 7 ∷ bit_at b 6 ∷ bit_at b 5 ∷ bit_at b 4 ∷ bit_at b 3 ∷ []) ∙ omega (arith, length-bit_list four.front, four.count);
        delay_bits = refl;
        bytes = subst AreBytes (sym four.set) (AreBytes-append four.front (a ∷ bit_or b 0b00000111 ∷ 255 ∷ bit_or d 0b11111000 ∷ four.back)
            bytes.0 (bytes.1.0, (omega (arith, low_b, bytes.1.1.0), (omega arith, (omega (arith, high_d), bytes.1.1.1.1.1)))));
        set = ap bit_list four.set ∙ bit_list-append four.front (a ∷ bit_or b 0b00000111 ∷ 255 ∷ bit_or d 0b11111000 ∷ four.back)
            ∙ ap (λ (x : List ℕ). bit_list four.front ++ (bits_of_byte a ++ (x ++ (bits_of_byte 255 ++ (bits_of_byte (bit_or d 0b11111000) ++ bit_list four.back))))) (low_bits b bytes.1.1.0)
            ∙ ap (λ (x : List ℕ). bit_list four.front ++ (bits_of_byte a ++ ((bit_at b 7 ∷ bit_at b 6 ∷ bit_at b 5 ∷ bit_at b 4 ∷ bit_at b 3 ∷ 1 ∷ 1 ∷ 1 ∷ []) ++
            (bits_of_byte 255 ++ (x ++ bit_list four.back))))) (high_bits d bytes.1.1.1.1.0)
            ∙ sym (append_assoc (bit_list four.front) (bits_of_byte a ++ bit_at b 7 ∷ bit_at b 6 ∷ bit_at b 5 ∷ bit_at b 4 ∷ bit_at b 3 ∷ [])
            ((1 ∷ 1 ∷ 1 ∷ 1 ∷ 1 ∷ 1 ∷ 1 ∷ 1 ∷ 1 ∷ 1 ∷ 1 ∷ 1 ∷ 1 ∷ 1 ∷ 1 ∷ 1 ∷ []) ++ back))
            ∙ ap (λ (x : List ℕ). front ++ (x ++ back)) (sym sixteen_ones) ∙ sym (append_assoc front (bits_of VBV_DELAY_BITS NO_DELAY) back);
      }
