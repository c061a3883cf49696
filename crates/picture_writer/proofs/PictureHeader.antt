-- When a whole picture header begins some bytes: by its picture_coding_type and by the bits behind vbv_delay and the old f_codes.
use Rattle.std.proofs.Common.{
  ◌≡◌,
  ℕ,
  zero,
  suc,
  ◌+◌,
  ◌-◌,
  ◌*◌,
  ◌/◌,
  ◌%◌,
  ◌^◌,
  ◌<◌,
  ◌≤◌,
  ◌==◌,
  List,
  [],
  ◌∷◌,
  ◌++◌,
  Option,
  Some,
  None,
  true,
  false,
  length,
  take,
  drop,
  get_or,
  refl,
  sym,
  ap,
  ap₂,
  subst,
  inl,
  inr,
  ◌∙◌,
  add-one,
  drop-cons,
  length-append,
  arith,
}
use Rattle.std.proofs.lemmas.Bool.{and_parts, eqb-true, cases_lt}
use Rattle.std.proofs.lemmas.List.{drop_all, drop_at, take-append-drop, drop-append-le}
use Rattle.std.proofs.lemmas.Nat.{pow_pos}
use Rattle.std.proofs.Math.Seq.{drop-append-add}
use Rattle.bit_lists.specs.Bits.{bits_of, number_of}
use Rattle.bit_lists.specs.Fields.{bit_list, flag}
use Rattle.bit_lists.proofs.BitLemmas.{length-bits_of, bits_of-same, bits_of-mod}
use Rattle.bit_lists.proofs.ByteLemmas.{length-bit_list, bit_list-take}
use Rattle.bit_lists.proofs.JoinedLemmas.{drop-bits_of, bits_of-byte}
use Rattle.bit_lists.proofs.NumberLemmas.{AreBits-bit_list, AreBits, number_of-below, bits_of-number_of, AreBits-take, AreBits-drop}
use Rattle.picture_grammar.specs.Grammar.{SpellsList, Next}
use Rattle.picture_grammar.specs.Grammar.Next.{more, last}
use Rattle.picture_grammar.specs.Refusal.Refusal.{BadHeader}
use Rattle.picture_grammar.specs.Slice.{extra_information}
use Rattle.picture_grammar.specs.StartCode.{zero_bits}
use Rattle.picture_writer.specs.Private.ExtraInformation.{Closes}

-- ---- bits of bytes from a place on

pub bits_behind : (bytes : List ℕ) (place q r k : ℕ) → place ≡ 8 * q + r → r + k ≡ 8 → q < length bytes → drop place (bit_list bytes) ≡ bits_of k (get_or bytes q 0) ++ bit_list (drop (q + 1) bytes)
bits_behind bytes place q r k is eight within =
    let here : drop q bytes ≡ get_or bytes q 0 ∷ drop (q + 1) bytes = drop-cons bytes q 0 within ∙ ap (λ n. get_or bytes q 0 ∷ drop n bytes) (sym (add-one q)) in
    let byte = get_or bytes q 0 in
    let later = bit_list (drop (q + 1) bytes) in
    let count : length (bit_list (take q bytes)) ≡ 8 * q = length-bit_list (take q bytes) ∙ ap (λ n. 8 * n) (length-taken q bytes within) in
    let split : bit_list bytes ≡ bit_list (take q bytes) ++ (bits_of 8 byte ++ later) =
    bit_list-take q bytes ∙ ap (λ ds. bit_list (take q bytes) ++ bit_list ds) here ∙ ap (λ b. bit_list (take q bytes) ++ (b ++ later)) (sym (bits_of-byte byte)) in
    let few : r ≤ length (bits_of 8 byte) = omega (arith, length-bits_of 8 byte) in
    ap (drop place) split ∙ ap (λ n. drop n (bit_list (take q bytes) ++ (bits_of 8 byte ++ later))) (is ∙ ap (λ n. n + r) (sym count))
    ∙ drop-append-add (bit_list (take q bytes)) (bits_of 8 byte ++ later) r ∙ drop-append-le r (bits_of 8 byte) later few
    ∙ ap (λ n. drop r (bits_of n byte) ++ later) (sym eight) ∙ ap (λ b. b ++ later) (drop-bits_of r k byte)
  where
    length-taken : (n : ℕ) (xs : List ℕ) → n < length xs → length (take n xs) ≡ n
    length-taken zero xs within = refl
    length-taken (suc n) [] within = absurd (omega arith)
    length-taken (suc n) (x ∷ xs) within = ap suc (length-taken n xs (omega arith))

pub drop_twice : (m n : ℕ) (xs : List ℕ) → drop n (drop m xs) ≡ drop (m + n) xs
drop_twice zero n xs = let none : 0 + n ≡ n = omega arith in ap (λ k. drop k xs) (sym none)
drop_twice (suc m) n [] = drop_all n [] (omega arith) ∙ sym (drop_all (suc m + n) [] (omega arith))
drop_twice (suc m) n (x ∷ xs) = let next : suc m + n ≡ suc (m + n) = omega arith in drop_twice m n xs ∙ sym (ap (λ k. drop k (x ∷ xs)) next)

-- a number at the front of bits
pub front_number : (n : ℕ) (bits : List ℕ) → AreBits bits → n ≤ length bits → (v : ℕ) × (v < 2 ^ n) × (bits ≡ bits_of n v ++ drop n bits)
front_number n bits are enough =
    let count : length (take n bits) ≡ n = taken n bits enough in
    let v = number_of (take n bits) in
    let below : v < 2 ^ n = subst (λ (k : ℕ). v < 2 ^ k) count (number_of-below (take n bits) (AreBits-take n bits are)) in
    let front : bits_of n v ≡ take n bits = ap (λ k. bits_of k v) (sym count) ∙ bits_of-number_of (take n bits) (AreBits-take n bits are) in
    (v, below, sym (ap (λ b. b ++ drop n bits) front ∙ take-append-drop n bits))
  where
    taken : (n : ℕ) (xs : List ℕ) → n ≤ length xs → length (take n xs) ≡ n
    taken zero xs enough = refl
    taken (suc n) [] enough = absurd (omega arith)
    taken (suc n) (x ∷ xs) enough = ap suc (taken n xs (omega arith))

-- ---- extra information up to its bit 0, and the zero bits behind that

-- what stands before decides nothing
shifted : (before other values : List ℕ) (bits rest : List ℕ) → SpellsList extra_information before values tt bits rest → SpellsList extra_information other values tt bits rest
shifted before other [] bits rest s = s
shifted before other (v ∷ vs) bits rest (mid, s, t) = (mid, s, shifted (before ++ v ∷ []) (other ++ v ∷ []) vs mid rest t)

pub closes_none : Closes [] → ⊥
closes_none c = go c.values c.mid c.information where
  go : (values mid : List ℕ) → SpellsList extra_information [] values tt [] mid → ⊥
  go [] mid (another, m, (code, is, passing, split), t) = let e : [] ≡ flag another ∷ m = split ∙ ap (λ b. b ++ m) is in cc
  go (v ∷ vs) mid (m', (another, m, (code, is, passing, split), t), u) = let e : [] ≡ flag another ∷ m = split ∙ ap (λ b. b ++ m) is in cc

pub closes_zero : (m rest : List ℕ) → m ≡ bits_of (length m % 8) 0 ++ rest → Closes (0 ∷ m)
closes_zero m rest split = record {
  values = [];
  mid = m;
  rest = rest;
  number = 0;
  information = (false, m, (0 ∷ [], refl, refl, refl), (None, m, (refl, refl), (refl, refl)));
  zeros = (bits_of (length m % 8) 0, (pow_pos (length m % 8), refl), refl, split);
}

pub closes_zero-only : (m : List ℕ) → Closes (0 ∷ m) → (rest : List ℕ) × (m ≡ bits_of (length m % 8) 0 ++ rest)
closes_zero-only m c = go c.values c.mid c.information c.zeros where
  zero_at : (mid : List ℕ) → (zero_bits BadHeader).Spells c.number mid c.rest → (rest : List ℕ) × (mid ≡ bits_of (length mid % 8) 0 ++ rest)
  zero_at mid (code, (fits, is), passing, split) =
      let none : c.number ≡ 0 = eqb-true c.number 0 (and_parts (c.number == 0) true passing).0 in
      (c.rest, split ∙ ap (λ b. b ++ c.rest) (is ∙ ap (bits_of (length mid % 8)) none))

  go : (values mid : List ℕ) → SpellsList extra_information [] values tt (0 ∷ m) mid → (zero_bits BadHeader).Spells c.number mid c.rest → (rest : List ℕ) × (m ≡ bits_of (length m % 8) 0 ++ rest)
  go [] mid (false, m1, (code, is, passing, split), (byte, m2, (d, d'), (e, f))) z =
      let same : m ≡ mid = (let first : 0 ∷ m ≡ 0 ∷ m1 = split ∙ ap (λ b. b ++ m1) is in let tail : m ≡ m1 = cc in tail ∙ d' ∙ f) in
      subst (λ (b : List ℕ). (rest : List ℕ) × (b ≡ bits_of (length b % 8) 0 ++ rest)) (sym same) (zero_at mid z)
  go [] mid (true, m1, (code, is, passing, split), t) z = absurd (let first : 0 ∷ m ≡ 1 ∷ m1 = split ∙ ap (λ b. b ++ m1) is in cc)
  go (v ∷ vs) mid (m', (false, m1, s, (byte, m2, (d, d'), (e, f))), u) z = absurd (let g : more v ≡ last tt = e ∙ ap (λ (b : Option ℕ). next_of b) d in cc)
    where
      next_of : Option ℕ → Next ℕ (Unit {0})
      next_of (Some n) = more n
      next_of None = last tt
  go (v ∷ vs) mid (m', (true, m1, (code, is, passing, split), t), u) z = absurd (let first : 0 ∷ m ≡ 1 ∷ m1 = split ∙ ap (λ b. b ++ m1) is in cc)

pub closes_one : (v : ℕ) (m : List ℕ) → v < 2 ^ 8 → Closes m → Closes (1 ∷ (bits_of 8 v ++ m))
closes_one v m lt c = record {
  values = v ∷ c.values;
  mid = c.mid;
  rest = c.rest;
  number = c.number;
  information = (
    m,
    (true, bits_of 8 v ++ m, (1 ∷ [], refl, refl, refl), (Some v, m, (v, m, (bits_of 8 v, (lt, refl), refl, refl), (refl, refl)), (refl, refl))),
    shifted [] (v ∷ []) c.values m c.mid c.information,
  );
  zeros = c.zeros;
}

pub closes_one-only : (m : List ℕ) → Closes (1 ∷ m) → (v : ℕ) × (after : List ℕ) × (m ≡ bits_of 8 v ++ after) × Closes after
closes_one-only m c = go c.values c.information where
  go : (values : List ℕ) → SpellsList extra_information [] values tt (1 ∷ m) c.mid → (v : ℕ) × (after : List ℕ) × (m ≡ bits_of 8 v ++ after) × Closes after
  go [] (false, m1, (code, is, passing, split), t) = absurd (let first : 1 ∷ m ≡ 0 ∷ m1 = split ∙ ap (λ b. b ++ m1) is in cc)
  go [] (true, m1, s, (byte, m2, (n, m3, u, (d, d')), (e, f))) = absurd (let g : last tt ≡ more n = e ∙ ap (λ (b : Option ℕ). next_of b) d in cc)
    where
      next_of : Option ℕ → Next ℕ (Unit {0})
      next_of (Some n) = more n
      next_of None = last tt
  go (v ∷ vs) (m', (false, m1, (code, is, passing, split), t), u) = absurd (let first : 1 ∷ m ≡ 0 ∷ m1 = split ∙ ap (λ b. b ++ m1) is in cc)
  go (v ∷ vs) (m', (true, m1, (code, is, passing, split), (byte, m2, (n, m3, (code', (fits, is'), passing', split'), (d, d')), (e, f))), u) =
      let first : 1 ∷ m ≡ 1 ∷ m1 = split ∙ ap (λ b. b ++ m1) is in
      let tail : m ≡ m1 = cc in
      let same : m3 ≡ m' = d' ∙ f in (
        n,
        m',
        tail ∙ split' ∙ ap₂ (λ (a b : List ℕ). a ++ b) is' same,
        record { values = vs; mid = c.mid; rest = c.rest; number = c.number; information = shifted ([] ++ v ∷ []) [] vs m' c.mid u; zeros = c.zeros },
      )

-- ---- from a bit of a byte on

module _ (bytes : List ℕ) (byte k : ℕ) (within : byte < length bytes) (few : k < 8) where
  abbrev value : ℕ
  value = get_or bytes byte 0

  abbrev place : ℕ
  place = 8 * byte + (7 - k)

  abbrev behind : List ℕ
  behind = bits_of k value ++ bit_list (drop (byte + 1) bytes)

  opened : drop place (bit_list bytes) ≡ value / 2 ^ k % 2 ∷ behind
  unfolding bits_of
  opened = bits_behind bytes place byte (7 - k) (suc k) refl (omega arith) within

  behind_is : behind ≡ drop (place + 1) (bit_list bytes)
  behind_is = ap (drop 1) (sym opened) ∙ drop_twice place 1 (bit_list bytes)

  eight_on : drop 8 behind ≡ drop (place + 9) (bit_list bytes)
  eight_on = ap (drop 8) behind_is ∙ drop_twice (place + 1) 8 (bit_list bytes) ∙ ap (λ n. drop n (bit_list bytes)) (let sum : place + 1 + 8 ≡ place + 9 = omega arith in sum)

  pub one_to : value / 2 ^ k % 2 ≡ 1 → Closes (drop (place + 9) (bit_list bytes)) → Closes (drop place (bit_list bytes))
  one_to is c = elim (cases_lt (length behind) 8) [
    | inl short ↦ absurd (closes_none (subst Closes (sym eight_on ∙ drop_all 8 behind (omega arith)) c))
    | inr enough ↦
        let (v, lt, split) = front_number 8 behind (subst AreBits (sym behind_is) (AreBits-drop (place + 1) (bit_list bytes) (AreBits-bit_list bytes))) enough in
        let closes : Closes (1 ∷ (bits_of 8 v ++ drop 8 behind)) = closes_one v (drop 8 behind) lt (subst Closes (sym eight_on) c) in
        subst Closes (ap (λ (b : List ℕ). 1 ∷ b) (sym split) ∙ ap (λ (n : ℕ). n ∷ behind) (sym is) ∙ sym opened) closes
  ]

  pub one_from : value / 2 ^ k % 2 ≡ 1 → Closes (drop place (bit_list bytes)) → Closes (drop (place + 9) (bit_list bytes))
  one_from is c =
      let (v, after, split, closes) = closes_one-only behind (subst Closes (opened ∙ ap (λ (n : ℕ). n ∷ behind) is) c) in
      subst Closes (sym (drop_at (bits_of 8 v) after 8 (length-bits_of 8 v)) ∙ ap (drop 8) (sym split) ∙ eight_on) closes

  odd_behind : length behind % 8 ≡ k
  odd_behind = omega (arith, length-append (bits_of k value) (bit_list (drop (byte + 1) bytes)), length-bits_of k value, length-bit_list (drop (byte + 1) bytes))

  pub last_closes : value / 2 ^ k % 2 ≡ 0 → value % 2 ^ k ≡ 0 → Closes (drop place (bit_list bytes))
  last_closes is none =
      let zeros : bits_of k value ≡ bits_of (length behind % 8) 0 = sym (bits_of-mod k value) ∙ ap (bits_of k) none ∙ ap (λ n. bits_of n 0) (sym odd_behind) in
      subst Closes (ap (λ (n : ℕ). n ∷ behind) (sym is) ∙ sym opened) (closes_zero behind (bit_list (drop (byte + 1) bytes)) (ap (λ b. b ++ bit_list (drop (byte + 1) bytes)) zeros))

  pub last_stays : value / 2 ^ k % 2 ≡ 0 → Closes (drop place (bit_list bytes)) → value % 2 ^ k ≡ 0
  last_stays is c =
      let (rest, split) = closes_zero-only behind (subst Closes (opened ∙ ap (λ (n : ℕ). n ∷ behind) is) c) in
      let fronts : bits_of k value ≡ bits_of k 0 =
      sym (take-append-length (bits_of k value) (bit_list (drop (byte + 1) bytes)) k (length-bits_of k value)) ∙ ap (take k) (split ∙ ap (λ n. bits_of n 0 ++ rest) odd_behind)
      ∙ take-append-length (bits_of k 0) rest k (length-bits_of k 0) in
      bits_of-same k value 0 fronts ∙ none_left (2 ^ k) (pow_pos k)
    where
      take-append-length : (xs ys : List ℕ) (n : ℕ) → length xs ≡ n → take n (xs ++ ys) ≡ xs
      take-append-length [] ys n e = ap (λ m. take m ys) (sym e)
      take-append-length (x ∷ xs) ys n e = ap (λ m. take m (x ∷ (xs ++ ys))) (sym e) ∙ ap (λ zs. x ∷ zs) (take-append-length xs ys (length xs) refl)

      none_left : (n : ℕ) → 0 < n → 0 % n ≡ 0
      none_left n some = omega arith

pub past_end : (bytes : List ℕ) (place : ℕ) → 8 * length bytes ≤ place → Closes (drop place (bit_list bytes)) → ⊥
past_end bytes place past c = closes_none (subst Closes (drop_all place (bit_list bytes) (omega (arith, length-bit_list bytes))) c)
