-- A whole picture header by its bytes: its picture_coding_type, and what stands behind the old f_codes.
use Rattle.std.proofs.Common.{
  ◌≡◌,
  ℕ,
  zero,
  suc,
  ◌+◌,
  ◌-◌,
  ◌*◌,
  ◌/◌,
  ◌%◌,
  ◌^◌,
  ◌<◌,
  ◌≤◌,
  ◌==◌,
  ◌&&◌,
  ◌||◌,
  List,
  [],
  ◌∷◌,
  ◌++◌,
  Option,
  Some,
  None,
  Bool,
  true,
  false,
  length,
  take,
  drop,
  get_or,
  nat_le,
  if◌then◌else◌,
  refl,
  sym,
  ap,
  ap₂,
  subst,
  inl,
  inr,
  ◌∙◌,
  length-append,
  length-drop,
  arith,
}
use Rattle.std.proofs.lemmas.Bool.{and_parts, leb-true, cases_lt}
use Rattle.std.proofs.lemmas.List.{drop_all, drop_at, take-append-drop, take-append-le}
use Rattle.bit_lists.specs.Bits.{bits_of}
use Rattle.bit_lists.specs.Fields.{bit_list, flag}
use Rattle.bit_lists.proofs.BitLemmas.{length-bits_of, take-bits_of, bits_of-one, bits_of-mod}
use Rattle.bit_lists.proofs.ByteLemmas.{length-bit_list}
use Rattle.bit_lists.proofs.NumberLemmas.{AreBits-bit_list, AreBits, AreBits-drop}
use Rattle.syntax_types.specs.declared.picture.TheConstants.{I_PICTURE, P_PICTURE, B_PICTURE}
use Rattle.picture_grammar.specs.Refusal.Refusal.{BadHeader}
use Rattle.picture_grammar.specs.Grammar.{optional}
use Rattle.picture_grammar.specs.Headers.{is_from_to, old_f_code}
use Rattle.picture_grammar.specs.StartCode.{zero_bits}
use Rattle.picture_writer.specs.VbvDelay.{BeginsWithHeader}
use Rattle.picture_writer.specs.Private.ExtraInformation.{Closes}
use Rattle.picture_writer.proofs.PictureHeader.{bits_behind, drop_twice, front_number, closes_none}

-- picture_coding_type in the second byte
abbrev pub kind_of : List ℕ → ℕ
kind_of bytes = get_or bytes 1 0 / 8 % 8

kind_bits : (bytes : List ℕ) → 1 < length bytes → take 3 (drop 10 (bit_list bytes)) ≡ bits_of 3 (kind_of bytes)
kind_bits bytes within =
    let byte = get_or bytes 1 0 in
    let later = bit_list (drop 2 bytes) in
    let few : 3 ≤ length (bits_of 6 byte) = omega (arith, length-bits_of 6 byte) in
    ap (take 3) (bits_behind bytes 10 1 2 6 refl refl within) ∙ take-append-le 3 (bits_of 6 byte) later few ∙ take-bits_of 3 3 byte ∙ sym (bits_of-mod 3 (byte / 8))

-- ---- the old f_codes

abbrev old_bits : Bool → ℕ
old_bits stands = if stands then 4 else 0

optional_front : (stands : Bool) (found : Option ℕ) (bits rest : List ℕ) → (optional stands old_f_code).Spells found bits rest → drop (old_bits stands) bits ≡ rest
optional_front true found bits rest (v, m, (is_set, m1, (c1, is1, p1, split1), (c2, (fits, is2), p2, split2)), (e, f)) =
    let one : length c1 ≡ 1 = ap length is1 in
    let three : length c2 ≡ 3 = ap length is2 ∙ length-bits_of 3 v in
    sym (drop_twice 1 3 bits) ∙ ap (drop 3) (ap (drop 1) split1 ∙ drop_at c1 m1 1 one) ∙ ap (drop 3) split2 ∙ drop_at c2 m 3 three ∙ f
optional_front false found bits rest (e, f) = f

one_flag_bits : (b : ℕ) → b < 2 ^ 1 → (is_set : Bool) × (bits_of 1 b ≡ flag is_set ∷ [])
unfolding bits_of
one_flag_bits zero lt = (false, refl)
one_flag_bits (suc zero) lt = (true, refl)
one_flag_bits (suc (suc n)) lt = absurd (omega arith)

optional_made : (stands : Bool) (bits : List ℕ) → AreBits bits → old_bits stands ≤ length bits → (found : Option ℕ) × (optional stands old_f_code).Spells found bits (drop (old_bits stands) bits)
optional_made true bits are enough =
    let (b, lt, split) = front_number 1 bits are (omega arith) in
    let (is_set, is) = one_flag_bits b lt in
    let (w, less, split3) = front_number 3 (drop 1 bits) (AreBits-drop 1 bits are) (omega (arith, length-drop 1 bits)) in
    let behind : drop 1 bits ≡ bits_of 3 w ++ drop 4 bits = split3 ∙ ap (λ b. bits_of 3 w ++ b) (drop_twice 1 3 bits) in
    (Some w, (w, drop 4 bits, (is_set, drop 1 bits, (flag is_set ∷ [], refl, refl, split ∙ ap (λ b. b ++ drop 1 bits) is), (bits_of 3 w, (less, refl), refl, behind)), (refl, refl)))
optional_made false bits are enough = (None, (refl, refl))

-- ---- by picture_coding_type

abbrev IsKind : ℕ → Type 0
IsKind kind = (1 ≤ kind) × (kind ≤ 3)

-- the bits of both old f_codes
old_lengths : (kind : ℕ) → IsKind kind → old_bits (kind == P_PICTURE || kind == B_PICTURE) + old_bits (kind == B_PICTURE) ≡ 4 * kind - 4
old_lengths zero is = absurd (omega arith)
old_lengths (suc zero) is = refl
old_lengths (suc (suc zero)) is = refl
old_lengths (suc (suc (suc zero))) is = refl
old_lengths (suc (suc (suc (suc n)))) is = absurd (omega (arith, is.1))

pub record HasFront (bytes : List ℕ) : Type 0 where
  pub enough : 4 ≤ length bytes
  pub kind : (1 ≤ kind_of bytes) × (kind_of bytes ≤ 3)
  pub closes : Closes (drop (25 + 4 * kind_of bytes) (bit_list bytes))

pub header_front : (bytes : List ℕ) → BeginsWithHeader bytes → HasFront bytes
header_front bytes (
  header,
  rest,
  (
    h,
    m0,
    (
      t,
      m1,
      (c1, (fits1, is1), p1, split1),
      (kind, m2, (c2, (fits2, is2), p2, split2), (v, m3, (c3, (fits3, is3), p3, split3), (o1, m4, s4, (o2, m5, s5, (found, m6, s6, (e, f)))))),
    ),
    (z, m7, zeros, (e', f')),
  ),
) =
    let bits = bit_list bytes in
    let ten : length c1 ≡ 10 = ap length is1 ∙ length-bits_of 10 t in
    let three : length c2 ≡ 3 = ap length is2 ∙ length-bits_of 3 kind in
    let sixteen : length c3 ≡ 16 = ap length is3 ∙ length-bits_of 16 v in
    let at_10 : drop 10 bits ≡ m1 = ap (drop 10) split1 ∙ drop_at c1 m1 10 ten in
    let at_13 : drop 13 bits ≡ m2 = sym (drop_twice 10 3 bits) ∙ ap (drop 3) (at_10 ∙ split2) ∙ drop_at c2 m2 3 three in
    let at_29 : drop 29 bits ≡ m3 = sym (drop_twice 13 16 bits) ∙ ap (drop 16) (at_13 ∙ split3) ∙ drop_at c3 m3 16 sixteen in
    let total : 8 * length bytes ≡ 29 + length m3 =
    (let a = ap length split1 in let b = ap length split2 in let d = ap length split3 in omega
    (arith, sym (length-bit_list bytes), a, b, d, length-append c1 m1, length-append c2 m2, length-append c3 m3, ten, three, sixteen)) in
    let enough : 4 ≤ length bytes = omega (arith, total) in
    let parts = and_parts (nat_le 1 kind) (nat_le kind 3) (and_parts (is_from_to I_PICTURE B_PICTURE kind) true p2).0 in
    let is_kind : IsKind kind = (leb-true 1 kind parts.0, leb-true kind 3 parts.1) in
    let kinds : bits_of 3 kind ≡ bits_of 3 (kind_of bytes) =
    sym is2 ∙ sym (ap (take 3) split2 ∙ take-append-le 3 c2 m2 (omega (arith, three)) ∙ whole c2 three) ∙ ap (take 3) (sym at_10) ∙ kind_bits bytes (omega (arith, enough)) in
    let same : kind ≡ kind_of bytes = bits_of-one 3 kind (kind_of bytes) fits2 (omega arith) kinds in
    let one = optional_front (kind == P_PICTURE || kind == B_PICTURE) o1 m3 m4 s4 in
    let two = optional_front (kind == B_PICTURE) o2 m4 m5 s5 in
    let l1 = old_bits (kind == P_PICTURE || kind == B_PICTURE) in
    let l2 = old_bits (kind == B_PICTURE) in
    let place : 29 + (l1 + l2) ≡ 25 + 4 * kind_of bytes = (let lengths = old_lengths kind is_kind in omega (arith, lengths, is_kind.0, same)) in
    let behind : drop (25 + 4 * kind_of bytes) bits ≡ m5 =
    ap (λ n. drop n bits) (sym place) ∙ sym (drop_twice 29 (l1 + l2) bits) ∙ sym (drop_twice l1 l2 (drop 29 bits)) ∙ ap (λ b. drop l2 (drop l1 b)) at_29 ∙ ap (drop l2) one ∙ two in
    let closes : Closes m5 = record { values = found.0; mid = m6; rest = m7; number = z; information = s6; zeros = subst (λ (b : List ℕ). (zero_bits BadHeader).Spells z b m7) (sym f) zeros } in
    record { enough = enough; kind = subst IsKind same is_kind; closes = subst Closes (sym behind) closes }
  where
    whole : (xs : List ℕ) → length xs ≡ 3 → take 3 xs ≡ xs
    whole [] e = refl
    whole (a ∷ []) e = absurd (omega arith)
    whole (a ∷ b ∷ []) e = absurd (omega arith)
    whole (a ∷ b ∷ c ∷ []) e = refl
    whole (a ∷ b ∷ c ∷ d ∷ ds) e = absurd (omega arith)

kind_passes : (kind : ℕ) → IsKind kind → (is_from_to I_PICTURE B_PICTURE kind && true) ≡ true
kind_passes zero is = absurd (omega arith)
kind_passes (suc zero) is = refl
kind_passes (suc (suc zero)) is = refl
kind_passes (suc (suc (suc zero))) is = refl
kind_passes (suc (suc (suc (suc n)))) is = absurd (omega (arith, is.1))

pub front_header : (bytes : List ℕ) → HasFront bytes → BeginsWithHeader bytes
front_header bytes has =
    let bits = bit_list bytes in
    let are : AreBits bits = AreBits-bit_list bytes in
    let kind = kind_of bytes in
    let enough = has.enough in
    let count = length-bit_list bytes in
    let longer : 25 + 4 * kind < length bits = some_left (25 + 4 * kind) has.closes in
    let (t, lt_t, split_t) = front_number 10 bits are (omega (arith, count, enough)) in
    let split_k : drop 10 bits ≡ bits_of 3 kind ++ drop 13 bits = sym (take-append-drop 3 (drop 10 bits)) ∙ ap₂ (λ (a b : List ℕ). a ++ b) (kind_bits bytes (omega (arith, enough)))
    (drop_twice 10 3 bits) in
    let (v, lt_v, split) = front_number 16 (drop 13 bits) (AreBits-drop 13 bits are) (omega (arith, length-drop 13 bits, count, enough)) in
    let split_v : drop 13 bits ≡ bits_of 16 v ++ drop 29 bits = split ∙ ap (λ b. bits_of 16 v ++ b) (drop_twice 13 16 bits) in
    let l1 = old_bits (kind == P_PICTURE || kind == B_PICTURE) in
    let l2 = old_bits (kind == B_PICTURE) in
    let lengths = old_lengths kind has.kind in
    let (o1, s1) = optional_made (kind == P_PICTURE || kind == B_PICTURE) (drop 29 bits) (AreBits-drop 29 bits are) (omega (arith, length-drop 29 bits, longer, lengths, has.kind.0)) in
    let (o2, s2) = optional_made (kind == B_PICTURE) (drop l1 (drop 29 bits)) (AreBits-drop l1 (drop 29 bits) (AreBits-drop 29 bits are))
    (omega (arith, length-drop l1 (drop 29 bits), length-drop 29 bits, longer, lengths, has.kind.0)) in
    let place : 29 + (l1 + l2) ≡ 25 + 4 * kind = (let least = has.kind.0 in omega (arith, lengths, least)) in
    let behind : drop (25 + 4 * kind) bits ≡ drop l2 (drop l1 (drop 29 bits)) = ap (λ n. drop n bits) (sym place) ∙ sym (drop_twice 29 (l1 + l2) bits) ∙ sym (drop_twice l1 l2 (drop 29 bits)) in
    let closes : Closes (drop l2 (drop l1 (drop 29 bits))) = subst Closes behind has.closes in (
      (kind, v),
      closes.rest,
      (
        (kind, v),
        closes.mid,
        (
          t,
          drop 10 bits,
          (bits_of 10 t, (lt_t, refl), refl, split_t),
          (
            kind,
            drop 13 bits,
            (bits_of 3 kind, ((omega arith), refl), kind_passes kind has.kind, split_k),
            (
              v,
              drop 29 bits,
              (bits_of 16 v, (lt_v, refl), refl, split_v),
              (o1, drop l1 (drop 29 bits), s1, (o2, drop l2 (drop l1 (drop 29 bits)), s2, ((closes.values, tt), closes.mid, closes.information, (refl, refl)))),
            ),
          ),
        ),
        (closes.number, closes.rest, closes.zeros, (refl, refl)),
      ),
    )
  where
    some_left : (n : ℕ) → Closes (drop n (bit_list bytes)) → n < length (bit_list bytes)
    some_left n closes = elim (cases_lt n (length (bit_list bytes))) [
      | inl less ↦ less
      | inr past ↦ absurd (closes_none (subst Closes (drop_all n (bit_list bytes) past) closes))
    ]
