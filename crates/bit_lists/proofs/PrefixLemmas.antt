-- Lists of bits that begin other ones.
use Rattle.std.proofs.Common.{◌≡◌, ℕ, ◌^◌, ◌<◌, ◌≤◌, ◌⊎◌, List, [], ◌∷◌, ◌++◌, length, take, drop, refl, sym, ap, ap₂, ◌∙◌, inl, inr, arith, append_assoc}
use Rattle.std.proofs.lemmas.Bool.{cases_lt}
use Rattle.std.proofs.lemmas.List.{take-append-le, take-append-drop, take-take, take_all, length-take}
use Rattle.std.proofs.Math.Nat.{mod-eq_of_lt}
use Rattle.bit_lists.specs.Bits.{IsPrefix}
use Rattle.bit_lists.specs.Fields.{AreBytes, bit_list, bits_of_byte}
use Rattle.bit_lists.proofs.BitLemmas.{bits_of-same}
use Rattle.bit_lists.proofs.JoinedLemmas.{bits_of-byte}

-- what is put in front is at the front
pub IsPrefix-append : (front rest : List ℕ) → IsPrefix front (front ++ rest)
IsPrefix-append front rest = take-append-le (length front) front rest (omega arith) ∙ take_all (length front) front (omega arith)

-- what is behind the front
pub IsPrefix-split : (front bits : List ℕ) → IsPrefix front bits → bits ≡ front ++ drop (length front) bits
IsPrefix-split front bits begins = sym (take-append-drop (length front) bits) ∙ ap (λ f. f ++ drop (length front) bits) begins

-- of two lists that begin a third one, the shorter one begins the longer one
pub IsPrefix-shorter : (c d bits : List ℕ) → length c ≤ length d → IsPrefix c bits → IsPrefix d bits → IsPrefix c d
IsPrefix-shorter c d bits le p q = ap (take (length c)) (sym q) ∙ take-take (length c) (length d) bits le ∙ p

-- ... so one of them begins the other
pub IsPrefix-either : (c d bits : List ℕ) → IsPrefix c bits → IsPrefix d bits → IsPrefix c d ⊎ IsPrefix d c
IsPrefix-either c d bits p q = elim (cases_lt (length d) (length c)) [
  | inl lt ↦ inr (IsPrefix-shorter d c bits (omega arith) q p)
  | inr le ↦ inl (IsPrefix-shorter c d bits le p q)
]

pub IsPrefix-self : (bits : List ℕ) → IsPrefix bits bits
IsPrefix-self bits = take_all (length bits) bits (omega arith)

-- what begins a front begins the whole
pub IsPrefix-through : (c d bits : List ℕ) → IsPrefix c d → IsPrefix d bits → IsPrefix c bits
IsPrefix-through c d bits p q =
    let le : length c ≤ length d = omega (arith, ap length p, length-take (length c) d) in
    sym (ap (take (length c)) (sym q) ∙ take-take (length c) (length d) bits le) ∙ p

-- of one length, the front is the whole
pub IsPrefix-whole : (c d : List ℕ) → length c ≡ length d → IsPrefix c d → c ≡ d
IsPrefix-whole c d same begins = sym begins ∙ take_all (length c) d (omega arith)

-- what begins goes on to begin behind a common front
pub IsPrefix-behind : (front c d : List ℕ) → IsPrefix c d → IsPrefix (front ++ c) (front ++ d)
IsPrefix-behind front c d begins =
    let split : front ++ d ≡ (front ++ c) ++ drop (length c) d =
    ap (λ rest. front ++ rest) (IsPrefix-split c d begins) ∙ sym (append_assoc front c (drop (length c) d)) in
    rw split (IsPrefix-append (front ++ c) (drop (length c) d))

-- ... and the other way round
pub IsPrefix-without : (front c d : List ℕ) → IsPrefix (front ++ c) (front ++ d) → IsPrefix c d
IsPrefix-without [] c d begins = begins
IsPrefix-without (x ∷ front) c d begins =
    let rest : IsPrefix (front ++ c) (front ++ d) = cc in
    IsPrefix-without front c d rest

-- where two lists begin with as many bits, these are the same
pub same_front : (a b x y : List ℕ) → length a ≡ length b → a ++ x ≡ b ++ y → a ≡ b
same_front a b x y lengths e =
    sym (IsPrefix-append a x) ∙ ap₂ (λ (n : ℕ) (bits : List ℕ). take n bits) lengths e ∙ IsPrefix-append b y

-- ---- bytes

pub bits_of_byte-same : (x y : ℕ) → x < 2 ^ 8 → y < 2 ^ 8 → bits_of_byte x ≡ bits_of_byte y → x ≡ y
bits_of_byte-same x y lt lt' same =
    sym (mod-eq_of_lt lt) ∙ bits_of-same 8 x y (bits_of-byte x ∙ same ∙ sym (bits_of-byte y)) ∙ mod-eq_of_lt lt'

-- bytes with the same bits are the same bytes
pub bit_list-same : (xs ys : List ℕ) → AreBytes xs → AreBytes ys → bit_list xs ≡ bit_list ys → xs ≡ ys
bit_list-same [] [] are are' same = refl
bit_list-same [] (y ∷ ys) are are' same = cc
bit_list-same (x ∷ xs) [] are are' same = cc
bit_list-same (x ∷ xs) (y ∷ ys) are are' same =
    let first : bits_of_byte x ≡ bits_of_byte y = ap (take 8) same in
    ap₂ (λ (b : ℕ) (bs : List ℕ). b ∷ bs) (bits_of_byte-same x y are.0 are'.0 first) (bit_list-same xs ys are.1 are'.1 (ap (drop 8) same))
