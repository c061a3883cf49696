-- Lists of bytes and their bits: lengths, parts, and the bytes of a number.
use Rattle.std.proofs.Common.{◌≡◌, ℕ, zero, suc, ◌*◌, ◌/◌, ◌%◌, ◌^◌, ◌<◌, List, [], ◌∷◌, ◌++◌, length, take, drop, refl, sym, ap, ap₂, ◌∙◌, arith, append-nil}
use Rattle.std.proofs.lemmas.Grind.{flat_map-append}
use Rattle.std.proofs.lemmas.List.{take-append-drop}
use Rattle.std.specs.Int.{w32, to_be_bytes}
use Rattle.bit_lists.specs.Bits.{bits_of}
use Rattle.bit_lists.specs.Fields.{AreBytes, bit_list, bits_of_byte}
use Rattle.bit_lists.proofs.BitLemmas.{bits_of-mod}
use Rattle.bit_lists.proofs.JoinedLemmas.{bits_of-append, bits_of-byte}

-- ---- the bits of bytes

pub bit_list-append : (xs ys : List ℕ) → bit_list (xs ++ ys) ≡ bit_list xs ++ bit_list ys
bit_list-append xs ys = flat_map-append bits_of_byte xs ys

pub length-bit_list : (bytes : List ℕ) → length (bit_list bytes) ≡ 8 * length bytes
length-bit_list [] = refl
length-bit_list (byte ∷ bytes) = omega (arith, length-bit_list bytes)

-- the bits of the first bytes begin those of all
pub bit_list-take : (k : ℕ) (bytes : List ℕ) → bit_list bytes ≡ bit_list (take k bytes) ++ bit_list (drop k bytes)
bit_list-take k bytes = ap bit_list (sym (take-append-drop k bytes)) ∙ bit_list-append (take k bytes) (drop k bytes)

-- ---- parts of bytes

pub AreBytes-take : (k : ℕ) (xs : List ℕ) → AreBytes xs → AreBytes (take k xs)
AreBytes-take zero xs are = tt
AreBytes-take (suc k) [] are = tt
AreBytes-take (suc k) (x ∷ xs) are = (are.0, AreBytes-take k xs are.1)

pub AreBytes-drop : (k : ℕ) (xs : List ℕ) → AreBytes xs → AreBytes (drop k xs)
AreBytes-drop zero xs are = are
AreBytes-drop (suc k) [] are = tt
AreBytes-drop (suc k) (x ∷ xs) are = AreBytes-drop k xs are.1

pub AreBytes-append : (xs ys : List ℕ) → AreBytes xs → AreBytes ys → AreBytes (xs ++ ys)
AreBytes-append [] ys are are' = are'
AreBytes-append (x ∷ xs) ys are are' = (are.0, AreBytes-append xs ys are.1 are')

-- ---- the bytes of a number

pub bits_of_byte-mod : (x : ℕ) → bits_of_byte (x % 256) ≡ bits_of 8 x
bits_of_byte-mod x = sym (bits_of-byte (x % 256)) ∙ bits_of-mod 8 x

-- a word's bytes, the highest first, have its bits
pub bit_list-to_be_bytes : (x : ℕ) → bit_list (to_be_bytes w32 x) ≡ bits_of 32 x
bit_list-to_be_bytes x =
    ap₂ (λ (a b : List ℕ). a ++ b) (bits_of_byte-mod (x / 256 ^ 3)) (
    ap₂ (λ (a b : List ℕ). a ++ b) (bits_of_byte-mod (x / 256 ^ 2)) (
    ap₂ (λ (a b : List ℕ). a ++ b) (bits_of_byte-mod (x / 256 ^ 1)) (append-nil (bits_of_byte (x % 256)) ∙ bits_of_byte-mod x)
    ∙ sym (bits_of-append 8 8 x))
    ∙ sym (bits_of-append 8 16 x))
    ∙ sym (bits_of-append 8 24 x)

pub AreBytes-to_be_bytes : (x : ℕ) → AreBytes (to_be_bytes w32 x)
AreBytes-to_be_bytes x = (below (x / 256 ^ 3), (below (x / 256 ^ 2), (below (x / 256 ^ 1), (below x, tt))))
  where
    below : (y : ℕ) → y % 256 < 2 ^ 8
    below y = omega arith
