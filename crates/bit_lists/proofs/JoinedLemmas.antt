-- Bits of a number as those of its high part, then those of its low part.
use Rattle.std.proofs.Common.{◌≡◌, ℕ, zero, suc, ◌+◌, ◌*◌, ◌/◌, ◌%◌, ◌^◌, ◌<◌, List, ◌∷◌, ◌++◌, drop, replicate, refl, sym, ap, ap₂, ◌∙◌, zero-add, arith}
use Rattle.std.proofs.Math.Nat.{div-div-eq-div-mul}
use Rattle.std.proofs.lemmas.List.{drop_at}
use Rattle.std.proofs.lemmas.Nat.{pow-add, shr_high, mod_low}
use Rattle.bit_lists.specs.Bits.{bits_of}
use Rattle.bit_lists.specs.Fields.{bits_of_byte}
use Rattle.bit_lists.proofs.BitLemmas.{length-bits_of, bits_of-mod}

pub bits_of-append : (k m v : ℕ) → bits_of (k + m) v ≡ bits_of k (v / 2 ^ m) ++ bits_of m v
unfolding bits_of
bits_of-append zero m v = ap (λ n. bits_of n v) (zero-add m)
bits_of-append (suc k) m v =
    let more : suc k + m ≡ suc (k + m) = omega arith in
    let split : v / 2 ^ (k + m) ≡ v / 2 ^ m / 2 ^ k =
    (let swap : k + m ≡ m + k = omega arith in ap (λ n. v / 2 ^ n) swap) ∙ ap (λ n. v / n) (pow-add 2 m k) ∙ sym (div-div-eq-div-mul v (2 ^ m) (2 ^ k)) in
    rw more (ap₂ (λ (b : ℕ) (bs : List ℕ). b ∷ bs) (ap (λ n. n % 2) split) (bits_of-append k m v))

pub drop-bits_of : (k m v : ℕ) → drop k (bits_of (k + m) v) ≡ bits_of m v
drop-bits_of k m v =
    ap (drop k) (bits_of-append k m v) ∙ drop_at (bits_of k (v / 2 ^ m)) (bits_of m v) k (length-bits_of k (v / 2 ^ m))

-- bits put behind those of a number
pub bits_of-put : (m n v w : ℕ) → w < 2 ^ n → bits_of (m + n) (v * 2 ^ n + w) ≡ bits_of m v ++ bits_of n w
bits_of-put m n v w fits =
    bits_of-append m n (v * 2 ^ n + w)
    ∙ ap₂ (λ (a b : List ℕ). a ++ b) (ap (bits_of m) (shr_high v n w fits)) (sym (bits_of-mod n (v * 2 ^ n + w)) ∙ ap (bits_of n) (mod_low v n w fits))

-- zero bits
pub bits_of-zero : (m : ℕ) → bits_of m 0 ≡ replicate m 0
unfolding bits_of
bits_of-zero zero = refl
bits_of-zero (suc m) =
    let none : 0 / 2 ^ m % 2 ≡ 0 = omega arith in
    ap₂ (λ (b : ℕ) (bs : List ℕ). b ∷ bs) none (bits_of-zero m)

-- a byte's bits are the lowest eight of its number
pub bits_of-byte : (byte : ℕ) → bits_of 8 byte ≡ bits_of_byte byte
unfolding bits_of
bits_of-byte byte = refl
