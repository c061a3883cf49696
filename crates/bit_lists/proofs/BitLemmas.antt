-- Lists of bits: the front of a window, and when a code begins it.
use Rattle.std.proofs.Common.{◌≡◌, ℕ, zero, suc, ◌+◌, ◌-◌, ◌*◌, ◌/◌, ◌%◌, ◌^◌, ◌<◌, ◌≤◌, ◌↔◌, List, ◌∷◌, length, take, refl, sym, ap, ap₂, subst, ◌∙◌, arith}
use Rattle.std.proofs.Math.Nat.{div-div-eq-div-mul, mod-mod, mod-lt, mod-eq_of_lt}
use Rattle.std.proofs.Math.Pow.{mod-mod-pow}
use Rattle.std.proofs.lemmas.List.{length-take, take-take}
use Rattle.std.proofs.lemmas.Nat.{mod-pow-add, pow-add, pow_pos, shr_high}
use Rattle.bit_lists.specs.Bits.{bits_of, number_of, front_of, IsPrefix}

pub length-bits_of : (n v : ℕ) → length (bits_of n v) ≡ n
unfolding bits_of
length-bits_of zero v = refl
length-bits_of (suc n) v = ap suc (length-bits_of n v)

-- the first bits of a number are those of its high part
pub take-bits_of : (k m v : ℕ) → take k (bits_of (k + m) v) ≡ bits_of k (v / 2 ^ m)
unfolding bits_of
take-bits_of zero m v = refl
take-bits_of (suc k) m v =
    let more : suc k + m ≡ suc (k + m) = omega arith in
    let split : v / 2 ^ (k + m) ≡ v / 2 ^ m / 2 ^ k =
    (let swap : k + m ≡ m + k = omega arith in ap (λ n. v / 2 ^ n) swap) ∙ ap (λ n. v / n) (pow-add 2 m k) ∙ sym (div-div-eq-div-mul v (2 ^ m) (2 ^ k)) in
    rw more (ap₂ (λ (b : ℕ) (bs : List ℕ). b ∷ bs) (ap (λ n. n % 2) split) (take-bits_of k m v))

-- the number that a number's bits spell
pub number_of-bits_of : (n v : ℕ) → number_of (bits_of n v) ≡ v % 2 ^ n
unfolding bits_of number_of
number_of-bits_of zero v = omega arith
number_of-bits_of (suc n) v =
    let more : suc n ≡ 1 + n = omega arith in
    rw (length-bits_of n v, number_of-bits_of n v) (sym (ap (λ k. v % 2 ^ k) more ∙ mod-pow-add v 1 n))

pub bits_of-same : (n v w : ℕ) → bits_of n v ≡ bits_of n w → v % 2 ^ n ≡ w % 2 ^ n
bits_of-same n v w e = sym (number_of-bits_of n v) ∙ ap number_of e ∙ number_of-bits_of n w

-- numbers that fit have the same bits only where they are the same
pub bits_of-one : (n v w : ℕ) → v < 2 ^ n → w < 2 ^ n → bits_of n v ≡ bits_of n w → v ≡ w
bits_of-one n v w lt lt' same = sym (mod-eq_of_lt lt) ∙ bits_of-same n v w same ∙ mod-eq_of_lt lt'

-- only the lowest bits count
pub bits_of-mod : (n v : ℕ) → bits_of n (v % 2 ^ n) ≡ bits_of n v
unfolding bits_of
bits_of-mod zero v = refl
bits_of-mod (suc n) v =
    let more : suc n ≡ 1 + n = omega arith in
    let low = v % 2 ^ n in
    let split : v % 2 ^ suc n ≡ (v / 2 ^ n % 2 ^ 1) * 2 ^ n + low = ap (λ k. v % 2 ^ k) more ∙ mod-pow-add v 1 n in
    let first : v % 2 ^ suc n / 2 ^ n ≡ v / 2 ^ n % 2 ^ 1 = ap (λ x. x / 2 ^ n) split ∙ shr_high (v / 2 ^ n % 2 ^ 1) n low (mod-lt v (pow_pos n)) in
    let rest : v % 2 ^ suc n % 2 ^ n ≡ low = ap (λ x. v % 2 ^ x % 2 ^ n) more ∙ mod-mod-pow v 1 n in
    ap₂ (λ (b : ℕ) (bs : List ℕ). b ∷ bs) (ap (λ x. x % 2) first ∙ mod-mod (v / 2 ^ n) 2)
    (sym (bits_of-mod n (v % 2 ^ suc n)) ∙ ap (bits_of n) rest ∙ bits_of-mod n v)

-- the first known bits of a window, as far as they go
pub front_of-take : (n m w known : ℕ) → n ≤ known → take n (front_of (n + m) w known) ≡ bits_of n (w / 2 ^ m)
front_of-take n m w known le = take-take n known (bits_of (n + m) w) le ∙ take-bits_of n m w

-- the high part of a window
pub window_high : (n m w : ℕ) → w % 2 ^ (n + m) / 2 ^ m ≡ w / 2 ^ m % 2 ^ n
window_high n m w = ap (λ x. x / 2 ^ m) (mod-pow-add w n m) ∙ shr_high (w / 2 ^ m % 2 ^ n) m (w % 2 ^ m) (mod-lt w (pow_pos m))

-- a code of known bits begins a window where its value is the window's high part
pub IsPrefix-front_of : (n m w known bits : ℕ) → n ≤ known → bits < 2 ^ n → IsPrefix (bits_of n bits) (front_of (n + m) w known) ↔ (w % 2 ^ (n + m) / 2 ^ m ≡ bits)
IsPrefix-front_of n m w known bits le fits =
    let front : take (length (bits_of n bits)) (front_of (n + m) w known) ≡ bits_of n (w / 2 ^ m) =
    ap (λ k. take k (front_of (n + m) w known)) (length-bits_of n bits) ∙ front_of-take n m w known le in (
      λ begins. window_high n m w ∙ bits_of-same n (w / 2 ^ m) bits (sym front ∙ begins) ∙ mod-eq_of_lt fits,
      λ same. front ∙ sym (bits_of-mod n (w / 2 ^ m)) ∙ ap (bits_of n) (sym (window_high n m w) ∙ same),
    )

pub IsPrefix-known : (n size w known bits : ℕ) → n ≤ size → n ≤ known → bits < 2 ^ n → IsPrefix (bits_of n bits) (front_of size w known) ↔ (w % 2 ^ size / 2 ^ (size - n) ≡ bits)
IsPrefix-known n size w known bits within le fits =
    let whole : n + (size - n) ≡ size = omega arith in
    subst (λ k. IsPrefix (bits_of n bits) (front_of k w known) ↔ (w % 2 ^ k / 2 ^ (size - n) ≡ bits)) whole (IsPrefix-front_of n (size - n) w known bits le fits)

-- a code that is longer than the known bits doesn't begin them
pub IsPrefix-short : (n size w known bits : ℕ) → known < n → IsPrefix (bits_of n bits) (front_of size w known) → ⊥
IsPrefix-short n size w known bits lt begins =
    let long : length (take (length (bits_of n bits)) (front_of size w known)) ≡ n = ap length begins ∙ length-bits_of n bits in
    omega (arith, length-take (length (bits_of n bits)) (front_of size w known), length-take known (bits_of size w))
