-- Words whose lowest bits are held: more bits behind them, and the numbers in them.
use Rattle.std.proofs.Common.{◌≡◌, ℕ, zero, suc, ◌+◌, ◌-◌, ◌*◌, ◌/◌, ◌%◌, ◌^◌, ◌<◌, ◌≤◌, List, ◌++◌, length, take, replicate, refl, sym, ap, ap₂, subst, ◌∙◌, add-zero, append-nil, arith, bit_and, bit_or}
use Rattle.std.specs.Int.{bytes_high_first}
use Rattle.std.proofs.Math.Nat.{mod-lt, mul-mod_left}
use Rattle.std.proofs.Math.Pow.{mod-mod-pow}
use Rattle.std.proofs.lemmas.List.{take-append-le}
use Rattle.std.proofs.lemmas.Nat.{pow_pos, one_shl, and_mask, or_shifted, mod_low, shl-shr, shl_below, shl_whole, mod-pow-add}
use Rattle.bit_lists.specs.Bits.{bits_of, number_of}
use Rattle.bit_lists.specs.Fields.{bit_list, bits_of_byte}
use Rattle.bit_lists.proofs.BitLemmas.{length-bits_of, take-bits_of, number_of-bits_of, bits_of-mod}
use Rattle.bit_lists.proofs.JoinedLemmas.{bits_of-append, bits_of-put, bits_of-zero}
use Rattle.bit_lists.proofs.ByteLemmas.{bits_of_byte-mod}

-- ---- more bits behind

-- a word that is shifted may lose its first bits
word_with : (w m b : ℕ) → m ≤ 64 → b < 2 ^ m → bit_or (w * 2 ^ m % 2 ^ 64) b ≡ (w % 2 ^ (64 - m)) * 2 ^ m + b
word_with w m b le lt =
    let whole : (64 - m) + m ≡ 64 = omega arith in
    let kept : w * 2 ^ m % 2 ^ 64 ≡ (w % 2 ^ (64 - m)) * 2 ^ m =
    ap (λ k. w * 2 ^ m % 2 ^ k) (sym whole) ∙ mod-pow-add (w * 2 ^ m) (64 - m) m
    ∙ ap₂ (λ x y. (x % 2 ^ (64 - m)) * 2 ^ m + y) (shl-shr w m) (mul-mod_left w (2 ^ m)) ∙ add-zero ((w % 2 ^ (64 - m)) * 2 ^ m) in
    ap (λ x. bit_or x b) kept ∙ or_shifted (w % 2 ^ (64 - m)) m b lt

-- it has the bits that were held, then the new ones
pub bits_of-more : (h w m b : ℕ) → h + m ≤ 64 → b < 2 ^ m → bits_of (h + m) (bit_or (w * 2 ^ m % 2 ^ 64) b) ≡ bits_of h w ++ bits_of m b
bits_of-more h w m b le lt =
    let whole : (64 - m - h) + h ≡ 64 - m = omega arith in
    let kept : bits_of h (w % 2 ^ (64 - m)) ≡ bits_of h w =
    sym (bits_of-mod h (w % 2 ^ (64 - m))) ∙ ap (λ k. bits_of h (w % 2 ^ k % 2 ^ h)) (sym whole) ∙ ap (bits_of h) (mod-mod-pow w (64 - m - h) h) ∙ bits_of-mod h w in
    ap (bits_of (h + m)) (word_with w m b (omega arith) lt)
    ∙ bits_of-put h m (w % 2 ^ (64 - m)) b lt
    ∙ ap (λ (f : List ℕ). f ++ bits_of m b) kept

-- ---- the bits of so many bytes of a number

byte_before : (k number : ℕ) (bytes : List ℕ) → bits_of (8 * k) number ≡ bit_list bytes → bits_of (8 + 8 * k) number ≡ bits_of_byte (number / 2 ^ (8 * k) % 256) ++ bit_list bytes
byte_before k number bytes is = bits_of-append 8 (8 * k) number ∙ ap₂ (λ (a b : List ℕ). a ++ b) (sym (bits_of_byte-mod (number / 2 ^ (8 * k)))) is

one_byte : (number : ℕ) → bits_of 8 number ≡ bit_list (bytes_high_first 1 number)
one_byte number = sym (append-nil (bits_of_byte (number % 256)) ∙ bits_of_byte-mod number)

two_bytes : (number : ℕ) → bits_of 16 number ≡ bit_list (bytes_high_first 2 number)
two_bytes number = byte_before 1 number (bytes_high_first 1 number) (one_byte number)

three_bytes : (number : ℕ) → bits_of 24 number ≡ bit_list (bytes_high_first 3 number)
three_bytes number = byte_before 2 number (bytes_high_first 2 number) (two_bytes number)

pub bits_of-bytes : (count number : ℕ) → count ≤ 4 → bits_of (8 * count) number ≡ bit_list (bytes_high_first count number)
unfolding bits_of
bits_of-bytes zero number few = refl
bits_of-bytes (suc zero) number few = one_byte number
bits_of-bytes (suc (suc zero)) number few = two_bytes number
bits_of-bytes (suc (suc (suc zero))) number few = three_bytes number
bits_of-bytes (suc (suc (suc (suc zero)))) number few = byte_before 3 number (bytes_high_first 3 number) (three_bytes number)
bits_of-bytes (suc (suc (suc (suc (suc count))))) number few = absurd (omega (arith, few))

-- ---- the first of the held bits

-- a mask of the lowest bits
pub and_lowest : (w n : ℕ) → n < 64 → bit_and w (1 * 2 ^ n % 2 ^ 64 - 1) ≡ w % 2 ^ n
and_lowest w n lt = ap (λ x. bit_and w (x - 1)) (one_shl n 64 lt) ∙ and_mask w n

pub number_of-front : (n m w : ℕ) (rest : List ℕ) → number_of (take n (bits_of (n + m) w ++ rest)) ≡ w / 2 ^ m % 2 ^ n
number_of-front n m w rest =
    let le : n ≤ length (bits_of (n + m) w) = omega (arith, length-bits_of (n + m) w) in
    ap number_of (take-append-le n (bits_of (n + m) w) rest le ∙ take-bits_of n m w) ∙ number_of-bits_of n (w / 2 ^ m)

-- ---- a window with zero bits behind the held ones

pub bits_of-shifted : (h m w : ℕ) → bits_of (h + m) ((w % 2 ^ h) * 2 ^ m) ≡ bits_of h w ++ replicate m 0
bits_of-shifted h m w =
    ap (bits_of (h + m)) (sym (add-zero ((w % 2 ^ h) * 2 ^ m)))
    ∙ bits_of-put h m (w % 2 ^ h) 0 (pow_pos m)
    ∙ ap₂ (λ (f b : List ℕ). f ++ b) (bits_of-mod h w) (bits_of-zero m)

pub window_zeros : (w h m : ℕ) → (w % 2 ^ h) * 2 ^ m % 2 ^ m ≡ 0
window_zeros w h m = ap (λ x. x % 2 ^ m) (sym (add-zero ((w % 2 ^ h) * 2 ^ m))) ∙ mod_low (w % 2 ^ h) m 0 (pow_pos m)

-- it fits a word of 32 bits
pub window_of : (w h n : ℕ) → h ≤ n → n ≤ 32 → (w % 2 ^ h) * 2 ^ (n - h) % 2 ^ 32 ≡ (w % 2 ^ h) * 2 ^ (n - h)
window_of w h n le fits = shl_whole (w % 2 ^ h) h (n - h) 32 (mod-lt w (pow_pos h)) (omega arith)

pub window_below : (w h n : ℕ) → h ≤ n → (w % 2 ^ h) * 2 ^ (n - h) < 2 ^ n
window_below w h n le =
    let whole : h + (n - h) ≡ n = omega arith in
    subst (λ k. (w % 2 ^ h) * 2 ^ (n - h) < 2 ^ k) whole (shl_below (w % 2 ^ h) h (n - h) (mod-lt w (pow_pos h)))
