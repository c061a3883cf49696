-- Sums without carries.
use Rattle.std.proofs.Common.{◌≡◌, ℕ, ◌*◌, ◌^◌, sym, ap, ap₂, ◌∙◌, add-zero}
use Rattle.std.specs.Int.Bits.{bit_xor, xor_assoc, xor_self, xor_zero_r}
use Rattle.std.proofs.lemmas.Nat.{xor_comm, xor_block, pow_pos}

-- the last two summands change places
pub xor_swap : (a b c : ℕ) → bit_xor (bit_xor a b) c ≡ bit_xor (bit_xor a c) b
xor_swap a b c = xor_assoc a b c ∙ ap (bit_xor a) (xor_comm b c) ∙ sym (xor_assoc a c b)

pub xor_twice : (a b : ℕ) → bit_xor (bit_xor a b) b ≡ a
xor_twice a b = xor_assoc a b b ∙ ap (bit_xor a) (xor_self b) ∙ xor_zero_r a

-- the sum of two sums that share a summand
pub xor_shared : (a b c : ℕ) → bit_xor (bit_xor a b) (bit_xor a c) ≡ bit_xor b c
xor_shared a b c = ap (λ (x : ℕ). bit_xor x (bit_xor a c)) (xor_comm a b) ∙ xor_assoc b a (bit_xor a c) ∙ ap (bit_xor b) (sym (xor_assoc a a c) ∙ ap (λ (x : ℕ). bit_xor x c) (xor_self a))

pub xor_shl : (a b k : ℕ) → bit_xor (a * 2 ^ k) (b * 2 ^ k) ≡ bit_xor a b * 2 ^ k
xor_shl a b k = sym (ap₂ bit_xor (add-zero (a * 2 ^ k)) (add-zero (b * 2 ^ k))) ∙ xor_block k a b 0 0 (pow_pos k) (pow_pos k) ∙ add-zero (bit_xor a b * 2 ^ k)

-- equal numbers, from their sum
pub same_from_xor : (a b : ℕ) → bit_xor a b ≡ 0 → a ≡ b
same_from_xor a b none = sym (xor_twice a b) ∙ ap (λ (x : ℕ). bit_xor x b) none

-- a summand goes to the other side
pub xor_across : (a b c : ℕ) → bit_xor a b ≡ c → a ≡ bit_xor c b
xor_across a b c sum = sym (xor_twice a b) ∙ ap (λ (x : ℕ). bit_xor x b) sum
