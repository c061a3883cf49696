-- The number in the first of four bytes.
use Rattle.std.proofs.Common.{◌≡◌, ℕ, zero, suc, ◌+◌, ◌-◌, ◌*◌, ◌/◌, ◌%◌, ◌^◌, ◌<◌, ◌≤◌, List, [], ◌∷◌, get_or, length, take, arith}
use Rattle.std.specs.Int.{w32, bytes_high_first, from_be_bytes}

-- the first bytes of four are those of the highest bits of their number
front_of_four : (a b c d word count : ℕ) (rest : List ℕ) → a < 256 → b < 256 → c < 256 → d < 256 → word ≡ a * 16777216 + b * 65536 + c * 256 + d
    → 1 ≤ count → count ≤ 4 → bytes_high_first count (word / 2 ^ (32 - 8 * count)) ≡ take count (a ∷ b ∷ c ∷ d ∷ rest)
front_of_four a b c d word zero rest a_fits b_fits c_fits d_fits is some few = absurd (omega (arith, some))
front_of_four a b c d word (suc zero) rest a_fits b_fits c_fits d_fits is some few =
    let at_a : word / 16777216 % 256 ≡ a = omega arith in
    λ i. at_a i ∷ []
front_of_four a b c d word (suc (suc zero)) rest a_fits b_fits c_fits d_fits is some few =
    let at_a : word / 65536 / 256 % 256 ≡ a = omega arith in
    let at_b : word / 65536 % 256 ≡ b = omega arith in
    λ i. at_a i ∷ at_b i ∷ []
front_of_four a b c d word (suc (suc (suc zero))) rest a_fits b_fits c_fits d_fits is some few =
    let at_a : word / 256 / 65536 % 256 ≡ a = omega arith in
    let at_b : word / 256 / 256 % 256 ≡ b = omega arith in
    let at_c : word / 256 % 256 ≡ c = omega arith in
    λ i. at_a i ∷ at_b i ∷ at_c i ∷ []
front_of_four a b c d word (suc (suc (suc (suc zero)))) rest a_fits b_fits c_fits d_fits is some few =
    let at_a : word / 1 / 16777216 % 256 ≡ a = omega arith in
    let at_b : word / 1 / 65536 % 256 ≡ b = omega arith in
    let at_c : word / 1 / 256 % 256 ≡ c = omega arith in
    let at_d : word / 1 % 256 ≡ d = omega arith in
    λ i. at_a i ∷ at_b i ∷ at_c i ∷ at_d i ∷ []
front_of_four a b c d word (suc (suc (suc (suc (suc count))))) rest a_fits b_fits c_fits d_fits is some few = absurd (omega (arith, few))

abbrev four_of : List ℕ → ℕ
four_of bytes = from_be_bytes w32 (get_or bytes 0 0 ∷ get_or bytes 1 0 ∷ get_or bytes 2 0 ∷ get_or bytes 3 0 ∷ [])

pub front_is : (bytes : List ℕ) (word count : ℕ) → ((i : ℕ) → get_or bytes i 0 < 256) → 4 ≤ length bytes → word ≡ four_of bytes
    → 1 ≤ count → count ≤ 4 → bytes_high_first count (word / 2 ^ (32 - 8 * count)) ≡ take count bytes
front_is [] word count fits long is some few = absurd (omega (arith, long))
front_is (a ∷ []) word count fits long is some few = absurd (omega (arith, long))
front_is (a ∷ b ∷ []) word count fits long is some few = absurd (omega (arith, long))
front_is (a ∷ b ∷ c ∷ []) word count fits long is some few = absurd (omega (arith, long))
front_is (a ∷ b ∷ c ∷ d ∷ rest) word count fits long is some few =
    let sum : word ≡ a * 16777216 + b * 65536 + c * 256 + d = omega (arith, is) in
    front_of_four a b c d word count rest (fits 0) (fits 1) (fits 2) (fits 3) sum some few

-- they have as many bits as there are in so many bytes
pub front_below : (word count : ℕ) → word < 2 ^ 32 → 1 ≤ count → count ≤ 4 → word / 2 ^ (32 - 8 * count) < 2 ^ (8 * count)
front_below word zero fits some few = absurd (omega (arith, some))
front_below word (suc zero) fits some few = omega arith
front_below word (suc (suc zero)) fits some few = omega arith
front_below word (suc (suc (suc zero))) fits some few = omega arith
front_below word (suc (suc (suc (suc zero)))) fits some few = omega arith
front_below word (suc (suc (suc (suc (suc count))))) fits some few = absurd (omega (arith, few))
