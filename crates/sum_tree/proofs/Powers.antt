-- Powers of 2 on the way up a tree.
use Rattle.std.proofs.Common.{◌≡◌, ℕ, suc, ◌+◌, ◌-◌, ◌*◌, ◌^◌, ◌<◌, ◌≤◌, ap, ◌∙◌, arith}
use Rattle.std.proofs.Math.Nat.{pow-le-pow_right, pow-succ'}

pub two_more : (n : ℕ) → 2 ^ (n + 1) ≡ 2 * 2 ^ n
two_more n = let next : n + 1 ≡ suc n = omega arith in ap (λ m. 2 ^ m) next ∙ pow-succ' 2 n

pub two_le : (n m : ℕ) → n ≤ m → 2 ^ n ≤ 2 ^ m
two_le n m le = pow-le-pow_right {n = 2} (omega arith) {i = n} {j = m} le

pub two_most : (n : ℕ) → n ≤ 40 → 2 ^ n ≤ 1099511627776
two_most n le = two_le n 40 le

pub two_least : (n : ℕ) → 1 ≤ 2 ^ n
two_least n = two_le 0 n (omega arith)

-- one level up
pub level_up : (height level : ℕ) → level < height → 2 ^ (height - level) ≡ 2 * 2 ^ (height - (level + 1))
level_up height level low =
    let next : height - level ≡ (height - (level + 1)) + 1 = omega arith in
    ap (λ m. 2 ^ m) next ∙ two_more (height - (level + 1))
