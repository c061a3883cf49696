-- Numbers in bytes: which number a block holds, and that it is the only one.
use Rattle.std.proofs.Common.{◌≡◌, ℕ, zero, suc, ◌+◌, ◌*◌, ◌/◌, ◌%◌, ◌^◌, ◌<◌, ◌≤◌, Bool, true, false, List, [], ◌∷◌, ◌++◌, get_or, slice_index, refl, sym, ap, ap₂, subst, ◌∙◌, arith, lit<}
use Rattle.std.specs.Prelude.{◌==◌, if◌then◌else◌}
use Rattle.std.specs.Int.{w16, w32, w64, to_be_bytes, from_be_bytes}
use Rattle.std.proofs.lemmas.Bool.{eqb-true, eqb-false}
use Rattle.std.proofs.lemmas.Nat.{be_bytes_4, be_bytes_8, from_be_bytes-to_be_bytes_2, from_be_bytes-to_be_bytes_4, from_be_bytes-to_be_bytes_8}
use Rattle.bit_lists.specs.Fields.{AreBytes}
use Rattle.bound_certificate.specs.Private.Texts.{IsBlock, IsLongCount, IsNodeCount, last_most, last_least}
use Rattle.bound_certificate.proofs.Heads.{is_byte, last_fits}

-- ---- one number

pub one_number_2 : (a b : ℕ) → a < 2 ^ 16 → b < 2 ^ 16 → to_be_bytes w16 a ≡ to_be_bytes w16 b → a ≡ b
one_number_2 a b first second same = sym (from_be_bytes-to_be_bytes_2 a first) ∙ ap (from_be_bytes w16) same ∙ from_be_bytes-to_be_bytes_2 b second

pub one_number_4 : (a b : ℕ) → a < 2 ^ 32 → b < 2 ^ 32 → to_be_bytes w32 a ≡ to_be_bytes w32 b → a ≡ b
one_number_4 a b first second same = sym (from_be_bytes-to_be_bytes_4 a first) ∙ ap (from_be_bytes w32) same ∙ from_be_bytes-to_be_bytes_4 b second

pub one_number_8 : (a b : ℕ) → a < 2 ^ 64 → b < 2 ^ 64 → to_be_bytes w64 a ≡ to_be_bytes w64 b → a ≡ b
one_number_8 a b first second same = sym (from_be_bytes-to_be_bytes_8 a first) ∙ ap (from_be_bytes w64) same ∙ from_be_bytes-to_be_bytes_8 b second

-- ---- bytes of numbers

low : (n : ℕ) → n % 256 < 2 ^ 8
low n = omega arith

pub block_4 : (n : ℕ) → IsBlock 4 (to_be_bytes w32 n)
block_4 n = record { size = refl; are_bytes = (low _, (low _, (low _, (low _, tt)))) }

pub are_bytes_8 : (n : ℕ) → AreBytes (to_be_bytes w64 n)
are_bytes_8 n = (low _, (low _, (low _, (low _, (low _, (low _, (low _, (low _, tt))))))))

-- a count of up to 64
pub short_count : (n : ℕ) → n ≤ 64 → to_be_bytes w16 n ≡ 0 ∷ n ∷ []
short_count n few =
    let high : n / 256 % 256 ≡ 0 = omega (arith, few) in
    let rest : n % 256 ≡ n = omega (arith, few) in
    ap₂ (λ (a b : ℕ). a ∷ b ∷ []) high rest

-- ---- a count of up to 4,096

most_of_count : (high low : ℕ) → low ≤ 255 → (high ≡ 16 → low ≡ 0) → low ≤ last_most high
most_of_count high low fits none = by_test (high == 16) refl
  where
    by_test : (test : Bool) → (high == 16) ≡ test → low ≤ (if test then 0 else 255)
    by_test true is = omega (arith, none (eqb-true high 16 is))
    by_test false is = fits

pub most_is : (high low : ℕ) → low ≤ last_most high → (low ≤ 255) × (high ≡ 16 → low ≡ 0)
most_is high low most = (by_test (high == 16) most, λ is. at_16 is)
  where
    by_test : (test : Bool) → low ≤ (if test then 0 else 255) → low ≤ 255
    by_test true few = omega (arith, few)
    by_test false few = few

    at_16 : high ≡ 16 → low ≡ 0
    at_16 is =
        let few : low ≤ last_most 16 = subst (λ (h : ℕ). low ≤ last_most h) is most in
        let none : low ≤ 0 = few in
        omega (arith, none)

pub long_count : (high low : ℕ) → high ≤ 16 → low ≤ last_most high → IsLongCount (high ∷ low ∷ [])
long_count high low few most =
    let low_is = most_is high low most in
    record {
      front = high ∷ [];
      behind = low ∷ [];
      joined = refl;
      first_is = is_byte 0 16 high (omega arith) few (lit< tt);
      second_is = is_byte 0 (last_most high) low (omega arith) most (last_fits high);
    }

pub long_count_text : (n : ℕ) → n ≤ 4096 → IsLongCount (to_be_bytes w16 n)
long_count_text n few =
    let high : ℕ = n / 256 % 256 in
    let low : ℕ = n % 256 in
    let at_most : high ≤ 16 = omega (arith, few) in
    let fits : low ≤ 255 = omega arith in
    long_count high low at_most (most_of_count high low fits (λ is. let e : n / 256 % 256 ≡ 16 = is in omega (arith, few, e)))

-- the number that two bytes spell
pub two_of : (high low n : ℕ) → high ≤ 16 → low ≤ last_most high → n ≡ high * 256 + low → (n ≤ 4096) × (high ∷ low ∷ [] ≡ to_be_bytes w16 n)
two_of high low n few most is =
    let low_is = most_is high low most in
    let first : high ≡ n / 256 % 256 = omega (arith, is, few, low_is.0) in
    let second : low ≡ n % 256 = omega (arith, is, few, low_is.0) in
    let limit = at_most (high == 16) refl in
    (omega (arith, is, limit), ap₂ (λ (a b : ℕ). a ∷ b ∷ []) first second)
  where
    at_most : (test : Bool) → (high == 16) ≡ test → high * 256 + low ≤ 4096
    at_most true is =
        let e = eqb-true high 16 is in
        omega (arith, e, (most_is high low most).1 e)
    at_most false is = omega (arith, few, eqb-false high 16 is, (most_is high low most).0)

pub long_count_of : (bytes : List ℕ) → IsLongCount bytes → (n : ℕ) × (n ≤ 4096) × (bytes ≡ to_be_bytes w16 n)
long_count_of bytes is =
    let high = is.first_is in
    let low = is.second_is in
    let most : low.byte ≤ last_most high.byte = subst (λ (xs : List ℕ). low.byte ≤ last_most (slice_index xs 0)) high.is low.allows.1 in
    let n : ℕ = high.byte * 256 + low.byte in
    let found = two_of high.byte low.byte n high.allows.1 most refl in
    let whole : bytes ≡ high.byte ∷ low.byte ∷ [] = is.joined ∙ ap₂ (λ (a b : List ℕ). a ++ b) high.is low.is in
    (n, found.0, whole ∙ found.1)

-- ---- the number of a block

bytes_below : (bytes : List ℕ) → AreBytes bytes → (i : ℕ) → get_or bytes i 0 < 256
bytes_below [] are i = lit< tt
bytes_below (byte ∷ bytes) are zero = are.0
bytes_below (byte ∷ bytes) are (suc i) = bytes_below bytes are.1 i

pub number_4 : (bytes : List ℕ) → IsBlock 4 bytes → (n : ℕ) × (n < 2 ^ 32) × (bytes ≡ to_be_bytes w32 n)
number_4 bytes is =
    let below = bytes_below bytes is.are_bytes in
    let n : ℕ = from_be_bytes w32 bytes in
    (n, omega (arith, below 0, below 1, below 2, below 3), sym (be_bytes_4 bytes n is.size below refl))

pub number_8 : (bytes : List ℕ) → IsBlock 8 bytes → (n : ℕ) × (n < 2 ^ 64) × (bytes ≡ to_be_bytes w64 n)
number_8 bytes is =
    let below = bytes_below bytes is.are_bytes in
    let n : ℕ = from_be_bytes w64 bytes in
    (n, omega (arith, below 0, below 1, below 2, below 3, below 4, below 5, below 6, below 7), sym (be_bytes_8 bytes n is.size below refl))

-- ---- the number of nodes

most_of : (second n : ℕ) → n ≤ 255 → (second ≡ 16 → n ≡ 0) → n ≤ last_most second
most_of second n fits none = by_test (second == 16) refl
  where
    by_test : (test : Bool) → (second == 16) ≡ test → n ≤ (if test then 0 else 255)
    by_test true is = omega (arith, none (eqb-true second 16 is))
    by_test false is = fits

least_of : (second third n : ℕ) → (second + third ≡ 0 → 1 ≤ n) → last_least second third ≤ n
least_of second third n some = by_test (second + third == 0) refl
  where
    by_test : (test : Bool) → (second + third == 0) ≡ test → (if test then 1 else 0) ≤ n
    by_test true is = some (eqb-true (second + third) 0 is)
    by_test false is = omega arith

pub node_count_text : (n : ℕ) → 1 ≤ n → n ≤ 1048576 → IsNodeCount (to_be_bytes w32 n)
node_count_text n some few =
    let second : ℕ = n / 65536 % 256 in
    let third : ℕ = n / 256 % 256 in
    let fourth : ℕ = n % 256 in
    record {
      front = n / 16777216 % 256 ∷ [];
      behind = second ∷ third ∷ fourth ∷ [];
      joined = refl;
      first_is = is_byte 0 0 (n / 16777216 % 256) (omega arith) (omega (arith, few)) (lit< tt);
      second_is = record {
        front = second ∷ [];
        behind = third ∷ fourth ∷ [];
        joined = refl;
        first_is = is_byte 0 16 second (omega arith) (omega (arith, few)) (lit< tt);
        second_is = record {
          front = third ∷ [];
          behind = fourth ∷ [];
          joined = refl;
          first_is = is_byte 0 (last_most second) third (omega arith) (most_of second third (omega arith) (λ is. omega (arith, is, few))) (last_fits second);
          second_is = is_byte (last_least second third) (last_most second) fourth (least_of second third fourth (λ is. omega (arith, is, some, few)))
              (most_of second fourth (omega arith) (λ is. omega (arith, is, few))) (last_fits second);
        };
      };
    }

at_most_last : (second n : ℕ) → n ≤ last_most second → (n ≤ 255) × (second ≡ 16 → n ≡ 0)
at_most_last second n most = (by_test (second == 16) most, λ is. at_16 is)
  where
    by_test : (test : Bool) → n ≤ (if test then 0 else 255) → n ≤ 255
    by_test true few = omega (arith, few)
    by_test false few = few

    at_16 : second ≡ 16 → n ≡ 0
    at_16 is =
        let few : n ≤ last_most 16 = subst (λ (s : ℕ). n ≤ last_most s) is most in
        let none : n ≤ 0 = few in
        omega (arith, none)

at_least_last : (second third n : ℕ) → last_least second third ≤ n → second ≡ 0 → third ≡ 0 → 1 ≤ n
at_least_last second third n least first other =
    let some : last_least 0 0 ≤ n = subst (λ (s : ℕ). last_least 0 s ≤ n) other (subst (λ (s : ℕ). last_least s third ≤ n) first least) in
    some

-- the number that four bytes spell
four : (second third fourth : ℕ) → second ≤ 16 → third ≤ last_most second → fourth ≤ last_most second → last_least second third ≤ fourth
    → (n : ℕ) × (1 ≤ n) × (n ≤ 1048576) × (0 ∷ second ∷ third ∷ fourth ∷ [] ≡ to_be_bytes w32 n)
four second third fourth few most last least =
    let a = at_most_last second third most in
    let b = at_most_last second fourth last in
    let n : ℕ = second * 65536 + third * 256 + fourth in
    let first_is : 0 ≡ n / 16777216 % 256 = omega (arith, few, a.0, b.0) in
    let second_is : second ≡ n / 65536 % 256 = omega (arith, few, a.0, b.0) in
    let third_is : third ≡ n / 256 % 256 = omega (arith, few, a.0, b.0) in
    let fourth_is : fourth ≡ n % 256 = omega (arith, few, a.0, b.0) in (
      n,
      some n refl (second == 0) (third == 0) refl refl,
      high n refl (second == 16) refl,
      ap₂ (λ (x y : ℕ). x ∷ y ∷ third ∷ fourth ∷ []) first_is second_is ∙ ap₂ (λ (x y : ℕ). n / 16777216 % 256 ∷ n / 65536 % 256 ∷ x ∷ y ∷ []) third_is fourth_is,
    )
  where
    some : (n : ℕ) → n ≡ second * 65536 + third * 256 + fourth → (p q : Bool) → (second == 0) ≡ p → (third == 0) ≡ q → 1 ≤ n
    some n is true true first other = omega (arith, is, at_least_last second third fourth least (eqb-true second 0 first) (eqb-true third 0 other))
    some n is true false first other = omega (arith, is, eqb-false third 0 other)
    some n is false q first other = omega (arith, is, eqb-false second 0 first)

    high : (n : ℕ) → n ≡ second * 65536 + third * 256 + fourth → (p : Bool) → (second == 16) ≡ p → n ≤ 1048576
    high n is true at =
        let e = eqb-true second 16 at in
        omega (arith, is, e, (at_most_last second third most).1 e, (at_most_last second fourth last).1 e)
    high n is false at = omega (arith, is, few, eqb-false second 16 at, (at_most_last second third most).0, (at_most_last second fourth last).0)

pub count_of_text : (bytes : List ℕ) → IsNodeCount bytes → (n : ℕ) × (1 ≤ n) × (n ≤ 1048576) × (bytes ≡ to_be_bytes w32 n)
count_of_text bytes is =
    let one = is.first_is in
    let two = is.second_is.first_is in
    let three = is.second_is.second_is.first_is in
    let last = is.second_is.second_is.second_is in
    let most : three.byte ≤ last_most two.byte = subst (λ (xs : List ℕ). three.byte ≤ last_most (slice_index xs 0)) two.is three.allows.1 in
    let last_most_is : last.byte ≤ last_most two.byte = subst (λ (xs : List ℕ). last.byte ≤ last_most (slice_index xs 0)) two.is last.allows.1 in
    let least : last_least two.byte three.byte ≤ last.byte =
    subst (λ (xs : List ℕ). last_least two.byte (slice_index xs 0) ≤ last.byte) three.is (subst (λ (xs : List ℕ). last_least (slice_index xs 0) (slice_index is.second_is.second_is.front 0) ≤
    last.byte) two.is last.allows.0) in
    let zero_is : one.byte ≡ 0 = omega (arith, one.allows.1) in
    let found = four two.byte three.byte last.byte two.allows.1 most last_most_is least in
    let whole : bytes ≡ one.byte ∷ two.byte ∷ three.byte ∷ last.byte ∷ [] =
    is.joined ∙ ap₂ (λ (a b : List ℕ). a ++ b) one.is (is.second_is.joined ∙ ap₂ (λ (a b : List ℕ). a ++ b) two.is
    (is.second_is.second_is.joined ∙ ap₂ (λ (a b : List ℕ). a ++ b) three.is last.is)) in
    (found.0, found.1, found.2, whole ∙ ap (λ (b : ℕ). b ∷ two.byte ∷ three.byte ∷ last.byte ∷ []) zero_is ∙ found.3)
