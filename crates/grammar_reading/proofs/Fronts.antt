-- The front of a window, in the bits of its number.
use Rattle.std.proofs.Common.{◌≡◌, ℕ, ◌+◌, ◌-◌, ◌/◌, ◌^◌, ◌≤◌, ◌++◌, List, Option, Some, None, IfSome, length, take, sym, ap, subst, ◌∙◌, arith}
use Rattle.std.proofs.Math.Nat.{div-div-eq-div-mul}
use Rattle.std.proofs.lemmas.List.{take-take, take_all}
use Rattle.std.proofs.lemmas.Nat.{pow-add}
use Rattle.bit_lists.specs.Bits.{bits_of, front_of}
use Rattle.bit_cursor.specs.Shown.{IsFirstNumber}
use Rattle.bit_lists.proofs.BitLemmas.{length-bits_of, take-bits_of}
use Rattle.bit_lists.proofs.JoinedLemmas.{bits_of-append}

-- the front of a window is its number's high part
pub front_of-bits : (size w k : ℕ) → k ≤ size → front_of size w k ≡ bits_of k (w / 2 ^ (size - k))
front_of-bits size w k le =
    let whole : k + (size - k) ≡ size = omega arith in
    subst (λ n. take k (bits_of n w) ≡ bits_of k (w / 2 ^ (size - k))) whole (take-bits_of k (size - k) w)

pub length-front_of : (size w k : ℕ) → k ≤ size → length (front_of size w k) ≡ k
length-front_of size w k le = ap length (front_of-bits size w k le) ∙ length-bits_of k (w / 2 ^ (size - k))

-- a longer front
pub front_of-more : (size w k m : ℕ) → k + m ≤ size → front_of size w (k + m) ≡ front_of size w k ++ bits_of m (w / 2 ^ (size - (k + m)))
front_of-more size w k m le =
    let high = w / 2 ^ (size - (k + m)) in
    let places : size - k ≡ (size - (k + m)) + m = omega arith in
    let first : w / 2 ^ (size - k) ≡ high / 2 ^ m =
    ap (λ n. w / 2 ^ n) places ∙ ap (λ n. w / n) (pow-add 2 (size - (k + m)) m) ∙ sym (div-div-eq-div-mul w (2 ^ (size - (k + m))) (2 ^ m)) in
    front_of-bits size w (k + m) le ∙ bits_of-append k m high ∙ ap (λ f. f ++ bits_of m high) (sym (front_of-bits size w k (omega arith) ∙ ap (bits_of k) first))

-- a shorter front begins a longer one
pub take-front_of : (size w k known : ℕ) → k ≤ known → take k (front_of size w known) ≡ front_of size w k
take-front_of size w k known le = take-take k known (bits_of size w) le

-- a whole window of held bits shows what is left
pub whole-shown : (told : Option (List ℕ)) (number : ℕ) → IfSome told (λ bits. IsFirstNumber 24 bits number) → IfSome told (λ bits. take 24 bits ≡ front_of 24 number 24)
whole-shown None number is = tt
whole-shown (Some bits) number is = is.front ∙ sym (take_all 24 (bits_of 24 number) (omega (arith, length-bits_of 24 number)))
