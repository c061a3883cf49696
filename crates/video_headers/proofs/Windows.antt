-- What a window of 24 bits shows of whole bytes.
use Rattle.std.proofs.Common.{◌≡◌, nat_eq, ℕ, ◌+◌, ◌-◌, ◌*◌, ◌/◌, ◌%◌, ◌^◌, ◌<◌, ◌≤◌, ◌&&◌, eq-eqb, List, [], ◌∷◌, ◌++◌, length, take, drop, Bool, true, false, refl, sym, ap, ap₂, subst, ◌∙◌, arith}
use Rattle.std.proofs.Math.Nat.{div-lt_iff_lt-mul}
use Rattle.std.proofs.lemmas.Bool.{and_parts, eqb-true, both_ways}
use Rattle.std.proofs.lemmas.List.{length-take, take-take, take-append-drop, take_all}
use Rattle.bit_lists.specs.Bits.{IsPrefix, bits_of}
use Rattle.bit_lists.proofs.BitLemmas.{length-bits_of, bits_of-one, front_of-take}
use Rattle.bit_cursor.specs.Shown.{IsWindow}
use Rattle.picture_grammar.specs.StartCode.{start_code_prefix}
use Rattle.video_headers.specs.Private.Stands.{BeginsByte, shows_prefix}
use Rattle.grammar_reading.proofs.ReadElements.{none_left}

pub window-prefix : (bits : List ℕ) (window known : ℕ) → IsWindow 24 bits window known → shows_prefix window known ≡ true → IsPrefix start_code_prefix bits
window-prefix bits window known shows is =
    let parts = and_parts (nat_eq known 24) (nat_eq window 1) is in
    let all : known ≡ 24 = eqb-true known 24 parts.0 in
    let one : window ≡ 1 = eqb-true window 1 parts.1 in
    let first : take 24 (bits_of 24 1) ≡ take 24 bits = subst (λ (w : ℕ). take 24 (bits_of 24 w) ≡ take 24 bits) one (subst (λ (k : ℕ). take k (bits_of 24 window) ≡ take 24 bits) all shows.front) in
    ap (λ (k : ℕ). take k bits) (length-bits_of 24 1) ∙ sym first ∙ take_all 24 (bits_of 24 1) (omega (arith, length-bits_of 24 1))

pub window-none : (bits : List ℕ) (window known : ℕ) → IsWindow 24 bits window known → window < 2 ^ 24 → shows_prefix window known ≡ false → IsPrefix start_code_prefix bits → ⊥
window-none bits window known shows below not first =
    let long : 24 ≤ length bits = omega (arith, ap length first, length-take (length start_code_prefix) bits, length-bits_of 24 1) in
    let all : known ≡ 24 = omega (arith, shows.known) in
    let front : take 24 (bits_of 24 window) ≡ take 24 bits = subst (λ (k : ℕ). take k (bits_of 24 window) ≡ take 24 bits) all shows.front in
    let same : bits_of 24 window ≡ bits_of 24 1 =
    sym (take_all 24 (bits_of 24 window) (omega (arith, length-bits_of 24 window))) ∙ front ∙ ap (λ (k : ℕ). take k bits) (sym (length-bits_of 24 1)) ∙ first in
    let one : window ≡ 1 = bits_of-one 24 window 1 below (omega arith) same in
    both_ways (shows_prefix window known) not (ap₂ (λ (x y : Bool). x && y) (eq-eqb known 24 all) (eq-eqb window 1 one))

pub window-end : (bits : List ℕ) (window known : ℕ) → IsWindow 24 bits window known → length bits % 8 ≡ 0 → known < 8 → bits ≡ []
window-end bits window known shows whole few = none_left bits (omega (arith, shows.known, whole, few))

pub window-byte : (bits : List ℕ) (window known : ℕ) → IsWindow 24 bits window known → window < 2 ^ 24 → 8 ≤ known → (IsPrefix start_code_prefix bits → ⊥) → BeginsByte (window / 2 ^ 16) bits
window-byte bits window known shows below enough none =
    let first : take 8 bits ≡ bits_of 8 (window / 2 ^ 16) = sym (take-take 8 24 bits (omega arith)) ∙ ap (take 8) (sym shows.front) ∙ front_of-take 8 16 window known enough in (
      none,
      (div-lt_iff_lt-mul (let some : 0 < 2 ^ 16 = omega arith in some)).1 (let lt : window < 2 ^ 8 * 2 ^ 16 = omega (arith, below) in lt),
      sym (take-append-drop 8 bits) ∙ ap (λ (f : List ℕ). f ++ drop 8 bits) first,
    )

pub window-zero : (bits : List ℕ) (window known : ℕ) → IsWindow 24 bits window known → window < 2 ^ 24 → 8 ≤ known → (IsPrefix start_code_prefix bits → ⊥) → window / 2 ^ 16 ≡ 0 → BeginsByte 0 bits
window-zero bits window known shows below enough none zero = subst (λ (b : ℕ). BeginsByte b bits) zero (window-byte bits window known shows below enough none)
