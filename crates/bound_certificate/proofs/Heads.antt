-- Where the mark and the number of nodes are refused, byte by byte.
use Rattle.std.proofs.Common.{◌≡◌, ℕ, ◌+◌, ◌^◌, ◌<◌, ◌≤◌, List, [], ◌∷◌, ◌++◌, Bool, true, false, slice_index, refl, ap, arith, lit<}
use Rattle.std.proofs.lemmas.Bool.{eqb-true}
use Rattle.std.specs.Prelude.{◌==◌, if◌then◌else◌}
use Rattle.bound_certificate.specs.declared.fault.Stop.{Stop}
use Rattle.bound_certificate.specs.Private.Texts.{Then, IsByte, IsStop, IsMark, IsCount, IsLongCount, IsNodeCount, AfterFirst, AfterSecond, AfterThird, last_most, last_least}
use Rattle.bound_certificate.proofs.Refusals.{stop_first, stop_next}
use Rattle.bound_certificate.proofs.Parts.{ends_byte, one_of, some_byte}

-- a byte of a text is known
pub is_byte : (least most byte : ℕ) → least ≤ byte → byte ≤ most → most < 2 ^ 8 → IsByte least most (byte ∷ [])
is_byte least most byte low high fits = one_of (λ b. (least ≤ b) × (b ≤ most)) byte (low, high) (omega (arith, high, fits))

-- refused behind a byte
pub stop_byte : (least most byte : ℕ) (second : List ℕ → List ℕ → Type 0) (bytes rest : List ℕ) (stop : Stop) → bytes ≡ byte ∷ rest → least ≤ byte → byte ≤ most → most < 2 ^ 8
    → IsStop (second (byte ∷ [])) rest stop → IsStop (Then (IsByte least most) second) bytes stop
stop_byte least most byte second bytes rest stop same low high fits refused =
    stop_next (IsByte least most) second bytes (byte ∷ []) rest stop (ends_byte least most) (is_byte least most byte low high fits) same refused

-- two texts, the second one whatever the first
both : (first second : List ℕ → Type 0) → (x : List ℕ) × first x → (x : List ℕ) × second x → (x : List ℕ) × Then first (λ _. second) x
both first second a b = (a.0 ++ b.0, record { front = a.0; behind = b.0; joined = refl; first_is = a.1; second_is = b.1 })

-- ---- the mark

abbrev pub MarkThree : List ℕ → Type 0
MarkThree = Then (IsByte 0x58 0x58) (λ _. IsByte 0x43 0x43)

abbrev pub MarkTwo : List ℕ → Type 0
MarkTwo = Then (IsByte 0x4D 0x4D) (λ _. MarkThree)

same_byte : (n : ℕ) → n < 2 ^ 8 → (x : List ℕ) × IsByte n n x
same_byte n fits = some_byte n n (omega arith) fits

some_three : (x : List ℕ) × MarkThree x
some_three = both (IsByte 0x58 0x58) (IsByte 0x43 0x43) (same_byte 0x58 (lit< tt)) (same_byte 0x43 (lit< tt))

some_two : (x : List ℕ) × MarkTwo x
some_two = both (IsByte 0x4D 0x4D) MarkThree (same_byte 0x4D (lit< tt)) some_three

pub mark_one : (bytes : List ℕ) (stop : Stop) → IsStop (IsByte 0x52 0x52) bytes stop → IsStop IsMark bytes stop
mark_one bytes stop refused = stop_first (IsByte 0x52 0x52) (λ _. MarkTwo) bytes stop (λ _ _. some_two) refused

pub mark_two : (bytes : List ℕ) (stop : Stop) → IsStop (IsByte 0x4D 0x4D) bytes stop → IsStop MarkTwo bytes stop
mark_two bytes stop refused = stop_first (IsByte 0x4D 0x4D) (λ _. MarkThree) bytes stop (λ _ _. some_three) refused

pub mark_three : (bytes : List ℕ) (stop : Stop) → IsStop (IsByte 0x58 0x58) bytes stop → IsStop MarkThree bytes stop
mark_three bytes stop refused = stop_first (IsByte 0x58 0x58) (λ _. IsByte 0x43 0x43) bytes stop (λ _ _. same_byte 0x43 (lit< tt)) refused

-- ---- a count of up to 64

pub count_one : (bytes : List ℕ) (stop : Stop) → IsStop (IsByte 0 0) bytes stop → IsStop IsCount bytes stop
count_one bytes stop refused = stop_first (IsByte 0 0) (λ _. IsByte 0 64) bytes stop (λ _ _. some_byte 0 64 (omega arith) (lit< tt)) refused

-- ---- a count of up to 4,096

pub last_fits : (second : ℕ) → last_most second < 2 ^ 8
last_fits second = by_test (second == 16)
  where
    by_test : (test : Bool) → (if test then 0 else 255) < 2 ^ 8
    by_test true = lit< tt
    by_test false = lit< tt

pub long_count_one : (bytes : List ℕ) (stop : Stop) → IsStop (IsByte 0 16) bytes stop → IsStop IsLongCount bytes stop
long_count_one bytes stop refused =
    stop_first (IsByte 0 16) (λ high. IsByte 0 (last_most (slice_index high 0))) bytes stop (λ high _. some_byte 0 (last_most (slice_index high 0)) (omega arith) (last_fits (slice_index high 0))) refused

-- ---- the number of nodes

least_of : (n m : ℕ) → n ≤ 16 → (if n + m == 0 then 1 else 0) ≤ (if n == 16 then 0 else 255)
least_of n m few = by_test (n == 16) (n + m == 0) refl refl
  where
    by_test : (a b : Bool) → (n == 16) ≡ a → (n + m == 0) ≡ b → (if b then 1 else 0) ≤ (if a then 0 else 255)
    by_test true true first last = absurd (omega (arith, eqb-true n 16 first, eqb-true (n + m) 0 last))
    by_test true false first last = omega arith
    by_test false true first last = omega arith
    by_test false false first last = omega arith

pub some_fourth : (second third : List ℕ) → slice_index second 0 ≤ 16 → (x : List ℕ) × AfterThird second third x
some_fourth second third few =
    some_byte (last_least (slice_index second 0) (slice_index third 0)) (last_most (slice_index second 0)) (least_of (slice_index second 0) (slice_index third 0) few)
    (last_fits (slice_index second 0))

some_third : (second : List ℕ) → slice_index second 0 ≤ 16 → (x : List ℕ) × AfterSecond second x
some_third second few =
    let third = some_byte 0 (last_most (slice_index second 0)) (omega arith) (last_fits (slice_index second 0)) in
    let fourth = some_fourth second third.0 few in
    (third.0 ++ fourth.0, record { front = third.0; behind = fourth.0; joined = refl; first_is = third.1; second_is = fourth.1 })

at_most_16 : (second : List ℕ) → IsByte 0 16 second → slice_index second 0 ≤ 16
at_most_16 second is = omega (arith, ap (λ (xs : List ℕ). slice_index xs 0) is.is, is.allows.1)

some_second : (x : List ℕ) × AfterFirst x
some_second =
    let second = some_byte 0 16 (omega arith) (lit< tt) in
    let third = some_third second.0 (at_most_16 second.0 second.1) in
    (second.0 ++ third.0, record { front = second.0; behind = third.0; joined = refl; first_is = second.1; second_is = third.1 })

pub nodes_one : (bytes : List ℕ) (stop : Stop) → IsStop (IsByte 0 0) bytes stop → IsStop IsNodeCount bytes stop
nodes_one bytes stop refused = stop_first (IsByte 0 0) (λ _. AfterFirst) bytes stop (λ _ _. some_second) refused

pub nodes_two : (bytes : List ℕ) (stop : Stop) → IsStop (IsByte 0 16) bytes stop → IsStop AfterFirst bytes stop
nodes_two bytes stop refused = stop_first (IsByte 0 16) AfterSecond bytes stop (λ second is. some_third second (at_most_16 second is)) refused

pub nodes_three : (second bytes : List ℕ) (stop : Stop) → slice_index second 0 ≤ 16 → IsStop (IsByte 0 (last_most (slice_index second 0))) bytes stop → IsStop (AfterSecond second) bytes stop
nodes_three second bytes stop few refused = stop_first (IsByte 0 (last_most (slice_index second 0))) (AfterThird second) bytes stop (λ third _. some_fourth second third few) refused
