-- The header of a section, of which only the first three bytes are looked at.
use Rattle.std.proofs.Common.{◌≡◌, ℕ, ◌%◌, ◌^◌, ◌<◌, ◌≤◌, List, ◌++◌, length, get_or, take, sym, ap, ◌∙◌, arith}
use Rattle.std.proofs.lemmas.List.{take-append-le}
use Rattle.std.proofs.lemmas.Grind.{common_steps}
use Rattle.psi_tables.proofs.Elements.{table_id-is, section_length-is}
use Rattle.psi_tables.specs.Section.{table_id, section_length}

pub get_or-header : (a b : List ℕ) (k : ℕ) → k < 3 → take 3 a ≡ take 3 b → get_or a k 0 ≡ get_or b k 0
get_or-header a b k below same = grind (arith, common_steps)

pub table_id-same : (a b : List ℕ) → take 3 a ≡ take 3 b → table_id a ≡ table_id b
table_id-same a b same = table_id-is a ∙ ap (λ (n : ℕ). n % 256) (get_or-header a b 0 (omega arith) same) ∙ sym (table_id-is b)

pub section_length-same : (a b : List ℕ) → take 3 a ≡ take 3 b → section_length a ≡ section_length b
section_length-same a b same =
    let high : get_or a 1 0 ≡ get_or b 1 0 = get_or-header a b 1 (omega arith) same in
    let low : get_or a 2 0 ≡ get_or b 2 0 = get_or-header a b 2 (omega arith) same in
    omega (arith, section_length-is a, section_length-is b)

header-append : (a x : List ℕ) → 3 ≤ length a → take 3 (a ++ x) ≡ take 3 a
header-append a x whole = take-append-le 3 a x whole

pub table_id-append : (a x : List ℕ) → 3 ≤ length a → table_id (a ++ x) ≡ table_id a
table_id-append a x whole = table_id-same (a ++ x) a (header-append a x whole)

pub section_length-append : (a x : List ℕ) → 3 ≤ length a → section_length (a ++ x) ≡ section_length a
section_length-append a x whole = section_length-same (a ++ x) a (header-append a x whole)

-- ---- as the code looks at it

pub section_length-below : (bytes : List ℕ) → section_length bytes < 2 ^ 12
section_length-below bytes = omega (arith, section_length-is bytes)
