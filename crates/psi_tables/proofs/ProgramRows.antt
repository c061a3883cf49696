-- Rows of programs in a program association section.
use Rattle.std.proofs.Common.{
  ◌≡◌,
  ◌≢◌,
  ℕ,
  zero,
  suc,
  ◌+◌,
  ◌*◌,
  ◌/◌,
  ◌%◌,
  ◌<◌,
  ◌≤◌,
  Bool,
  true,
  false,
  cond,
  List,
  [],
  ◌∷◌,
  ◌++◌,
  length,
  get_or,
  take,
  drop,
  refl,
  sym,
  ap,
  ap₂,
  subst,
  ◌∙◌,
  arith,
  length-append,
  length-take,
  length-drop,
}
use Rattle.std.specs.Prelude.{bit_and, ◌==◌, Some, None}
use Rattle.std.specs.List.{find}
use Rattle.std.specs.Option.{option_map}
use Rattle.std.proofs.lemmas.Bool.{ne_eqb, eq-eqb}
use Rattle.std.proofs.lemmas.List.{get_or-take, get_or-drop, take-append-drop, nil_from_length}
use Rattle.bit_lists.specs.Fields.{bits}
use Rattle.bit_lists.proofs.MaskLemmas.{and_31}
use Rattle.psi_tables.specs.Section.{IsCurrent, IsWholeSection, IsItemRow, content}
use Rattle.psi_tables.specs.Pat.{IsPatEntry, IsPat}
use Rattle.psi_tables.proofs.Elements.{program_number-is, program_map_PID-is}
use Rattle.psi_tables.proofs.Rows.{IsTold, IsUnderWay, IsRow-first, under_way_none, under_way_more, under_way_rest}

pub programs_told : IsTold IsPatEntry
programs_told = record {
  some = λ x front is. omega (arith, is.size);
  ends = λ x y f g b d same first second. first.size ∙ sym second.size;
  one = λ x y front first second. ap₂ (λ (n p : ℕ). (n, p)) (first.number ∙ sym second.number) (first.pid ∙ sym second.pid);
}

-- ---- four bytes a program

-- the program of four bytes
program_of : List ℕ → ℕ × ℕ
program_of bytes = (bits bytes 0 16, bits bytes 19 13)

four_are : (bytes : List ℕ) → length bytes ≡ 4 → IsPatEntry (program_of bytes) bytes
unfolding program_of
four_are bytes size = record { size = size; number = refl; pid = refl }

-- bytes are a row of programs where four go into their number
pub programs_of : (quarter : ℕ) (bytes : List ℕ) → length bytes ≡ 4 * quarter → (programs : List (ℕ × ℕ)) × IsItemRow IsPatEntry programs bytes
programs_of zero bytes size = ([], nil_from_length bytes (omega (arith, size)))
programs_of (suc n) bytes size =
    let others = programs_of n (drop 4 bytes) (omega (arith, size, length-drop 4 bytes)) in
    (program_of (take 4 bytes) ∷ others.0, (take 4 bytes, drop 4 bytes, sym (take-append-drop 4 bytes), four_are (take 4 bytes) (omega (arith, size, length-take 4 bytes)), others.1))

pub length-programs : (programs : List (ℕ × ℕ)) (bytes : List ℕ) → IsItemRow IsPatEntry programs bytes → length bytes ≡ 4 * length programs
length-programs [] bytes row = ap length row
length-programs (x ∷ xs) bytes row = omega (arith, ap length row.2, length-append row.0 row.1, row.3.size, length-programs xs row.1 row.4)

-- ---- the search for a number

-- so far no program has the number
pub record HasPassed (content rest : List ℕ) (number : ℕ) : Type 0 where
  pub done : List (ℕ × ℕ)
  pub under_way : IsUnderWay IsPatEntry content rest done
  pub other : find (λ program. program.0 == number) done ≡ None
  pub bytes : (i : ℕ) → get_or rest i 0 < 256

pub passed_none : (content : List ℕ) (number : ℕ) → ((i : ℕ) → get_or content i 0 < 256) → HasPassed content content number
passed_none content number bytes = record { done = []; under_way = under_way_none IsPatEntry content; other = refl; bytes = bytes }

find_behind : {A : Type 0} (test : A → Bool) (xs ys : List A) → find test xs ≡ None → find test (xs ++ ys) ≡ find test ys
find_behind test [] ys none = refl
find_behind {A} test (x ∷ xs) ys none = by_test (test x) (find_behind test xs ys) none
  where
    by_test : (passes : Bool) → (find test xs ≡ None → find test (xs ++ ys) ≡ find test ys) → cond passes (Some x) (find test xs) ≡ None → cond passes (Some x) (find test (xs ++ ys)) ≡ find test ys
    by_test true others wrong = absurd (cc wrong)
    by_test false others none = others none

-- the first four bytes of the rest
record IsHead (rest front behind : List ℕ) : Type 0 where
  split : rest ≡ front ++ behind
  size : length front ≡ 4
  at : (i : ℕ) → i < 4 → get_or front i 0 ≡ get_or rest i 0

head_at : (rest front behind : List ℕ) → front ≡ take 4 rest → behind ≡ drop 4 rest → 4 ≤ length rest → IsHead rest front behind
head_at rest front behind front_is behind_is long = record {
  split = sym (ap₂ (λ (xs ys : List ℕ). xs ++ ys) front_is behind_is ∙ take-append-drop 4 rest);
  size = ap length front_is ∙ omega (arith, length-take 4 rest, long);
  at = λ i low. ap (λ (xs : List ℕ). get_or xs i 0) front_is ∙ get_or-take 4 rest i 0 low;
}

-- the number and the PID in them, as the code reads them
head_number : (rest front behind : List ℕ) (found : ℕ) → ((i : ℕ) → get_or rest i 0 < 256) → IsHead rest front behind → found ≡ get_or front 0 0 * 256 + get_or front 1 0 → bits front 0 16 ≡ found
head_number rest front behind found bytes head found_is = omega (arith, found_is, program_number-is front, head.at 0 (omega arith), head.at 1 (omega arith), bytes 0, bytes 1)

head_pid : (rest front behind : List ℕ) (pid : ℕ) → ((i : ℕ) → get_or rest i 0 < 256) → IsHead rest front behind → pid ≡ bit_and (get_or front 2 0) 31 * 256 + get_or front 3 0 → bits front 19 13 ≡ pid
head_pid rest front behind pid bytes head pid_is = omega (arith, pid_is, program_map_PID-is front, and_31 (get_or front 2 0), head.at 3 (omega arith), bytes 3)

-- a program with another number is passed
pub passed_more : (content rest front behind : List ℕ) (number found : ℕ) → HasPassed content rest number → front ≡ take 4 rest → behind ≡ drop 4 rest
    → 4 ≤ length rest → found ≡ get_or front 0 0 * 256 + get_or front 1 0 → found ≢ number → HasPassed content behind number
unfolding program_of
passed_more content rest front behind number found passed front_is behind_is long found_is differs =
    let program : ℕ × ℕ = program_of front in
    let head = head_at rest front behind front_is behind_is long in
    let same : program.0 ≡ found = head_number rest front behind found passed.bytes head found_is in
    let fails : (program.0 == number) ≡ false = ap (λ (n : ℕ). n == number) same ∙ ne_eqb found number differs in
    record {
      done = passed.done ++ program ∷ [];
      under_way = under_way_more IsPatEntry content rest passed.done program front behind passed.under_way head.split (four_are front head.size);
      other = find_behind (λ p. p.0 == number) passed.done (program ∷ []) passed.other ∙ ap (λ (b : Bool). cond b (Some program) None) fails;
      bytes = λ i. subst (λ (n : ℕ). n < 256) (sym (ap (λ (xs : List ℕ). get_or xs i 0) behind_is ∙ get_or-drop 4 rest i 0)) (passed.bytes (4 + i));
    }

-- the first program with the number
pub found_there : (content rest front behind : List ℕ) (number pid : ℕ) (programs : List (ℕ × ℕ)) → HasPassed content rest number
    → IsItemRow IsPatEntry programs content → front ≡ take 4 rest → behind ≡ drop 4 rest → 4 ≤ length rest
    → number ≡ get_or front 0 0 * 256 + get_or front 1 0 → pid ≡ bit_and (get_or front 2 0) 31 * 256 + get_or front 3 0
    → Some pid ≡ option_map (λ program. program.1) (find (λ program. program.0 == number) programs)
unfolding program_of
found_there content rest front behind number pid programs passed row front_is behind_is long number_is pid_is =
    let program : ℕ × ℕ = program_of front in
    let head = head_at rest front behind front_is behind_is long in
    let behind_row = under_way_rest IsPatEntry programs_told content rest passed.done programs passed.under_way row in
    let first = IsRow-first IsPatEntry programs_told program behind_row.0 front behind (four_are front head.size) (subst (IsItemRow IsPatEntry behind_row.0) head.split behind_row.2) in
    let whole : programs ≡ passed.done ++ program ∷ first.0 = behind_row.1 ∙ ap (λ (ys : List (ℕ × ℕ)). passed.done ++ ys) first.1 in
    let passes : (program.0 == number) ≡ true = eq-eqb program.0 number (head_number rest front behind number passed.bytes head number_is) in
    let found : find (λ p. p.0 == number) programs ≡ Some program =
    ap (find (λ p. p.0 == number)) whole ∙ find_behind (λ p. p.0 == number) passed.done (program ∷ first.0) passed.other
    ∙ ap (λ (b : Bool). cond b (Some program) (find (λ p. p.0 == number) first.0)) passes in
    ap Some (sym (head_pid rest front behind pid passed.bytes head pid_is)) ∙ ap (option_map (λ p. p.1)) (sym found)

-- no program has it
pub found_nowhere : (content rest : List ℕ) (number : ℕ) (programs : List (ℕ × ℕ)) → HasPassed content rest number
    → IsItemRow IsPatEntry programs content → length rest < 4
    → None ≡ option_map (λ program. program.1) (find (λ program. program.0 == number) programs)
found_nowhere content rest number programs passed row short =
    let behind = under_way_rest IsPatEntry programs_told content rest passed.done programs passed.under_way row in
    let none : find (λ p. p.0 == number) programs ≡ None = ap (find (λ p. p.0 == number)) behind.1 ∙ find_behind (λ p. p.0 == number) passed.done behind.0 passed.other ∙ nothing behind.0 behind.2 in
    ap (option_map (λ p. p.1)) (sym none)
  where
    nothing : (ys : List (ℕ × ℕ)) → IsItemRow IsPatEntry ys rest → find (λ p. p.0 == number) ys ≡ None
    nothing [] row = refl
    nothing (y ∷ ys) row = absurd (omega (arith, short, row.3.size, ap length row.2, length-append row.0 row.1))

-- ---- whole sections

-- a current section whose content is of whole programs is one of some programs
pub pat_from : (bytes found : List ℕ) → IsCurrent 0 bytes → IsWholeSection bytes → found ≡ content bytes → length found % 4 ≡ 0 → (programs : List (ℕ × ℕ)) × IsPat programs bytes
pat_from bytes found current whole found_is even =
    let row = programs_of (length found / 4) found (omega (arith, even)) in
    (row.0, record { current = current; whole = whole; programs_are = subst (IsItemRow IsPatEntry row.0) found_is row.1 })

-- and one of any programs has such a content
pub pat_fills : (programs : List (ℕ × ℕ)) (bytes found : List ℕ) → IsPat programs bytes → found ≡ content bytes → length found % 4 ≡ 0
pat_fills programs bytes found is found_is = omega (arith, ap length found_is, length-programs programs (content bytes) is.programs_are)
