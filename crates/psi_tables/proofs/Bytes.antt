-- The bytes of a section so far, by how they are kept.
use Rattle.std.proofs.Common.{◌≡◌, ℕ, zero, suc, ◌+◌, ◌^◌, ◌<◌, ◌≤◌, true, false, List, ◌++◌, length, take, replicate, refl, sym, ap, ◌∙◌, arith, length-append, append_assoc, ⊎_elim}
use Rattle.std.proofs.lemmas.List.{append-nil, length-replicate, take-append-le}
use Rattle.arrayvec.specs.ArrayVec.{ArrayVec}
use Rattle.std.proofs.lemmas.Bool.{cases_lt}
use Rattle.psi_tables.specs.declared.section_front.SectionFront.{SectionFront}
use Rattle.psi_tables.specs.Sections.{is_read, section_size}
use Rattle.psi_tables.specs.Private.SectionFront.{front_bytes, is_bad, IsSound, IsLike}
use Rattle.psi_tables.proofs.Fronts.{is_read-append, section_size-append, is_bad-append}

pub length-front : (front : SectionFront) → length (front_bytes front) ≡ length front.section.items + front.passed
length-front front = omega (arith, length-append front.section.items (replicate front.passed 0), length-replicate {A = ℕ} front.passed 0)

-- its header is kept
pub header-front : (front : SectionFront) → IsSound front → 3 ≤ length (front_bytes front) → 3 ≤ length front.section.items
header-front front sound whole = by_passed front.passed refl
  where
    by_passed : (n : ℕ) → front.passed ≡ n → 3 ≤ length front.section.items
    by_passed zero is = omega (arith, is, length-front front)
    by_passed (suc n) is = omega (arith, (sound.passed (omega (arith, is))).0)

pub is_read-front : (front : SectionFront) → 3 ≤ length front.section.items → is_read (front_bytes front) ≡ is_read front.section.items
is_read-front front kept = is_read-append front.section.items (replicate front.passed 0) kept

pub section_size-front : (front : SectionFront) → 3 ≤ length front.section.items → section_size (front_bytes front) ≡ section_size front.section.items
section_size-front front kept = section_size-append front.section.items (replicate front.passed 0) kept

pub is_bad-front : (front : SectionFront) → 3 ≤ length front.section.items → is_bad (front_bytes front) ≡ is_bad front.section.items
is_bad-front front kept = is_bad-append front.section.items (replicate front.passed 0) kept

-- all are kept of a section that is read
pub kept-front : (front : SectionFront) → IsSound front → is_read front.section.items ≡ true → front_bytes front ≡ front.section.items
kept-front front sound read = by_passed front.passed refl
  where
    by_passed : (n : ℕ) → front.passed ≡ n → front_bytes front ≡ front.section.items
    by_passed zero is = ap (λ (m : ℕ). front.section.items ++ replicate m 0) is ∙ append-nil front.section.items
    by_passed (suc n) is = absurd (true_false (sym read ∙ (sound.passed (omega (arith, is))).1))
      where
        true_false : true ≡ false → ⊥
        true_false both = cc

true-false : true ≡ false → ⊥
true-false is = cc

-- a section that is read, and bytes behind its header
pub sound-extended : (front : SectionFront) (bytes : List ℕ) (now : ArrayVec ℕ) → IsSound front → 3 ≤ length front.section.items
    → is_read front.section.items ≡ true → now.items ≡ front.section.items ++ bytes → length now.items ≤ 1024
    → IsSound (record { section = now; passed = front.passed })
sound-extended front bytes now sound header read is fits =
    record {
      kept = λ _. ap is_read is ∙ is_read-append front.section.items bytes header ∙ read;
      passed = λ some. absurd (true-false (sym read ∙ (sound.passed some).1));
      size = fits;
      count = sound.count;
    }

-- one that is passed over
only-header : (front : SectionFront) → IsSound front → 3 ≤ length front.section.items → is_read front.section.items ≡ false → 3 ≡ length front.section.items
only-header front sound header passed =
    ⊎_elim (λ more. absurd (true-false (sym (sound.kept more) ∙ passed))) (λ most. omega (arith, most, header)) (cases_lt 3 (length front.section.items))

pub sound-passed : (front : SectionFront) (n : ℕ) → IsSound front → 3 ≤ length front.section.items → is_read front.section.items ≡ false
    → front.passed + n < 2 ^ 12 → IsSound (record { section = front.section; passed = front.passed + n })
sound-passed front n sound header passed few =
    record { kept = sound.kept; passed = λ _. (only-header front sound header passed, passed); size = sound.size; count = few }

pub like-passed : (front : SectionFront) (bytes : List ℕ) (n : ℕ) → n ≡ length bytes → 3 ≤ length front.section.items
    → is_read front.section.items ≡ false → IsLike (front_bytes (record { section = front.section; passed = front.passed + n }))
    (front_bytes front ++ bytes)
like-passed front bytes n is header passed =
    let items : List ℕ = front.section.items in
    let now : List ℕ = replicate (front.passed + n) 0 in
    let before : List ℕ = replicate front.passed 0 in
    let joined : (items ++ before) ++ bytes ≡ items ++ (before ++ bytes) = append_assoc items before bytes in
    record {
      size = omega (
        arith,
        is,
        length-append items now,
        length-append (items ++ before) bytes,
        length-append items before,
        length-replicate {A = ℕ} (front.passed + n) 0,
        length-replicate {A = ℕ} front.passed 0,
      );
      header = take-append-le 3 items now header ∙ sym (take-append-le 3 items (before ++ bytes) header) ∙ ap (λ (bs : List ℕ). take 3 bs) (sym joined);
      read = λ other. absurd (true-false (sym other ∙ ap is_read joined ∙ is_read-append items (before ++ bytes) header ∙ passed));
    }

pub ruleset fronts = (length-front, is_read-front, section_size-front, is_bad-front)
