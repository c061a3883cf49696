-- One section, sent again and again.
use Rattle.std.proofs.Common.{◌≡◌, ℕ, zero, suc, ◌≤◌, nat_lt, Bool, true, false, not, cond, ◌||◌, List, [], ◌∷◌, ◌++◌, length, take, replicate, Ok, Err, refl, ap, ◌∙◌, arith}
use Rattle.std.proofs.lemmas.Bool.{le-ltb, eq-eqb}
use Rattle.std.proofs.lemmas.List.{take_all}
use Rattle.psi_tables.specs.Sections.{Found, checked, crc_over, found_at, is_read, length_end, section_size, sections_of}
use Rattle.psi_tables.specs.declared.section.SectionFault.TheVariants.{BadSection, BadCrc}
use Rattle.psi_tables.specs.Crc.{HasRightCrc}
use Rattle.psi_tables.specs.Section.{IsWholeSection, section_length}
use Rattle.psi_tables.proofs.CrcDivision.{crc_over-is}
use Rattle.psi_tables.proofs.CrcLaws.{zero_is_right}
use Rattle.psi_tables.proofs.GoodSection.{alone}

-- ---- a section that is found as it is

tests_passed : (unread bad short : Bool) (found : Found) → unread ≡ false → bad ≡ false → short ≡ false → cond unread [] (cond bad (Err BadSection ∷ []) (cond short [] (found ∷ []))) ≡ found ∷ []
tests_passed unread bad short found none sound whole = rw (none, sound, whole) refl

neither : (a b : Bool) → a ≡ false → b ≡ false → (a || b) ≡ false
neither a b first second = rw (first, second) refl

right : (section : List ℕ) → HasRightCrc section → checked section ≡ Ok section
right section crc =
    let zero_crc : crc_over section ≡ 0 = (zero_is_right (crc_over section) section (crc_over-is section)).1 crc in
    ap (λ (is : Bool). cond is (Ok section) (Err BadCrc)) (eq-eqb (crc_over section) 0 zero_crc)

pub found_whole : (section : List ℕ) → is_read section ≡ true → IsWholeSection section → section_length section ≤ 1021 → HasRightCrc section → found_at section ≡ Ok section ∷ []
found_whole section read whole fits crc =
    let all : take (section_size section) section ≡ section = take_all (section_size section) section (omega (arith, whole.size)) in
    tests_passed _ _ _ (checked (take (section_size section) section))
    (neither (nat_lt (length section) length_end) (not (is_read section)) (le-ltb _ _ (omega (arith, whole.size))) (ap not read))
    (neither (nat_lt (section_length section) 9) (nat_lt 1021 (section_length section)) (le-ltb _ _ (omega (arith, whole.room))) (le-ltb _ _ fits))
    (le-ltb _ _ (omega (arith, whole.size)))
    ∙ ap (λ (found : Found). found ∷ []) (ap checked all ∙ right section crc)

-- ---- sent again and again

none : sections_of [] ≡ []
unfolding sections_of
none = refl

pub again : (section : List ℕ) (stuffing count : ℕ) → found_at section ≡ Ok section ∷ []
    → sections_of (replicate count (record { start = true; bytes = 0 ∷ (section ++ replicate stuffing 0xFF) })) ≡ replicate count (Ok section)
again section stuffing zero found = none
again section stuffing (suc count) found =
    alone section stuffing (replicate count (record { start = true; bytes = 0 ∷ (section ++ replicate stuffing 0xFF) })) found
    ∙ ap (λ (sections : List Found). Ok section ∷ sections) (again section stuffing count found)
