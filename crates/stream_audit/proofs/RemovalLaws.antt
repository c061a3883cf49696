-- When units are removed, by the clock of the file.
use Rattle.std.proofs.Common.{◌≡◌, ℕ, ◌+◌, ◌-◌, ◌/◌, ◌<◌, ◌≤◌, ltb, cond, ℤ, pos, negsuc, ◌+ℤ◌, ◌-ℤ◌, List, get_or, length, map, take, subst, refl, sym, ap, ◌∙◌, arith}
use Rattle.std.proofs.lemmas.Int.{ints}
use Rattle.std.proofs.lemmas.List.{get_or-map, length-map, take_all}
use Rattle.std.specs.List.Sorted.{IsNonDecreasing}
use Rattle.tstd_model.specs.declared.decoder_input.Removal.{Removal}
use Rattle.std.proofs.lemmas.Bool.{cond-true, cond-false, lt-ltb, le-ltb}
use Rattle.pcr_writer.specs.declared.pcr.TheConstants.{PCR_MODULUS}
use Rattle.stream_audit.specs.Clock.{shift, ticks_from}
use Rattle.stream_audit.specs.Removals.{not_before_zero, removed_at}

-- a due and a shift as one number
ahead_by : (due ahead : ℕ) (at : ℤ) → at ≡ pos due +ℤ pos ahead → not_before_zero at ≡ due + ahead
ahead_by due ahead (pos at) is = omega (arith, ints, is)
ahead_by due ahead (negsuc before) is = absurd (omega (arith, ints, is))

back_by : (due ahead round : ℕ) (at : ℤ) → at ≡ pos due +ℤ (pos ahead -ℤ pos round) → ahead ≤ round → not_before_zero at ≡ due - (round - ahead)
back_by due ahead round (pos at) is le = omega (arith, ints, is, le)
back_by due ahead round (negsuc before) is le = omega (arith, ints, is, le)

module _ (zero base due ahead : ℕ) (is : ahead ≡ ticks_from zero base) where
  pub removed-ahead : ahead < PCR_MODULUS / 2 → due + ahead ≡ removed_at zero base (pos due)
  removed-ahead low =
      sym (ahead_by due ahead (pos due +ℤ pos ahead) refl)
      ∙ ap (λ (s : ℤ). not_before_zero (pos due +ℤ s)) (sym (cond-true (ltb ahead (PCR_MODULUS / 2)) (pos ahead) (pos ahead -ℤ pos PCR_MODULUS) (lt-ltb ahead (PCR_MODULUS / 2) low)))
      ∙ ap (λ (n : ℕ). not_before_zero (pos due +ℤ cond (ltb n (PCR_MODULUS / 2)) (pos n) (pos n -ℤ pos PCR_MODULUS))) is

  pub removed-back : PCR_MODULUS / 2 ≤ ahead → ahead ≤ PCR_MODULUS → due - (PCR_MODULUS - ahead) ≡ removed_at zero base (pos due)
  removed-back high le =
      sym (back_by due ahead PCR_MODULUS (pos due +ℤ (pos ahead -ℤ pos PCR_MODULUS)) refl le)
      ∙ ap (λ (s : ℤ). not_before_zero (pos due +ℤ s)) (sym (cond-false (ltb ahead (PCR_MODULUS / 2)) (pos ahead) (pos ahead -ℤ pos PCR_MODULUS) (le-ltb ahead (PCR_MODULUS / 2) high)))
      ∙ ap (λ (n : ℕ). not_before_zero (pos due +ℤ cond (ltb n (PCR_MODULUS / 2)) (pos n) (pos n -ℤ pos PCR_MODULUS))) is

-- ---- dues that don't fall

later_by : (first second : ℕ) (moved one other : ℤ) → one ≡ pos first +ℤ moved → other ≡ pos second +ℤ moved → first ≤ second → not_before_zero one ≤ not_before_zero other
later_by first second moved (pos one) (pos other) is is' le = omega (arith, ints, is, is', le)
later_by first second moved (pos one) (negsuc other) is is' le = absurd (omega (arith, ints, is, is', le))
later_by first second moved (negsuc one) other is is' le = omega arith

removed-later : (zero base first second : ℕ) → first ≤ second → removed_at zero base (pos first) ≤ removed_at zero base (pos second)
removed-later zero base first second le = later_by first second (shift zero base) (pos first +ℤ shift zero base) (pos second +ℤ shift zero base) refl refl le

abbrev moved : (zero base : ℕ) → Removal → Removal
moved zero base unit = record { due = removed_at zero base (pos unit.due); bytes = unit.bytes }

pub removals-rise : (zero base : ℕ) (units : List Removal) → IsNonDecreasing (map (λ (unit : Removal). unit.due) units) →
    IsNonDecreasing (map (λ (removal : Removal). removal.due) (map (moved zero base) units))
removals-rise zero base units rise = λ i j d le within.
    let none : Removal = record { due = 0; bytes = 0 } in
    let count : length (map (λ (removal : Removal). removal.due) (map (moved zero base) units)) ≡ length (map (moved zero base) units) =
    length-map (map (moved zero base) units) (λ (removal : Removal). removal.due) in
    let count' : length (map (moved zero base) units) ≡ length units = length-map units (moved zero base) in
    let count'' : length (map (λ (unit : Removal). unit.due) units) ≡ length units = length-map units (λ (unit : Removal). unit.due) in
    let dues : (get_or units i none).due ≤ (get_or units j none).due = omega (
      arith,
      get_or-map (λ (unit : Removal). unit.due) units i none d (omega arith),
      get_or-map (λ (unit : Removal). unit.due) units j none d (omega arith),
      rise i j d le (omega arith),
    ) in
    omega (
      arith,
      get_or-map (λ (removal : Removal). removal.due) (map (moved zero base) units) i (moved zero base none) d (omega arith),
      get_or-map (λ (removal : Removal). removal.due) (map (moved zero base) units) j (moved zero base none) d (omega arith),
      ap (λ (removal : Removal). removal.due) (get_or-map (moved zero base) units i none (moved zero base none) (omega arith)),
      ap (λ (removal : Removal). removal.due) (get_or-map (moved zero base) units j none (moved zero base none) (omega arith)),
      removed-later zero base (get_or units i none).due (get_or units j none).due dues,
    )

-- the same of all that is found
pub found-rise : (zero base : ℕ) (units lent found : List Removal) (k : ℕ) → lent ≡ units → length lent ≤ k → found ≡ map (moved zero base) (take k units) →
    IsNonDecreasing (map (λ (unit : Removal). unit.due) units) → IsNonDecreasing (map (λ (removal : Removal). removal.due) found)
found-rise zero base units lent found k same behind is rise =
    let count : length lent ≡ length units = ap (λ (us : List Removal). length us) same in
    let all : found ≡ map (moved zero base) units = is ∙ ap (map (moved zero base)) (take_all k units (omega (arith, count, behind))) in
    subst (λ (rs : List Removal). IsNonDecreasing (map (λ (removal : Removal). removal.due) rs)) (sym all) (removals-rise zero base units rise)
