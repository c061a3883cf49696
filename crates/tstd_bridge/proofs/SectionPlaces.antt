-- Where in the timetable the PAT and the PMTs stand, and when a period begins again.
use Rattle.std.proofs.Common.{◌≡◌, ℕ, ◌+◌, ◌-◌, ◌*◌, ◌/◌, ◌%◌, ◌<◌, ◌≤◌, ◌⊎◌, eqb, leb, nat_le, if◌then◌else◌, Option, Some, None, ap, ◌∙◌, inl, inr, arith}
use Rattle.std.proofs.lemmas.Bool.{cases_lt, eqb-true, eqb-false, leb-true}
use Rattle.std.proofs.lemmas.Nat.{div-add-mod', mod-mul-add, mod_below}
use Rattle.std.proofs.lemmas.Option.{none-some}
use Rattle.slot_rule.specs.declared.constants.TheConstants.{PERIOD_TICKS}
use Rattle.slot_rule.specs.Timetable.{period, reserved_at}
use Rattle.slot_rule.specs.declared.sent.Sent.{Sent}
use Rattle.slot_rule.specs.declared.sent.Sent.TheVariants.{Null, Pat, Pmt, Pcr, Video as VideoPiece, Audio as AudioPiece}
use Rattle.tstd_bridge.proofs.PcrPlaces.{by_if}

-- the slot after slot n is the next one of the period, or the period ends
pub next_place : (n period : ℕ) → 0 < period → ((n + 1) % period ≡ n % period + 1) ⊎ (((n + 1) % period ≡ 0) × (n % period + 1 ≡ period))
next_place n period some =
    let whole : n / period * period + n % period ≡ n = div-add-mod' n period in
    let below : n % period < period = mod_below n period some in
    elim (cases_lt (n % period + 1) period) as (λ _. ((n + 1) % period ≡ n % period + 1) ⊎ (((n + 1) % period ≡ 0) × (n % period + 1 ≡ period))) [
      | inl within ↦
          (let e : n + 1 ≡ n / period * period + (n % period + 1) = omega (arith, whole) in
          inl (ap (λ m. m % period) e ∙ mod-mul-add (n / period) period (n % period + 1) within))
      | inr past ↦
          (let last : n % period + 1 ≡ period = omega (arith, below, past) in
          let e : n + 1 ≡ (n / period + 1) * period + 0 = omega (arith, whole, last) in
          inr (ap (λ m. m % period) e ∙ mod-mul-add (n / period + 1) period 0 some, last))
    ]

-- a period lasts its ticks, but for a part of a slot
pub long_period : (slot : ℕ) → 0 < slot → PERIOD_TICKS < period slot * slot + slot
long_period slot some =
    let whole : PERIOD_TICKS / slot * slot + PERIOD_TICKS % slot ≡ PERIOD_TICKS = div-add-mod' PERIOD_TICKS slot in
    let below : PERIOD_TICKS % slot < slot = mod_below PERIOD_TICKS slot some in
    omega (arith, whole, below)

pub pat_place : (programs offset : ℕ) → reserved_at programs offset ≡ Some Pat → offset ≡ 0
pat_place programs offset e =
    let pcr : Option Sent = if nat_le offset (2 * programs) then Some (Pcr (offset - programs - 1)) else None in
    let pmt : Option Sent = if nat_le offset programs then Some (Pmt (offset - 1)) else pcr in
    by_if (eqb offset 0) Pat Pat pmt (λ first _. eqb-true offset 0 first)
    (λ _. by_if (leb offset programs) (Pmt (offset - 1)) Pat pcr (λ _ same. absurd (pmt_apart (offset - 1) same))
    (λ _. by_if (leb offset (2 * programs)) (Pcr (offset - programs - 1)) Pat None (λ _ same. absurd (pcr_apart (offset - programs - 1) same))
    (λ _ none. absurd (none-some Pat none)))) e
  where
    pmt_apart : (k : ℕ) → Pmt k ≡ Pat → ⊥
    pmt_apart k same = cc

    pcr_apart : (k : ℕ) → Pcr k ≡ Pat → ⊥
    pcr_apart k same = cc

-- the program of a PMT
abbrev pmt_number : Sent → ℕ
pmt_number (Pmt p) = p
pmt_number Null = 0
pmt_number Pat = 0
pmt_number (Pcr p) = 0
pmt_number (VideoPiece a b c) = 0
pmt_number (AudioPiece a b) = 0

pub record IsPmtPlace (programs program offset : ℕ) : Type 0 where
  pub place : offset ≡ program + 1
  pub within : offset ≤ programs

pub pmt_place : (programs offset p : ℕ) → reserved_at programs offset ≡ Some (Pmt p) → IsPmtPlace programs p offset
pmt_place programs offset p e =
    let pcr : Option Sent = if nat_le offset (2 * programs) then Some (Pcr (offset - programs - 1)) else None in
    let pmt : Option Sent = if nat_le offset programs then Some (Pmt (offset - 1)) else pcr in
    by_if (eqb offset 0) Pat (Pmt p) pmt (λ _ same. absurd (pat_apart same))
    (λ later. by_if (leb offset programs) (Pmt (offset - 1)) (Pmt p) pcr
    (λ low same.
    let number : offset - 1 ≡ p = ap pmt_number same in
    let some : offset ≡ 0 → ⊥ = eqb-false offset 0 later in
    record { place = place number some; within = leb-true offset programs low })
    (λ _. by_if (leb offset (2 * programs)) (Pcr (offset - programs - 1)) (Pmt p) None (λ _ same. absurd (pcr_apart (offset - programs - 1) same))
    (λ _ none. absurd (none-some (Pmt p) none)))) e
  where
    pat_apart : Pat ≡ Pmt p → ⊥
    pat_apart same = cc

    pcr_apart : (k : ℕ) → Pcr k ≡ Pmt p → ⊥
    pcr_apart k same = cc

    place : offset - 1 ≡ p → (offset ≡ 0 → ⊥) → offset ≡ p + 1
    place number some = elim (cases_lt 0 offset) as (λ _. offset ≡ p + 1) [
      | inl positive ↦ omega (arith, number, positive)
      | inr none ↦ absurd (some (omega (arith, none)))
    ]
