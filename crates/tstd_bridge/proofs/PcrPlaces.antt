-- Where in the timetable a program's PCR stands, and that the slots before it bring nothing to the program's video.
use Rattle.std.proofs.Common.{◌≡◌, ℕ, ◌+◌, ◌-◌, ◌*◌, ◌/◌, ◌%◌, ◌<◌, ◌≤◌, ◌⊎◌, Bool, true, false, eqb, leb, nat_le, if◌then◌else◌, Option, Some, None, refl, sym, ap, ◌∙◌, inl, inr, arith}
use Rattle.std.proofs.lemmas.Bool.{cases_lt, leb-true, leb-false}
use Rattle.std.proofs.lemmas.Nat.{div-add-mod', mod-mul-add, mod_below}
use Rattle.std.proofs.lemmas.Option.{none-some, same_Some}
use Rattle.slot_rule.specs.Buffers.{packets_in}
use Rattle.slot_rule.specs.declared.row.Row.TheVariants.{Reserved}
use Rattle.slot_rule.specs.declared.queue_kind.QueueKind.TheVariants.{Video}
use Rattle.slot_rule.specs.Timetable.{reserved_at}
use Rattle.slot_rule.specs.declared.sent.Sent.{Sent}
use Rattle.slot_rule.specs.declared.sent.Sent.TheVariants.{Null, Pat, Pmt, Pcr, Video as VideoPiece, Audio as AudioPiece}
use Rattle.slot_rule.proofs.RuleWork.{packets_in-other_pcr}

-- the slot after slot n is the next one of the period, or the first one
pub next_offset : (n period : ℕ) → 0 < period → ((n + 1) % period ≡ n % period + 1) ⊎ ((n + 1) % period ≡ 0)
next_offset n period some =
    let whole : n / period * period + n % period ≡ n = div-add-mod' n period in
    elim (cases_lt (n % period + 1) period) as (λ _. ((n + 1) % period ≡ n % period + 1) ⊎ ((n + 1) % period ≡ 0)) [
      | inl within ↦
          (let e : n + 1 ≡ n / period * period + (n % period + 1) = omega (arith, whole) in
          inl (ap (λ m. m % period) e ∙ mod-mul-add (n / period) period (n % period + 1) within))
      | inr past ↦
          (let below : n % period < period = mod_below n period some in
          let e : n + 1 ≡ (n / period + 1) * period + 0 = omega (arith, whole) in
          inr (ap (λ m. m % period) e ∙ mod-mul-add (n / period + 1) period 0 some))
    ]

pub by_if : {Q : Type 0} (b : Bool) (own sent : Sent) (rest : Option Sent) → (b ≡ true → own ≡ sent → Q) → (b ≡ false → rest ≡ Some sent → Q) → (if b then Some own else rest) ≡ Some sent → Q
by_if true own sent rest here later e = here refl (same_Some own sent e)
by_if false own sent rest here later e = later refl e

none_if : {Q : Type 0} (b : Bool) (own : Sent) (rest : Option Sent) → (b ≡ false → rest ≡ None → Q) → (if b then Some own else rest) ≡ None → Q
none_if true own rest later e = absurd (none-some own (sym e))
none_if false own rest later e = later refl e

-- the offset of a program's PCR
pub record IsPcrPlace (programs program offset : ℕ) : Type 0 where
  pub place : offset ≡ programs + 1 + program
  pub after : programs < offset
  pub within : offset ≤ 2 * programs

-- the program of a PCR
abbrev pcr_number : Sent → ℕ
pcr_number (Pcr p) = p
pcr_number Null = 0
pcr_number Pat = 0
pcr_number (Pmt p) = 0
pcr_number (VideoPiece a b c) = 0
pcr_number (AudioPiece a b) = 0

pub pcr_place : (programs offset p : ℕ) → reserved_at programs offset ≡ Some (Pcr p) → IsPcrPlace programs p offset
pcr_place programs offset p e =
    let pcr : Option Sent = if nat_le offset (2 * programs) then Some (Pcr (offset - programs - 1)) else None in
    let pmt : Option Sent = if nat_le offset programs then Some (Pmt (offset - 1)) else pcr in
    by_if (eqb offset 0) Pat (Pcr p) pmt (λ _ same. absurd (pat_apart same))
    (λ _. by_if (leb offset programs) (Pmt (offset - 1)) (Pcr p) pcr (λ _ same. absurd (pmt_apart (offset - 1) same))
    (λ high. by_if (leb offset (2 * programs)) (Pcr (offset - programs - 1)) (Pcr p) None
    (λ low same.
    let number : offset - programs - 1 ≡ p = ap pcr_number same in
    let above : programs < offset = leb-false offset programs high in
    record { place = omega arith; after = above; within = leb-true offset (2 * programs) low })
    (λ _ none. absurd (none-some (Pcr p) none)))) e
  where
    pat_apart : Pat ≡ Pcr p → ⊥
    pat_apart same = cc

    pmt_apart : (k : ℕ) → Pmt k ≡ Pcr p → ⊥
    pmt_apart k same = cc

-- no slot of the timetable's front is free
pub reserved_low : (programs offset : ℕ) → offset ≤ 2 * programs → reserved_at programs offset ≡ None → ⊥
reserved_low programs offset low e =
    let pcr : Option Sent = if nat_le offset (2 * programs) then Some (Pcr (offset - programs - 1)) else None in
    let pmt : Option Sent = if nat_le offset programs then Some (Pmt (offset - 1)) else pcr in
    none_if (eqb offset 0) Pat pmt
    (λ _. none_if (leb offset programs) (Pmt (offset - 1)) pcr
    (λ _. none_if (leb offset (2 * programs)) (Pcr (offset - programs - 1)) None
    (λ high _. absurd (omega (arith, leb-false offset (2 * programs) high))))) e

-- what the timetable has before a program's PCR doesn't come to its video
pub low_brings_none : (stream programs offset program vbv : ℕ) (sent : Sent) → reserved_at programs offset ≡ Some sent → offset < programs + 1 + program
    → packets_in stream (Video program vbv) (Reserved sent) ≡ 0
low_brings_none stream programs offset program vbv (Pcr p) at below =
    packets_in-other_pcr stream program vbv p (λ same. absurd (omega (arith, (pcr_place programs offset p at).place)))
low_brings_none stream programs offset program vbv Null at below = refl
low_brings_none stream programs offset program vbv Pat at below = refl
low_brings_none stream programs offset program vbv (Pmt p) at below = refl
low_brings_none stream programs offset program vbv (VideoPiece a b c) at below = refl
low_brings_none stream programs offset program vbv (AudioPiece a b) at below = refl
