-- A field that was written says what it was written from.
use Rattle.std.proofs.Common.{◌≡◌, ℕ, zero, suc, ◌+◌, ◌-◌, ◌*◌, ◌/◌, ◌%◌, ◌^◌, ◌<◌, ◌≤◌, Bool, true, false, List, [], ◌∷◌, ◌++◌, Option, Some, None, replicate, refl, ap, arith}
use Rattle.std.specs.Prelude.{◌==◌}
use Rattle.bit_lists.specs.Fields.{flag}
use Rattle.ts_packets.specs.declared.adaptation_field.AdaptationField.{AdaptationField}
use Rattle.ts_packets.specs.AdaptationField.{
  pcr_flag,
  program_clock_reference_base,
  program_clock_reference_extension,
  ticks_of,
  field_of,
  IsPcrInRange,
  least_length,
  written_pcr,
  written_flags,
  written_field_bytes,
}
use Rattle.ts_packets.proofs.Elements.{discontinuity_indicator-is, pcr_flag-is, program_clock_reference_base-is, program_clock_reference_extension-is}
use Rattle.bit_lists.proofs.FieldLemmas.{flag_below}

pub flag_tells : (is_set : Bool) → (flag is_set == 1) ≡ is_set
flag_tells true = refl
flag_tells false = refl

flags_tell : (discontinuity pcr : Bool) → (2 ^ 7 * flag discontinuity + 2 ^ 4 * flag pcr) / 128 % 2 ≡ flag discontinuity
flags_tell discontinuity pcr = omega (arith, flag_below discontinuity, flag_below pcr)

pcr_flag_tells : (discontinuity pcr : Bool) → (2 ^ 7 * flag discontinuity + 2 ^ 4 * flag pcr) / 16 % 2 ≡ flag pcr
pcr_flag_tells discontinuity pcr = omega (arith, flag_below discontinuity, flag_below pcr)

-- a PCR, behind the flags and whatever follows it
ticks_of-written : (flags ticks : ℕ) (rest : List ℕ) → ticks < 300 * 2 ^ 33 → ticks_of (flags ∷ written_pcr (Some ticks) ++ rest) ≡ ticks
ticks_of-written flags ticks rest below =
    let bytes : List ℕ = flags ∷ written_pcr (Some ticks) ++ rest in
    let base : program_clock_reference_base bytes ≡ ticks / 300 = omega (arith, program_clock_reference_base-is bytes) in
    let extension : program_clock_reference_extension bytes ≡ ticks % 300 = omega (arith, program_clock_reference_extension-is bytes) in
    rw (base, extension) (omega arith)

abbrev field_from : Bool → Option ℕ → AdaptationField
field_from discontinuity pcr = record { discontinuity = discontinuity; pcr = pcr }

same_field : {discontinuity discontinuity' : Bool} {pcr pcr' : Option ℕ} → discontinuity ≡ discontinuity' → pcr ≡ pcr' → field_from discontinuity pcr ≡ field_from discontinuity' pcr'
same_field discontinuity-is pcr-is = cc

-- by cases on what the field says and on its length
field_of-parts : (discontinuity : Bool) (pcr : Option ℕ) (n : ℕ) → least_length (field_from discontinuity pcr) ≤ n
    → IsPcrInRange (field_from discontinuity pcr) → field_of (written_field_bytes (field_from discontinuity pcr) n) ≡ field_from discontinuity pcr
field_of-parts true None zero room below = absurd (omega arith)
field_of-parts false None zero room below = same_field (rw (discontinuity_indicator-is []) refl) (rw (pcr_flag-is []) refl)
field_of-parts discontinuity None (suc n) room below =
    let bytes : List ℕ = written_field_bytes (field_from discontinuity None) (suc n) in
    same_field (rw (discontinuity_indicator-is bytes, flags_tell discontinuity false) (flag_tells discontinuity)) (rw (pcr_flag-is bytes, pcr_flag_tells discontinuity false) refl)
field_of-parts discontinuity (Some ticks) zero room below = absurd (omega arith)
field_of-parts discontinuity (Some ticks) (suc n) room below =
    let bytes : List ℕ = written_field_bytes (field_from discontinuity (Some ticks)) (suc n) in
    same_field (rw (discontinuity_indicator-is bytes, flags_tell discontinuity true) (flag_tells discontinuity))
    (rw (pcr_flag-is bytes, pcr_flag_tells discontinuity true) (ap Some (ticks_of-written (written_flags (field_from discontinuity (Some ticks))) ticks (replicate (n - 6) 0xFF) below)))

pub field_of-written : (field : AdaptationField) (n : ℕ) → least_length field ≤ n → IsPcrInRange field → field_of (written_field_bytes field n) ≡ field
field_of-written field n room below = field_of-parts field.discontinuity field.pcr n room below

-- a flagged PCR has its bytes
pcr_room : (discontinuity : Bool) (pcr : Option ℕ) (n : ℕ) → least_length (field_from discontinuity pcr) ≤ n → pcr_flag (written_field_bytes (field_from discontinuity pcr) n) ≡ 1 → 7 ≤ n
pcr_room discontinuity None zero room flagged = absurd (omega (arith, pcr_flag-is [], flagged))
pcr_room discontinuity None (suc n) room flagged = absurd (omega (arith, pcr_flag-is (written_field_bytes (field_from discontinuity None) (suc n)), pcr_flag_tells discontinuity false, flagged))
pcr_room discontinuity (Some ticks) n room flagged = room

pub pcr-written : (field : AdaptationField) (n : ℕ) → least_length field ≤ n → pcr_flag (written_field_bytes field n) ≡ 1 → 7 ≤ n
pcr-written field n room flagged = pcr_room field.discontinuity field.pcr n room flagged
