-- The adaptation field (ISO/IEC 13818-1, 2.4.3.4 and 2.4.3.5), as the bytes behind its length byte.
use Rattle.std.specs.Prelude.{
  ℕ,
  zero,
  suc,
  ◌+◌,
  ◌-◌,
  ◌*◌,
  ◌/◌,
  ◌%◌,
  ◌^◌,
  ◌<◌,
  ◌==◌,
  nat_lt,
  Bool,
  ◌&&◌,
  List,
  [],
  ◌∷◌,
  ◌++◌,
  length,
  drop,
  replicate,
  Option,
  Some,
  None,
  is_some,
  IfSome,
  if◌then◌else◌,
}
use Rattle.std.specs.Int.{w64, to_be_bytes}
use Rattle.stream_constants.specs.declared.clock.TheConstants.{TICKS_PER_TIME_UNIT}
use Rattle.ts_packets.specs.declared.adaptation_field.AdaptationField.{AdaptationField}
use Rattle.bit_lists.specs.Fields.{bits, flag}

-- ---- its elements, each by its first bit and its number of bits

-- 1 where the clock or the counter may jump
abbrev pub discontinuity_indicator : List ℕ → ℕ
discontinuity_indicator bytes = bits bytes 0 1

-- 1 where a PCR stands in the field
abbrev pub pcr_flag : List ℕ → ℕ
pcr_flag bytes = bits bytes 3 1

-- the PCR in units of 300 ticks
abbrev pub program_clock_reference_base : List ℕ → ℕ
program_clock_reference_base bytes = bits bytes 8 33

-- the ticks of the PCR above its base
abbrev pub program_clock_reference_extension : List ℕ → ℕ
program_clock_reference_extension bytes = bits bytes 47 9

-- ---- what is kept of it

-- the PCR in ticks of 1/27,000,000 s
abbrev pub ticks_of : List ℕ → ℕ
ticks_of bytes = program_clock_reference_base bytes * TICKS_PER_TIME_UNIT + program_clock_reference_extension bytes

-- what the bytes say; where there are none, no flag is set
abbrev pub field_of : List ℕ → AdaptationField
field_of bytes = record {
  discontinuity = discontinuity_indicator bytes == 1;
  pcr = if pcr_flag bytes == 1 then Some (ticks_of bytes) else None;
}

-- a PCR is flagged, and the flags and its six bytes don't fit
abbrev pub is_too_short : List ℕ → Bool
is_too_short bytes = (pcr_flag bytes == 1) && nat_lt (length bytes) 7

-- ---- how it is written

-- 33 bits of base, six reserved ones and 9 bits of extension
abbrev pub written_pcr : Option ℕ → List ℕ
written_pcr None = []
written_pcr (Some ticks) = drop 2 (to_be_bytes w64 (2 ^ 15 * (ticks / TICKS_PER_TIME_UNIT) + 2 ^ 9 * 63 + ticks % TICKS_PER_TIME_UNIT))

-- the two flags in their places; the others are 0
abbrev pub written_flags : AdaptationField → ℕ
written_flags field = 2 ^ 7 * flag field.discontinuity + 2 ^ 4 * flag (is_some field.pcr)

-- n bytes: the flags, the PCR, and stuffing bytes to the end; where there are none, no flag is written
abbrev pub written_field_bytes : AdaptationField → ℕ → List ℕ
written_field_bytes field zero = []
written_field_bytes field (suc n) = written_flags field ∷ written_pcr field.pcr ++ replicate (n - length (written_pcr field.pcr)) 0xFF

-- the length byte and the n bytes behind it, where there is a field
abbrev pub written_field : Option AdaptationField → ℕ → List ℕ
written_field None n = []
written_field (Some field) n = n ∷ written_field_bytes field n

-- what can be written: ticks below the modulus of a base of 33 bits
abbrev pub IsPcrInRange : AdaptationField → Type 0
IsPcrInRange field = IfSome field.pcr (λ ticks. ticks < TICKS_PER_TIME_UNIT * 2 ^ 33)

-- the fewest bytes that have room for its flags and its PCR; without either no byte is needed
abbrev pub least_length : AdaptationField → ℕ
least_length field = if is_some field.pcr then 7 else if field.discontinuity then 1 else 0
