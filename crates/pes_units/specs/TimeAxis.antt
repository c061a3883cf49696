-- Times on one axis, in units of 1/90,000 s: the fields of PES headers count modulo 2^33 (ISO/IEC 13818-1, 2.4.3.7).
use Rattle.std.specs.Prelude.{◌≡◌, ℕ, ◌^◌, ℤ, pos, ◌+ℤ◌, ◌-ℤ◌, ◌*ℤ◌, ◌≤ℤ◌, ◌<ℤ◌}

-- the time is congruent to the value modulo 2^33, less than 2^32 before and at most 2^32 after the time before it
pub record IsUnwrapped (before : ℤ) (value : ℕ) (time : ℤ) : Type 0 where
  pub congruent : (turns : ℤ) × (time ≡ pos value +ℤ turns *ℤ pos (2 ^ 33))
  pub not_too_early : (before -ℤ pos (2 ^ 32)) <ℤ time
  pub not_too_late : time ≤ℤ (before +ℤ pos (2 ^ 32))
