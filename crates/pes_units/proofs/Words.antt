-- The written field of a time as one number of 40 bits.
use Rattle.std.proofs.Common.{◌≡◌, ℕ, ◌+◌, ◌*◌, ◌/◌, ◌%◌, ◌^◌, ◌<◌, refl, ◌∙◌, arith}
use Rattle.std.specs.Prelude.{bit_and, bit_or}
use Rattle.std.proofs.lemmas.Nat.{and_mask, or_shifted}
use Rattle.pes_units.specs.VideoHeader.{time_word}

module _ (which high middle low : ℕ) (which_fits : which < 4) (high_fits : high < 2 ^ 3) (middle_fits : middle < 2 ^ 15) (low_fits : low < 2 ^ 15) where
  -- the parts side by side, from the left
  pub word_of_parts : bit_or (bit_or (bit_or (bit_or (bit_or (bit_or (which * 2 ^ 36 % 2 ^ 64) (high * 2 ^ 33 % 2 ^ 64)) (2 ^ 32)) (middle * 2 ^ 17 % 2 ^ 64)) (2 ^ 16)) (low * 2 ^ 1 % 2 ^ 64)) 1 ≡
      2 ^ 36 * which + 2 ^ 33 * high + 2 ^ 32 + 2 ^ 17 * middle + 2 ^ 16 + 2 * low + 1
  word_of_parts =
      let which_whole : which * 2 ^ 36 % 2 ^ 64 ≡ which * 2 ^ 36 = omega arith in
      let high_whole : high * 2 ^ 33 % 2 ^ 64 ≡ high * 2 ^ 33 = omega arith in
      let middle_whole : middle * 2 ^ 17 % 2 ^ 64 ≡ middle * 2 ^ 17 = omega arith in
      let low_whole : low * 2 ^ 1 % 2 ^ 64 ≡ low * 2 ^ 1 = omega arith in
      let one : bit_or (which * 2 ^ 36) (high * 2 ^ 33) ≡ (which * 2 ^ 3 + high) * 2 ^ 33 = or_shifted which 36 (high * 2 ^ 33) (omega arith) ∙ omega arith in
      let two : bit_or ((which * 2 ^ 3 + high) * 2 ^ 33) (2 ^ 32) ≡ (which * 2 ^ 4 + high * 2 + 1) * 2 ^ 32 = or_shifted (which * 2 ^ 3 + high) 33 (2 ^ 32) (omega arith) ∙ omega arith in
      let three : bit_or ((which * 2 ^ 4 + high * 2 + 1) * 2 ^ 32) (middle * 2 ^ 17)
      ≡ (which * 2 ^ 19 + high * 2 ^ 16 + 2 ^ 15 + middle)
      * 2 ^ 17 = or_shifted (which * 2 ^ 4 + high * 2 + 1) 32 (middle * 2 ^ 17) (omega arith) ∙ omega arith in
      let four : bit_or ((which * 2 ^ 19 + high * 2 ^ 16 + 2 ^ 15 + middle) * 2 ^ 17) (2 ^ 16)
      ≡ (which * 2 ^ 20 + high * 2 ^ 17 + 2 ^ 16 + middle * 2 + 1)
      * 2 ^ 16 = or_shifted (which * 2 ^ 19 + high * 2 ^ 16 + 2 ^ 15 + middle) 17 (2 ^ 16) (omega arith) ∙ omega arith in
      let five : bit_or ((which * 2 ^ 20 + high * 2 ^ 17 + 2 ^ 16 + middle * 2 + 1) * 2 ^ 16) (low * 2 ^ 1)
      ≡ (which * 2 ^ 35 + high * 2 ^ 32 + 2 ^ 31 + middle * 2 ^ 16 + 2 ^ 15 + low)
      * 2 ^ 1 = or_shifted (which * 2 ^ 20 + high * 2 ^ 17 + 2 ^ 16 + middle * 2 + 1) 16 (low * 2 ^ 1) (omega arith) ∙ omega arith in
      let six : bit_or ((which * 2 ^ 35 + high * 2 ^ 32 + 2 ^ 31 + middle * 2 ^ 16 + 2 ^ 15 + low) * 2 ^ 1) 1
      ≡ 2 ^ 36 * which + 2 ^ 33 * high + 2 ^ 32 + 2 ^ 17 * middle + 2 ^ 16 + 2 * low
      + 1 = or_shifted (which * 2 ^ 35 + high * 2 ^ 32 + 2 ^ 31 + middle * 2 ^ 16 + 2 ^ 15 + low) 1 1 (omega arith) ∙ omega arith in
      rw (which_whole, high_whole, middle_whole, low_whole, one, two, three, four, five, six) refl

pub time_word-code : (which time : ℕ) → which < 4 → time < 2 ^ 33 →
    bit_or (bit_or (bit_or (bit_or (bit_or (bit_or (which * 2 ^ 36 % 2 ^ 64) (time / 2 ^ 30 * 2 ^ 33 % 2 ^ 64)) (2 ^ 32))
    (bit_and (time / 2 ^ 15) 32767 * 2 ^ 17 % 2 ^ 64)) (2 ^ 16)) (bit_and time 32767 * 2 ^ 1 % 2 ^ 64)) 1 ≡ time_word which time
time_word-code which time which_fits time_fits =
    rw (and_mask (time / 2 ^ 15) 15, and_mask time 15)
    (word_of_parts which (time / 2 ^ 30) (time / 2 ^ 15 % 2 ^ 15) (time % 2 ^ 15) which_fits (omega arith) (omega arith) (omega arith))
