-- Times of PES headers have 33 bits.
use Rattle.std.proofs.Common.{ℕ, ◌+◌, ◌*◌, ◌^◌, ◌<◌, ◌==◌, nat_le, Bool, true, false, List, Option, Some, None, IfSome, if◌then◌else◌, arith}
use Rattle.bit_lists.specs.Fields.{bits}
use Rattle.bit_lists.proofs.WordLemmas.{bits_below}
use Rattle.pes_units.specs.Times.{decoding_of, decoding_time, pts_dts_flags, time_at, times_of}

below_33 : (a b c : ℕ) → a < 8 → b < 32768 → c < 32768 → 1073741824 * a + 32768 * b + c < 8589934592
below_33 a b c al bl cl = omega arith

time_below : (bytes : List ℕ) (place : ℕ) → time_at bytes place < 2 ^ 33
time_below bytes place = below_33 (bits bytes (8 * place + 4) 3) (bits bytes (8 * place + 8) 15) (bits bytes (8 * place + 24) 15)
    (bits_below bytes (8 * place + 4) 3) (bits_below bytes (8 * place + 8) 15) (bits_below bytes (8 * place + 24) 15)

-- a decoding time in range
abbrev pub IsInRange : Option ℕ → Type 0
IsInRange time = IfSome time (λ n. n < 2 ^ 33)

pub decoding_in_range : (bytes : List ℕ) → IsInRange (decoding_time (times_of bytes))
decoding_in_range bytes = by_tests (pts_dts_flags bytes == 3) (nat_le 2 (pts_dts_flags bytes))
  where
    by_tests : (both pts : Bool) → IsInRange (decoding_of (if both then Some (time_at bytes 14) else None) (if pts then Some (time_at bytes 9) else None))
    by_tests true pts = time_below bytes 14
    by_tests false true = time_below bytes 9
    by_tests false false = tt
