-- What a reader of bits gives, shows and takes (ISO/IEC 13818-2, 5.2: most significant bit first).
use Rattle.std.specs.Prelude.{◌≡◌, ℕ, ◌+◌, ◌-◌, ◌*◌, ◌/◌, ◌≤◌, List, ◌++◌, length, take, replicate, min}
use Rattle.bit_lists.specs.Bits.{bits_of, number_of, front_of}

-- the first n bits, filled up with zero bits where there are fewer
abbrev pub zero_filled : ℕ → List ℕ → List ℕ
zero_filled n bits = take n (bits ++ replicate n 0)

-- a number is the one in the first n bits
pub record IsFirstNumber (n : ℕ) (bits : List ℕ) (number : ℕ) : Type 0 where
  pub enough : n ≤ length bits
  pub value : number ≡ number_of (take n bits)
  pub front : take n bits ≡ bits_of n number

-- a window of n bits shows the first bits of a list, so many as there are, and then zero bits
pub record IsWindow (n : ℕ) (bits : List ℕ) (shown count : ℕ) : Type 0 where
  pub known : count ≡ min n (length bits)
  pub window : shown ≡ number_of (zero_filled n bits)
  pub front : front_of n shown count ≡ take n bits

-- the whole bytes that hold those of n bits that aren't among the held ones
abbrev pub bytes_beyond : ℕ → ℕ → ℕ
bytes_beyond held n = (n - held + 7) / 8

-- the next place at a whole byte, or the same one where it is at one
abbrev pub byte_aligned : ℕ → ℕ
byte_aligned place = (place + 7) / 8 * 8
