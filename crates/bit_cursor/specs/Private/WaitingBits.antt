-- Bits that wait in a word.
use Rattle.std.specs.Prelude.{ℕ, ◌<◌, ◌^◌}

-- a number of so many bits, fewer than 32
pub record IsWord (word count : ℕ) : Type 0 where
  pub few : count < 32
  pub fits : word < 2 ^ count
