-- Bytes that went from the source of a reader into bits that aren't its own yet.
use Rattle.std.proofs.Common.{◌≡◌, ℕ, ◌+◌, ◌*◌, ◌≤◌, List, Option, Some, cond, is_some, subst}
use Rattle.shelf_io.specs.declared.source.Source.{Ghosts}
use Rattle.shelf_io.specs.Source.{Takes}
use Rattle.bit_cursor.specs.declared.bit_reader.BitReader.{BitReader}
use Rattle.bit_cursor.specs.BitReader.{TakesBytes, bits_held}
use Rattle.bit_cursor.specs.Shown.{bytes_beyond}

-- behind those that were held before come as many bits as were taken
pub record TakenSoFar {S : Type 0} {g : Ghosts S} (n : ℕ) (old now : BitReader S g) (held : ℕ) : Type 0 where
  pub count : ℕ
  pub asked : count ≤ bytes_beyond (bits_held old) n
  pub came : held ≡ bits_held old + 8 * count
  pub taken : TakesBytes old now count

-- a call that took so many as a number
pub takes_number : (told after : Option (List ℕ)) (most most_after count : ℕ) (taken : Option ℕ) (number : ℕ) → Takes told after most most_after (cond (is_some taken) count 0)
    → taken ≡ Some number → Takes told after most most_after count
takes_number told after most most_after count taken number takes is = subst (λ o. Takes told after most most_after (cond (is_some o) count 0)) is takes
