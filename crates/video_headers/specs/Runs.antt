-- How a reader of bits goes on in its source.
use Rattle.std.specs.Prelude.{◌≡◌, ◌+◌, ◌*◌, ◌≤◌, ℕ}
use Rattle.shelf_io.specs.declared.source.Source.{Ghosts}
use Rattle.bit_cursor.specs.declared.bit_reader.BitReader.{BitReader}
use Rattle.bit_cursor.specs.BitReader.{bits_held, place, TakesBytes, KeepsSource}

-- a reader went on in its source: it keeps what it borrows, and took so many bytes of it as the bits that it gave and holds call for
pub record Runs {S : Type 0} {g : Ghosts S} (old new : BitReader S g) : Type 0 where
  pub keeps : KeepsSource old new
  pub count : ℕ
  pub taken : TakesBytes old new count
  pub counted : place new + bits_held new ≡ place old + bits_held old + 8 * count
  pub onward : place old ≤ place new
