-- What a reader has left, in whole bytes.
use Rattle.std.specs.Prelude.{◌≡◌, ◌%◌, ℕ, List, length}
use Rattle.shelf_io.specs.declared.source.Source.{Ghosts}
use Rattle.bit_cursor.specs.declared.bit_reader.BitReader.{BitReader}
use Rattle.video_headers.specs.Private.Reading.{Rests}

-- what a reader has left, up to an end place, is whole bytes
pub record Wholes {S : Type 0} {g : Ghosts S} (reader : BitReader S g) (end : ℕ) (bits : List ℕ) : Type 0 where
  pub rests : Rests reader end bits
  pub whole : length bits % 8 ≡ 0
  pub ends : end % 8 ≡ 0
