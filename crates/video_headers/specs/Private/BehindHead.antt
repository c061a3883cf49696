-- Where a reader of told bits stands behind a head.
use Rattle.std.specs.Prelude.{◌≡◌, ◌+◌, ◌*◌, ℕ, List, length}
use Rattle.shelf_io.specs.declared.source.Source.{Ghosts}
use Rattle.bit_cursor.specs.declared.bit_reader.BitReader.{BitReader}
use Rattle.picture_grammar.specs.Refusal.Refusal.{BadHeader}
use Rattle.picture_grammar.specs.StartCode.{start_code}
use Rattle.stream_constants.specs.SliceCodes.{is_slice}
use Rattle.video_headers.specs.declared.head.HeadEnd.{HeadEnd}
use Rattle.video_headers.specs.Private.Wholes.{Wholes}

-- behind the start code of the first slice, which stands behind the head
pub record BehindHead {S : Type 0} {g : Ghosts S} (found : HeadEnd) (reader : BitReader S g) (end : ℕ) (rest : List ℕ) : Type 0 where
  pub behind : List ℕ
  pub slice : (start_code BadHeader is_slice).Spells found.first_slice rest behind
  pub left : Wholes reader end behind
  pub size : 8 * found.headers.slices_at + length rest ≡ end
