-- What a head that was read says of the bits or bytes before it and behind it.
use Rattle.std.specs.Prelude.{◌≡◌, ◌<◌, ◌≤◌, ◌+◌, ◌*◌, ℕ, List, length, Option, Some}
use Rattle.shelf_io.specs.declared.source.Source.{Ghosts}
use Rattle.shelf_io.specs.Source.{without_front}
use Rattle.bit_lists.specs.Fields.{bit_list}
use Rattle.bit_cursor.specs.declared.bit_reader.BitReader.{BitReader}
use Rattle.bit_cursor.specs.BitReader.{bits_left, place}
use Rattle.syntax_types.specs.declared.picture.SeqState.{SeqState}
use Rattle.picture_grammar.specs.Refusal.Refusal.{BadHeader}
use Rattle.picture_grammar.specs.Head.{head}
use Rattle.picture_grammar.specs.StartCode.{start_code}
use Rattle.stream_constants.specs.SliceCodes.{is_slice}
use Rattle.video_headers.specs.declared.head.Headers.{Headers}
use Rattle.video_headers.specs.declared.head.HeadEnd.{HeadEnd}

-- the bits spell this head of so many bytes, then zero bytes and the first slice's start code, which ends before the bits behind
pub record BeginsWithHead (before : Option SeqState) (headers : Headers) (first_slice : ℕ) (bits behind : List ℕ) : Type 0 where
  pub rest : List ℕ
  pub spelled : (head before).Spells (headers.seq, headers.coding) bits rest
  pub size : 8 * headers.slices_at + length rest ≡ length bits
  pub slice : (start_code BadHeader is_slice).Spells first_slice rest behind

-- the bits begin with this head, and a reader stands behind the first slice's start code
pub record HeadRead {S : Type 0} {g : Ghosts S} (before : Option SeqState) (found : HeadEnd) (bits : List ℕ) (reader : BitReader S g) : Type 0 where
  pub behind : List ℕ
  pub begins : BeginsWithHead before found.headers found.first_slice bits behind
  pub left : bits_left reader ≡ Some behind
  pub moved : place reader + length behind ≡ length bits

-- The bytes begin with a head that says this, and a source has those left behind the ones that were taken: these reach up to
-- the end of the first slice's start code, and less than five bytes further.
pub record HeadersRead (before : Option SeqState) (headers : Headers) (bytes : List ℕ) (after : Option (List ℕ)) : Type 0 where
  pub first_slice : ℕ
  pub behind : List ℕ
  pub begins : BeginsWithHead before headers first_slice (bit_list bytes) behind
  pub taken : ℕ
  pub left : after ≡ without_front (Some bytes) taken
  pub reached : length (bit_list bytes) ≤ 8 * taken + length behind
  pub ahead : 8 * taken + length behind < length (bit_list bytes) + 8 * 5
