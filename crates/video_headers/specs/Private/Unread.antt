-- Bits that nobody reads, up to a start code.
use Rattle.std.specs.Prelude.{◌%◌, ℕ, List, [], length}
use Rattle.shelf_io.specs.declared.source.Source.{Ghosts}
use Rattle.bit_lists.specs.Bits.{IsPrefix}
use Rattle.bit_cursor.specs.declared.bit_reader.BitReader.{BitReader}
use Rattle.picture_grammar.specs.Grammar.{Grammar, done, ◌>>=◌, if_next, at_bits, many, one_item_more, Next}
use Rattle.picture_grammar.specs.Grammar.Next.{last}
use Rattle.picture_grammar.specs.Element.{uimsbf}
use Rattle.picture_grammar.specs.StartCode.{start_code_prefix}
use Rattle.picture_grammar.specs.Head.{unread}
use Rattle.grammar_reading.specs.Several.{several}
use Rattle.video_headers.specs.Private.Wholes.{Wholes}

-- the bits to a whole byte
abbrev pub bits_to_byte : Grammar ℕ
bits_to_byte = at_bits (λ bits. uimsbf (length bits % 8) [])

-- one more byte, or the start code prefix behind them
abbrev pub unread_item : List ℕ → Grammar (Next ℕ (Unit {0}))
unread_item before = if_next (IsPrefix start_code_prefix) (done (last tt)) (one_item_more (uimsbf 8 []))

-- the bytes up to a start code prefix, without their values
abbrev pub passed_bytes : Grammar (Unit {0})
passed_bytes = many unread_item >>= λ bytes. done tt

-- all that isn't read, without its bytes
abbrev pub unread_bytes : Grammar (Unit {0})
unread_bytes = unread >>= λ bytes. done tt

-- bytes were passed
pub record BytesPassed {S : Type 0} {g : Ghosts S} (reader : BitReader S g) (end : ℕ) (bits : List ℕ) : Type 0 where
  pub bytes : List ℕ
  pub here : List ℕ
  pub spelled : (several unread_item).Spells bytes bits here
  pub left : Wholes reader end here
