-- Where a reader stands in the macroblocks of a slice (ISO/IEC 13818-2, 6.2.4).
use Rattle.std.specs.Prelude.{◌≡◌, ◌==◌, ℕ, List, length, Bool, if◌then◌else◌}
use Rattle.syntax_types.specs.declared.macroblock.Macroblock.{Macroblock}
use Rattle.syntax_types.specs.declared.picture.SeqState.{SeqState}
use Rattle.picture_grammar.specs.Grammar.{Next}
use Rattle.picture_grammar.specs.Grammar.Next.{more, last}
use Rattle.picture_grammar.specs.Slice.{columns_left}
use Rattle.macroblock_reader.specs.declared.cursor.SliceCursor.{SliceCursor}

-- a cursor stands behind these macroblocks of a slice, which are all that were read of it
pub record StandsBehind (seq : SeqState) (before : List Macroblock) (cursor : SliceCursor) : Type 0 where
  pub first : cursor.first ≡ (length before == 0)
  pub left : cursor.columns_left ≡ columns_left seq before

-- the columns of the row that are left behind them
abbrev pub columns_behind : SliceCursor → ℕ
columns_behind cursor = cursor.columns_left

-- one more macroblock, which was lent, or the close of the slice
abbrev pub next_of : Macroblock → Bool → Next Macroblock (Unit {0})
next_of lent is_more = if is_more then more lent else last tt
