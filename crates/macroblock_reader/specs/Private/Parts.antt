-- Parts of macroblocks as the reader holds them.
use Rattle.std.specs.Prelude.{◌≡◌, ◌+◌, ◌*◌, ◌/◌, ◌%◌, ◌==◌, ℕ, ℤ, Option, Some, None, Bool, List, [], ◌∷◌, length, take, if◌then◌else◌}
use Rattle.std.specs.List.{range_with_len}
use Rattle.shelf_io.specs.declared.source.Source.{Ghosts}
use Rattle.bit_cursor.specs.declared.bit_reader.BitReader.{BitReader}
use Rattle.prefix_codes.specs.declared.symbol.TheConstants.{QUANT, FORWARD, BACKWARD, PATTERN, INTRA}
use Rattle.bit_cursor.specs.BitReader.{KeepsSource}
use Rattle.syntax_types.specs.declared.block.Block.{Block}
use Rattle.syntax_types.specs.declared.macroblock.TheConstants.{BLOCKS}
use Rattle.syntax_types.specs.declared.macroblock.Kind.{Kind}
use Rattle.syntax_types.specs.declared.picture.PicCoding.{PicCoding}
use Rattle.picture_grammar.specs.Grammar.{Grammar, when, each}
use Rattle.picture_grammar.specs.Block.{block}
use Rattle.grammar_reading.specs.BitsRead.{Reads}
use Rattle.picture_grammar.specs.Motion.{MotionFormat, Part}
use Rattle.picture_grammar.specs.Macroblock.{address_code, is_coded, block_way, no_block}
use Rattle.syntax_types.specs.declared.macroblock.Macroblock.{Macroblock}
use Rattle.syntax_types.specs.declared.picture.SeqState.{SeqState}
use Rattle.picture_grammar.specs.Slice.{next_macroblock}
use Rattle.macroblock_reader.specs.declared.cursor.SliceCursor.{SliceCursor}
use Rattle.macroblock_reader.specs.SliceCursor.{StandsBehind}
use Rattle.macroblock_reader.specs.Private.Answers.{Listed}
use Rattle.macroblock_reader.specs.declared.motion.VectorFormat.{VectorFormat}
use Rattle.macroblock_reader.specs.declared.motion.VectorPart.{VectorPart}

-- the flags of a symbol of macroblock_type
abbrev pub kind_by : ℕ → Kind
kind_by symbol = record {
  quant = symbol / QUANT % 2 == 1;
  forward = symbol / FORWARD % 2 == 1;
  backward = symbol / BACKWARD % 2 == 1;
  pattern = symbol / PATTERN % 2 == 1;
  intra = symbol / INTRA % 2 == 1;
}

-- how vectors are coded, in the grammar's words
abbrev pub format_of : VectorFormat → MotionFormat
format_of format = record { count = if format.two then 2 else 1; select = format.select; dual = format.dual }

-- a part of a vector, in the grammar's words
abbrev pub part_of : VectorPart → Part
part_of part = record { code = part.code; residual = part.residual; difference = part.difference }

-- the dmvectors of both parts, where they stand
abbrev pub differences_by : Bool → ℤ → ℤ → Option (List ℤ)
differences_by dual horizontal vertical = if dual then Some (horizontal ∷ vertical ∷ []) else None

-- so many columns of a row are left behind these escapes, which were read
pub record EscapesRead {S : Type 0} {g : Ghosts S} (most left : ℕ) (old now : BitReader S g) : Type 0 where
  pub escapes : List (Unit {0})
  pub counted : 33 * length escapes + left ≡ most
  pub listed : Listed (address_code most) escapes old now

-- block i of a macroblock, where it is coded
abbrev pub block_at : PicCoding → Kind → ℕ → ℕ → Grammar Block
block_at coding kind pattern i = when (is_coded kind pattern i) (block (block_way coding kind i)) no_block

-- the first blocks of a macroblock were read into the front of the blocks that are lent
pub record BlocksRead {S : Type 0} {g : Ghosts S} (coding : PicCoding) (kind : Kind) (pattern i : ℕ) (into : List Block) (old now : BitReader S g) : Type 0 where
  pub six : length into ≡ BLOCKS
  pub reads : Reads (each (range_with_len 0 i) (block_at coding kind pattern)) (take i into) old now
  pub keeps : KeepsSource old now

-- these macroblocks of a slice were read, and the cursor stands behind them
pub record MacroblocksRead {S : Type 0} {g : Ghosts S} (seq : SeqState) (coding : PicCoding) (macroblocks : List Macroblock) (cursor : SliceCursor) (old now : BitReader S g) : Type 0 where
  pub listed : Listed (next_macroblock seq coding) macroblocks old now
  pub stands : StandsBehind seq macroblocks cursor
