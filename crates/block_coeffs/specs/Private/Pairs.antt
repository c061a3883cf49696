-- The coefficients behind those that were read before, in parts of a call that reads a block.
use Rattle.std.specs.Prelude.{◌≡◌, ◌≤◌, ℕ, List, Option, Result, OnOk, IfErr, IfSome, length}
use Rattle.shelf_io.specs.declared.source.Source.{Ghosts}
use Rattle.bit_cursor.specs.declared.bit_reader.BitReader.{BitReader}
use Rattle.bit_cursor.specs.BitReader.{bits_left, place}
use Rattle.syntax_types.specs.declared.block.TheConstants.{BLOCK_PLACES}
use Rattle.syntax_types.specs.declared.block.BlockWay.{BlockWay}
use Rattle.syntax_types.specs.declared.block.RunLevel.{RunLevel}
use Rattle.picture_grammar.specs.Grammar.{many}
use Rattle.picture_grammar.specs.Block.{coefficient, next_place}
use Rattle.grammar_reading.specs.BitsRead.{ReadsFrom, ExplainsFrom}
use Rattle.grammar_reading.specs.Several.{several}
use Rattle.block_coeffs.specs.declared.fault.BlockFault.{BlockFault}
use Rattle.block_coeffs.specs.BlockFault.{refusal_told}

-- a place is the one behind these coefficients
pub record IsBehind (way : BlockWay) (index : ℕ) (before : List RunLevel) : Type 0 where
  pub is : index ≡ next_place way before
  pub few : length before ≤ index
  pub within : index ≤ BLOCK_PLACES

-- where those before were read of some bits, all up to the end of block were read of them
abbrev pub ReadsOn : {T S : Type 0} {g : Ghosts S} → BlockWay → List RunLevel → List RunLevel → Result T BlockFault → BitReader S g → BitReader S g → Type 0
ReadsOn way before all result old new = (bits : Option (List ℕ)) (at : ℕ) → ReadsFrom (several (coefficient way)) before bits (bits_left old) at (place old)
    → OnOk result (ReadsFrom (many (coefficient way)) (all, tt) bits (bits_left new) at (place new))

-- where those before were read of some bits, the fault tells how these are refused
abbrev pub RefusesOn : {T S : Type 0} {g : Ghosts S} → BlockWay → List RunLevel → Result T BlockFault → BitReader S g → Type 0
RefusesOn way before result old = (bits : Option (List ℕ)) (at : ℕ) → ReadsFrom (several (coefficient way)) before bits (bits_left old) at (place old)
    → IfErr result (λ fault. IfSome bits (λ told. ExplainsFrom (many (coefficient way)) (refusal_told fault) told at))
