-- What a fault tells of the bits that were refused.
use Rattle.std.specs.Prelude.{Option, Some, None}
use Rattle.picture_grammar.specs.Refusal.{Refusal}
use Rattle.grammar_reading.specs.BitsRead.{PlacedRefusal}
use Rattle.block_coeffs.specs.declared.fault.BlockFault.{BlockFault}
use Rattle.block_coeffs.specs.declared.fault.BlockFault.TheVariants as block
use Rattle.macroblock_reader.specs.declared.fault.SliceFault.{SliceFault}
use Rattle.macroblock_reader.specs.declared.fault.SliceFault.TheVariants.{NoCode, TooMany, BadEscape, BadType, BadAddress, BadPattern, End, Outside, OutOfMemory}

-- the kind and the place of their refusal, and nothing where the source failed or memory was wanted
abbrev pub refusal_told : SliceFault → Option PlacedRefusal
refusal_told (NoCode at) = Some (record { refusal = Refusal.NoCode; at = at })
refusal_told (TooMany at) = Some (record { refusal = Refusal.TooMany; at = at })
refusal_told (BadEscape at) = Some (record { refusal = Refusal.BadEscape; at = at })
refusal_told (BadType at) = Some (record { refusal = Refusal.BadType; at = at })
refusal_told (BadAddress at) = Some (record { refusal = Refusal.BadAddress; at = at })
refusal_told (BadPattern at) = Some (record { refusal = Refusal.BadPattern; at = at })
refusal_told (End at) = Some (record { refusal = Refusal.End; at = at })
refusal_told (Outside fault) = None
refusal_told OutOfMemory = None

-- the same fault of a block, said of its macroblock
abbrev pub fault_of_block : BlockFault → SliceFault
fault_of_block (block.NoCode at) = NoCode at
fault_of_block (block.TooMany at) = TooMany at
fault_of_block (block.BadEscape at) = BadEscape at
fault_of_block (block.End at) = End at
fault_of_block (block.Outside outside) = Outside outside
