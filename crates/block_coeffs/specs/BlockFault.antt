-- What a fault tells of the bits that were refused.
use Rattle.std.specs.Prelude.{Option, Some, None}
use Rattle.picture_grammar.specs.Refusal.{Refusal}
use Rattle.grammar_reading.specs.BitsRead.{PlacedRefusal}
use Rattle.block_coeffs.specs.declared.fault.BlockFault.{BlockFault}
use Rattle.block_coeffs.specs.declared.fault.BlockFault.TheVariants.{NoCode, TooMany, BadEscape, End, Outside}

-- the kind and the place of their refusal, and nothing where the source failed
abbrev pub refusal_told : BlockFault → Option PlacedRefusal
refusal_told (NoCode at) = Some (record { refusal = Refusal.NoCode; at = at })
refusal_told (TooMany at) = Some (record { refusal = Refusal.TooMany; at = at })
refusal_told (BadEscape at) = Some (record { refusal = Refusal.BadEscape; at = at })
refusal_told (End at) = Some (record { refusal = Refusal.End; at = at })
refusal_told (Outside fault) = None
