-- What faults tell, where all bits are told.
use Rattle.std.specs.Prelude.{◌≡◌, ◌+◌, ℕ, List, length, Option, Some, IfSome}
use Rattle.picture_grammar.specs.Grammar.{Grammar}
use Rattle.grammar_reading.specs.BitsRead.{PlacedRefusal}
use Rattle.shelf_io.specs.declared.fault.Fault.TheVariants as outside
use Rattle.macroblock_reader.specs.declared.fault.SliceFault.{SliceFault}
use Rattle.macroblock_reader.specs.declared.fault.SliceFault.TheVariants.{NoCode, TooMany, BadEscape, BadType, BadAddress, BadPattern, End, Outside, OutOfMemory}

-- where a fault tells a refusal, these bits, up to an end place, are refused so
abbrev pub RefusesTold : {A : Type 0} → Grammar A → Option PlacedRefusal → ℕ → List ℕ → Type 0
RefusesTold grammar told end bits = IfSome told (λ said. (left : List ℕ) × grammar.Refuses bits said.refusal left × (said.at + length left ≡ end))

-- no source failed
abbrev pub IsInside : SliceFault → Type 0
IsInside (Outside outside.Failed) = ⊥
IsInside (Outside outside.Missing) = ⊥
IsInside (Outside outside.OutOfMemory) = Unit {0}
IsInside (NoCode at) = Unit {0}
IsInside (TooMany at) = Unit {0}
IsInside (BadEscape at) = Unit {0}
IsInside (BadType at) = Unit {0}
IsInside (BadAddress at) = Unit {0}
IsInside (BadPattern at) = Unit {0}
IsInside (End at) = Unit {0}
IsInside OutOfMemory = Unit {0}
