-- Why no element stands at some bits, and the faults that say so.
use Rattle.std.specs.Prelude.{ℕ}
use Rattle.bit_cursor.specs.declared.fault.BitFault.{BitFault}
use Rattle.bit_cursor.specs.declared.fault.BitFault.TheVariants as bits
use Rattle.picture_grammar.specs.Refusal.{Refusal}
use Rattle.macroblock_reader.specs.declared.fault.SliceFault.{SliceFault}
use Rattle.macroblock_reader.specs.declared.fault.SliceFault.TheVariants as fault
use Rattle.macroblock_reader.specs.declared.why.Why.{Why}
use Rattle.macroblock_reader.specs.declared.why.Why.TheVariants as why

-- the kind of refusal in the grammar
abbrev pub refusal_of : Why → Refusal
refusal_of why.NoCode = Refusal.NoCode
refusal_of why.BadType = Refusal.BadType
refusal_of why.BadAddress = Refusal.BadAddress
refusal_of why.BadPattern = Refusal.BadPattern
refusal_of why.End = Refusal.End

-- the fault that names it, at a place in bits
abbrev pub fault_at : Why → ℕ → SliceFault
fault_at why.NoCode at = fault.NoCode at
fault_at why.BadType at = fault.BadType at
fault_at why.BadAddress at = fault.BadAddress at
fault_at why.BadPattern at = fault.BadPattern at
fault_at why.End at = fault.End at

-- the fault of a reader of bits that stands at this place
abbrev pub fault_of_bits : BitFault → ℕ → SliceFault
fault_of_bits bits.End at = fault.End at
fault_of_bits (bits.Outside outside) at = fault.Outside outside
