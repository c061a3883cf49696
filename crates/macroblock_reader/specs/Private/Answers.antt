-- The whole answer of a reader, and how far a grammar was read.
use Rattle.std.specs.Prelude.{◌≡◌, ◌+◌, ℕ, List, ◌++◌, length, Result, Ok, Err, IfOk, IfErr, IsErrOf}
use Rattle.std.specs.Option.{option_map}
use Rattle.shelf_io.specs.declared.source.Source.{Ghosts}
use Rattle.shelf_io.specs.declared.fault.Fault.TheVariants.{Failed, Missing}
use Rattle.shelf_io.specs.Counts.{Rose}
use Rattle.bit_cursor.specs.declared.bit_reader.BitReader.{BitReader}
use Rattle.bit_cursor.specs.BitReader.{bits_left, place, faults_of, absences_of, KeepsSource}
use Rattle.picture_grammar.specs.Refusal.{Refusal}
use Rattle.picture_grammar.specs.Grammar.{Grammar, Next}
use Rattle.grammar_reading.specs.BitsRead.{Reads, Explains, Advances}
use Rattle.grammar_reading.specs.Several.{several}
use Rattle.macroblock_reader.specs.declared.fault.SliceFault.{SliceFault}
use Rattle.macroblock_reader.specs.declared.fault.SliceFault.TheVariants.{Outside, OutOfMemory}
use Rattle.macroblock_reader.specs.SliceFault.{refusal_told}

-- the answer with another value in place of the one that was given
abbrev pub answer_as : {A B E : Type 0} → (A → B) → Result A E → Result B E
answer_as made (Ok value) = Ok (made value)
answer_as made (Err fault) = Err fault

-- A reader's answer: the value that was read, or the refusal of the next bits, or a fault of the source. Want of memory
-- is answered only where this may be.
pub record Answers {A : Type 0} {S : Type 0} {g : Ghosts S} (MayWant : Type 0) (grammar : Grammar A) (result : Result A SliceFault) (old new : BitReader S g) : Type 0 where
  pub ok : IfOk result (λ value. Reads grammar value old new)
  pub refused : IfErr result (λ fault. Explains grammar old (refusal_told fault))
  pub advances : Advances old new
  pub failed : IsErrOf result (Outside Failed) → Rose (faults_of old) (faults_of new)
  pub missing : IsErrOf result (Outside Missing) → Rose (absences_of old) (absences_of new)
  pub memory : IsErrOf result OutOfMemory → MayWant
  pub keeps : KeepsSource old new

-- Behind the bits that were taken, the rest of a grammar is left to be read: what that spells and refuses there, the whole
-- does from the first bit on.
pub record Course {A : Type 0} {S : Type 0} {g : Ghosts S} (whole rest : Grammar A) (old now : BitReader S g) : Type 0 where
  pub front : List ℕ
  pub left : bits_left old ≡ option_map (λ others. front ++ others) (bits_left now)
  pub moved : place now ≡ place old + length front
  pub spelled : (value : A) (middle after : List ℕ) → rest.Spells value middle after → whole.Spells value (front ++ middle) after
  pub refused : (refusal : Refusal) (middle others : List ℕ) → rest.Refuses middle refusal others → whole.Refuses (front ++ middle) refusal others
  pub keeps : KeepsSource old now

-- the first values of a list were read, behind which more of them or the end may follow
pub record Listed {A B : Type 0} {S : Type 0} {g : Ghosts S} (next : List A → Grammar (Next A B)) (values : List A) (old now : BitReader S g) : Type 0 where
  pub reads : Reads (several next) values old now
  pub keeps : KeepsSource old now
