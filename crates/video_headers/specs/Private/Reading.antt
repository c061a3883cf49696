-- Readers of told bits, as steps from what is left to what is left behind them.
use Rattle.std.specs.Prelude.{◌≡◌, ◌+◌, ℕ, List, length, Option, Some, IfSome, Result, MatchResult, IsErrOf}
use Rattle.shelf_io.specs.declared.fault.Fault.TheVariants.{Failed, Missing}
use Rattle.shelf_io.specs.Counts.{Rose}
use Rattle.shelf_io.specs.declared.source.Source.{Ghosts}
use Rattle.bit_cursor.specs.declared.bit_reader.BitReader.{BitReader}
use Rattle.bit_cursor.specs.BitReader.{bits_left, place, faults_of, absences_of}
use Rattle.picture_grammar.specs.Grammar.{Grammar, done}
use Rattle.grammar_reading.specs.BitsRead.{PlacedRefusal}
use Rattle.video_headers.specs.declared.fault.HeadFault.{HeadFault}
use Rattle.video_headers.specs.declared.fault.HeadFault.TheVariants.{Outside}
use Rattle.video_headers.specs.HeadFault.{refusal_told}
use Rattle.video_headers.specs.Runs.{Runs}

-- what a reader has left, which is told, up to an end place
pub record Rests {S : Type 0} {g : Ghosts S} (reader : BitReader S g) (end : ℕ) (bits : List ℕ) : Type 0 where
  pub told : bits_left reader ≡ Some bits
  pub ends : place reader + length bits ≡ end

-- from all bits that may be left the value is spelled, and what follows is left behind it
pub record Goes {A : Type 0} (grammar : Grammar A) (value : A) (from to : ℕ → List ℕ → Type 0) : Type 0 where
  pub on : (end : ℕ) (bits : List ℕ) → from end bits → (rest : List ℕ) × grammar.Spells value bits rest × to end rest

-- where a fault tells a refusal, all bits that may be left are refused so
pub record Stops {A : Type 0} (grammar : Grammar A) (told : Option PlacedRefusal) (from : ℕ → List ℕ → Type 0) : Type 0 where
  pub why : (end : ℕ) (bits : List ℕ) → from end bits → IfSome told (λ said. (left : List ℕ) × grammar.Refuses bits said.refusal left × (said.at + length left ≡ end))

-- A reader's whole answer: it went on in its source, and an answer of the source's own has its cause. From all bits that
-- may be left its value is spelled, with what it says of the bits behind; or they are refused as its fault tells.
pub record Answers {A V : Type 0} {S : Type 0} {g : Ghosts S} (grammar : Grammar A) (value : V → A) (result : Result V HeadFault)
    (from : ℕ → List ℕ → Type 0) (to : V → ℕ → List ℕ → Type 0) (old new : BitReader S g) : Type 0 where
  pub gives : MatchResult result (λ v. Goes grammar (value v) from (to v)) (λ fault. Stops grammar (refusal_told fault) from)
  pub runs : Runs old new
  pub failed : IsErrOf result (Outside Failed) → Rose (faults_of old) (faults_of new)
  pub missing : IsErrOf result (Outside Missing) → Rose (absences_of old) (absences_of new)

-- the answer of a reader of bits alone
abbrev pub AnswersBits : {A : Type 0} {S : Type 0} {g : Ghosts S} → Grammar A → Result A HeadFault → BitReader S g → BitReader S g → Type 0
AnswersBits grammar result old new = Answers grammar (λ v. v) result (Rests old) (λ v. Rests new) old new

-- the answer of a reader that the grammar knows nothing of
abbrev pub AnswersLook : {V : Type 0} {S : Type 0} {g : Ghosts S} → Result V HeadFault → (ℕ → List ℕ → Type 0) → (V → ℕ → List ℕ → Type 0) → BitReader S g → BitReader S g → Type 0
AnswersLook result from to old new = Answers {A = Unit {0}} (done tt) (λ v. tt) result from to old new

-- the answer of a reader whose value the grammar doesn't have
abbrev pub AnswersUnit : {V : Type 0} {S : Type 0} {g : Ghosts S} → Grammar (Unit {0}) → Result V HeadFault → (ℕ → List ℕ → Type 0) → (V → ℕ → List ℕ → Type 0) → BitReader S g → BitReader S g → Type 0
AnswersUnit grammar result from to old new = Answers {A = Unit {0}} grammar (λ v. tt) result from to old new
