-- Lists read one value at a time.
use Rattle.std.proofs.Common.{List, [], ◌∷◌, ◌++◌, Err, Ok}
use Rattle.shelf_io.specs.declared.source.Source.{Ghosts}
use Rattle.bit_cursor.specs.declared.bit_reader.BitReader.{BitReader}
use Rattle.bit_cursor.specs.BitReader.{bits_left, place, faults_of, absences_of, KeepsSource}
use Rattle.bit_cursor.proofs.Source.{keeps_then}
use Rattle.picture_grammar.specs.Grammar.{Grammar, many, Next}
use Rattle.picture_grammar.specs.Grammar.Next.{more, last}
use Rattle.grammar_reading.specs.Several.{several}
use Rattle.grammar_reading.proofs.BitsRead.{StandsBefore, advances-on, reads-advances}
use Rattle.grammar_reading.proofs.Several.{reads-none, reads-more, reads-end, explains-list}
use Rattle.macroblock_reader.specs.declared.fault.SliceFault.{SliceFault}
use Rattle.macroblock_reader.specs.SliceFault.{refusal_told}
use Rattle.macroblock_reader.specs.Private.Answers.{Answers, Listed}
use Rattle.macroblock_reader.proofs.Courses.{answers-read, rose-on, err-same}

module _ {A B S : Type 0} {g : Ghosts S} (next : List A → Grammar (Next A B)) where
  pub listed-none : (reader : BitReader S g) → KeepsSource reader reader → Listed next [] reader reader
  listed-none reader keeps = record { reads = reads-none next (bits_left reader) (place reader); keeps = keeps }

  module _ (keeps_on : (x y z : S) → g.keeps x y → g.keeps y z → g.keeps x z) (values : List A) {old middle new : BitReader S g} (so_far : Listed next values old middle) where
    pub listed-more : {M : Type 0} (value : A) → StandsBefore (several next) values (next values) (more value)
        → Answers M (next values) (Ok (more value)) middle new → Listed next (values ++ value ∷ []) old new
    listed-more value before a = record { reads = reads-more next before so_far.reads a.ok; keeps = keeps_then keeps_on so_far.keeps a.keeps }

    pub listed-end : {M : Type 0} (end : B) → StandsBefore (several next) values (next values) (last end)
        → Answers M (next values) (Ok (last end)) middle new → Answers M (many next) (Ok (values, end)) old new
    listed-end end before a = answers-read (many next) (values, end) old new (reads-end next before so_far.reads a.ok) (keeps_then keeps_on so_far.keeps a.keeps)

    pub listed-err : {M : Type 0} {fault : SliceFault} → Answers M (next values) (Err fault) middle new → Answers M (many next) (Err fault) old new
    listed-err {fault = fault} a = record {
      ok = tt;
      refused = explains-list next (refusal_told fault) so_far.reads a.refused;
      advances = advances-on (reads-advances so_far.reads) a.advances;
      failed = λ is. rose-on (faults_of old) (faults_of middle) (faults_of new) so_far.keeps.faults a.keeps.faults (a.failed (err-same _ _ is));
      missing = λ is. rose-on (absences_of old) (absences_of middle) (absences_of new) so_far.keeps.absences a.keeps.absences (a.missing (err-same _ _ is));
      memory = λ is. a.memory (err-same _ _ is);
      keeps = keeps_then keeps_on so_far.keeps a.keeps;
    }
