-- The times of a program by what is read off it.
use Rattle.std.proofs.Common.{◌≡◌, ℕ, ◌≤◌, ◌↔◌, Bool, true, false, IsTrue, List, [], ◌∷◌, All, map, sym, subst, ◌∙◌}
use Rattle.std.proofs.lemmas.List.Elements.{All-cons, All-head, All-map, All-nil, All-tail}
use Rattle.passed_programs.specs.declared.passed_program.PassedProgram.{PassedProgram}
use Rattle.passed_programs.specs.PassedProgram.{IsReadOff}
use Rattle.program_reader.specs.declared.program.AudioPiece.{AudioPiece}
use Rattle.program_reader.specs.declared.program.AudioSource.{AudioSource}
use Rattle.program_reader.specs.declared.program.Program.{Program}
use Rattle.program_reader.specs.declared.program.UnitSource.{UnitSource}
use Rattle.job_programs.specs.Programs.{last_time}
use Rattle.job_programs.specs.Private.Behind.{IsPieceBy, KeepsTime}

abbrev AreBy : (last : ℕ) → List AudioPiece → Type 0
AreBy last pieces = All (IsPieceBy last) pieces

streams-back : (last : ℕ) (audios : List AudioSource) → All (AreBy last) (map (λ (audio : AudioSource). audio.pieces) audios) → All (λ audio. All (IsPieceBy last) audio.pieces) audios
streams-back last [] all = All-nil (λ (audio : AudioSource). All (IsPieceBy last) audio.pieces)
streams-back last (a ∷ more) all =
    All-cons (λ (audio : AudioSource). All (IsPieceBy last) audio.pieces) a more (All-head (AreBy last) a.pieces (map (λ (audio : AudioSource). audio.pieces) more) all)
    (streams-back last more (All-tail (AreBy last) a.pieces (map (λ (audio : AudioSource). audio.pieces) more) all))

-- the times of units and pieces are those of the program
pub times-by : (r : Bool) (slot last : ℕ) (program : Program) (passed : PassedProgram) (units : List UnitSource) (audios : List (List AudioPiece)) → last ≡ last_time slot
    → IsReadOff program passed → units ≡ passed.units → audios ≡ passed.audios → All (λ unit. unit.due ≤ last) units → IsTrue r ↔ All (All (IsPieceBy last)) audios
    → IsTrue r ↔ KeepsTime slot program
times-by r slot last program passed units audios last_is off units_are audios_are early decides = (
  λ yes. record {
    units = subst (λ (n : ℕ). All (λ unit. unit.due ≤ n) program.units) last_is
        (subst (λ (us : List UnitSource). All (λ unit. unit.due ≤ last) us) (units_are ∙ off.units_are) early);
    audios = subst (λ (n : ℕ). All (λ audio. All (IsPieceBy n) audio.pieces) program.audios) last_is
        (streams-back last program.audios (subst (λ (those : List (List AudioPiece)). All (AreBy last) those) (audios_are ∙ off.audios_are) (decides.0 yes)));
  },
  λ kept. decides.1 (subst (λ (those : List (List AudioPiece)). All (AreBy last) those) (sym (audios_are ∙ off.audios_are))
      (All-map (AreBy last) (λ (audio : AudioSource). audio.pieces) program.audios
      (subst (λ (n : ℕ). All (λ audio. All (IsPieceBy n) audio.pieces) program.audios) (sym last_is) kept.audios))),
)

-- a unit is late
pub times-not : (r : Bool) (slot last : ℕ) (program : Program) (passed : PassedProgram) (units : List UnitSource) → last ≡ last_time slot → IsReadOff program passed → units ≡ passed.units
    → IsTrue r ↔ All (λ unit. unit.due ≤ last) units → r ≡ false → IsTrue false ↔ KeepsTime slot program
times-not r slot last program passed units last_is off units_are decides fails = (
  λ no. absurd (let e : false ≡ true = no in cc),
  λ kept. absurd (let holds : r ≡ true = decides.1 (subst (λ (us : List UnitSource). All (λ unit. unit.due ≤ last) us) (sym (units_are ∙ off.units_are))
      (subst (λ (n : ℕ). All (λ unit. unit.due ≤ n) program.units) (sym last_is) kept.units)) in cc),
)
