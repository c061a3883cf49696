-- The rows of programs that were read without the bytes of their streams.
use Rattle.std.proofs.Common.{◌≡◌, ℕ, zero, suc, ◌+◌, ◌<◌, List, [], ◌∷◌, length, get_or, map, refl, sym, ap, subst, ◌∙◌, arith}
use Rattle.std.specs.List.{AllZip}
use Rattle.job_report.specs.declared.job.ProgramJob.{ProgramJob}
use Rattle.passed_programs.specs.declared.passed_program.PassedProgram.{PassedProgram}
use Rattle.passed_programs.specs.PassedProgram.{IsReadOff}
use Rattle.program_reader.specs.declared.program.AudioPiece.{AudioPiece}
use Rattle.program_reader.specs.declared.program.AudioSource.{AudioSource}
use Rattle.program_reader.specs.declared.program.Program.{Program}
use Rattle.program_reader.specs.declared.program.UnitSource.{UnitSource}
use Rattle.program_reader.specs.declared.unit_sizes.UnitSizes.{UnitSizes}
use Rattle.program_reader.specs.Sizes.{AreProgramSizes}
use Rattle.program_reader.specs.ReadProgram.{IsReadProgram}
use Rattle.job_programs.specs.Read.{AreReadEach}
use Rattle.job_programs.specs.Sizes.{AreJobSizes}
use Rattle.version_table.specs.declared.table.AudioPacket.{AudioPacket}
use Rattle.version_table.specs.declared.table.ProgramRow.{ProgramRow}
use Rattle.version_table.specs.declared.table.Unit.{Unit as CodedUnit}
use Rattle.program_table.specs.Table.{IsRowOf, audio_row}
use Rattle.program_table.specs.Private.Rows.{sized_rows}
use Rattle.program_table.proofs.SizedRows.{row-sized, row_with, sizes-here}

-- ---- one program

abbrev packets : List AudioPiece → List AudioPacket
packets pieces = map (λ piece. piece.packet) pieces

packets-all : (audios : List AudioSource) → map packets (map (λ (audio : AudioSource). audio.pieces) audios) ≡ map audio_row audios
packets-all [] = refl
packets-all (a ∷ more) = ap (λ (rest : List (List AudioPacket)). audio_row a ∷ rest) (packets-all more)

-- the row that is made of what is read off a program is its row
pub row-off : (program : Program) (passed : PassedProgram) (coarser : List ℕ) (weight drift : ℕ) (units : List UnitSource) (sizes : List UnitSizes) (pieces : List (List AudioPiece))
    (rows : List CodedUnit) (audios : List (List AudioPacket)) → IsReadOff program passed → units ≡ passed.units → rows ≡ sized_rows weight drift units sizes → pieces ≡ passed.audios
    → audios ≡ map packets pieces → AreProgramSizes program coarser sizes → IsRowOf program coarser weight drift (row_with passed.vbv rows audios)
row-off program passed coarser weight drift units sizes pieces rows audios off units_are rows_are pieces_are audios_are are =
    subst (λ (vbv : ℕ). IsRowOf program coarser weight drift (row_with vbv rows audios)) (sym off.vbv_is)
    (row-sized program coarser weight drift units sizes rows audios (units_are ∙ off.units_are) rows_are
    (audios_are ∙ ap (λ (those : List (List AudioPiece)). map packets those) (pieces_are ∙ off.audios_are) ∙ packets-all program.audios) are)

-- ---- all programs

pub zip-many : (programs : List Program) (passed : List PassedProgram) → AllZip IsReadOff programs passed → length passed ≡ length programs
zip-many [] [] off = refl
zip-many [] (p ∷ ps) off = absurd off
zip-many (q ∷ qs) [] off = absurd off
zip-many (q ∷ qs) (p ∷ ps) off = ap suc (zip-many qs ps off.1)

-- the program at a place, with what is read off it
pub record ProgramAt (programs : List Program) (i : ℕ) (passed : PassedProgram) : Type 0 where
  pub program : Program
  pub item : program ≡ get_or programs i program
  pub off : IsReadOff program passed

at-place : (programs : List Program) (passed : List PassedProgram) (i : ℕ) (own : PassedProgram) → i < length passed → AllZip IsReadOff programs passed → ProgramAt programs i (get_or passed i own)
at-place programs [] i own within off = absurd (let e : i < 0 = within in omega (arith, e))
at-place [] (p ∷ ps) i own within off = absurd off
at-place (q ∷ qs) (p ∷ ps) zero own within off = record { program = q; item = refl; off = off.0 }
at-place (q ∷ qs) (p ∷ ps) (suc i) own within off =
    let rest = at-place qs ps i own (omega (arith, within)) off.1 in record { program = rest.program; item = rest.item; off = rest.off }

pub program-at : (programs : List Program) (passed slice : List PassedProgram) (i : ℕ) (own : PassedProgram) → slice ≡ passed → own ≡ get_or slice i own → i < length slice
    → AllZip IsReadOff programs passed → ProgramAt programs i own
program-at programs passed slice i own same item within off =
    subst (λ (p : PassedProgram). ProgramAt programs i p) (sym item)
    (at-place programs slice i own within (subst (λ (ps : List PassedProgram). AllZip IsReadOff programs ps) (sym same) off))

read-each : (slot start : ℕ) (jobs : List ProgramJob) (programs : List Program) (i : ℕ) (program : Program) → i < length programs → AreReadEach slot start jobs programs
    → IsReadProgram start (get_or programs i program)
read-each slot start jobs [] i program within each = absurd (let e : i < 0 = within in omega (arith, e))
read-each slot start [] (p ∷ ps) i program within each = absurd each
read-each slot start (j ∷ js) (p ∷ ps) zero program within each = each.0.read
read-each slot start (j ∷ js) (p ∷ ps) (suc i) program within each = read-each slot start js ps i program (omega (arith, within)) each.1

-- it was read
pub read-at : (slot start : ℕ) (jobs : List ProgramJob) (programs : List Program) (i : ℕ) (program : Program) → i < length programs → program ≡ get_or programs i program
    → AreReadEach slot start jobs programs → IsReadProgram start program
read-at slot start jobs programs i program within item each = subst (λ (p : Program). IsReadProgram start p) (sym item) (read-each slot start jobs programs i program within each)

-- with the sizes of its units
pub sizes-at : (jobs slice : List ProgramJob) (programs : List Program) (sizes sizes_slice : List (List UnitSizes)) (i : ℕ) (job : ProgramJob) (program : Program) (item own : List UnitSizes)
    → slice ≡ jobs → sizes_slice ≡ sizes → job ≡ get_or slice i job → program ≡ get_or programs i program → item ≡ get_or sizes_slice i item → own ≡ item → i < length programs
    → AreJobSizes jobs programs sizes → AreProgramSizes program job.coarser.items own
sizes-at jobs slice programs sizes sizes_slice i job program item own slice_is sizes_is job_is program_is item_is own_is within are =
    sizes-here jobs slice programs sizes i job program item own slice_is job_is program_is (item_is ∙ ap (λ (ss : List (List UnitSizes)). get_or ss i item) sizes_is) own_is within are
