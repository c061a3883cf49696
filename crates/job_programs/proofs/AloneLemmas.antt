-- One program of a file by itself: what is read of the file decides as the whole file does, and a file has one program, or one refusal.
use Rattle.std.proofs.Common.{◌≡◌, ℕ, ◌+◌, ◌<◌, ◌≤◌, min, List, [], length, take, Result, Ok, Err, IfOk, IfErr, Option, Some, refl, sym, ap, subst, ◌∙◌, arith}
use Rattle.std.proofs.lemmas.List.{length-take}
use Rattle.shelf_io.specs.Counts.{ShelfCounts}
use Rattle.shelf_io.specs.Files.{Files, IfTold}
use Rattle.job_report.specs.declared.job.Form.TheVariants.{Ts}
use Rattle.program_reader.specs.declared.limits.TheConstants.{FILE_BYTES_MOST}
use Rattle.program_reader.specs.declared.program.Program.{Program}
use Rattle.program_reader.specs.declared.program_fault.ProgramFault.TheVariants as faults
use Rattle.program_reader.specs.declared.program_fault.SourceKind.{SourceKind}
use Rattle.program_reader.specs.Programs.{IsProgramOfFile, IsProgramRefused}
use Rattle.job_programs.specs.declared.alone.AloneProgram.{AloneProgram}
use Rattle.job_programs.specs.declared.source_fault.ProgramsFault.{ProgramsFault}
use Rattle.job_programs.specs.declared.source_fault.ProgramsFault.TheVariants.{Refused, Failed, Missing, OutOfMemory}
use Rattle.job_programs.specs.declared.source_fault.SourceFault.{SourceFault}
use Rattle.job_programs.specs.Alone.{HasAloneCause, IsAlone, IsAloneOn, IsAloneRefused, IsAloneRefusedOn, file, late}
use Rattle.job_programs.specs.Programs.{IsWithinTime}
use Rattle.job_programs.specs.Private.Alone.{IsAloneContentFault}
use Rattle.job_programs.proofs.FirstLemmas.{same-fault}
use Rattle.job_programs.proofs.LawLemmas.{NeverBoth, OneProgram, OneRefusal, is-no-memory}
use Rattle.job_programs.proofs.NextLemmas.{found, is-whole}
use Rattle.job_programs.proofs.ProbeLaws.{same-content}

-- ---- what is read of a file

whole : (front content : List ℕ) → front ≡ take (FILE_BYTES_MOST + 1) content → length front ≤ FILE_BYTES_MOST → front ≡ content
whole front content is few = is-whole 0 FILE_BYTES_MOST front content refl is (omega (arith, few))

file-refused : (number : ℕ) (front content : List ℕ) (kind : SourceKind) (at : ℕ) → front ≡ take (FILE_BYTES_MOST + 1) content
    → IsProgramRefused Ts front number [] (faults.Refused kind at) → IsProgramRefused Ts content number [] (faults.Refused kind at)
file-refused number front content kind at is (IsProgramRefused.long many said) =
    let size : length front ≡ min (FILE_BYTES_MOST + 1) (length content) = ap length is ∙ length-take (FILE_BYTES_MOST + 1) content in
    IsProgramRefused.long (omega (arith, many, size)) said
file-refused number front content kind at is (IsProgramRefused.streams few refused) =
    subst (λ (l : List ℕ). IsProgramRefused Ts l number [] (faults.Refused kind at)) (whole front content is few) (IsProgramRefused.streams few refused)
file-refused number front content kind at is (IsProgramRefused.many_packets demuxed few out many said) =
    subst (λ (l : List ℕ). IsProgramRefused Ts l number [] (faults.Refused kind at)) (whole front content is few) (IsProgramRefused.many_packets demuxed few out many said)
file-refused number front content kind at is (IsProgramRefused.taken_out demuxed few out packets refused) =
    subst (λ (l : List ℕ). IsProgramRefused Ts l number [] (faults.Refused kind at)) (whole front content is few) (IsProgramRefused.taken_out demuxed few out packets refused)
file-refused number front content kind at is (IsProgramRefused.memory said) = absurd (is-no-memory kind at said)

refused-alone : (slot start number : ℕ) (front content : List ℕ) (kind : SourceKind) (at : ℕ) → front ≡ take (FILE_BYTES_MOST + 1) content
    → IsAloneRefused slot start number front kind at → IsAloneRefused slot start number content kind at
refused-alone slot start number front content kind at is (file refused) = file (file-refused number front content kind at is refused)
refused-alone slot start number front content kind at is (late program holds past k a) =
    subst (λ (l : List ℕ). IsAloneRefused slot start number l kind at) (whole front content is holds.within) (late program holds past k a)

-- the program is the one of the file
pub alone-on : (told : Option Files) (name : List ℕ) (slot start number : ℕ) (content : List ℕ) (result : Result AloneProgram ProgramsFault)
    → length content ≤ FILE_BYTES_MOST + 1 → IfTold told name (λ held. content ≡ take (FILE_BYTES_MOST + 1) held)
    → IfOk result (λ read. (read.content ≡ content) × IsAlone slot start number content read.program)
    → IfOk result (λ read. IsAloneOn told name slot start number read.content read.program)
alone-on told name slot start number content (Err fault) short told_is holds = tt
alone-on told name slot start number content (Ok read) short told_is holds =
    let f = found told name content FILE_BYTES_MOST short told_is in
    let all : content ≡ f.0 = whole content f.0 f.2 holds.1.holds.within in
    subst (λ (l : List ℕ). IsAloneOn told name slot start number l read.program) (sym all ∙ sym holds.0)
    (record { held = f.1; alone = subst (λ (l : List ℕ). IsAlone slot start number l read.program) all holds.1 })

cause-of : (told : Option Files) (name : List ℕ) (slot start number : ℕ) (content : List ℕ) (old new : ShelfCounts) (since : ℕ) (fault : ProgramsFault)
    → length content ≤ FILE_BYTES_MOST + 1 → IfTold told name (λ held. content ≡ take (FILE_BYTES_MOST + 1) held)
    → IsAloneContentFault slot start number content fault → HasAloneCause told name slot start number old new since fault
cause-of told name slot start number content old new since (Refused fault) short told_is holds =
    let f = found told name content FILE_BYTES_MOST short told_is in
    record { first = holds.0; content = f.0; held = f.1; refused = refused-alone slot start number content f.0 fault.kind fault.at f.2 holds.1 }
cause-of told name slot start number content old new since (Failed place) short told_is holds = absurd holds
cause-of told name slot start number content old new since (Missing place) short told_is holds = absurd holds
cause-of told name slot start number content old new since OutOfMemory short told_is holds = tt

-- what refuses the bytes that were read refuses the file
pub alone-cause : (told : Option Files) (name : List ℕ) (slot start number : ℕ) (content : List ℕ) (old new : ShelfCounts) (since : ℕ) (result : Result AloneProgram ProgramsFault)
    → length content ≤ FILE_BYTES_MOST + 1 → IfTold told name (λ held. content ≡ take (FILE_BYTES_MOST + 1) held)
    → IfErr result (IsAloneContentFault slot start number content) → IfErr result (HasAloneCause told name slot start number old new since)
alone-cause told name slot start number content old new since (Ok read) short told_is holds = tt
alone-cause told name slot start number content old new since (Err fault) short told_is holds =
    cause-of told name slot start number content old new since fault short told_is holds

-- ---- one answer

pub one-alone : OneProgram → (slot start number : ℕ) (content : List ℕ) (p q : Program) → IsAlone slot start number content p → IsAlone slot start number content q → p ≡ q
one-alone one slot start number content p q a b = one Ts content number [] start p q a.holds b.holds

pub alone-not-refused : OneProgram → NeverBoth → (slot start number : ℕ) (content : List ℕ) (program : Program) (kind : SourceKind) (at : ℕ)
    → IsAlone slot start number content program → IsAloneRefused slot start number content kind at → ⊥
alone-not-refused one never slot start number content program kind at is (file refused) =
    is-no-memory kind at (never Ts content number [] start program (faults.Refused kind at) is.holds refused)
alone-not-refused one never slot start number content program kind at is (late other holds past _ _) =
    past (subst (λ (p : Program). IsWithinTime slot p) (one Ts content number [] start program other is.holds holds) is.within)

one-alone-refusal : OneProgram → OneRefusal → NeverBoth → (slot start number : ℕ) (content : List ℕ) (kind other : SourceKind) (at place : ℕ)
    → IsAloneRefused slot start number content kind at → IsAloneRefused slot start number content other place → (kind ≡ other) × (at ≡ place)
one-alone-refusal one only never slot start number content kind other at place (file a) (file b) =
    let same : faults.Refused kind at ≡ faults.Refused other place =
    only Ts content number [] (faults.Refused kind at) (faults.Refused other place) (is-no-memory kind at) (is-no-memory other place) a b in
    (cc, cc)
one-alone-refusal one only never slot start number content kind other at place (file a) (late program holds _ _ _) =
    absurd (is-no-memory kind at (never Ts content number [] start program (faults.Refused kind at) holds a))
one-alone-refusal one only never slot start number content kind other at place (late program holds _ _ _) (file b) =
    absurd (is-no-memory other place (never Ts content number [] start program (faults.Refused other place) holds b))
one-alone-refusal one only never slot start number content kind other at place (late _ _ _ k a) (late _ _ _ l b) = (k ∙ sym l, a ∙ sym b)

-- ---- on told files

pub one-alone-on : OneProgram → (files : Files) (name : List ℕ) (slot start number : ℕ) (c d : List ℕ) (p q : Program)
    → IsAloneOn (Some files) name slot start number c p → IsAloneOn (Some files) name slot start number d q → (c ≡ d) × (p ≡ q)
one-alone-on one files name slot start number c d p q a b =
    let same : c ≡ d = same-content files name c d a.held b.held in
    (same, one-alone one slot start number d p q (subst (λ (l : List ℕ). IsAlone slot start number l p) same a.alone) b.alone)

pub alone-not-refused-on : OneProgram → NeverBoth → (files : Files) (name : List ℕ) (slot start number : ℕ) (content : List ℕ) (program : Program) (fault : SourceFault)
    → IsAloneOn (Some files) name slot start number content program → IsAloneRefusedOn (Some files) name slot start number fault → ⊥
alone-not-refused-on one never files name slot start number content program fault a r =
    let same : r.content ≡ content = same-content files name r.content content r.held a.held in
    alone-not-refused one never slot start number content program fault.kind fault.at a.alone
    (subst (λ (l : List ℕ). IsAloneRefused slot start number l fault.kind fault.at) same r.refused)

pub one-alone-refusal-on : OneProgram → OneRefusal → NeverBoth → (files : Files) (name : List ℕ) (slot start number : ℕ) (a b : SourceFault)
    → IsAloneRefusedOn (Some files) name slot start number a → IsAloneRefusedOn (Some files) name slot start number b → a ≡ b
one-alone-refusal-on one only never files name slot start number a b ra rb =
    let same : rb.content ≡ ra.content = same-content files name rb.content ra.content rb.held ra.held in
    let why = one-alone-refusal one only never slot start number ra.content a.kind b.kind a.at b.at ra.refused
    (subst (λ (l : List ℕ). IsAloneRefused slot start number l b.kind b.at) same rb.refused) in
    same-fault a.program b.program a.kind b.kind a.at b.at (ra.first ∙ sym rb.first) why.0 why.1
