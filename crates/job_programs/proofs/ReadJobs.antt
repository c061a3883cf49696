-- The programs of a job by contents of files are programs that were read.
use Rattle.std.proofs.Common.{ℕ, List, [], ◌∷◌, All}
use Rattle.std.proofs.lemmas.List.Elements.{All-head, All-tail}
use Rattle.bit_lists.specs.Fields.{AreBytes}
use Rattle.job_report.specs.declared.job.Form.{Form}
use Rattle.job_report.specs.declared.job.ProgramJob.{ProgramJob}
use Rattle.program_reader.specs.declared.program.Program.{Program}
use Rattle.program_reader.specs.Programs.{IsProgramOfFile}
use Rattle.program_reader.specs.ReadProgram.{IsReadProgram}
use Rattle.job_programs.specs.Programs.{AreNextPrograms}
use Rattle.job_programs.specs.Read.{AreReadEach, AreReadFor}
use Rattle.job_programs.specs.Private.Behind.{HoldPrograms, KeepsTime}
use Rattle.job_programs.proofs.Forms.{are-of, keeps}

-- the program of a file was read
abbrev FileIsRead : Type 0
FileIsRead = (form : Form) (file : List ℕ) (number : ℕ) (drop : List ℕ) (start : ℕ) (program : Program) → IsProgramOfFile form file number drop start program → AreBytes program.video
    → IsReadProgram start program

-- its video is bytes
abbrev HasBytes : Program → Type 0
HasBytes program = AreBytes program.video

each-read : FileIsRead → (slot start : ℕ) (jobs : List ProgramJob) (contents : List (List ℕ)) (programs : List Program) → HoldPrograms start jobs contents programs
    → All (KeepsTime slot) programs → All HasBytes programs → AreReadEach slot start jobs programs
each-read law slot start [] [] [] hold within bytes = tt
each-read law slot start [] [] (p ∷ ps) hold within bytes = absurd hold
each-read law slot start [] (c ∷ cs) ps hold within bytes = absurd hold
each-read law slot start (j ∷ js) [] ps hold within bytes = absurd hold
each-read law slot start (j ∷ js) (c ∷ cs) [] hold within bytes = absurd hold
each-read law slot start (j ∷ js) (c ∷ cs) (p ∷ ps) hold within bytes = (
  record {
    read = law j.form c j.program j.drop.items start p hold.0.holds (All-head HasBytes p ps bytes);
    within = keeps slot p (All-head (KeepsTime slot) p ps within);
    share = hold.0.near;
  },
  each-read law slot start js cs ps hold.1 (All-tail (KeepsTime slot) p ps within) (All-tail HasBytes p ps bytes),
)

pub are-read : FileIsRead → (slot start : ℕ) (jobs : List ProgramJob) (contents : List (List ℕ)) (programs : List Program) → AreNextPrograms slot start [] [] jobs contents programs
    → All HasBytes programs → AreReadFor slot start jobs programs
are-read law slot start jobs contents programs next bytes =
    let are = are-of slot start jobs contents programs next in
    record { each = each-read law slot start jobs contents programs are.hold are.within bytes; few_units = are.few_units }
