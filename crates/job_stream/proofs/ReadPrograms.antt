-- The programs of a job can go out.
use Rattle.std.proofs.Common.{◌≡◌, ℕ, suc, ◌+◌, ◌≤◌, List, [], ◌∷◌, ◌++◌, All, length, ℤ, refl, sym, ap, subst, ◌∙◌, arith}
use Rattle.std.proofs.lemmas.List.Elements.{All-cons, All-nil}
use Rattle.audio_frames.specs.declared.frame.Frame.{Frame}
use Rattle.psi_tables.specs.declared.program_map.ProgramMap.{ProgramMap}
use Rattle.psi_tables.specs.Pmt.{IsWritableMap, pmt_length}
use Rattle.ts_demux.specs.declared.demuxed.AudioStream.{AudioStream}
use Rattle.ts_demux.specs.declared.demuxed.Demuxed.{Demuxed}
use Rattle.job_report.specs.declared.job.Form.{Form}
use Rattle.job_report.specs.declared.job.Job.{Job}
use Rattle.job_report.specs.declared.job.ProgramJob.{ProgramJob}
use Rattle.program_reader.specs.declared.program.AudioSource.{AudioSource}
use Rattle.program_reader.specs.declared.program.Program.{Program}
use Rattle.program_reader.specs.Audio.{AreAudioSources}
use Rattle.program_reader.specs.Programs.{IsProgram, IsProgramOfFile}
use Rattle.version_source.specs.Sendable.{IsSendable}
use Rattle.job_programs.specs.Programs.{AreNextPrograms, ArePrograms}
use Rattle.job_stream.specs.Private.Outgoing.{CanGoOut}
use Rattle.job_programs.specs.Read.{AreReadEach, AreReadPrograms}
use Rattle.program_reader.specs.ReadProgram.{CanBeWritten, HasItsStreams, IsReadProgram}
use Rattle.program_reader.proofs.TakenMaps.{taken-written}
use Rattle.program_reader.proofs.TakenOut.{its-streams}

-- there are as many audio sources as streams
as-many-audios : (start : ℕ) (earliest : ℤ) (streams : List AudioStream) (frames : List (List Frame)) (sources : List AudioSource) → AreAudioSources start earliest streams frames sources
    → length streams ≡ length sources
as-many-audios start earliest [] [] [] are = refl
as-many-audios start earliest [] [] (s ∷ ss) are = absurd are
as-many-audios start earliest [] (f ∷ fs) sources are = absurd are
as-many-audios start earliest (x ∷ xs) [] sources are = absurd are
as-many-audios start earliest (x ∷ xs) (f ∷ fs) [] are = absurd are
as-many-audios start earliest (x ∷ xs) (f ∷ fs) (s ∷ ss) are = ap suc (as-many-audios start earliest xs fs ss are.1)

-- a program of streams whose map can be written, and has each of them, can go out
goes-out-of : (start : ℕ) (demuxed : Demuxed) (program : Program) → CanBeWritten demuxed.map → HasItsStreams demuxed → IsProgram start demuxed program → CanGoOut program
goes-out-of start demuxed program written its is =
    let audios : length demuxed.audios ≡ length program.audios = as-many-audios start is.earliest demuxed.audios is.frames program.audios is.audios_are in
    let one : length program.map.streams.items ≡ length demuxed.map.streams.items = ap (λ (m : ProgramMap). length m.streams.items) is.map_is in record {
      writable = subst IsWritableMap (sym is.map_is) written.writable;
      few = omega (arith, one, its.as_many, its.few);
      fits = subst (λ (m : ProgramMap). pmt_length m ≤ 183) (sym is.map_is) written.fits;
      base = is.base_is.below;
      streams = omega (arith, one, its.as_many, audios);
    }

-- so the program of a file can go out
pub goes-out : (form : Form) (file : List ℕ) (number : ℕ) (dropped : List ℕ) (start : ℕ) (program : Program) → IsProgramOfFile form file number dropped start program → CanGoOut program
goes-out form file number dropped start program of =
    goes-out-of start of.demuxed program (taken-written form file number dropped of.demuxed of.demuxed_is) (its-streams form file number dropped of.demuxed of.demuxed_is) of.program_is

-- what the programs of a job have: as many as the job says, each goes out and can be sent
pub record AreReady (jobs : List ProgramJob) (programs : List Program) : Type 0 where
  pub as_many : length jobs ≡ length programs
  pub out : All CanGoOut programs
  pub sendable : All IsSendable programs

-- a program that was read can be sent
abbrev pub ReadIsSendable : Type 0
ReadIsSendable = (start : ℕ) (demuxed : Demuxed) (program : Program) → IsProgram start demuxed program → IsSendable program

next-ready : ReadIsSendable → (slot start : ℕ) (contents : List (List ℕ)) (before : List Program) (jobs : List ProgramJob) (further : List (List ℕ)) (programs : List Program)
    → AreNextPrograms slot start contents before jobs further programs → AreReady jobs programs
next-ready law slot start contents before [] [] [] are = record { as_many = refl; out = All-nil CanGoOut; sendable = All-nil IsSendable }
next-ready law slot start contents before [] [] (p ∷ ps) are = absurd are
next-ready law slot start contents before [] (c ∷ cs) programs are = absurd are
next-ready law slot start contents before (j ∷ js) [] programs are = absurd are
next-ready law slot start contents before (j ∷ js) (c ∷ cs) [] are = absurd are
next-ready law slot start contents before (j ∷ js) (c ∷ cs) (p ∷ ps) (next, rest) =
    let ready : AreReady js ps = next-ready law slot start (contents ++ c ∷ []) (before ++ p ∷ []) js cs ps rest in record {
      as_many = ap suc ready.as_many;
      out = All-cons CanGoOut p ps (goes-out j.form c j.program j.drop.items start p next.holds) ready.out;
      sendable = All-cons IsSendable p ps (law start next.holds.demuxed p next.holds.program_is) ready.sendable;
    }

-- the programs of a job are ready for its stream
pub programs-ready : ReadIsSendable → (job : Job) (programs : List Program) → (contents : List (List ℕ)) × ArePrograms job contents programs → AreReady job.programs programs
programs-ready law job programs (contents, are) = next-ready law job.slot job.start [] [] job.programs contents programs are

-- programs that were read for a job are ready for its stream
read-each-ready : ReadIsSendable → (slot start : ℕ) (jobs : List ProgramJob) (programs : List Program) → AreReadEach slot start jobs programs → AreReady jobs programs
read-each-ready law slot start [] [] each = record { as_many = refl; out = All-nil CanGoOut; sendable = All-nil IsSendable }
read-each-ready law slot start [] (p ∷ ps) each = absurd each
read-each-ready law slot start (j ∷ js) [] each = absurd each
read-each-ready law slot start (j ∷ js) (p ∷ ps) (was, rest) =
    let ready : AreReady js ps = read-each-ready law slot start js ps rest in
    let one : IsReadProgram start p = was.read in record {
      as_many = ap suc ready.as_many;
      out = All-cons CanGoOut p ps (goes-out-of start one.demuxed p one.within.map_fits one.within.its_streams one.program_is) ready.out;
      sendable = All-cons IsSendable p ps (law start one.demuxed p one.program_is) ready.sendable;
    }

pub read-ready : ReadIsSendable → (job : Job) (programs : List Program) → AreReadPrograms job programs → AreReady job.programs programs
read-ready law job programs read = read-each-ready law job.slot job.start job.programs programs read.each
