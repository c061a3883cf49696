-- What the programs of a job have for being read back.
use Rattle.std.proofs.Common.{ℕ, List, sym, subst}
use Rattle.job_report.specs.declared.job.Form.{Form}
use Rattle.program_reader.specs.declared.program.Program.{Program}
use Rattle.program_reader.specs.Programs.{IsProgramOfFile}
use Rattle.version_source.specs.Sendable.{IsSendable}
use Rattle.job_stream.specs.Private.Outgoing.{CanGoOut}
use Rattle.job_stream.proofs.ReadPrograms.{ReadIsSendable, goes-out}
use Rattle.job_laws.proofs.CarriedShape.{HasKinds, taken-kinds}

-- what a program has that was read
pub record IsReady (program : Program) : Type 0 where
  pub kinds : HasKinds program.map
  pub out : CanGoOut program
  pub sendable : IsSendable program

pub ready-one : ReadIsSendable → (form : Form) (file : List ℕ) (number : ℕ) (dropped : List ℕ) (start : ℕ) (program : Program) → IsProgramOfFile form file number dropped start program → IsReady program
ready-one law form file number dropped start program of = record {
  kinds = subst HasKinds (sym of.program_is.map_is) (taken-kinds form file number dropped of.demuxed of.demuxed_is);
  out = goes-out form file number dropped start program of;
  sendable = law start of.demuxed program of.program_is;
}
