-- What is reported of a run, of a refused program, of an audit and of a refused certificate.
use Rattle.std.specs.Prelude.{◌==◌, ℕ, List, [], ◌∷◌, length, map, take, drop}
use Rattle.arrayvec.specs.ArrayString.{ArrayString}
use Rattle.bound_certificate.specs.declared.cert.Cert.{Cert}
use Rattle.certificate_checker.specs.declared.why.CertFault.{CertFault}
use Rattle.job_report.specs.declared.job.ProgramJob.{ProgramJob}
use Rattle.job_report.specs.declared.report.ProgramReport.{ProgramReport}
use Rattle.job_report.specs.declared.report.Report.{Report}
use Rattle.job_report.specs.declared.report.Report.TheVariants as reports
use Rattle.job_programs.specs.declared.source_fault.SourceFault.{SourceFault}
use Rattle.program_reader.specs.declared.program.Program.{Program}
use Rattle.stream_audit.specs.declared.finding.Finding.{Finding}
use Rattle.run_report.specs.Names.{name_of_finding, name_of_kind, name_of_why}

-- one program: the bytes of each audio stream's PES packets, the version that is sent of each unit, what isn't carried, and its number in
-- the output
abbrev pub program_report : ProgramJob → Program → (choice : List ℕ) → ProgramReport
program_report job program choice = record {
  audio_bytes = map (λ audio. length audio.bytes) program.audios;
  choice = choice;
  descriptors_dropped = program.map.dropped;
  not_carried = program.not_carried;
  number = job.number;
  pes_dropped = program.pes_dropped;
  rest = program.rest;
  units_dropped = program.units_dropped;
}

-- programs in order, each with the part of the choice that is its units'
abbrev pub program_reports : List ProgramJob → List Program → (choice : List ℕ) → List ProgramReport
program_reports (job ∷ jobs) (program ∷ programs) choice =
    program_report job program (take (length program.units) choice) ∷ program_reports jobs programs (drop (length program.units) choice)
program_reports jobs programs choice = []

-- a run: what its certificate states, that its plan is the best where the bound is reached, its programs, and how many slots were written
abbrev pub run_report : List ProgramJob → List Program → Cert → (slots : ℕ) → Report
run_report jobs programs cert slots =
    reports.Run cert.bound cert.distortion (length cert.nodes) (program_reports jobs programs cert.choice) (cert.bound == cert.distortion) slots

-- a text as it stands in a report
abbrev pub report_name : List ℕ → ArrayString
report_name bytes = record { bytes = bytes; spare = [] }

-- a refused program: which of the job's, why, and at which byte
abbrev pub source_report : SourceFault → Report
source_report fault = reports.Source fault.at (report_name (name_of_kind fault.kind)) fault.program

-- the first finding of an audit: where it is, what, and on which PID
abbrev pub finding_report : Finding → Report
finding_report finding = reports.AuditFault finding.at (report_name (name_of_finding finding.fault)) finding.pid

-- a certificate that is wrong: what is, and in which node
abbrev pub cert_fault_report : CertFault → Report
cert_fault_report fault = reports.CertFault fault.node (report_name (name_of_why fault.why))
