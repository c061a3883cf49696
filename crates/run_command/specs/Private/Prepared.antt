-- What `run` writes and reports beside the stream.
use Rattle.std.specs.Prelude.{◌≡◌, ◌⊎◌, ℕ, List, Option, Some, None}
use Rattle.bound_certificate.specs.declared.cert.Cert.{Cert}
use Rattle.bound_certificate.specs.Spelling.{cert_spelling}
use Rattle.job_report.specs.declared.report.Report.TheVariants as reports
use Rattle.job_files.specs.declared.job_table.JobTable.{JobTable}
use Rattle.run_report.specs.Report.{run_report}
use Rattle.shelf_io.specs.Counts.{Rose, ShelfCounts}
use Rattle.shelf_io.specs.Files.{Files, with_content}
use Rattle.shelf_io.specs.WholeFile.{HoldsPrefix}
use Rattle.slot_rule.specs.declared.slot_list.SlotList.{SlotList}
use Rattle.command_words.specs.declared.command.RunFiles.{RunFiles}
use Rattle.command_words.specs.declared.ended.Ended.{Ended}
use Rattle.command_words.specs.declared.status.Status.TheVariants as statuses
use Rattle.command_words.specs.Ended.{answer_of, EndsAtFault, EndsBy}
use Rattle.shelf_io.specs.Facts.{ShelfFacts, shelf_facts}
use Rattle.command_words.specs.Outside.{CountsGrow}
use Rattle.job_files.specs.JobTable.{IsJobTable}
use Rattle.job_report.specs.ValidJob.{IsValidJob}
use Rattle.shelf_io.specs.Asked.{AsksNothing}
use Rattle.version_table.specs.Table.{IsValidTable}
use Rattle.run_command.specs.declared.steps.Prepared.{Prepared}
use Rattle.run_command.specs.RunCommand.{files_of_run}

-- what `run` knows of its job once that was read: it is the one in JOB, with its programs and their table, and both are valid
pub record HasJob (told : Option Files) (files : RunFiles) (made : JobTable) : Type 0 where
  pub is : IsJobTable told files.job.now (files_of_run files.job.now files.out.now files.certificate.now) made
  pub valid_job : IsValidJob made.job
  pub valid_table : IsValidTable made.table

-- the bytes of the certificate, and the end that reports the run
pub record IsPrepared (made : JobTable) (cert : Cert) (slots : SlotList) (prepared : Prepared) : Type 0 where
  pub bytes : prepared.bytes ≡ cert_spelling cert
  pub ends : EndsBy statuses.Ok (run_report made.job.programs made.programs cert slots.slots) prepared.done

-- a certificate was written whole, and the end is the one that was prepared; or its file holds what it held, or a front of it
abbrev pub EndsCertificate : (old new : Option Files) → (name : List ℕ) → Prepared → Option Ended → Type 0
EndsCertificate old new name prepared (Some ended) =
    ((ended ≡ prepared.done) × (new ≡ with_content old name prepared.bytes))
    ⊎ (EndsBy statuses.WriteFault (reports.WriteFault name) ended × HoldsPrefix old new name prepared.bytes)
EndsCertificate old new name prepared None = HoldsPrefix old new name prepared.bytes

-- the end is the one that was prepared, or a write failed, and no call followed
abbrev pub CertificateHasCause : (old new : ShelfCounts) → (since_fault : ℕ) → (name : List ℕ) → Prepared → Option Ended → Type 0
CertificateHasCause old new since_fault name prepared (Some ended) =
    (ended ≡ prepared.done)
    ⊎ (EndsBy statuses.WriteFault (reports.WriteFault name) ended × Rose old.write_faults new.write_faults × (since_fault ≡ 0))
CertificateHasCause old new since_fault name prepared None = Unit {0}

-- what the writing of the certificate does: it ends with its cause, and at a fault, no count falls, and nothing is read
pub record Certifies (old new : ShelfFacts) (name : List ℕ) (prepared : Prepared) (result : Option Ended) : Type 0 where
  pub written : EndsCertificate old.files new.files name prepared result
  pub cause : CertificateHasCause old.counts new.counts new.since_fault name prepared result
  pub ends : EndsAtFault old new (answer_of result)
  pub counts : CountsGrow old.counts new.counts
  pub asked : AsksNothing old.asked new.asked

-- the certificate is written to a shelf of any type
abbrev pub WritesCert : {K : Type 0} (files : K → Option Files) (counts : K → ShelfCounts) (asked : K → List ℕ → ℕ) (since_fault : K → ℕ) (old new : K)
    → (name : List ℕ) → Prepared → Option Ended → Type 0
WritesCert files counts asked since_fault old new name prepared result =
    Certifies (shelf_facts files counts asked since_fault old) (shelf_facts files counts asked since_fault new) name prepared result
