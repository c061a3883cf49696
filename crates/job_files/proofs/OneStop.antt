-- Before there is a table, a job calls for one status.
use Rattle.std.proofs.Common.{◌≡◌, ℕ, List, Some, None, refl, ap}
use Rattle.std.specs.FinMap.{get}
use Rattle.job_programs.specs.declared.source_fault.SourceFault.{SourceFault}
use Rattle.shelf_io.specs.Files.{Files}
use Rattle.command_words.specs.declared.status.Status.{Status}
use Rattle.command_words.specs.declared.status.Status.TheVariants.{Ok, Usage, JobRefused, SourceRefused, Unschedulable, ReadFault, WriteFault, CertRefused, Missing, OutOfMemory, AuditFault, NoFit}
use Rattle.command_words.specs.declared.status.JobRefusal.{JobRefusal}
use Rattle.command_words.specs.declared.status.JobRefusal.TheVariants.{TableSyntax, TableLimit, JobSyntax, JobField, JobLimit, ListSyntax}
use Rattle.command_words.specs.Status.{IsSameStatus}
use Rattle.job_files.specs.declared.job_stop.TextRefusal.{TextRefusal}
use Rattle.job_files.specs.declared.job_stop.TextRefusal.TheVariants.{NoDocument, Field, Limit}
use Rattle.job_files.specs.declared.job_table.JobTable.{JobTable}
use Rattle.job_files.specs.JobCalls.{JobCallsFor}
use Rattle.job_files.specs.JobFile.{HoldsRefused}
use Rattle.job_files.specs.JobTable.{IsJobTable}
use Rattle.job_files.specs.Same.{IsSameText}
use Rattle.job_files.specs.Stops.{HoldsRefusedProgram, IsNextFile}

-- the laws of jobs: a job's file has one table, or one refusal of its text, or one refused program, or one next file that isn't there
pub record JobLaws : Type 0 where
  pub table : (files : Files) (name : List ℕ) (named : List (List ℕ)) (one other : JobTable) → IsJobTable (Some files) name named one
      → IsJobTable (Some files) name named other → one ≡ other
  pub text : (files : Files) (name : List ℕ) (named : List (List ℕ)) (one other : TextRefusal) → HoldsRefused (Some files) name named one
      → HoldsRefused (Some files) name named other → IsSameText one other
  pub program : (files : Files) (name : List ℕ) (named : List (List ℕ)) (one other : SourceFault) → HoldsRefusedProgram (Some files) name named one
      → HoldsRefusedProgram (Some files) name named other → one ≡ other
  pub table_without_text : (files : Files) (name : List ℕ) (named : List (List ℕ)) (made : JobTable) (refusal : TextRefusal) → IsJobTable (Some files) name named made
      → HoldsRefused (Some files) name named refusal → ⊥
  pub table_without_program : (files : Files) (name : List ℕ) (named : List (List ℕ)) (made : JobTable) (fault : SourceFault) → IsJobTable (Some files) name named made
      → HoldsRefusedProgram (Some files) name named fault → ⊥
  pub table_without_missing : (files : Files) (name : List ℕ) (named : List (List ℕ)) (made : JobTable) (file : List ℕ) → IsJobTable (Some files) name named made
      → IsNextFile (Some files) name named file → get files file ≡ None → ⊥
  pub text_without_program : (files : Files) (name : List ℕ) (named : List (List ℕ)) (refusal : TextRefusal) (fault : SourceFault) → HoldsRefused (Some files) name named refusal
      → HoldsRefusedProgram (Some files) name named fault → ⊥
  pub text_without_missing : (files : Files) (name : List ℕ) (named : List (List ℕ)) (refusal : TextRefusal) (file : List ℕ) → HoldsRefused (Some files) name named refusal
      → IsNextFile (Some files) name named file → get files file ≡ None → ⊥
  pub program_without_missing : (files : Files) (name : List ℕ) (named : List (List ℕ)) (fault : SourceFault) (file : List ℕ) → HoldsRefusedProgram (Some files) name named fault
      → IsNextFile (Some files) name named file → get files file ≡ None → ⊥

-- a job that has a table calls for nothing before
pub table_or_stop : JobLaws → (files : Files) (name : List ℕ) (named : List (List ℕ)) (made : JobTable) (s : Status) → IsJobTable (Some files) name named made
    → JobCallsFor (Some files) name named s → ⊥
table_or_stop laws files name named made (JobRefused JobSyntax) a b = laws.table_without_text files name named made NoDocument a b
table_or_stop laws files name named made (JobRefused (JobField field)) a b = laws.table_without_text files name named made (Field field) a b
table_or_stop laws files name named made (JobRefused (JobLimit field)) a b = laws.table_without_text files name named made (Limit field) a b
table_or_stop laws files name named made (JobRefused (TableSyntax n)) a b = b
table_or_stop laws files name named made (JobRefused (TableLimit field)) a b = b
table_or_stop laws files name named made (JobRefused (ListSyntax n)) a b = b
table_or_stop laws files name named made (SourceRefused fault) a b = laws.table_without_program files name named made fault a b
table_or_stop laws files name named made Missing a b = laws.table_without_missing files name named made b.0 a b.1 b.2
table_or_stop laws files name named made Ok a b = b
table_or_stop laws files name named made Usage a b = b
table_or_stop laws files name named made (Unschedulable miss) a b = b
table_or_stop laws files name named made ReadFault a b = b
table_or_stop laws files name named made WriteFault a b = b
table_or_stop laws files name named made (CertRefused refusal) a b = b
table_or_stop laws files name named made OutOfMemory a b = b
table_or_stop laws files name named made (AuditFault finding) a b = b
table_or_stop laws files name named made NoFit a b = b

-- a text that is refused has no refused program
text_or_program : JobLaws → (files : Files) (name : List ℕ) (named : List (List ℕ)) (refusal : JobRefusal) (fault : SourceFault)
    → JobCallsFor (Some files) name named (JobRefused refusal) → HoldsRefusedProgram (Some files) name named fault → ⊥
text_or_program laws files name named JobSyntax fault a b = laws.text_without_program files name named NoDocument fault a b
text_or_program laws files name named (JobField field) fault a b = laws.text_without_program files name named (Field field) fault a b
text_or_program laws files name named (JobLimit field) fault a b = laws.text_without_program files name named (Limit field) fault a b
text_or_program laws files name named (TableSyntax n) fault a b = a
text_or_program laws files name named (TableLimit field) fault a b = a
text_or_program laws files name named (ListSyntax n) fault a b = a

-- a text that is refused has no next file that isn't there
text_or_missing : JobLaws → (files : Files) (name : List ℕ) (named : List (List ℕ)) (refusal : JobRefusal)
    → JobCallsFor (Some files) name named (JobRefused refusal) → JobCallsFor (Some files) name named Missing → ⊥
text_or_missing laws files name named JobSyntax a b = laws.text_without_missing files name named NoDocument b.0 a b.1 b.2
text_or_missing laws files name named (JobField field) a b = laws.text_without_missing files name named (Field field) b.0 a b.1 b.2
text_or_missing laws files name named (JobLimit field) a b = laws.text_without_missing files name named (Limit field) b.0 a b.1 b.2
text_or_missing laws files name named (TableSyntax n) a b = a
text_or_missing laws files name named (TableLimit field) a b = a
text_or_missing laws files name named (ListSyntax n) a b = a

-- a refused program comes after every file that is read
program_or_missing : JobLaws → (files : Files) (name : List ℕ) (named : List (List ℕ)) (fault : SourceFault)
    → HoldsRefusedProgram (Some files) name named fault → JobCallsFor (Some files) name named Missing → ⊥
program_or_missing laws files name named fault a b = laws.program_without_missing files name named fault b.0 a b.1 b.2

-- a text has one refusal
one_refusal : JobLaws → (files : Files) (name : List ℕ) (named : List (List ℕ)) (a b : JobRefusal) → JobCallsFor (Some files) name named (JobRefused a)
    → JobCallsFor (Some files) name named (JobRefused b) → IsSameStatus (JobRefused a) (JobRefused b)
one_refusal laws files name named JobSyntax JobSyntax a b = laws.text files name named NoDocument NoDocument a b
one_refusal laws files name named JobSyntax (JobField other) a b = laws.text files name named NoDocument (Field other) a b
one_refusal laws files name named JobSyntax (JobLimit other) a b = laws.text files name named NoDocument (Limit other) a b
one_refusal laws files name named (JobField field) JobSyntax a b = laws.text files name named (Field field) NoDocument a b
one_refusal laws files name named (JobField field) (JobField other) a b = laws.text files name named (Field field) (Field other) a b
one_refusal laws files name named (JobField field) (JobLimit other) a b = laws.text files name named (Field field) (Limit other) a b
one_refusal laws files name named (JobLimit field) JobSyntax a b = laws.text files name named (Limit field) NoDocument a b
one_refusal laws files name named (JobLimit field) (JobField other) a b = laws.text files name named (Limit field) (Field other) a b
one_refusal laws files name named (JobLimit field) (JobLimit other) a b = laws.text files name named (Limit field) (Limit other) a b
one_refusal laws files name named (TableSyntax n) other a b = absurd a
one_refusal laws files name named (TableLimit field) other a b = absurd a
one_refusal laws files name named (ListSyntax n) other a b = absurd a
one_refusal laws files name named refusal (TableSyntax n) a b = absurd b
one_refusal laws files name named refusal (TableLimit field) a b = absurd b
one_refusal laws files name named refusal (ListSyntax n) a b = absurd b

-- a job calls for one status before there is a table
pub stops_are_one : JobLaws → (files : Files) (name : List ℕ) (named : List (List ℕ)) (s t : Status) → JobCallsFor (Some files) name named s → JobCallsFor (Some files) name named t → IsSameStatus s t
stops_are_one laws files name named (JobRefused refusal) (JobRefused other) a b = one_refusal laws files name named refusal other a b
stops_are_one laws files name named (JobRefused refusal) (SourceRefused fault) a b = absurd (text_or_program laws files name named refusal fault a b)
stops_are_one laws files name named (JobRefused refusal) Missing a b = absurd (text_or_missing laws files name named refusal a b)
stops_are_one laws files name named (SourceRefused fault) (JobRefused other) a b = absurd (text_or_program laws files name named other fault b a)
stops_are_one laws files name named (SourceRefused fault) (SourceRefused other) a b = ap SourceRefused (laws.program files name named fault other a b)
stops_are_one laws files name named (SourceRefused fault) Missing a b = absurd (program_or_missing laws files name named fault a b)
stops_are_one laws files name named Missing (JobRefused other) a b = absurd (text_or_missing laws files name named other b a)
stops_are_one laws files name named Missing (SourceRefused other) a b = absurd (program_or_missing laws files name named other b a)
stops_are_one laws files name named Missing Missing a b = refl
stops_are_one laws files name named Ok t a b = absurd a
stops_are_one laws files name named Usage t a b = absurd a
stops_are_one laws files name named (Unschedulable miss) t a b = absurd a
stops_are_one laws files name named ReadFault t a b = absurd a
stops_are_one laws files name named WriteFault t a b = absurd a
stops_are_one laws files name named (CertRefused refusal) t a b = absurd a
stops_are_one laws files name named OutOfMemory t a b = absurd a
stops_are_one laws files name named (AuditFault finding) t a b = absurd a
stops_are_one laws files name named NoFit t a b = absurd a
stops_are_one laws files name named s Ok a b = absurd b
stops_are_one laws files name named s Usage a b = absurd b
stops_are_one laws files name named s (Unschedulable miss) a b = absurd b
stops_are_one laws files name named s ReadFault a b = absurd b
stops_are_one laws files name named s WriteFault a b = absurd b
stops_are_one laws files name named s (CertRefused refusal) a b = absurd b
stops_are_one laws files name named s OutOfMemory a b = absurd b
stops_are_one laws files name named s (AuditFault finding) a b = absurd b
stops_are_one laws files name named s NoFit a b = absurd b

-- the laws that follow: a job has one table, calls for one status before there is a table, and never for one where there is
pub record StopLaws : Type 0 where
  pub table : (files : Files) (name : List ℕ) (named : List (List ℕ)) (one other : JobTable) → IsJobTable (Some files) name named one
      → IsJobTable (Some files) name named other → one ≡ other
  pub stop : (files : Files) (name : List ℕ) (named : List (List ℕ)) (s t : Status) → JobCallsFor (Some files) name named s → JobCallsFor (Some files) name named t
      → IsSameStatus s t
  pub never_both : (files : Files) (name : List ℕ) (named : List (List ℕ)) (made : JobTable) (s : Status) → IsJobTable (Some files) name named made
      → JobCallsFor (Some files) name named s → ⊥
