-- The job text: which job a text spells, or what refuses it first.
use Rattle.std.specs.Prelude.{◌≡◌, ℕ, ◌<◌, ◌≤◌, ◌⊎◌, List, [], length, codes, Some, Result, Ok, Err, IsUtf8}
use Rattle.toml.specs.Data.{Members}
use Rattle.toml.specs.Parse.{parse_document}
use Rattle.job_report.specs.declared.limits.TheConstants.{JOB_TEXT_MOST}
use Rattle.job_report.specs.declared.fault.JobFault.{JobFault}
use Rattle.job_report.specs.declared.fault.JobFault.TheVariants.{JobSyntax, JobField, JobLimit, OutOfMemory}
use Rattle.job_report.specs.declared.job.Job.{Job}
use Rattle.job_report.specs.Job.{IsJobOf}
use Rattle.job_report.specs.Refusal.{FieldRefusal, OfField, OfLimit, refusals_of, first_refusal}

-- the document that a text is, as `toml` defines it: UTF-8, by the grammar of TOML 1.1
pub record IsDocument (text : List ℕ) (document : Members) : Type 0 where
  pub utf8 : IsUtf8 text
  pub parsed : parse_document text ≡ Some document

-- a text that isn't too long spells this job: its document has nothing wrong and states it
pub record SpellsJob (text : List ℕ) (job : Job) : Type 0 where
  pub short : length text ≤ JOB_TEXT_MOST
  pub document : Members
  pub is_document : IsDocument text document
  pub right : refusals_of document ≡ []
  pub states : IsJobOf document job

-- a text that isn't too long is no document
pub record IsNoDocument (text : List ℕ) : Type 0 where
  pub short : length text ≤ JOB_TEXT_MOST
  pub none : (document : Members) → ¬ IsDocument text document

-- a text that isn't too long is a document, and this is the first that is wrong with it
pub record IsRefusedDocument (text : List ℕ) (refusal : FieldRefusal) : Type 0 where
  pub short : length text ≤ JOB_TEXT_MOST
  pub document : Members
  pub is_document : IsDocument text document
  pub first : first_refusal (refusals_of document) ≡ Some refusal

-- a text is refused so; one that is too long is refused for its bytes before all else
abbrev pub IsRefusedFor : List ℕ → FieldRefusal → Type 0
IsRefusedFor text refusal = ((JOB_TEXT_MOST < length text) × (refusal ≡ OfLimit (codes "bytes"))) ⊎ IsRefusedDocument text refusal

-- a fault is what refuses the text, or want of memory
abbrev pub IsJobFaultOf : List ℕ → JobFault → Type 0
IsJobFaultOf text JobSyntax = IsNoDocument text
IsJobFaultOf text (JobField name) = IsRefusedFor text (OfField name.bytes)
IsJobFaultOf text (JobLimit name) = IsRefusedFor text (OfLimit name.bytes)
IsJobFaultOf text OutOfMemory = Unit {0}

-- what a text can be: that of a job, no document, or refused
pub data JobAnswer : Type 0 where
  Spelled : Job → JobAnswer
  NoDocument : JobAnswer
  Refused : FieldRefusal → JobAnswer

-- a text has this answer
abbrev pub HasAnswer : List ℕ → JobAnswer → Type 0
HasAnswer text (Spelled job) = SpellsJob text job
HasAnswer text NoDocument = IsNoDocument text
HasAnswer text (Refused refusal) = IsRefusedFor text refusal

-- a result gives this answer, unless memory was wanted
abbrev pub Gives : Result Job JobFault → JobAnswer → Type 0
Gives (Ok job) (Spelled other) = job ≡ other
Gives (Err JobSyntax) NoDocument = Unit {0}
Gives (Err (JobField name)) (Refused refusal) = refusal ≡ OfField name.bytes
Gives (Err (JobLimit name)) (Refused refusal) = refusal ≡ OfLimit name.bytes
Gives (Err OutOfMemory) answer = Unit {0}
Gives result answer = ⊥
