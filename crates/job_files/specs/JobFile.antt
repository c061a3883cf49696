-- The job that a file holds, where a command names some files itself, and how its text is refused.
use Rattle.std.specs.Prelude.{◌≡◌, ◌⊎◌, ℕ, List, Option, Some, None}
use Rattle.shelf_io.specs.Files.{Files}
use Rattle.job_report.specs.declared.job.Job.{Job}
use Rattle.job_report.specs.JobText.{SpellsJob, IsNoDocument, IsRefusedFor}
use Rattle.job_report.specs.Refusal.{OfField, OfLimit, first_refusal}
use Rattle.job_report.specs.SharedFile.{refusals_of_files}
use Rattle.command_words.specs.Held.{HoldsText}
use Rattle.job_files.specs.declared.job_stop.TextRefusal.{TextRefusal}
use Rattle.job_files.specs.declared.job_stop.TextRefusal.TheVariants.{NoDocument, Field, Limit}

-- no program of a job stands in one of the files that a command names itself
abbrev pub StandsApart : (named : List (List ℕ)) → Job → Type 0
StandsApart named job = first_refusal (refusals_of_files named 0 job.programs) ≡ None

-- a text spells this job, whose programs stand in none of the files that a command names itself
pub record IsJobOfText (text : List ℕ) (named : List (List ℕ)) (job : Job) : Type 0 where
  pub spells : SpellsJob text job
  pub apart : StandsApart named job

-- a text spells a job of which a program stands in a file that a command names itself; the first such program has its file under this field
pub record SharesFile (text : List ℕ) (named : List (List ℕ)) (field : List ℕ) : Type 0 where
  pub job : Job
  pub spells : SpellsJob text job
  pub first : first_refusal (refusals_of_files named 0 job.programs) ≡ Some (OfField field)

-- a text is refused so as a job's; what refuses a text by itself goes before a file that a command names itself
abbrev pub IsTextRefused : (text : List ℕ) → (named : List (List ℕ)) → TextRefusal → Type 0
IsTextRefused text named NoDocument = IsNoDocument text
IsTextRefused text named (Field name) = IsRefusedFor text (OfField name.bytes) ⊎ SharesFile text named name.bytes
IsTextRefused text named (Limit name) = IsRefusedFor text (OfLimit name.bytes)

-- a file holds the text of this job
pub record HoldsJob (told : Option Files) (name : List ℕ) (named : List (List ℕ)) (job : Job) : Type 0 where
  pub text : List ℕ
  pub held : HoldsText told name text
  pub is_job : IsJobOfText text named job

-- a file holds a text that is refused so
pub record HoldsRefused (told : Option Files) (name : List ℕ) (named : List (List ℕ)) (refusal : TextRefusal) : Type 0 where
  pub text : List ℕ
  pub held : HoldsText told name text
  pub refused : IsTextRefused text named refusal
