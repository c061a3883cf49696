-- Which refusal a fault tells.
use Rattle.std.specs.Prelude.{◌≡◌, List, Some}
use Rattle.job_report.specs.declared.fault.JobFault.{JobFault}
use Rattle.job_report.specs.declared.fault.JobFault.TheVariants.{JobSyntax, JobField, JobLimit, OutOfMemory}
use Rattle.job_report.specs.Refusal.{FieldRefusal, OfField, OfLimit, first_refusal}

-- a fault tells the first of refusals, unless memory was wanted
abbrev pub TellsFirst : List FieldRefusal → JobFault → Type 0
TellsFirst refusals JobSyntax = ⊥
TellsFirst refusals (JobField name) = first_refusal refusals ≡ Some (OfField name.bytes)
TellsFirst refusals (JobLimit name) = first_refusal refusals ≡ Some (OfLimit name.bytes)
TellsFirst refusals OutOfMemory = Unit {0}
