-- How a refused text ends a command.
use Rattle.std.specs.Prelude.{Option, Some, None}
use Rattle.version_table.specs.declared.fault.TableFault.{TableFault}
use Rattle.version_table.specs.declared.fault.TableFault.TheVariants as faults
use Rattle.command_words.specs.declared.ended.Ended.{Ended}
use Rattle.command_words.specs.declared.status.Status.TheVariants.{JobRefused}
use Rattle.command_words.specs.declared.status.JobRefusal.{JobRefusal}
use Rattle.command_words.specs.declared.status.JobRefusal.TheVariants.{TableSyntax, TableLimit}
use Rattle.command_words.specs.Ended.{EndsBy}
use Rattle.command_words.specs.Report.{refusal_report}

-- the refusal of a table fault
abbrev pub refusal_by : TableFault → Option JobRefusal
refusal_by (faults.TableSyntax n) = Some (TableSyntax n)
refusal_by (faults.TableLimit name) = Some (TableLimit name)
refusal_by faults.OutOfMemory = None

-- a command ends with a refusal
abbrev pub IsRefusedFor : Option JobRefusal → Ended → Type 0
IsRefusedFor (Some refusal) ended = EndsBy (JobRefused refusal) (refusal_report refusal) ended
IsRefusedFor None ended = ⊥
