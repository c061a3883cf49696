-- How a table that is judged is reported and ends the command.
use Rattle.std.specs.Prelude.{Option, Some, None}
use Rattle.job_report.specs.declared.report.Report.{Report}
use Rattle.job_report.specs.declared.report.Report.TheVariants.{NoRoomVerdict, OpenVerdict}
use Rattle.version_table.specs.declared.table.Table.{Table}
use Rattle.command_words.specs.declared.ended.Ended.{Ended}
use Rattle.command_words.specs.declared.status.Status.TheVariants.{Ok}
use Rattle.command_words.specs.Ended.{EndsBy}
use Rattle.impossible_proof.specs.declared.window.NoRoom.{NoRoom}
use Rattle.impossible_command.specs.Verdict.{IsVerdict}

-- what is reported of a table whose smallest choice isn't scheduled: its first window without room, or that there is none
abbrev pub report_of : Option NoRoom → Report
report_of (Some found) = NoRoomVerdict found.due found.from found.needed found.room
report_of None = OpenVerdict

-- the command ends with the verdict on a table
abbrev pub EndsByVerdict : Table → Ended → Type 0
EndsByVerdict table ended = (report : Report) × IsVerdict table report × EndsBy Ok report ended
