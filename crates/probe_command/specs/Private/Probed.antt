-- What `probe` writes and reports, made before its file is started.
use Rattle.std.specs.Prelude.{◌≡◌}
use Rattle.program_reader.specs.declared.program.Program.{Program}
use Rattle.version_table.specs.declared.table.Table.{Table}
use Rattle.version_table.specs.Text.{IsTextTable, table_spelling}
use Rattle.command_words.specs.declared.status.Status.TheVariants.{Ok}
use Rattle.command_words.specs.Ended.{EndsBy}
use Rattle.probe_command.specs.declared.steps.Probed.{Probed}
use Rattle.probe_command.specs.ProbeCommand.{IsProbedTable}
use Rattle.probe_command.specs.Report.{probe_report}

-- the text of the program's table, and the end that reports the program
pub record IsProbedText (program : Program) (probed : Probed) : Type 0 where
  pub made : Table
  pub is_table : IsProbedTable program made
  pub is_text : IsTextTable made
  pub spelled : probed.text ≡ table_spelling made
  pub ends : EndsBy Ok (probe_report program) probed.done
