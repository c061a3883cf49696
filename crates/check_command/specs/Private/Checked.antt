-- What is known of JOB once its table is made.
use Rattle.std.specs.Prelude.{◌≡◌, Option}
use Rattle.command_words.specs.declared.command.CheckFiles.{CheckFiles}
use Rattle.check_command.specs.CheckCommand.{files_of_check}
use Rattle.job_files.specs.declared.job_table.JobTable.{JobTable}
use Rattle.job_files.specs.JobTable.{IsJobTable}
use Rattle.shelf_io.specs.Files.{Files}
use Rattle.version_table.specs.declared.table.Table.{Table}

-- JOB, which is read with these files named, has this table
abbrev pub HasTable : Option Files → CheckFiles → JobTable → Type 0
HasTable told files made = IsJobTable told files.job.now (files_of_check files.job.now files.certificate.now) made

-- so it has, with its programs
pub record IsTableOn (told : Option Files) (files : CheckFiles) (table : Table) : Type 0 where
  pub made : JobTable
  pub has : HasTable told files made
  pub table_is : made.table ≡ table
