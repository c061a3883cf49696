-- What is reported of a program that is probed.
use Rattle.std.specs.Prelude.{length, map}
use Rattle.job_report.specs.declared.report.Report.{Report}
use Rattle.job_report.specs.declared.report.Report.TheVariants as reports
use Rattle.program_reader.specs.declared.program.Program.{Program}

-- a program that is probed: the packets of each audio stream, and the units
abbrev pub probe_report : Program → Report
probe_report program = reports.Probe (map (λ audio. length audio.pieces) program.audios) (length program.units)
