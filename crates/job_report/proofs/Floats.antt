-- Reports have no floats.
use Rattle.std.proofs.Common.{◌≡◌, ℕ, List, [], ◌∷◌, map, Bool, true, false, Option, Some, None, refl, pos, negsuc}
use Rattle.serde_json.specs.View.{items_of}
use Rattle.serde_json.specs.Written.{has_float, items_have_float}
use Rattle.job_report.specs.declared.report.ProgramReport.{ProgramReport}
use Rattle.job_report.specs.declared.report.Report.{Report}
use Rattle.job_report.specs.declared.report.SlotMiss.{SlotMiss}
use Rattle.job_report.specs.declared.report.SlotVerdict.{SlotVerdict}
use Rattle.job_report.specs.declared.report.Report.TheVariants.{
  Plan,
  Run,
  Probe,
  Check,
  Gen,
  ScheduledVerdict,
  NoRoomVerdict,
  OpenVerdict,
  AuditClean,
  Fit,
  Usage,
  TableSyntax,
  TableLimit,
  JobSyntax,
  JobField,
  JobLimit,
  ListSyntax,
  Source,
  Unschedulable,
  ReadFault,
  WriteFault,
  CertSyntax,
  CertFault,
  Missing,
  AuditFault,
  NoFit,
}
use Rattle.job_report.specs.Report.{json_number, program_object, report_object, slot_object, verdict_object}

numbers_without_float : (numbers : List ℕ) → items_have_float (items_of (map json_number numbers)) ≡ false
numbers_without_float [] = refl
numbers_without_float (n ∷ numbers) = numbers_without_float numbers

program_without_float : (program : ProgramReport) → has_float (program_object program) ≡ false
program_without_float program =
    rw (numbers_without_float program.audio_bytes, numbers_without_float program.choice, numbers_without_float program.not_carried) refl

programs_without_float : (programs : List ProgramReport) → items_have_float (items_of (map program_object programs)) ≡ false
programs_without_float [] = refl
programs_without_float (program ∷ programs) = rw (program_without_float program) (programs_without_float programs)

verdict_without_float : (slot : ℕ) (limit : Bool) (miss : Option SlotMiss) → has_float (verdict_object slot limit miss) ≡ false
verdict_without_float slot true miss = refl
verdict_without_float slot false (Some miss) = refl
verdict_without_float slot false None = refl

slots_without_float : (slots : List SlotVerdict) → items_have_float (items_of (map slot_object slots)) ≡ false
slots_without_float [] = refl
slots_without_float (said ∷ slots) = rw (verdict_without_float said.slot said.limit said.miss) (slots_without_float slots)

pub report_without_float : (report : Report) → has_float (report_object report) ≡ false
report_without_float (Plan bound choice distortion nodes optimal) = rw (numbers_without_float choice) refl
report_without_float (Run bound distortion nodes programs optimal slots) = rw (programs_without_float programs) refl
report_without_float (Probe audio_packets units) = rw (numbers_without_float audio_packets) refl
report_without_float (Check bound) = refl
report_without_float (Gen bytes pictures) = refl
report_without_float ScheduledVerdict = refl
report_without_float (NoRoomVerdict due from needed (pos room)) = refl
report_without_float (NoRoomVerdict due from needed (negsuc room)) = refl
report_without_float OpenVerdict = refl
report_without_float AuditClean = refl
report_without_float (Fit fit slots) = rw (slots_without_float slots) refl
report_without_float Usage = refl
report_without_float (TableSyntax line) = refl
report_without_float (TableLimit name) = refl
report_without_float JobSyntax = refl
report_without_float (JobField name) = refl
report_without_float (JobLimit name) = refl
report_without_float (ListSyntax line) = refl
report_without_float (Source at kind program) = refl
report_without_float (Unschedulable due slot stream unit) = refl
report_without_float (ReadFault name) = refl
report_without_float (WriteFault name) = refl
report_without_float (CertSyntax byte) = refl
report_without_float (CertFault node why) = refl
report_without_float (Missing name) = refl
report_without_float (AuditFault at fault pid) = refl
report_without_float (NoFit slots) = rw (slots_without_float slots) refl
