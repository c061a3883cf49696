-- Worked examples of report lines, computed from the definitions.
use Rattle.std.proofs.Common.{◌≡◌, [], ◌∷◌, true, false, Some, None, codes, refl, pos, negsuc}
use Rattle.std.specs.Fmt.{digits}
use Rattle.serde_json.proofs.OnLiterals.{serde_json_on_literals}
use Rattle.job_report.specs.declared.report.ProgramReport.{ProgramReport}
use Rattle.job_report.specs.declared.report.SlotMiss.{SlotMiss}
use Rattle.job_report.specs.declared.report.SlotVerdict.{SlotVerdict}
use Rattle.job_report.specs.declared.report.Report.TheVariants.{
  Plan,
  Run,
  Probe,
  Check,
  Gen,
  ScheduledVerdict,
  NoRoomVerdict,
  OpenVerdict,
  AuditClean,
  Fit,
  Usage,
  TableSyntax,
  TableLimit,
  JobSyntax,
  JobField,
  JobLimit,
  ListSyntax,
  Source,
  Unschedulable,
  ReadFault,
  WriteFault,
  CertSyntax,
  CertFault,
  Missing,
  AuditFault,
  NoFit,
}
use Rattle.job_report.specs.Report.{report_line}

usage : report_line Usage ≡ codes "{\"reason\":\"usage\",\"status\":2}\n"
unfolding serde_json_on_literals digits
usage = refl

plan : report_line (Plan 0 (0 ∷ []) 0 1 true) ≡ codes "{\"bound\":0,\"choice\":[0],\"distortion\":0,\"nodes\":1,\"search\":\"optimal\"}\n"
unfolding serde_json_on_literals digits
plan = refl

plan_of_a_budget : report_line (Plan 3 (0 ∷ 1 ∷ []) 10 7 false) ≡ codes "{\"bound\":3,\"choice\":[0,1],\"distortion\":10,\"nodes\":7,\"search\":\"budget\"}\n"
unfolding serde_json_on_literals digits
plan_of_a_budget = refl

probe : report_line (Probe (80 ∷ []) 12) ≡ codes "{\"audio_packets\":[80],\"units\":12}\n"
unfolding serde_json_on_literals digits
probe = refl

check : report_line (Check 10) ≡ codes "{\"bound\":10,\"verdict\":\"yes\"}\n"
unfolding serde_json_on_literals digits
check = refl

gen : report_line (Gen 18446744073709551615 12) ≡ codes "{\"bytes\":18446744073709551615,\"pictures\":12}\n"
unfolding serde_json_on_literals digits
gen = refl

scheduled : report_line ScheduledVerdict ≡ codes "{\"verdict\":\"scheduled\"}\n"
unfolding serde_json_on_literals digits
scheduled = refl

undecided : report_line OpenVerdict ≡ codes "{\"verdict\":\"open\"}\n"
unfolding serde_json_on_literals digits
undecided = refl

no_room : report_line (NoRoomVerdict 27200 27200 3 (pos 2)) ≡ codes "{\"due\":27200,\"from\":27200,\"needed\":3,\"room\":2,\"verdict\":\"none\"}\n"
unfolding serde_json_on_literals digits
no_room = refl

-- audio alone is one packet more than fits
no_room_for_audio : report_line (NoRoomVerdict 20000 20000 1 (negsuc 0)) ≡ codes "{\"due\":20000,\"from\":20000,\"needed\":1,\"room\":-1,\"verdict\":\"none\"}\n"
unfolding serde_json_on_literals digits
no_room_for_audio = refl

table_syntax : report_line (TableSyntax 2) ≡ codes "{\"line\":2,\"reason\":\"table syntax\",\"status\":3}\n"
unfolding serde_json_on_literals digits
table_syntax = refl

table_limit : report_line (TableLimit (record { bytes = codes "vbv"; spare = [] })) ≡ codes "{\"name\":\"vbv\",\"reason\":\"table limit\",\"status\":3}\n"
unfolding serde_json_on_literals digits
table_limit = refl

job_syntax : report_line JobSyntax ≡ codes "{\"reason\":\"job syntax\",\"status\":3}\n"
unfolding serde_json_on_literals digits
job_syntax = refl

job_field : report_line (JobField (record { bytes = codes "program[0].file"; spare = [] })) ≡ codes "{\"name\":\"program[0].file\",\"reason\":\"job field\",\"status\":3}\n"
unfolding serde_json_on_literals digits
job_field = refl

job_limit : report_line (JobLimit (record { bytes = codes "slot"; spare = [] })) ≡ codes "{\"name\":\"slot\",\"reason\":\"job limit\",\"status\":3}\n"
unfolding serde_json_on_literals digits
job_limit = refl

source : report_line (Source 188 (record { bytes = codes "Sync"; spare = [] }) 0) ≡ codes "{\"at\":188,\"kind\":\"Sync\",\"program\":0,\"reason\":\"source\",\"status\":4}\n"
unfolding serde_json_on_literals digits
source = refl

unschedulable : report_line (Unschedulable 36935 22 0 0) ≡ codes "{\"due\":36935,\"reason\":\"unschedulable\",\"slot\":22,\"status\":5,\"stream\":0,\"unit\":0}\n"
unfolding serde_json_on_literals digits
unschedulable = refl

read_fault : report_line (ReadFault (codes "a \"b\"")) ≡ codes "{\"name\":\"a \\\"b\\\"\",\"reason\":\"read\",\"status\":6}\n"
unfolding serde_json_on_literals digits
read_fault = refl

write_fault : report_line (WriteFault (codes "x")) ≡ codes "{\"name\":\"x\",\"reason\":\"write\",\"status\":7}\n"
unfolding serde_json_on_literals digits
write_fault = refl

cert_syntax : report_line (CertSyntax 49) ≡ codes "{\"byte\":49,\"reason\":\"certificate\",\"status\":8}\n"
unfolding serde_json_on_literals digits
cert_syntax = refl

cert_fault : report_line (CertFault 0 (record { bytes = codes "BoundHigh"; spare = [] })) ≡ codes "{\"node\":0,\"reason\":\"certificate\",\"status\":8,\"why\":\"BoundHigh\"}\n"
unfolding serde_json_on_literals digits
cert_fault = refl

missing : report_line (Missing (codes "t")) ≡ codes "{\"name\":\"t\",\"reason\":\"missing\",\"status\":9}\n"
unfolding serde_json_on_literals digits
missing = refl

abbrev program : ProgramReport
program = record { audio_bytes = 11800 ∷ []; choice = 0 ∷ 0 ∷ []; descriptors_dropped = 0; not_carried = 260 ∷ []; number = 1; pes_dropped = 0; rest = 0; units_dropped = 0 }

run : report_line (Run 0 0 1 (program ∷ []) true 270) ≡ codes
    "{\"bound\":0,\"distortion\":0,\"nodes\":1,\"programs\":[{\"audio_bytes\":[11800],\"choice\":[0,0],\"descriptors_dropped\":0,\"not_carried\":[260],\"number\":1,\"pes_dropped\":0,\"rest\":0,\"units_dropped\":0}],\"search\":\"optimal\",\"slots\":270}\n"
unfolding serde_json_on_literals digits
run = refl

audit_clean : report_line AuditClean ≡ codes "{\"audit\":\"clean\"}\n"
unfolding serde_json_on_literals digits
audit_clean = refl

audit_fault : report_line (AuditFault 51136 (record { bytes = codes "pcr"; spare = [] }) 257) ≡ codes "{\"at\":51136,\"fault\":\"pcr\",\"pid\":257,\"reason\":\"audit\",\"status\":11}\n"
unfolding serde_json_on_literals digits
audit_fault = refl

list_syntax : report_line (ListSyntax 2) ≡ codes "{\"line\":2,\"reason\":\"list\",\"status\":3}\n"
unfolding serde_json_on_literals digits
list_syntax = refl

abbrev scheduled_in : SlotVerdict
scheduled_in = record { slot = 4000; limit = false; miss = None }

abbrev missed_in : SlotVerdict
missed_in = record { slot = 4000; limit = false; miss = Some (record { due = 36936; packet_slot = 7; stream = 0; unit = 0 }) }

-- a miss isn't told where the limit is passed
abbrev limit_in : SlotVerdict
limit_in = record { slot = 1016; limit = true; miss = Some (record { due = 36936; packet_slot = 7; stream = 0; unit = 0 }) }

fit : report_line (Fit 4000 (scheduled_in ∷ [])) ≡ codes "{\"fit\":4000,\"slots\":[{\"slot\":4000,\"verdict\":\"scheduled\"}]}\n"
unfolding serde_json_on_literals digits
fit = refl

no_fit : report_line (NoFit (limit_in ∷ missed_in ∷ [])) ≡ codes
    "{\"reason\":\"no fit\",\"slots\":[{\"slot\":1016,\"verdict\":\"limit\"},{\"due\":36936,\"packet_slot\":7,\"slot\":4000,\"stream\":0,\"unit\":0,\"verdict\":\"missed\"}],\"status\":12}\n"
unfolding serde_json_on_literals digits
no_fit = refl
